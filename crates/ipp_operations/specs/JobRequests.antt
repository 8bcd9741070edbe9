-- The fields of a request about one job (RFC 8011, section 4.3).
use Rattle.std.specs.Prelude.{ℕ, List, Option, Some, None}
use Rattle.std.specs.Option.{option_map_or}
use Rattle.base_types.specs.declared.hold.Hold.{Hold}
use Rattle.base_types.specs.declared.hold.Hold.TheVariants as hold
use Rattle.base_types.specs.Hold.{hold_of_keyword}
use Rattle.ipp_codec.specs.Message.{IppGroup}
use Rattle.events.specs.declared.event.JobRequest.{JobRequest}
use Rattle.events.specs.declared.event.SendDocument.{SendDocument}
use Rattle.events.specs.declared.event.HoldUntil.{HoldUntil}
use Rattle.events.specs.declared.event.HoldUntil.TheVariants.{NoHold, Indefinite, Unsupported}
use Rattle.events.specs.declared.event.HoldJob.{HoldJob}
use Rattle.events.specs.declared.event.GetJobAttributes.{GetJobAttributes}
use Rattle.ipp_operations.specs.declared.operation_attribute.OperationAttribute.TheVariants.{LastDocument, JobHoldUntil}
use Rattle.ipp_operations.specs.Attributes.{as_it_came, bytes_of, truth_of}
use Rattle.ipp_operations.specs.JobCreation.{form_of}
use Rattle.ipp_operations.specs.Request.{user_of}
use Rattle.ipp_operations.specs.Requested.{all_attributes, requested_of}
use Rattle.ipp_operations.specs.Target.{job_target}

-- the job, and the user who sends the request
abbrev pub job_request_of : IppGroup → JobRequest
job_request_of group = record { target = job_target group; user = user_of group }

abbrev pub send_document_of : IppGroup → List ℕ → SendDocument
send_document_of group document = record { job = job_request_of group; form = form_of group; octets = document; last = truth_of LastDocument group }

-- the hold that a keyword asks for; for another word the attribute is returned as unsupported
abbrev pub hold_until_named : IppGroup → Option Hold → HoldUntil
hold_until_named group (Some hold.NoHold) = NoHold
hold_until_named group (Some hold.Indefinite) = Indefinite
hold_until_named group None = Unsupported (as_it_came JobHoldUntil group)

abbrev pub hold_until_in : IppGroup → List ℕ → HoldUntil
hold_until_in group word = hold_until_named group (hold_of_keyword word)

-- the hold that a Hold-Job asks for: `indefinite` without job-hold-until
abbrev pub hold_until_of : IppGroup → HoldUntil
hold_until_of group = option_map_or (hold_until_in group) (bytes_of JobHoldUntil group) Indefinite

abbrev pub hold_job_of : IppGroup → HoldJob
hold_job_of group = record { job = job_request_of group; until = hold_until_of group }

abbrev pub get_job_attributes_of : IppGroup → GetJobAttributes
get_job_attributes_of group = record { target = job_target group; requested = requested_of all_attributes group }
