-- The fields of a request about a printer and its jobs (RFC 8011, sections 4.2.5 to 4.2.8).
use Rattle.std.specs.Prelude.{ℕ, nat_le, if◌then◌else◌, List, Option, Some, None, codes}
use Rattle.std.specs.Option.{option_map_or, option_and_then}
use Rattle.std.specs.Str.{bytes_eq}
use Rattle.ipp_codec.specs.Message.{IppGroup}
use Rattle.events.specs.declared.event.PrinterRequest.{PrinterRequest}
use Rattle.events.specs.declared.event.WhichJobs.{WhichJobs}
use Rattle.events.specs.declared.event.WhichJobs.TheVariants.{Completed, NotCompleted, Unsupported}
use Rattle.events.specs.declared.event.GetJobs.{GetJobs}
use Rattle.events.specs.declared.event.GetPrinterAttributes.{GetPrinterAttributes}
use Rattle.ipp_operations.specs.declared.operation_attribute.OperationAttribute.TheVariants as attribute
use Rattle.ipp_operations.specs.Attributes.{as_it_came, bytes_of, number_of, truth_of}
use Rattle.ipp_operations.specs.Request.{user_of}
use Rattle.ipp_operations.specs.Requested.{all_attributes, uri_and_id, requested_of}
use Rattle.ipp_operations.specs.Target.{printer_target}

-- the printer, and the user who sends the request
abbrev pub printer_request_of : IppGroup → PrinterRequest
printer_request_of group = record { target = printer_target group; user = user_of group }

abbrev pub get_printer_attributes_of : IppGroup → GetPrinterAttributes
get_printer_attributes_of group = record { target = printer_target group; requested = requested_of all_attributes group }

-- the jobs that a keyword asks for; for another word the attribute is returned as unsupported
abbrev pub which_in : IppGroup → List ℕ → WhichJobs
which_in group word =
    if bytes_eq word (codes "completed") then Completed
    else if bytes_eq word (codes "not-completed") then NotCompleted
    else Unsupported (as_it_came attribute.WhichJobs group)

-- the jobs that a Get-Jobs asks for: those that aren't completed, without which-jobs
abbrev pub which_of : IppGroup → WhichJobs
which_of group = option_map_or (which_in group) (bytes_of attribute.WhichJobs group) NotCompleted

-- a limit has to be at least 1
abbrev pub limit_in : ℕ → Option ℕ
limit_in number = if nat_le 1 number then Some number else None

-- the most jobs that the reply may have, if the request limits them
abbrev pub limit_of : IppGroup → Option ℕ
limit_of group = option_and_then limit_in (number_of attribute.Limit group)

abbrev pub get_jobs_of : IppGroup → GetJobs
get_jobs_of group = record {
  printer = printer_request_of group;
  which = which_of group;
  mine = truth_of attribute.MyJobs group;
  limit = limit_of group;
  requested = requested_of uri_and_id group;
}
