-- The attributes of a job and their values (RFC 8011, sections 5.3 and 5.2).
use Rattle.std.specs.Prelude.{ℕ, ◌+◌, ◌-◌, ◌/◌, Bool, List, ◌++◌, map, Option, Some, None, codes}
use Rattle.std.specs.Fmt.{decimal}
use Rattle.base_types.specs.Hold.{hold_keyword, hold_where}
use Rattle.base_types.specs.Sides.{sides_keyword}
use Rattle.ipp_codec.specs.Message.{IppAttribute, IppGroup}
use Rattle.ipp_codec.specs.Tag as tags
use Rattle.job_objects.specs.Job.{JobRecord}
use Rattle.job_objects.specs.JobState.{state_code}
use Rattle.job_objects.specs.Reasons.{reasons_of}
use Rattle.printer_objects.specs.declared.job_shown.TheConstants.{OCTETS_PER_K}
use Rattle.printer_objects.specs.declared.job_attribute.JobAttribute.{JobAttribute}
use Rattle.printer_objects.specs.declared.job_attribute.JobAttribute.TheVariants.{Uri, Id, PrinterUri, Name, OriginatingUserName, State, StateReasons, NumberOfDocuments, KOctets, Impressions, TimeAtCreation, TimeAtProcessing, TimeAtCompleted, PrinterUpTime, Copies, HoldUntil, Priority, Media, Sides, Finishings}
use Rattle.printer_objects.specs.Attribute.{alone, text, number, enumerated, keyword, time, reasons_attribute}
use Rattle.printer_objects.specs.Finishing.{each_finishing, finishings_attribute}
use Rattle.printer_objects.specs.JobAttribute.{job_attribute_name}

-- the data of a job's attributes
pub record ShownJob : Type 0 where
  pub job : JobRecord
  -- the beginning of the URIs of printers and jobs
  pub uri_base : List ℕ
  -- the name of the job's printer, and whether that is paused
  pub printer_name : List ℕ
  pub printer_paused : Bool
  -- the moment of the request
  pub moment : ℕ

-- the base of URIs, `/jobs/` and the id
abbrev pub job_uri : List ℕ → ℕ → List ℕ
job_uri base id = base ++ (codes "/jobs/" ++ decimal id)

-- the base of URIs, `/printers/` and the name
abbrev pub printer_uri : List ℕ → List ℕ → List ℕ
printer_uri base name = base ++ (codes "/printers/" ++ name)

-- octets in units of 1,024, rounded up
abbrev pub k_octets : ℕ → ℕ
k_octets octets = (octets + (OCTETS_PER_K - 1)) / OCTETS_PER_K

-- the number as given, else as estimated
abbrev pub given_or : Option ℕ → ℕ → ℕ
given_or (Some given) estimated = given
given_or None estimated = estimated

abbrev pub impressions_shown : JobRecord → ℕ
impressions_shown job = given_or job.impressions job.needs.impressions

-- the attribute of a name, with its values
abbrev pub valued : List ℕ → ShownJob → JobAttribute → IppAttribute
valued name shown Uri = alone name (text tags.uri (job_uri shown.uri_base shown.job.id))
valued name shown Id = alone name (number shown.job.id)
valued name shown PrinterUri = alone name (text tags.uri (printer_uri shown.uri_base shown.printer_name))
valued name shown Name = alone name (text tags.name shown.job.name)
valued name shown OriginatingUserName = alone name (text tags.name shown.job.owner)
valued name shown State = alone name (enumerated (state_code shown.job.state))
valued name shown StateReasons = reasons_attribute name (reasons_of shown.job shown.printer_paused)
valued name shown NumberOfDocuments = alone name (number shown.job.documents)
valued name shown KOctets = alone name (number (k_octets shown.job.octets))
valued name shown Impressions = alone name (number (impressions_shown shown.job))
valued name shown TimeAtCreation = alone name (time (Some shown.job.created))
valued name shown TimeAtProcessing = alone name (time shown.job.started)
valued name shown TimeAtCompleted = alone name (time shown.job.finished)
valued name shown PrinterUpTime = alone name (time (Some shown.moment))
valued name shown Copies = alone name (number shown.job.needs.copies)
valued name shown HoldUntil = alone name (keyword (hold_keyword (hold_where shown.job.held)))
valued name shown Priority = alone name (number shown.job.priority)
valued name shown Media = alone name (keyword shown.job.needs.media)
valued name shown Sides = alone name (keyword (sides_keyword shown.job.needs.sides))
valued name shown Finishings = finishings_attribute name (each_finishing shown.job.needs.finishings)

-- an attribute of a job
abbrev pub job_shown : ShownJob → JobAttribute → IppAttribute
job_shown shown which = valued (job_attribute_name which) shown which

-- the job group of a response with these attributes
abbrev pub job_attributes : ShownJob → List JobAttribute → IppGroup
job_attributes shown attributes = record { tag = tags.job_attributes; attributes = map (job_shown shown) attributes }
