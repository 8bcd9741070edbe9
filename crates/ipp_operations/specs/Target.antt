-- The printer or the job that a request names (RFC 8011, section 4.1.5; RFC 3986, section 3).
use Rattle.std.specs.Prelude.{ℕ, ◌==◌, ◌&&◌, ◌||◌, nat_le, Bool, if◌then◌else◌, List, [], length, take, drop, position, Option, Some, None, codes}
use Rattle.std.specs.Option.{option_map_or, option_and_then, option_or}
use Rattle.std.specs.Str.{bytes_eq, str_eq_ignore_ascii_case}
use Rattle.base_types.specs.declared.limits.TheConstants.Limits.{LAST_JOB_ID}
use Rattle.text.specs.Digits.{is_number, number_up_to}
use Rattle.ipp_codec.specs.Message.{bytes_in, IppGroup}
use Rattle.events.specs.declared.event.Target.{Target}
use Rattle.events.specs.declared.event.Target.TheVariants.{Named, First, Unknown}
use Rattle.events.specs.declared.event.JobTarget.{JobTarget}
use Rattle.events.specs.declared.event.JobTarget.TheVariants as job
use Rattle.ipp_operations.specs.declared.operation_attribute.OperationAttribute.TheVariants.{PrinterUri, JobUri, JobId}
use Rattle.ipp_operations.specs.Attributes.{has, value_of, number_of}

-- the bytes after a scheme, which is compared without regard to the case of ASCII letters
abbrev pub after_scheme : List ℕ → List ℕ → Option (List ℕ)
after_scheme scheme uri =
    if str_eq_ignore_ascii_case (take (length scheme) uri) scheme then Some (drop (length scheme) uri) else None

-- the bytes after the scheme ipp or http
abbrev pub after_known_scheme : List ℕ → Option (List ℕ)
after_known_scheme uri = option_or (after_scheme (codes "ipp://") uri) (after_scheme (codes "http://") uri)

-- the path after the authority: from the first `/` on, empty if there is none
abbrev pub path_of : List ℕ → List ℕ
path_of rest = option_map_or (λ start. drop start rest) (position (λ byte. byte == 47) rest) []

-- the bytes after a prefix of a path
abbrev pub tail : List ℕ → List ℕ → Option (List ℕ)
tail prefix path = if bytes_eq (take (length prefix) path) prefix then Some (drop (length prefix) path) else None

-- ---- printers

-- the empty path, `/` and `/ipp/print` name the first printer
abbrev pub names_first : List ℕ → Bool
names_first path = bytes_eq path [] || bytes_eq path (codes "/") || bytes_eq path (codes "/ipp/print")

-- the printer of a path; the name is compared byte by byte, and nothing is percent-decoded
abbrev pub printer_at : List ℕ → Target
printer_at path = if names_first path then First else option_map_or Named (tail (codes "/printers/") path) Unknown

-- the printer of a URI; the authority is ignored
abbrev pub printer_of : List ℕ → Target
printer_of uri = option_map_or (λ rest. printer_at (path_of rest)) (after_known_scheme uri) Unknown

-- the printer of a request: that of its printer-uri
abbrev pub printer_target : IppGroup → Target
printer_target group = option_map_or (λ value. printer_of (bytes_in value)) (value_of PrinterUri group) Unknown

-- ---- jobs

-- the job of a number, if the number is that of a job
abbrev pub job_numbered : ℕ → Option ℕ
job_numbered number = if nat_le 1 number && nat_le number LAST_JOB_ID then Some number else None

-- the job of a number in decimal digits, without leading zeros
abbrev pub job_in : List ℕ → Option ℕ
job_in word = if is_number word then option_and_then job_numbered (number_up_to LAST_JOB_ID word) else None

-- the job of a path: `/jobs/` and the job's number
abbrev pub job_at : List ℕ → JobTarget
job_at path = option_map_or job.Numbered (option_and_then job_in (tail (codes "/jobs/") path)) job.Unknown

-- the job of a URI; the authority is ignored
abbrev pub job_of : List ℕ → JobTarget
job_of uri = option_map_or (λ rest. job_at (path_of rest)) (after_known_scheme uri) job.Unknown

-- the job of the number in job-id
abbrev pub job_id : IppGroup → Option ℕ
job_id group = option_and_then job_numbered (number_of JobId group)

-- the job of a printer-uri and a job-id
abbrev pub job_of_printer : IppGroup → JobTarget
job_of_printer group = option_map_or (job.OfPrinter (printer_target group)) (job_id group) job.Unknown

-- the job of a request: that of its job-uri, if it has one, else that of its printer-uri and job-id
abbrev pub job_target : IppGroup → JobTarget
job_target group = option_map_or (λ value. job_of (bytes_in value)) (value_of JobUri group) (job_of_printer group)

-- whether a request names a job: by a job-uri, or by a printer-uri and a job-id
abbrev pub names_job : IppGroup → Bool
names_job group = has JobUri group || (has PrinterUri group && has JobId group)
