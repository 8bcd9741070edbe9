-- The files that an LPD client has sent, and the jobs among them (RFC 1179, sections 6 and 7).
use Rattle.std.specs.Prelude.{ℕ, ◌+◌, ◌||◌, not, nat_lt, nat_le, Bool, if◌then◌else◌, List, [], ◌∷◌, ◌++◌, length, count_by, filter, find, map, remove, codes, Option, slice_get, slice_set}
use Rattle.std.specs.List.{list_any, list_all, position}
use Rattle.std.specs.Option.{option_map_or}
use Rattle.std.specs.Str.{bytes_eq}
use Rattle.base_types.specs.declared.limits.TheConstants.Limits.{JOB_OCTETS, JOB_DOCUMENTS}
use Rattle.lpd.specs.declared.control.Print.{Print}
use Rattle.lpd.specs.declared.control.PrintFormat.{PrintFormat}
use Rattle.lpd.specs.declared.control.PrintFormat.TheVariants.{PlainText, OctetStream, PostScript}
use Rattle.lpd.specs.declared.item.FileKind.{FileKind}
use Rattle.lpd.specs.declared.item.FileKind.TheVariants as Kind
use Rattle.lpd.specs.Control.{ControlRecord}
use Rattle.octets.specs.Document.{DocumentRecord}

-- a data file
pub record DataRecord : Type 0 where
  pub name : List ℕ
  pub contents : List ℕ

-- a control file that describes a job
pub record JobFileRecord : Type 0 where
  pub name : List ℕ
  pub control : ControlRecord

pub record PendingRecord : Type 0 where
  pub controls : List JobFileRecord
  pub files : List DataRecord

abbrev pub no_files : PendingRecord
no_files = record { controls = []; files = [] }

-- ---- keeping a file

abbrev pub place_of_file : List ℕ → List DataRecord → Option ℕ
place_of_file name files = position (λ file. bytes_eq name file.name) files

abbrev pub place_of_control : List ℕ → List JobFileRecord → Option ℕ
place_of_control name controls = position (λ control. bytes_eq name control.name) controls

-- a file replaces the file of its name, at the same place; a file of a new name comes last
abbrev pub with_file : DataRecord → List DataRecord → List DataRecord
with_file file files = option_map_or (λ place. slice_set files place file) (place_of_file file.name files) (files ++ file ∷ [])

abbrev pub with_control : JobFileRecord → List JobFileRecord → List JobFileRecord
with_control control controls = option_map_or (λ place. slice_set controls place control) (place_of_control control.name controls) (controls ++ control ∷ [])

-- ---- which files are admitted

-- the number of files of other names
abbrev pub other_controls : List ℕ → List JobFileRecord → ℕ
other_controls name controls = count_by (λ control. not (bytes_eq name control.name)) controls

abbrev pub other_files : List ℕ → List DataRecord → ℕ
other_files name files = count_by (λ file. not (bytes_eq name file.name)) files

-- the octets of a file, 0 for the file of this name
abbrev pub octets_beside : List ℕ → DataRecord → ℕ
octets_beside name file = if bytes_eq name file.name then 0 else length file.contents

abbrev pub all_beside : List ℕ → List DataRecord → ℕ
all_beside name [] = 0
all_beside name (file ∷ files) = octets_beside name file + all_beside name files

-- whether a file exceeds a limit: at most 100 pending files of a kind, and at most JOB_OCTETS of pending data; a file of the same name, which is replaced, isn't counted
abbrev pub is_too_much : FileKind → List ℕ → ℕ → PendingRecord → Bool
is_too_much Kind.Control name size pending = nat_le JOB_DOCUMENTS (other_controls name pending.controls)
is_too_much Kind.Data name size pending =
    nat_le JOB_DOCUMENTS (other_files name pending.files) || nat_lt JOB_OCTETS (all_beside name pending.files + size)

-- ---- which control file becomes a job

abbrev pub file_of : List ℕ → List DataRecord → Option DataRecord
file_of name files = find (λ file. bytes_eq name file.name) files

abbrev pub has_file : List DataRecord → Print → Bool
has_file files print = list_any (λ file. bytes_eq print.name file.name) files

-- each file that the control file prints is pending
abbrev pub is_complete : List DataRecord → JobFileRecord → Bool
is_complete files control = list_all (has_file files) control.control.prints

-- the place of the first control file that is complete
abbrev pub first_complete : PendingRecord → Option ℕ
first_complete pending = position (is_complete pending.files) pending.controls

-- ---- the job of a control file

abbrev pub format_of : PrintFormat → List ℕ
format_of PlainText = codes "text/plain"
format_of OctetStream = codes "application/octet-stream"
format_of PostScript = codes "application/postscript"

abbrev pub contents_of : List DataRecord → List ℕ → List ℕ
contents_of files name = option_map_or (λ file. file.contents) (file_of name files) []

-- the document of a print line
abbrev pub document_of : List DataRecord → Print → DocumentRecord
document_of files print = record { format = format_of print.format; contents = contents_of files print.name }

-- the documents of a job, one for each print line, in order
abbrev pub documents_of : JobFileRecord → List DataRecord → List DocumentRecord
documents_of control files = map (document_of files) control.control.prints

-- whether a control file prints this file
abbrev pub prints : JobFileRecord → DataRecord → Bool
prints control file = list_any (λ print. bytes_eq print.name file.name) control.control.prints

-- the pending files without those of a job: without the control file at a place and the files that it prints
abbrev pub without : ℕ → PendingRecord → PendingRecord
without place pending =
    option_map_or (λ control. record {
      controls = remove pending.controls place;
      files = filter (λ file. not (prints control file)) pending.files;
    }) (slice_get pending.controls place) pending
