-- The job that a control file describes (RFC 1179, section 7): lines, each a letter and its operand.
use Rattle.std.specs.Prelude.{ℕ, ◌==◌, ◌-◌, ◌||◌, nat_lt, Bool, if◌then◌else◌, List, [], ◌∷◌, ◌++◌, length, take, slice_index_or, codes, Option, Some, None, unwrap_or, Result, Ok, Err}
use Rattle.std.specs.Option.{option_or}
use Rattle.std.specs.Char.{is_ascii_uppercase, is_ascii_digit}
use Rattle.text.specs.Parts.{texts_of}
use Rattle.text.specs.Steps.{◌>>=◌}
use Rattle.base_types.specs.declared.limits.TheConstants.Limits.{LPD_LINE_BYTES}
use Rattle.lpd.specs.declared.control.ControlFault.{ControlFault}
use Rattle.lpd.specs.declared.control.ControlFault.TheVariants.{NoHost, NoUser, NoPrintLine, BadLine, FormatLeftOut}
use Rattle.lpd.specs.declared.control.Print.{Print}
use Rattle.lpd.specs.declared.control.PrintFormat.{PrintFormat}
use Rattle.lpd.specs.declared.control.PrintFormat.TheVariants.{PlainText, OctetStream, PostScript}
use Rattle.lpd.specs.declared.item.FileKind.TheVariants.{Data}
use Rattle.lpd.specs.FileName.{is_file_name}

pub data LineRecord : Type 0 where
  Host : (name : List ℕ) → LineRecord
  User : (name : List ℕ) → LineRecord
  JobName : (name : List ℕ) → LineRecord
  SourceName : (name : List ℕ) → LineRecord
  Prints : Print → LineRecord
  Ignored : LineRecord

-- a print line: a data file and its format
abbrev pub print_of : PrintFormat → List ℕ → Result LineRecord ControlFault
print_of format name = if is_file_name Data name then Ok (Prints (record { format = format; name = name })) else Err BadLine

-- letters of formats that aren't printed: CIF, DVI, plot, ditroff, FORTRAN, troff, raster
abbrev pub is_left_out : ℕ → Bool
is_left_out letter = (((((letter == 99 || letter == 100) || letter == 103) || letter == 110) || letter == 114) || letter == 116) || letter == 118

-- all other capital letters and digits are ignored
abbrev pub other_line : ℕ → Result LineRecord ControlFault
other_line letter =
    if is_left_out letter then Err FormatLeftOut
    else if is_ascii_uppercase letter || is_ascii_digit letter then Ok Ignored
    else Err BadLine

-- the letters whose operands are used
abbrev pub lettered : ℕ → List ℕ → Result LineRecord ControlFault
lettered letter operand =
    if letter == 72 then Ok (Host operand)
    else if letter == 80 then Ok (User operand)
    else if letter == 74 then Ok (JobName operand)
    else if letter == 78 then Ok (SourceName operand)
    else if letter == 102 || letter == 112 then print_of PlainText operand
    else if letter == 108 then print_of OctetStream operand
    else if letter == 111 then print_of PostScript operand
    else other_line letter

-- a line without its line feed
abbrev pub line_in : List ℕ → Result LineRecord ControlFault
line_in [] = Err BadLine
line_in (letter ∷ operand) = if nat_lt (length (letter ∷ operand)) LPD_LINE_BYTES then lettered letter operand else Err BadLine

-- the first faulty line decides
abbrev pub lines_in : List (List ℕ) → Result (List LineRecord) ControlFault
lines_in [] = Ok []
lines_in (text ∷ texts) = line_in text >>= λ line. (lines_in texts >>= λ lines. Ok (line ∷ lines))

-- the content of lines together: of each kind the first line counts, and each print line is a document
pub record Draft : Type 0 where
  pub host : Option (List ℕ)
  pub owner : Option (List ℕ)
  pub job_name : Option (List ℕ)
  pub source_name : Option (List ℕ)
  pub prints : List Print

abbrev pub nothing : Draft
nothing = record { host = None; owner = None; job_name = None; source_name = None; prints = [] }

-- two drafts joined, the earlier one first: of each kind the earlier value counts
abbrev pub before : Draft → Draft → Draft
before early late = record {
  host = option_or early.host late.host;
  owner = option_or early.owner late.owner;
  job_name = option_or early.job_name late.job_name;
  source_name = option_or early.source_name late.source_name;
  prints = early.prints ++ late.prints;
}

abbrev pub alone : LineRecord → Draft
alone (Host name) = record nothing { host = Some name }
alone (User name) = record nothing { owner = Some name }
alone (JobName name) = record nothing { job_name = Some name }
alone (SourceName name) = record nothing { source_name = Some name }
alone (Prints print) = record nothing { prints = print ∷ [] }
alone Ignored = nothing

abbrev pub together : List LineRecord → Draft
together [] = nothing
together (line ∷ lines) = before (alone line) (together lines)

pub record ControlRecord : Type 0 where
  pub host : List ℕ
  pub owner : List ℕ
  pub name : List ℕ
  pub prints : List Print

-- a job needs a host, a user and a document
abbrev pub owned : Option (List ℕ) → Option (List ℕ) → List ℕ → List Print → Result ControlRecord ControlFault
owned None owner name prints = Err NoHost
owned (Some host) None name prints = Err NoUser
owned (Some host) (Some owner) name [] = Err NoPrintLine
owned (Some host) (Some owner) name (print ∷ prints) = Ok (record { host = host; owner = owner; name = name; prints = print ∷ prints })

-- the name is that of the job, else that of the source file, else `untitled`
abbrev pub whole : Draft → Result ControlRecord ControlFault
whole draft = owned draft.host draft.owner (unwrap_or (option_or draft.job_name draft.source_name) (codes "untitled")) draft.prints

-- a draft, joined with the lines after it
abbrev pub joined : Draft → List (List ℕ) → Result Draft ControlFault
joined draft texts = lines_in texts >>= λ lines. Ok (before draft (together lines))

-- each line ends in a line feed: the last of the texts between line feeds has to be empty
abbrev pub whole_lines : List (List ℕ) → List (List ℕ)
whole_lines texts = take (length texts - 1) texts

abbrev pub unfinished : List (List ℕ) → List ℕ
unfinished texts = slice_index_or texts (length texts - 1) []

abbrev pub finished : List ℕ → Draft → Result ControlRecord ControlFault
finished [] draft = whole draft
finished (byte ∷ bytes) draft = Err BadLine

-- the job that a control file describes, or its first fault
abbrev pub control_in : List ℕ → Result ControlRecord ControlFault
control_in text = joined nothing (whole_lines (texts_of text)) >>= finished (unfinished (texts_of text))
