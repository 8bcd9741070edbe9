-- The content of an LPD client's line (RFC 1179, sections 5 and 6): a code byte, and operands after single spaces. Empty operands are left out.
use Rattle.std.specs.Prelude.{ℕ, ◌==◌, ◌&&◌, nat_lt, nat_le, Bool, true, false, if◌then◌else◌, List, [], ◌∷◌, length, filter, drop, Result, Ok, Err}
use Rattle.std.specs.Str.Parse.{digits_value}
use Rattle.text.specs.Digits.{is_decimal}
use Rattle.text.specs.Parts.{words_of}
use Rattle.base_types.specs.declared.limits.TheConstants.Limits.{LPD_CONTROL_BYTES, JOB_OCTETS}
use Rattle.lpd.specs.declared.fault.LpdFault.{LpdFault}
use Rattle.lpd.specs.declared.fault.LpdFault.TheVariants.{UnknownCode, BadCount, BadName, TooLarge}
use Rattle.lpd.specs.declared.item.FileKind.{FileKind}
use Rattle.lpd.specs.declared.item.FileKind.TheVariants.{Control, Data}
use Rattle.lpd.specs.declared.reader.Awaited.{Awaited}
use Rattle.lpd.specs.declared.reader.Awaited.TheVariants as await
use Rattle.lpd.specs.Items.{CommandRecord, PrintsWaiting, ReceivesJob, ListsShort, ListsLong, RemovesJobs, ItemRecord, HasCommand, Aborts, Announces}
use Rattle.lpd.specs.FileName.{is_file_name}

-- the first word, which may be empty
abbrev pub first_word : List (List ℕ) → List ℕ
first_word [] = []
first_word (word ∷ words) = word

-- the words after the first that aren't empty
abbrev pub operands_of : List (List ℕ) → List (List ℕ)
operands_of words = filter (λ operand. nat_lt 0 (length operand)) (drop 1 words)

-- the first operand is the agent: the user who asks for the removal
abbrev pub removal : List ℕ → List (List ℕ) → CommandRecord
removal queue [] = RemovesJobs queue [] []
removal queue (agent ∷ operands) = RemovesJobs queue agent operands

abbrev pub command_of : ℕ → List (List ℕ) → Result CommandRecord LpdFault
command_of code words =
    if code == 1 then Ok (PrintsWaiting (first_word words))
    else if code == 2 then Ok (ReceivesJob (first_word words))
    else if code == 3 then Ok (ListsShort (first_word words) (operands_of words))
    else if code == 4 then Ok (ListsLong (first_word words) (operands_of words))
    else if code == 5 then Ok (removal (first_word words) (operands_of words))
    else Err UnknownCode

abbrev pub most_bytes : FileKind → ℕ
most_bytes Control = LPD_CONTROL_BYTES
most_bytes Data = JOB_OCTETS

-- a length in decimal digits that is not 0
abbrev pub is_count : List ℕ → Bool
is_count word = is_decimal word && nat_lt 0 (digits_value 10 word)

-- a file is announced by its length and its name; where both are wrong, the fault is that of the first
abbrev pub named : FileKind → ℕ → List (List ℕ) → Result ItemRecord LpdFault
named kind count (name ∷ []) =
    if is_file_name kind name
    then (if nat_le count (most_bytes kind) then Ok (Announces (record { kind = kind; length = count; name = name })) else Err TooLarge)
    else Err BadName
named kind count words = Err BadName

abbrev pub later_words : List (List ℕ) → List (List ℕ)
later_words words = drop 1 words

abbrev pub announced : FileKind → List (List ℕ) → Result ItemRecord LpdFault
announced kind words = if is_count (first_word words) then named kind (digits_value 10 (first_word words)) (later_words words) else Err BadCount

abbrev pub subcommand_of : ℕ → List (List ℕ) → Result ItemRecord LpdFault
subcommand_of code words =
    if code == 1 then Ok Aborts
    else if code == 2 then announced Control words
    else if code == 3 then announced Data words
    else Err UnknownCode

abbrev pub parses : Result CommandRecord LpdFault → Result ItemRecord LpdFault
parses (Ok command) = Ok (HasCommand command)
parses (Err fault) = Err fault

-- a command's line, without its line feed
abbrev pub command_line : List ℕ → Result ItemRecord LpdFault
command_line [] = Err UnknownCode
command_line (code ∷ text) = parses (command_of code (words_of text))

-- a subcommand's line
abbrev pub subcommand_line : List ℕ → Result ItemRecord LpdFault
subcommand_line [] = Err UnknownCode
subcommand_line (code ∷ text) = subcommand_of code (words_of text)

-- the content of a line, by the part that is awaited: a command, or else a subcommand
abbrev pub meaning_of : Awaited → List ℕ → Result ItemRecord LpdFault
meaning_of await.Command line = command_line line
meaning_of await.Subcommand line = subcommand_line line
meaning_of (await.File length) line = subcommand_line line
meaning_of await.Nothing line = subcommand_line line

abbrev pub awaits_line : Awaited → Bool
awaits_line await.Command = true
awaits_line await.Subcommand = true
awaits_line (await.File length) = false
awaits_line await.Nothing = false
