-- The lines of a recording.
use Rattle.std.specs.Prelude.{ℕ, ◌≡◌, nat_lt, if◌then◌else◌, List, ◌++◌, length, Option, Some, None, codes}
use Rattle.std.specs.Fmt.{decimal}
use Rattle.wires.specs.declared.wire.Door.{Door}
use Rattle.wires.specs.Door.{door_word}
use Rattle.recordings.specs.declared.entry.Entry.{Entry}
use Rattle.recordings.specs.declared.entry.Entry.TheVariants.{Accepted, Came, Octets, Zeros, Ended, Failed, Sent, Shut, Broken, Closed, Refused, Restarted, Turn}
use Rattle.recordings.specs.Data.{escaped}

-- a word, which ends in a space, and a number
abbrev pub about : List ℕ → ℕ → List ℕ
about word number = word ++ decimal number

-- the line of such a word and a number
abbrev pub line_about : List ℕ → ℕ → List ℕ
line_about word number = about word number ++ codes "\n"

-- the line of a connection that was accepted
abbrev pub accept_line : Door → ℕ → List ℕ
accept_line door id = codes "accept " ++ (door_word door ++ line_about (codes " ") id)

-- the line of bytes that were read, with the bytes in it
abbrev pub read_line : ℕ → List ℕ → List ℕ
read_line id bytes = about (codes "read ") id ++ (codes " " ++ (escaped bytes ++ codes "\n"))

-- the line before this many octets that were read and are written as they are
abbrev pub octets_head : ℕ → ℕ → List ℕ
octets_head id count = about (codes "octets ") id ++ about (codes " ") count

-- the same line with the octets after it
abbrev pub octets_line : ℕ → List ℕ → List ℕ
octets_line id bytes = octets_head id (length bytes) ++ (codes "\n" ++ (bytes ++ codes "\n"))

-- the line of bytes that were read, with `zeros` octets after them that are left out
abbrev pub zeros_line : ℕ → ℕ → List ℕ → List ℕ
zeros_line id zeros bytes = about (codes "zeros ") id ++ (about (codes " ") zeros ++ (codes " " ++ (escaped bytes ++ codes "\n")))

-- the line of bytes that were read: few bytes are in the line, many after it
abbrev pub came_line : ℕ → List ℕ → List ℕ
came_line id bytes = if nat_lt (length bytes) 256 then read_line id bytes else octets_line id bytes

-- a space and a sum, or ` -` if there is no sum
abbrev pub sum_words : Option ℕ → List ℕ
sum_words (Some sum) = about (codes " ") sum
sum_words None = codes " -"

-- the line of bytes that were taken, with their number and their sum
abbrev pub sent_line : ℕ → ℕ → Option ℕ → List ℕ
sent_line id count sum = about (codes "sent ") id ++ (about (codes " ") count ++ (sum_words sum ++ codes "\n"))

-- the line of the end of a turn, with the turn's moment
abbrev pub turn_line : ℕ → List ℕ
turn_line moment = line_about (codes "turn ") moment

-- the line of an entry
abbrev pub entry_line : Entry → List ℕ
entry_line (Accepted accepted) = accept_line accepted.door accepted.id
entry_line (Came came) = read_line came.id came.bytes.items
entry_line (Octets came) = octets_line came.id came.bytes.items
entry_line (Zeros came) = zeros_line came.id came.zeros came.bytes.items
entry_line (Ended id) = line_about (codes "end ") id
entry_line (Failed id) = line_about (codes "fail ") id
entry_line (Sent sent) = sent_line sent.id sent.count sent.sum
entry_line (Shut id) = line_about (codes "shut ") id
entry_line (Broken id) = line_about (codes "break ") id
entry_line (Closed id) = line_about (codes "close ") id
entry_line Refused = codes "refused\n"
entry_line Restarted = codes "restarted\n"
entry_line (Turn moment) = turn_line moment

-- the line, without its line feed, is that of an entry
abbrev pub IsLineOf : List ℕ → Entry → Type 0
IsLineOf line entry = entry_line entry ≡ line ++ codes "\n"
