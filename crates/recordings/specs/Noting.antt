-- The notes of calls.
use Rattle.std.specs.Prelude.{ℕ, ◌≡◌, ◌==◌, ◌&&◌, ◌⊎◌, Bool, true, false, List, [], ◌∷◌, ◌++◌, Option, None, option_map, codes}
use Rattle.wires.specs.declared.wire.Progress.{Progress}
use Rattle.wires.specs.declared.wire.Progress.TheVariants.{Done, Waiting, End, Fault}
use Rattle.wires.specs.Poll.{Poll, Accepts, Reads, Writes, Closes}
use Rattle.recordings.specs.Lines.{line_about, accept_line, came_line, sent_line, turn_line}

-- the line of a write; empty for a write that would have to wait
abbrev pub written_note : ℕ → Progress ℕ → Option ℕ → List ℕ
written_note id (Done count) sum = sent_line id count sum
written_note id Waiting sum = []
written_note id End sum = line_about (codes "shut ") id
written_note id Fault sum = line_about (codes "break ") id

-- The line of a call with its answer; empty for a call that would have to wait, and for an accept without a connection. The sum is that of the bytes that a write took.
abbrev pub note_of : Poll → Option ℕ → List ℕ
note_of (Accepts door (Done id)) sum = accept_line door id
note_of (Accepts door Waiting) sum = []
note_of (Accepts door End) sum = []
note_of (Accepts door Fault) sum = []
note_of (Reads id (Done bytes)) sum = came_line id bytes
note_of (Reads id Waiting) sum = []
note_of (Reads id End) sum = line_about (codes "end ") id
note_of (Reads id Fault) sum = line_about (codes "fail ") id
note_of (Writes id offered answer) sum = written_note id answer sum
note_of (Closes id) sum = line_about (codes "close ") id

-- the lines of the end of a turn at a moment; `true` if memory was refused to the server in the turn
abbrev pub end_of : ℕ → Bool → List ℕ
end_of moment true = codes "refused\n" ++ turn_line moment
end_of moment false = turn_line moment

-- whether the bytes are whole lines, each of which begins with `#`; `true` if a line begins with the first byte
abbrev pub are_comments_from : Bool → List ℕ → Bool
are_comments_from start [] = start
are_comments_from true (byte ∷ bytes) = (byte == 35) && are_comments_from false bytes
are_comments_from false (byte ∷ bytes) = are_comments_from (byte == 10) bytes

-- whether the bytes are comments: whole lines, each of which begins with `#`
abbrev pub are_comments : List ℕ → Bool
are_comments bytes = are_comments_from true bytes

-- the notes with a line after them; none if there are no notes
abbrev pub with_note : List ℕ → Option (List ℕ) → Option (List ℕ)
with_note line noted = option_map (λ before. before ++ line) noted

-- the line of a turn in which a server that had been restarted lost its connections
abbrev pub restarted_line : List ℕ
restarted_line = codes "restarted\n"

-- comments are noted, or the notes are lost
abbrev pub NotesComments : List ℕ → Option (List ℕ) → Option (List ℕ) → Type 0
NotesComments comments old new = (new ≡ None) ⊎ ((are_comments comments ≡ true) × (new ≡ with_note comments old))

-- the end of a turn is noted, or the notes are lost
abbrev pub EndsTurn : ℕ → Bool → Option (List ℕ) → Option (List ℕ) → Type 0
EndsTurn moment refused old new = (new ≡ None) ⊎ (new ≡ with_note (end_of moment refused) old)

-- a call is noted, or the notes are lost
abbrev pub NotesLine : Poll → Option (List ℕ) → Option (List ℕ) → Type 0
NotesLine poll old new = (new ≡ None) ⊎ ((sum : Option ℕ) × (new ≡ with_note (note_of poll sum) old))

-- the notes, and whether documents are left out of them
pub record NoteState : Type 0 where
  pub lines : Option (List ℕ)
  pub heads : Bool

-- If documents aren't left out, a call is noted, or the notes are lost.
abbrev pub Notes : Poll → NoteState → NoteState → Type 0
Notes poll old new = (new.heads ≡ old.heads) × (old.heads ≡ false → NotesLine poll old.lines new.lines)
