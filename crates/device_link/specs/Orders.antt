-- The lines that the server sends to a device.
use Rattle.std.specs.Prelude.{ℕ, Bool, List, [], ◌++◌, ◌||◌, if◌then◌else◌, codes}
use Rattle.std.specs.Fmt.{decimal}
use Rattle.base_types.specs.declared.finishings.Finishings.{Finishings}
use Rattle.base_types.specs.Needs.{JobNeeds}
use Rattle.base_types.specs.declared.needs.Sides.{Sides}
use Rattle.base_types.specs.declared.needs.Sides.TheVariants.{One, LongEdge, ShortEdge}

abbrev pub sides_word : Sides → List ℕ
sides_word One = codes "1"
sides_word LongEdge = codes "L"
sides_word ShortEdge = codes "S"

-- the letter of a finishing, if the job has that finishing
abbrev pub letter_if : Bool → List ℕ → List ℕ
letter_if wanted letter = if wanted then letter else []

-- the letters of a job's finishings, in this order
abbrev pub finishings_letters : Finishings → List ℕ
finishings_letters finishings =
    letter_if finishings.staple (codes "S") ++ (letter_if finishings.punch (codes "P") ++ letter_if finishings.bind (codes "B"))

-- the word of a job's finishings, after a space; empty for a job without finishings
abbrev pub finishings_word : Finishings → List ℕ
finishings_word finishings =
    if finishings.staple || (finishings.punch || finishings.bind) then codes " " ++ finishings_letters finishings
    else []

-- the line before a job's documents: its id, the octets of all documents, copies, sides, media, finishings
abbrev pub job_line : ℕ → ℕ → JobNeeds → List ℕ
job_line id octets needs =
    codes "JOB " ++ (decimal id ++ (codes " " ++ (decimal octets ++ (codes " " ++ (decimal needs.copies ++ (codes " " ++ (sides_word needs.sides ++ (codes " " ++ (needs.media ++ (finishings_word needs.finishings ++ codes "\n"))))))))))

-- the line that cancels a job
abbrev pub cancel_line : ℕ → List ℕ
cancel_line id = codes "CANCEL " ++ (decimal id ++ codes "\n")
