-- The order in a line of the server. A line is words with one space between them.
use Rattle.std.specs.Prelude.{ℕ, ◌==◌, Bool, true, false, if◌then◌else◌, List, [], ◌∷◌, Option, Some, None, option_map, codes}
use Rattle.std.specs.Option.{option_and_then}
use Rattle.std.specs.Str.{bytes_eq}
use Rattle.base_types.specs.declared.limits.TheConstants.Limits.{LAST_JOB_ID, JOB_OCTETS, COPIES}
use Rattle.base_types.specs.declared.needs.Sides.{Sides}
use Rattle.base_types.specs.declared.needs.Sides.TheVariants.{One, LongEdge, ShortEdge}
use Rattle.base_types.specs.declared.finishings.Finishings.{Finishings}
use Rattle.base_types.specs.Finishings.{no_finishings}
use Rattle.base_types.specs.Forms.{is_media}
use Rattle.text.specs.Digits.{number_up_to}
use Rattle.text.specs.Parts.{words_of}
use Rattle.adapter_core.specs.declared.order.JobNumbers.{JobNumbers}
use Rattle.adapter_core.specs.declared.order.Order.{Order}
use Rattle.adapter_core.specs.declared.order.Order.TheVariants.{Job, Cancel}

abbrev pub above_zero : Option ℕ → Option ℕ
above_zero None = None
above_zero (Some number) = if number == 0 then None else Some number

-- the id of a job
unfoldable pub id_in : List ℕ → Option ℕ
id_in word = above_zero (number_up_to LAST_JOB_ID word)

abbrev pub octets_in : List ℕ → Option ℕ
octets_in word = number_up_to JOB_OCTETS word

unfoldable pub copies_in : List ℕ → Option ℕ
copies_in word = above_zero (number_up_to COPIES word)

-- the word JOB and a job's numbers
unfoldable pub numbers_in : List ℕ → List ℕ → List ℕ → List ℕ → Option JobNumbers
numbers_in word job octets copies =
    if bytes_eq word (codes "JOB") then option_and_then (λ id. option_and_then (λ count. option_map (λ times. record { job = id; octets = count; copies = times }) (copies_in copies)) (octets_in octets)) (id_in job)
    else None

unfoldable pub sides_in : List ℕ → Option Sides
sides_in word =
    if bytes_eq word (codes "1") then Some One
    else if bytes_eq word (codes "L") then Some LongEdge
    else if bytes_eq word (codes "S") then Some ShortEdge
    else None

abbrev pub begins_with : ℕ → List ℕ → Bool
begins_with letter [] = false
begins_with letter (first ∷ rest) = first == letter

-- the bytes after the letter, if the word begins with it; else the word
abbrev pub after_letter : ℕ → List ℕ → List ℕ
after_letter letter [] = []
after_letter letter (first ∷ rest) = if first == letter then rest else first ∷ rest

abbrev pub is_nothing : List ℕ → Bool
is_nothing [] = true
is_nothing (byte ∷ bytes) = false

-- a letter for each finishing of the job, in this order, at least one
unfoldable pub finishings_in : List ℕ → Option Finishings
finishings_in word =
    let rest = after_letter 83 word in
    let last = after_letter 80 rest in
    if is_nothing word then None
    else if is_nothing (after_letter 66 last) then Some (record { staple = begins_with 83 word; punch = begins_with 80 rest; bind = begins_with 66 last })
    else None

-- the job of these parts
unfoldable pub job_order : Option JobNumbers → Option Sides → List ℕ → Option Finishings → Option Order
job_order None sides media finishings = None
job_order (Some numbers) None media finishings = None
job_order (Some numbers) (Some sides) media None = None
job_order (Some numbers) (Some sides) media (Some finishings) =
    if is_media media then Some (Job (record { job = numbers.job; octets = numbers.octets; copies = numbers.copies; sides = sides; finishings = finishings; media = media }))
    else None

unfoldable pub cancel_order : List ℕ → List ℕ → Option Order
cancel_order word job = if bytes_eq word (codes "CANCEL") then option_map Cancel (id_in job) else None

-- the sides, the medium and the finishings, if there are any, after the numbers of a job
abbrev pub described : Option JobNumbers → List (List ℕ) → Option Order
described numbers (sides ∷ media ∷ []) = job_order numbers (sides_in sides) media (Some no_finishings)
described numbers (sides ∷ media ∷ finishings ∷ []) = job_order numbers (sides_in sides) media (finishings_in finishings)
described numbers words = None

abbrev pub parsed : List (List ℕ) → Option Order
parsed (word ∷ job ∷ []) = cancel_order word job
parsed (word ∷ job ∷ octets ∷ copies ∷ rest) = described (numbers_in word job octets copies) rest
parsed words = None

-- the order in a line, if it is one of the server's
abbrev pub order_in : List ℕ → Option Order
order_in line = parsed (words_of line)
