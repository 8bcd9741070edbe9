-- The lines of a plan's text, each by itself. The form of all words of a line is checked first, then the ranges of its numbers. `Steps.antt` states which line may follow which.
use Rattle.std.specs.Prelude.{ℕ, ℤ, ◌&&◌, List, [], ◌∷◌, Option, Result, Ok, Err, if◌then◌else◌, codes}
use Rattle.std.specs.List.{list_all}
use Rattle.std.specs.Str.{bytes_eq}
use Rattle.base_types.specs.declared.limits.TheConstants.Limits.{HIGHEST_PRIORITY, LAST_JOB_ID, WAIT, AMOUNT}
use Rattle.base_types.specs.Forms.{is_name}
use Rattle.base_types.specs.declared.needs.Stranded.{Stranded}
use Rattle.plan_text.specs.declared.fault.TextFault.{TextFault}
use Rattle.plan_text.specs.declared.fault.TextFault.TheVariants.{BadLine}
use Rattle.plan_text.specs.declared.line.Line.{Line}
use Rattle.plan_text.specs.declared.line.Line.TheVariants as lines
use Rattle.text.specs.Steps.{◌>>=◌}
use Rattle.text.specs.Digits.{is_number}
use Rattle.plan_text.specs.Word.{number_at, numbers_at, is_entry, entries_at, is_price, prices_at, cause_at}

-- the content of a line
pub data PlanLine : Type 0 where
  HeadLine : PlanLine
  DeviceLine : (name : List ℕ) → PlanLine
  ClassLine : (priority : ℕ) → PlanLine
  JobLine : (id : ℕ) (times : List (Option ℕ)) → PlanLine
  WaitLine : (waits : List ℕ) → PlanLine
  WayLine : (device : List ℕ) (jobs : List ℕ) → PlanLine
  TotalLine : (total : ℕ) → PlanLine
  JobPricesLine : (prices : List ℤ) → PlanLine
  PlacePricesLine : (device : List ℕ) (prices : List ℤ) → PlanLine
  StrandedLine : Stranded → PlanLine
  EndLine : PlanLine

-- the content of a line that was read
abbrev pub plan_line_of : Line → PlanLine
plan_line_of lines.Plan = HeadLine
plan_line_of (lines.Device name) = DeviceLine name
plan_line_of (lines.Class priority) = ClassLine priority
plan_line_of (lines.Job id times) = JobLine id times.items
plan_line_of (lines.Wait waits) = WaitLine waits.items
plan_line_of (lines.Way device jobs) = WayLine device jobs.items
plan_line_of (lines.Total total) = TotalLine total
plan_line_of (lines.JobPrices prices) = JobPricesLine prices.items
plan_line_of (lines.PlacePrices device prices) = PlacePricesLine device prices.items
plan_line_of (lines.Stranded stranded) = StrandedLine stranded
plan_line_of lines.End = EndLine

-- the words after the first word of each line; an empty word is neither a number nor a name

abbrev pub alone_at : PlanLine → List (List ℕ) → Result PlanLine TextFault
alone_at line [] = Ok line
alone_at line (word ∷ words) = Err BadLine

-- the word, if there is exactly one
abbrev pub only_word : List (List ℕ) → Result (List ℕ) TextFault
only_word [] = Err BadLine
only_word (word ∷ []) = Ok word
only_word (word ∷ next ∷ words) = Err BadLine

-- the first word, and the words after it
abbrev pub first_word : List (List ℕ) → Result (List ℕ × List (List ℕ)) TextFault
first_word [] = Err BadLine
first_word (word ∷ words) = Ok (word, words)

unfoldable pub device_at : List (List ℕ) → Result PlanLine TextFault
device_at words = only_word words >>= λ name. if is_name name then Ok (DeviceLine name) else Err BadLine

unfoldable pub class_at : List (List ℕ) → Result PlanLine TextFault
class_at words = only_word words >>= λ priority. (number_at 1 HIGHEST_PRIORITY priority >>= λ p. Ok (ClassLine p))

unfoldable pub job_at : List (List ℕ) → Result PlanLine TextFault
job_at words = first_word words >>= λ w.
    if is_number w.0 && list_all is_entry w.1
    then (number_at 1 LAST_JOB_ID w.0 >>= λ id. (entries_at w.1 >>= λ times. Ok (JobLine id times)))
    else Err BadLine

unfoldable pub wait_at : List (List ℕ) → Result PlanLine TextFault
wait_at words = if list_all is_number words then (numbers_at 0 WAIT words >>= λ waits. Ok (WaitLine waits)) else Err BadLine

unfoldable pub way_at : List (List ℕ) → Result PlanLine TextFault
way_at words = first_word words >>= λ w.
    if is_name w.0 && list_all is_number w.1
    then (numbers_at 1 LAST_JOB_ID w.1 >>= λ jobs. Ok (WayLine w.0 jobs))
    else Err BadLine

unfoldable pub total_at : List (List ℕ) → Result PlanLine TextFault
total_at words = only_word words >>= λ total. (number_at 0 AMOUNT total >>= λ n. Ok (TotalLine n))

unfoldable pub job_prices_at : List (List ℕ) → Result PlanLine TextFault
job_prices_at words = if list_all is_price words then (prices_at words >>= λ prices. Ok (JobPricesLine prices)) else Err BadLine

unfoldable pub place_prices_at : List (List ℕ) → Result PlanLine TextFault
place_prices_at words = first_word words >>= λ w.
    if is_name w.0 && list_all is_price w.1
    then (prices_at w.1 >>= λ prices. Ok (PlacePricesLine w.0 prices))
    else Err BadLine

unfoldable pub stranded_at : List (List ℕ) → Result PlanLine TextFault
stranded_at words = first_word words >>= λ w.
    (only_word w.1 >>= λ word. (cause_at word >>= λ cause. (number_at 1 LAST_JOB_ID w.0 >>= λ id.
    Ok (StrandedLine (record { job = id; cause = cause })))))

-- the content of a line, by its first word
unfoldable pub line_of : List ℕ → List (List ℕ) → Result PlanLine TextFault
line_of first words =
    if bytes_eq first (codes "plan") then alone_at HeadLine words
    else if bytes_eq first (codes "device") then device_at words
    else if bytes_eq first (codes "class") then class_at words
    else if bytes_eq first (codes "job") then job_at words
    else if bytes_eq first (codes "wait") then wait_at words
    else if bytes_eq first (codes "way") then way_at words
    else if bytes_eq first (codes "total") then total_at words
    else if bytes_eq first (codes "jobprices") then job_prices_at words
    else if bytes_eq first (codes "placeprices") then place_prices_at words
    else if bytes_eq first (codes "stranded") then stranded_at words
    else if bytes_eq first (codes "end") then alone_at EndLine words
    else Err BadLine

-- the content of a line of these words, or its fault
abbrev pub line_at : List (List ℕ) → Result PlanLine TextFault
line_at words = first_word words >>= λ w. line_of w.0 w.1
