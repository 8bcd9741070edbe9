-- The words for a plan, and for a job and its device, in a played trace and in a server's log.
use Rattle.std.specs.Prelude.{ℕ, List, ◌++◌, codes}
use Rattle.std.specs.Fmt.{decimal}
use Rattle.base_types.specs.declared.needs.Stranded.{Stranded}
use Rattle.plan_text.specs.NamedPlan.{name_at}
use Rattle.plan_text.specs.Writing.{cause_word}

-- a class: its priority and the total of its completion times in ms
abbrev pub class_word : ℕ → ℕ → List ℕ
class_word priority total = codes " " ++ (decimal priority ++ (codes ":" ++ decimal total))

-- a job that no device can print, with its cause
abbrev pub stranded_word : Stranded → List ℕ
stranded_word stranded = codes " -" ++ (decimal stranded.job ++ (codes ":" ++ cause_word stranded.cause))

-- a word, the id of a job, and the name of its device
abbrev pub job_words : List ℕ → List (List ℕ) → ℕ → ℕ → List ℕ
job_words word names job device = word ++ (codes " " ++ (decimal job ++ (codes " " ++ name_at names device)))
