-- The lines that a played trace prints for an event: its reply, the cancels, the plan and the starts.
use Rattle.std.specs.Prelude.{ℕ, Bool, List, [], ◌∷◌, ◌++◌, Option, Some, None, codes, if◌then◌else◌}
use Rattle.hex.specs.Hex.{encode_lower}
use Rattle.base_types.specs.declared.needs.Stranded.{Stranded}
use Rattle.plan_prices.specs.declared.plan.PlannedClass.{PlannedClass}
use Rattle.plan_prices.specs.Plan.{PlanRecord}
use Rattle.plan_text.specs.Summary.{class_word, stranded_word, job_words}
use Rattle.plan_text.specs.Writing.{plan_text}
use Rattle.events.specs.declared.effects.Cancel.{Cancel}
use Rattle.print_room.specs.declared.started.Started.{Started}

-- the bytes of a reply, in hexadecimal
abbrev pub reply_line : List ℕ → List ℕ
reply_line bytes = codes "reply " ++ (encode_lower bytes ++ codes "\n")

-- the line of a cancel for a device
abbrev pub cancel_line : List (List ℕ) → Cancel → List ℕ
cancel_line names cancel = job_words (codes "cancel") names cancel.job cancel.device ++ codes "\n"

-- the words of the classes, from the highest down, each with its total
abbrev pub class_words : List PlannedClass → List ℕ
class_words [] = []
class_words (class ∷ classes) = class_word class.priority class.priced.total ++ class_words classes

-- the words of the jobs that no device can print, each with its cause
abbrev pub stranded_words : List Stranded → List ℕ
stranded_words [] = []
stranded_words (job ∷ stranded) = stranded_word job ++ stranded_words stranded

-- the line of a plan: its classes, from the highest down, and then the stranded jobs
abbrev pub plan_line : PlanRecord → List ℕ
plan_line plan = codes "plan" ++ (class_words plan.classes ++ (stranded_words plan.stranded ++ codes "\n"))

-- the line of a job that a device starts
abbrev pub start_line : List (List ℕ) → Started → List ℕ
start_line names started = job_words (codes "start") names started.job started.device ++ codes "\n"

abbrev pub start_lines : List (List ℕ) → List Started → List ℕ
start_lines names [] = []
start_lines names (started ∷ starts) = start_line names started ++ start_lines names starts

-- the lines of a plan, if one was made: its line, and its text if `texts` is true
abbrev pub plan_lines : Bool → List (List ℕ) → Option PlanRecord → List ℕ
plan_lines texts names None = []
plan_lines texts names (Some plan) = plan_line plan ++ (if texts then plan_text (record { devices = names; plan = plan }) else [])

-- the lines of a dispatch
abbrev pub dispatch_lines : Bool → List (List ℕ) → Option PlanRecord → List Started → List ℕ
dispatch_lines texts names plan started = plan_lines texts names plan ++ start_lines names started
