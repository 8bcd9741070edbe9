-- The output and the exit status of `printd check`, for each text of a plan.
use Rattle.std.specs.Prelude.{◌≡◌, ◌==◌, ◌⊎◌, ℕ, Bool, List, [], ◌∷◌, ◌++◌, Option, Some, None, MatchResult, codes, find, if◌then◌else◌, map, slice_index, slice_index_or, take}
use Rattle.std.specs.Fmt.{decimal}
use Rattle.std.specs.Io.KnownBytes.{Appends}
use Rattle.std.specs.Option.{option_map_or}
use Rattle.base_types.specs.declared.limits.TheConstants.Limits.{INPUT_BYTES}
use Rattle.plan_problem.specs.Class.{Class}
use Rattle.plan_prices.specs.declared.plan.PlannedClass.{PlannedClass}
use Rattle.plan_prices.specs.Timetable.{Slot, end_of, own_slots}
use Rattle.plan_audit.specs.declared.check.Audit.{Audit}
use Rattle.plan_audit.specs.declared.objection.Objection.{Objection}
use Rattle.plan_audit.specs.declared.objection.Objection.TheVariants.{Size, Text, Plan}
use Rattle.plan_audit.specs.Place.{IsFaultLine}
use Rattle.plan_text.specs.declared.fault.TextFault.{TextFault}
use Rattle.plan_text.specs.declared.fault.TextFault.TheVariants.{BadLine, OutOfRange, NoEnd}
use Rattle.plan_checker.specs.declared.verdict.Fault.{Fault}
use Rattle.plan_checker.specs.declared.verdict.Fault.TheVariants as faults
use Rattle.plan_checker.specs.declared.verdict.PlanVerdict.{PlanVerdict}
use Rattle.plan_checker.specs.declared.verdict.PlanVerdict.TheVariants.{Yes, No}
use Rattle.plan_text.specs.NamedPlan.{NamedPlan}
use Rattle.plan_checker.specs.Plan.{IsPlanVerdict}
use Rattle.plan_text.specs.Whole.{plan_at}
use Rattle.program.specs.declared.exit_status.ExitStatus.{ExitStatus}
use Rattle.program.specs.declared.exit_status.ExitStatus.TheVariants as Ends
use Rattle.program.specs.Input.{IsWhole, GaveMore}
use Rattle.program.specs.Output.{refused_as}

abbrev pub text_fault_name : TextFault → List ℕ
text_fault_name BadLine = codes "BadLine"
text_fault_name OutOfRange = codes "OutOfRange"
text_fault_name NoEnd = codes "NoEnd"

abbrev pub fault_name : Fault → List ℕ
fault_name faults.UnknownName = codes "UnknownName"
fault_name faults.Twice = codes "Twice"
fault_name faults.Missing = codes "Missing"
fault_name faults.NotAble = codes "NotAble"
fault_name faults.WrongWait = codes "WrongWait"
fault_name faults.PositivePlacePrice = codes "PositivePlacePrice"
fault_name faults.PriceTooHigh = codes "PriceTooHigh"
fault_name faults.TotalsDiffer = codes "TotalsDiffer"

-- the line of a start: the id of the job, the name of its device, and its start and end there
unfoldable pub start_line : List (List ℕ) → Class → Slot → List ℕ
start_line devices c slot =
    codes "start " ++ (decimal slot.job ++ (codes " " ++ (slice_index_or devices slot.device [] ++ (codes " " ++ (decimal slot.start ++ (codes " " ++ (decimal (end_of c slot) ++ codes "\n")))))))

-- the line of the start of a job in the way's own timetable
unfoldable pub job_start : List (List ℕ) → PlannedClass → ℕ → List ℕ
job_start devices class job = option_map_or (start_line devices class.problem) (find (λ slot. slot.job == job) (own_slots class.problem class.priced.way)) []

abbrev pub job_starts : List (List ℕ) → PlannedClass → List ℕ → List ℕ
job_starts devices class [] = []
job_starts devices class (job ∷ jobs) = job_start devices class job ++ job_starts devices class jobs

-- the starts of all jobs: the classes in order, and the jobs of each class by rising id
abbrev pub plan_starts : List (List ℕ) → List PlannedClass → List ℕ
plan_starts devices [] = []
plan_starts devices (class ∷ classes) = job_starts devices class class.problem.ids ++ plan_starts devices classes

-- the priority of the class at a place; the highest class has the place 0
abbrev pub priority_at : List PlannedClass → ℕ → ℕ
priority_at classes place = slice_index (map (λ class. class.priority) classes) place

-- the text written for an input, the exit status, and the objection
pub record Judged : Type 0 where
  pub text : List ℕ
  pub status : ExitStatus
  pub objection : Option Objection

-- the answer to a plan with this verdict, with the starts if they are asked for
abbrev pub judged_of : Bool → NamedPlan → PlanVerdict → Judged
judged_of starts named Yes = record { text = codes "yes\n" ++ (if starts then plan_starts named.devices named.plan.classes else []); status = Ends.Done; objection = None }
judged_of starts named (No place fault) = record {
  text = codes "no " ++ (fault_name fault ++ (codes " class " ++ (decimal (priority_at named.plan.classes place) ++ codes "\n")));
  status = Ends.No;
  objection = Some (Plan (priority_at named.plan.classes place) fault);
}

-- the answer to a refused input
abbrev pub refused_for : List ℕ → Objection → Judged
refused_for name objection = record { text = (refused_as name).text; status = (refused_as name).status; objection = Some objection }

-- the answer to a text: the verdict on the plan it is, or its first fault and the line of the fault
abbrev pub IsJudged : Bool → List ℕ → Judged → Type 0
IsJudged starts text judged = MatchResult (plan_at text)
    (λ named. (verdict : PlanVerdict) × IsPlanVerdict named.plan verdict × (judged ≡ judged_of starts named verdict))
    (λ fault. (line : ℕ) × IsFaultLine text fault line × (judged ≡ refused_for (text_fault_name fault) (Text line fault)))

-- the answer to an input: to its whole text, or that it has too many bytes
abbrev pub IsAnswer : Bool → Option (List ℕ) → Option (List ℕ) → Judged → Type 0
IsAnswer starts before after judged =
    ((text : List ℕ) × IsWhole INPUT_BYTES before after text × IsJudged starts text judged)
    ⊎ (GaveMore INPUT_BYTES before after × (judged ≡ refused_for (codes "size") Size))

-- the audit has the status and the objection of the answer
abbrev pub EndsAs : Judged → Audit → Type 0
EndsAs judged audit = (audit.status ≡ judged.status) × (audit.objection ≡ judged.objection)

-- the answer was written as a whole; or the program failed, and wrote nothing or a prefix of it
abbrev pub Checks : Bool → Option (List ℕ) → Option (List ℕ) → Option (List ℕ) → Option (List ℕ) → Audit → Type 0
Checks starts before after held holds audit =
    ((judged : Judged) × IsAnswer starts before after judged × Appends held holds judged.text × EndsAs judged audit)
    ⊎ ((audit.status ≡ Ends.Failed) × (audit.objection ≡ None)
    × (Appends held holds [] ⊎ ((judged : Judged) × IsAnswer starts before after judged × (n : ℕ) × Appends held holds (take n judged.text))))
