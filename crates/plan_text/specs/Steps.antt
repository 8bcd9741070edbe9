-- The steps of a reader of a plan's text: its state, and the change that each line makes of it. Only private functions cite them, and they determine the fault of a text. Whether a text is that of a plan doesn't depend on them: by a law it is if and only if it is the text of that plan (`TextOf.antt`).
use Rattle.std.specs.Prelude.{◌≡◌, ◌==◌, ◌&&◌, ◌+◌, not, ℕ, ℤ, Bool, true, List, [], ◌∷◌, ◌++◌, length, slice_index_or, nat_le, nat_lt, Result, Ok, Err, Option, Some, None, if◌then◌else◌}
use Rattle.std.specs.List.{list_all}
use Rattle.std.specs.Str.{bytes_eq}
use Rattle.base_types.specs.declared.limits.TheConstants.Limits.{UNFINISHED_JOBS, DEVICES, JOB_TIME, WAIT}
use Rattle.base_types.specs.declared.needs.Stranded.{Stranded}
use Rattle.plan_problem.specs.Class.{Class}
use Rattle.plan_prices.specs.declared.plan.PlannedClass.{PlannedClass}
use Rattle.plan_text.specs.declared.fault.TextFault.{TextFault}
use Rattle.plan_text.specs.declared.fault.TextFault.TheVariants.{BadLine, OutOfRange}
use Rattle.plan_text.specs.declared.fault.ReadError.{ReadError}
use Rattle.plan_text.specs.declared.stage.Stage.{Stage}
use Rattle.plan_text.specs.declared.stage.Stage.TheVariants as stages
use Rattle.plan_text.specs.declared.draft.Draft.{Draft}
use Rattle.plan_text.specs.declared.open_class.OpenClass.{OpenClass}
use Rattle.text.specs.Steps.{◌>>=◌}
use Rattle.plan_text.specs.Reading.{Fails}
use Rattle.plan_text.specs.Line.{PlanLine, HeadLine, DeviceLine, ClassLine, JobLine, WaitLine, WayLine, TotalLine, JobPricesLine, PlacePricesLine, StrandedLine, EndLine}

-- the class whose lines are being read
pub record Opened : Type 0 where
  pub priority : ℕ
  pub ids : List ℕ
  pub rows : List (List (Option ℕ))
  pub waits : List ℕ
  pub queues : List (List ℕ)
  pub total : ℕ
  pub job_prices : List ℤ
  pub place_prices : List (List ℤ)

-- the state after the lines so far: the stage, the names of the devices, the whole classes, the stranded jobs, the number of lines of jobs and stranded jobs, the bound below which the priority of the next class is, the bound above which the next id is, and the class that is being read
pub record DraftRecord : Type 0 where
  pub stage : Stage
  pub devices : List (List ℕ)
  pub classes : List PlannedClass
  pub stranded : List Stranded
  pub jobs : ℕ
  pub below : ℕ
  pub last : ℕ
  pub opened : Opened

-- an empty class
abbrev pub opened_at : ℕ → Opened
opened_at priority = record { priority = priority; ids = []; rows = []; waits = []; queues = []; total = 0; job_prices = []; place_prices = [] }

-- the order of the stages
abbrev pub stage_number : Stage → ℕ
stage_number stages.Start = 0
stage_number stages.Devices = 1
stage_number stages.Jobs = 2
stage_number stages.Ways = 3
stage_number stages.JobPrices = 4
stage_number stages.PlacePrices = 5
stage_number stages.Stranded = 6
stage_number stages.Ended = 7

abbrev pub is_at : DraftRecord → Stage → Bool
is_at draft stage = stage_number draft.stage == stage_number stage

-- whether the list has one entry for each device
abbrev pub one_each : {X : Type 0} → DraftRecord → List X → Bool
one_each draft xs = length xs == length draft.devices

-- whether the device at a place has a name
abbrev pub is_named : DraftRecord → ℕ → List ℕ → Bool
is_named draft place name = nat_lt place (length draft.devices) && bytes_eq (slice_index_or draft.devices place []) name

-- the line `plan`, the first
unfoldable pub plan_next : DraftRecord → Result DraftRecord TextFault
plan_next draft = if is_at draft stages.Start then Ok (record draft { stage = stages.Devices }) else Err BadLine

unfoldable pub device_next : DraftRecord → List ℕ → Result DraftRecord TextFault
device_next draft name =
    if not (is_at draft stages.Devices) then Err BadLine
    else if nat_lt (length draft.devices) DEVICES then Ok (record draft { devices = draft.devices ++ name ∷ [] })
    else Err OutOfRange

-- whether the ids rise
abbrev pub rises : List ℕ → Bool
rises [] = true
rises (id ∷ []) = true
rises (id ∷ next ∷ ids) = nat_lt id next && rises (next ∷ ids)

-- a time within its range, or none
abbrev pub is_time : Option ℕ → Bool
is_time None = true
is_time (Some time) = nat_le 1 time && nat_le time JOB_TIME

unfoldable pub is_row : ℕ → List (Option ℕ) → Bool
is_row devices row = (length row == devices) && list_all is_time row

unfoldable pub is_wait : ℕ → Bool
is_wait wait = nat_le wait WAIT

-- whether the lists are the problem of a class
unfoldable pub is_problem : Class → Bool
is_problem c =
    nat_le (length c.ids) UNFINISHED_JOBS && nat_le (length c.waits) DEVICES && (length c.rows == length c.ids)
    && rises c.ids && list_all (is_row (length c.waits)) c.rows && list_all is_wait c.waits

abbrev pub problem_of : Opened → Class
problem_of opened = record { ids = opened.ids; rows = opened.rows; waits = opened.waits }

abbrev pub planned : Opened → PlannedClass
planned opened = record {
  priority = opened.priority;
  problem = problem_of opened;
  priced = record { way = opened.queues; prices = record { jobs = opened.job_prices; places = opened.place_prices }; total = opened.total };
}

-- the state with the class that was being read among the whole classes
abbrev pub opened_kept : DraftRecord → DraftRecord
opened_kept draft = record draft { classes = draft.classes ++ planned draft.opened ∷ []; last = 0; opened = opened_at draft.opened.priority }

-- the same, if all lines of that class were read
unfoldable pub closed : DraftRecord → Result DraftRecord TextFault
closed draft =
    if is_at draft stages.Devices then Ok draft
    else if is_at draft stages.PlacePrices && one_each draft draft.opened.place_prices
    then (if is_problem (problem_of draft.opened) then Ok (opened_kept draft) else Err OutOfRange)
    else Err BadLine

unfoldable pub class_opened : DraftRecord → ℕ → Result DraftRecord TextFault
class_opened draft priority =
    if nat_lt priority draft.below
    then Ok (record draft { stage = stages.Jobs; below = priority; last = 0; opened = opened_at priority })
    else Err OutOfRange

unfoldable pub class_next : DraftRecord → ℕ → Result DraftRecord TextFault
class_next draft priority = closed draft >>= λ whole. class_opened whole priority

-- whether a further line of a job may come, and its id is above the id of the job before
abbrev pub may_have : DraftRecord → ℕ → Bool
may_have draft id = nat_lt draft.jobs UNFINISHED_JOBS && nat_lt draft.last id

unfoldable pub job_next : DraftRecord → ℕ → List (Option ℕ) → Result DraftRecord TextFault
job_next draft id times =
    if not (is_at draft stages.Jobs && one_each draft times) then Err BadLine
    else if may_have draft id
    then Ok (record draft { jobs = draft.jobs + 1; last = id; opened = record draft.opened { ids = draft.opened.ids ++ id ∷ []; rows = draft.opened.rows ++ times ∷ [] } })
    else Err OutOfRange

unfoldable pub wait_next : DraftRecord → List ℕ → Result DraftRecord TextFault
wait_next draft waits =
    if is_at draft stages.Jobs && one_each draft waits
    then Ok (record draft { stage = stages.Ways; opened = record draft.opened { waits = waits } })
    else Err BadLine

unfoldable pub way_next : DraftRecord → List ℕ → List ℕ → Result DraftRecord TextFault
way_next draft name jobs =
    if is_at draft stages.Ways && is_named draft (length draft.opened.queues) name
    then Ok (record draft { opened = record draft.opened { queues = draft.opened.queues ++ jobs ∷ [] } })
    else Err BadLine

unfoldable pub total_next : DraftRecord → ℕ → Result DraftRecord TextFault
total_next draft total =
    if is_at draft stages.Ways && one_each draft draft.opened.queues
    then Ok (record draft { stage = stages.JobPrices; opened = record draft.opened { total = total } })
    else Err BadLine

unfoldable pub job_prices_next : DraftRecord → List ℤ → Result DraftRecord TextFault
job_prices_next draft prices =
    if is_at draft stages.JobPrices
    then Ok (record draft { stage = stages.PlacePrices; opened = record draft.opened { job_prices = prices } })
    else Err BadLine

unfoldable pub place_prices_next : DraftRecord → List ℕ → List ℤ → Result DraftRecord TextFault
place_prices_next draft name prices =
    if is_at draft stages.PlacePrices && is_named draft (length draft.opened.place_prices) name
    then Ok (record draft { opened = record draft.opened { place_prices = draft.opened.place_prices ++ prices ∷ [] } })
    else Err BadLine

-- the state in which a stranded job may come: after another, or after the classes
unfoldable pub classes_over : DraftRecord → Result DraftRecord TextFault
classes_over draft = if is_at draft stages.Stranded then Ok draft else closed draft

unfoldable pub stranded_added : DraftRecord → Stranded → Result DraftRecord TextFault
stranded_added draft stranded =
    if may_have draft stranded.job
    then Ok (record draft { stage = stages.Stranded; stranded = draft.stranded ++ stranded ∷ []; jobs = draft.jobs + 1; last = stranded.job })
    else Err OutOfRange

unfoldable pub stranded_next : DraftRecord → Stranded → Result DraftRecord TextFault
stranded_next draft stranded = classes_over draft >>= λ whole. stranded_added whole stranded

unfoldable pub end_next : DraftRecord → Result DraftRecord TextFault
end_next draft = classes_over draft >>= λ whole. Ok (record whole { stage = stages.Ended })

-- the state after a line with this content
abbrev pub next : DraftRecord → PlanLine → Result DraftRecord TextFault
next draft HeadLine = plan_next draft
next draft (DeviceLine name) = device_next draft name
next draft (ClassLine priority) = class_next draft priority
next draft (JobLine id times) = job_next draft id times
next draft (WaitLine waits) = wait_next draft waits
next draft (WayLine device jobs) = way_next draft device jobs
next draft (TotalLine total) = total_next draft total
next draft (JobPricesLine prices) = job_prices_next draft prices
next draft (PlacePricesLine device prices) = place_prices_next draft device prices
next draft (StrandedLine stranded) = stranded_next draft stranded
next draft EndLine = end_next draft

-- the state of a reader
abbrev pub opened_of : OpenClass → Opened
opened_of open' = record {
  priority = open'.priority;
  ids = open'.ids.items;
  rows = open'.rows.items;
  waits = open'.waits.items;
  queues = open'.queues.items;
  total = open'.total;
  job_prices = open'.job_prices.items;
  place_prices = open'.place_prices.items;
}

abbrev pub draft_record : Draft → DraftRecord
draft_record draft = record {
  stage = draft.stage;
  devices = draft.devices.items;
  classes = draft.classes.items;
  stranded = draft.stranded.items;
  jobs = draft.jobs;
  below = draft.below;
  last = draft.last;
  opened = opened_of draft.opened;
}

-- the result of a reader's step, unless memory ran out
abbrev pub Leaves : {X : Type 0} → Result X ReadError → DraftRecord → Result DraftRecord TextFault → Type 0
Leaves (Ok x) new draft = draft ≡ Ok new
Leaves (Err error) new draft = Fails error draft
