-- The text of a plan: its lines, each with a line feed.
use Rattle.std.specs.Prelude.{ℕ, ℤ, List, [], ◌∷◌, ◌++◌, Option, Some, None, codes}
use Rattle.std.specs.Fmt.{decimal, signed_decimal}
use Rattle.base_types.specs.declared.needs.Cause.{Cause}
use Rattle.base_types.specs.declared.needs.Cause.TheVariants as causes
use Rattle.base_types.specs.declared.needs.Stranded.{Stranded}
use Rattle.plan_prices.specs.declared.plan.PlannedClass.{PlannedClass}
use Rattle.plan_text.specs.NamedPlan.{NamedPlan}
use Rattle.plan_text.specs.Line.{PlanLine, HeadLine, DeviceLine, ClassLine, JobLine, WaitLine, WayLine, TotalLine, JobPricesLine, PlacePricesLine, StrandedLine, EndLine}

abbrev pub cause_word : Cause → List ℕ
cause_word causes.NoDevice = codes "NoDevice"
cause_word causes.Format = codes "Format"
cause_word causes.Sides = codes "Sides"
cause_word causes.Finishings = codes "Finishings"
cause_word causes.Media = codes "Media"
cause_word causes.Running = codes "Running"

abbrev pub entry_word : Option ℕ → List ℕ
entry_word None = codes "-"
entry_word (Some time) = decimal time

-- words, each after a space
abbrev pub entries_text : List (Option ℕ) → List ℕ
entries_text [] = []
entries_text (entry ∷ entries) = (codes " " ++ entry_word entry) ++ entries_text entries

abbrev pub numbers_text : List ℕ → List ℕ
numbers_text [] = []
numbers_text (n ∷ ns) = (codes " " ++ decimal n) ++ numbers_text ns

abbrev pub prices_text : List ℤ → List ℕ
prices_text [] = []
prices_text (price ∷ prices) = (codes " " ++ signed_decimal price) ++ prices_text prices

-- a line with this content, with its line feed
unfoldable pub line_text : PlanLine → List ℕ
line_text HeadLine = codes "plan\n"
line_text (DeviceLine name) = codes "device " ++ (name ++ codes "\n")
line_text (ClassLine priority) = codes "class " ++ (decimal priority ++ codes "\n")
line_text (JobLine id times) = codes "job " ++ (decimal id ++ (entries_text times ++ codes "\n"))
line_text (WaitLine waits) = codes "wait" ++ (numbers_text waits ++ codes "\n")
line_text (WayLine device jobs) = codes "way " ++ (device ++ (numbers_text jobs ++ codes "\n"))
line_text (TotalLine total) = codes "total " ++ (decimal total ++ codes "\n")
line_text (JobPricesLine prices) = codes "jobprices" ++ (prices_text prices ++ codes "\n")
line_text (PlacePricesLine device prices) = codes "placeprices " ++ (device ++ (prices_text prices ++ codes "\n"))
line_text (StrandedLine stranded) = codes "stranded " ++ (decimal stranded.job ++ (codes " " ++ (cause_word stranded.cause ++ codes "\n")))
line_text EndLine = codes "end\n"

abbrev pub lines_text : List PlanLine → List ℕ
lines_text [] = []
lines_text (line ∷ lines) = line_text line ++ lines_text lines

-- the lines of a class's jobs, of its ways and of its place prices, with the names of the devices
abbrev pub job_lines : List ℕ → List (List (Option ℕ)) → List PlanLine
job_lines (id ∷ ids) (times ∷ rows) = JobLine id times ∷ job_lines ids rows
job_lines _ _ = []

abbrev pub way_lines : List (List ℕ) → List (List ℕ) → List PlanLine
way_lines (device ∷ devices) (jobs ∷ queues) = WayLine device jobs ∷ way_lines devices queues
way_lines _ _ = []

abbrev pub place_price_lines : List (List ℕ) → List (List ℤ) → List PlanLine
place_price_lines (device ∷ devices) (prices ∷ lists) = PlacePricesLine device prices ∷ place_price_lines devices lists
place_price_lines _ _ = []

abbrev pub class_job_lines : PlannedClass → List PlanLine
class_job_lines c = ClassLine c.priority ∷ job_lines c.problem.ids c.problem.rows

abbrev pub class_way_lines : List (List ℕ) → PlannedClass → List PlanLine
class_way_lines devices c = WaitLine c.problem.waits ∷ way_lines devices c.priced.way

abbrev pub class_price_lines : List (List ℕ) → PlannedClass → List PlanLine
class_price_lines devices c = TotalLine c.priced.total ∷ JobPricesLine c.priced.prices.jobs ∷ place_price_lines devices c.priced.prices.places

unfoldable pub class_lines : List (List ℕ) → PlannedClass → List PlanLine
class_lines devices c = class_job_lines c ++ (class_way_lines devices c ++ class_price_lines devices c)

abbrev pub device_lines : List (List ℕ) → List PlanLine
device_lines [] = []
device_lines (name ∷ names) = DeviceLine name ∷ device_lines names

abbrev pub stranded_lines : List Stranded → List PlanLine
stranded_lines [] = []
stranded_lines (job ∷ stranded) = StrandedLine job ∷ stranded_lines stranded

abbrev pub classes_lines : List (List ℕ) → List PlannedClass → List PlanLine
classes_lines devices [] = []
classes_lines devices (c ∷ classes) = class_lines devices c ++ classes_lines devices classes

abbrev pub plan_lines : NamedPlan → List PlanLine
plan_lines named =
    HeadLine ∷ (device_lines named.devices ++ (classes_lines named.devices named.plan.classes ++ (stranded_lines named.plan.stranded ++ (EndLine ∷ []))))

-- the text of a plan
unfoldable pub plan_text : NamedPlan → List ℕ
plan_text named = lines_text (plan_lines named)
