-- The moments at which jobs are expected to be complete, for the jobs of devices and of a plan.
use Rattle.std.specs.Prelude.{ℕ, ◌+◌, ◌==◌, List, [], map, find, Option, Some, None, option_map}
use Rattle.std.specs.List.{filter_map, flat_map}
use Rattle.base_types.specs.Device.{Device}
use Rattle.base_types.specs.declared.device.Activity.{Activity}
use Rattle.base_types.specs.declared.device.Activity.TheVariants.{Running, Stopped}
use Rattle.plan_problem.specs.Class.{Class}
use Rattle.plan_prices.specs.Timetable.{Slot, end_of, own_slots}
use Rattle.plan_prices.specs.declared.plan.PlannedClass.{PlannedClass}
use Rattle.plan_prices.specs.Plan.{PlanRecord}
use Rattle.listings.specs.declared.expected.Expected.{Expected}

-- the job of a device, with its estimated end; on a stopped device the end if the device went on now
abbrev pub expected_of : ℕ → Activity → Option Expected
expected_of now (Running (Some printing)) = Some (record { job = printing.job; moment = printing.end })
expected_of now (Running None) = None
expected_of now (Stopped (Some interrupted)) = Some (record { job = interrupted.job; moment = now + interrupted.left })
expected_of now (Stopped None) = None

-- the jobs of the devices
abbrev pub on_devices : ℕ → List Device → List Expected
on_devices now devices = filter_map (λ d. expected_of now d.activity) devices

-- a job in a timetable, with its end there
abbrev pub completion : Class → Slot → Expected
completion c slot = record { job = slot.job; moment = end_of c slot }

-- the jobs of a class by its way: on each device one after the other, once the device is free
abbrev pub completions_in : PlannedClass → List Expected
completions_in class = map (completion class.problem) (own_slots class.problem class.priced.way)

-- the jobs of the last plan, in ms from the plan's moment on
abbrev pub planned : Option PlanRecord → List Expected
planned None = []
planned (Some plan) = flat_map completions_in plan.classes

-- the moment at which a job is expected to be complete, if it is one of these
abbrev pub moment_of : List Expected → ℕ → Option ℕ
moment_of expected job = option_map (λ e. e.moment) (find (λ e. e.job == job) expected)
