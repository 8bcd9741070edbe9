-- The result of a dispatch, by whether it made a plan.
use Rattle.std.specs.Prelude.{Bool, List, [], Option, None, if◌then◌else◌}
use Rattle.plan_prices.specs.Plan.{PlanRecord}
use Rattle.dispatcher.specs.declared.dispatch.Dispatched.{Dispatched}
use Rattle.print_room.specs.declared.started.Started.{Started}
use Rattle.print_room.specs.State.{State}

-- the plan of the state after the dispatch, if the dispatch made a plan
abbrev pub plan_if : Bool → State → Option PlanRecord
plan_if planned new = if planned then new.plan else None

-- the jobs that the dispatch began, which the state after it has
abbrev pub begun_if : Bool → State → List Started
begun_if planned new = if planned then new.begun else []

-- the plan of a dispatch, by its view

abbrev pub plan_of : Dispatched → Option PlanRecord
plan_of made = plan_if made.planned made.room.now

abbrev pub started_of : Dispatched → List Started
started_of made = begun_if made.planned made.room.now
