-- The property of a plan's text.
use Rattle.std.specs.Prelude.{◌≡◌, Ok}
use Rattle.settings_file.specs.Settings.{ServerSettings, device_names}
use Rattle.plan_prices.specs.Plan.{PlanRecord}
use Rattle.plan_text.specs.NamedPlan.{NamedPlan}
use Rattle.plan_text.specs.Whole.{plan_at}
use Rattle.plan_text.specs.Writing.{plan_text}
use Rattle.plan_checker.specs.Plan.{IsPlanVerdict}
use Rattle.plan_checker.specs.declared.verdict.PlanVerdict.TheVariants.{Yes}

-- the plan, with the names of the devices in the settings
abbrev pub named_plan : ServerSettings → PlanRecord → NamedPlan
named_plan settings plan = record { devices = device_names settings; plan = plan }

-- The text of the plan is read back as the plan, and the checker accepts the plan that is read.
pub record PassesAsText (settings : ServerSettings) (plan : PlanRecord) : Type 0 where
  pub read_back : plan_at (plan_text (named_plan settings plan)) ≡ Ok (named_plan settings plan)
  pub checked : IsPlanVerdict plan Yes
