-- The texts of plans, defined without a reader.
use Rattle.std.specs.Prelude.{ℕ, ◌≡◌, List}
use Rattle.plan_text.specs.NamedPlan.{NamedPlan}
use Rattle.plan_text.specs.Writing.{plan_text}
use Rattle.plan_text.specs.Ranges.{IsPlanInRange}

pub record IsTextOf (text : List ℕ) (named : NamedPlan) : Type 0 where
  pub in_range : IsPlanInRange named
  pub is : text ≡ plan_text named
