-- The needs of a job.
use Rattle.std.specs.Prelude.{ℕ, List}
use Rattle.base_types.specs.declared.finishings.Finishings.{Finishings}
use Rattle.base_types.specs.declared.needs.Sides.{Sides}

pub record JobNeeds : Type 0 where
  pub printer : ℕ
  pub formats : List (List ℕ)
  pub sides : Sides
  pub finishings : Finishings
  pub media : List ℕ
  pub impressions : ℕ
  pub copies : ℕ
