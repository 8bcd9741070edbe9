-- Jobs with the same needs: a device is able to print all of them, or none.
use Rattle.std.specs.Prelude.{◌≡◌, ◌↔◌, ◌⊎◌, ℕ, List, [], Option, Some, IsSome, slice_get}
use Rattle.base_types.specs.Needs.{JobNeeds}
use Rattle.base_types.specs.Device.{Device}
use Rattle.plan_problem.specs.Able.{IsAble}
use Rattle.plan_problem.specs.ClassJob.{JobOfClass}

-- two jobs have the same needs, except for their lengths
pub record NeedSame (one other : JobNeeds) : Type 0 where
  pub printer : one.printer ≡ other.printer
  pub formats : one.formats ≡ other.formats
  pub sides : one.sides ≡ other.sides
  pub finishings : one.finishings ≡ other.finishings
  pub media : one.media ≡ other.media

-- the times of an earlier job with the same needs, or no times
abbrev pub FromAlike : List JobOfClass → List (List (Option ℕ)) → JobNeeds → List (Option ℕ) → Type 0
FromAlike jobs rows needs times =
    (times ≡ [])
    ⊎ ((place : ℕ) × (job : JobOfClass) × (slice_get jobs place ≡ Some job) × (slice_get rows place ≡ Some times) × NeedSame job.needs needs)

-- if the times have an entry for the device, the entry states whether the device is able
abbrev pub TellsAble : JobNeeds → ℕ → Device → List ℕ → List (Option ℕ) → Type 0
TellsAble needs place device printer times = (entry : Option ℕ) → slice_get times place ≡ Some entry → IsSome entry ↔ IsAble needs place device printer
