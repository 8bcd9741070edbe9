-- The requirements of a planner that shows all free places at once.
use Rattle.std.specs.Prelude.{ℕ, ◌<◌, ◌≤◌, List, Contains, vec_len}
use Rattle.plan_solver.specs.declared.costs.Costs.{Costs}
use Rattle.plan_solver.specs.declared.costs.Place.{Place}
use Rattle.plan_solver.specs.declared.costs.TheConstants.{UNABLE}
use Rattle.plan_solver.specs.Costs.{cost_of}
use Rattle.plan_solver.specs.Layout.{taken}

abbrev pub place_on : ℕ → ℕ → Place
place_on device after = record { device = device; after = after }

-- each job has a device on which each place of the class costs less than UNABLE; and where a place costs less than UNABLE, each place with fewer places after it costs less than that place
pub record CanFill (costs : Costs) : Type 0 where
  pub placed : (job : ℕ) → job < vec_len costs.rows → (device : ℕ) × (device < vec_len costs.waits) × ((after : ℕ) → after ≤ vec_len costs.rows → cost_of costs job (place_on device after) < UNABLE)
  pub rises : (job device after before : ℕ) → job < vec_len costs.rows → device < vec_len costs.waits → after < before → cost_of costs job (place_on device before) < UNABLE → cost_of costs job (place_on device after) < cost_of costs job (place_on device before)

-- the free places are exactly those on each device that aren't used, with at most as many places after them as there are jobs
pub record ShowsAll (costs : Costs) (columns free : List Place) : Type 0 where
  pub there : (device after : ℕ) → device < vec_len costs.waits → taken device columns ≤ after → after ≤ vec_len costs.rows → Contains free (place_on device after)
  pub only : (place : Place) → Contains free place → (place.device < vec_len costs.waits) × (taken place.device columns ≤ place.after)
