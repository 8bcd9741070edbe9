use Rattle.std.proofs.Common.{ℕ, ◌<◌, ◌≤◌, Contains}
use Rattle.plan_solver.specs.declared.costs.Place.{Place}
use Rattle.plan_solver.specs.AllPlaces.{place_on}
use Rattle.plan_solver.proofs.all_places.all_places.Given as goal

abbrev pub invariant-loop-device : goal.invariant-loop-device
invariant-loop-device l = record {
  there : (device after : ℕ) → device < l.device → after ≤ l.jobs → Contains l.places.items (place_on device after);
  only : (p : Place) → Contains l.places.items p → p.device < l.device;
}
