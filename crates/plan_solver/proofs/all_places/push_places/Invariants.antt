use Rattle.std.proofs.Common.{◌≡◌, ◌⊎◌, ℕ, ◌<◌, Contains}
use Rattle.plan_solver.specs.declared.costs.Place.{Place}
use Rattle.plan_solver.specs.AllPlaces.{place_on}
use Rattle.plan_solver.proofs.all_places.push_places.Given as goal

abbrev pub invariant-loop-after : goal.invariant-loop-after
invariant-loop-after l = record {
  there : (after : ℕ) → after < l.after → Contains l.places.items (place_on l.device after);
  kept : (p : Place) → Contains l.fn.places.items p → Contains l.places.items p;
  only : (p : Place) → Contains l.places.items p → Contains l.fn.places.items p ⊎ (p.device ≡ l.device);
}
