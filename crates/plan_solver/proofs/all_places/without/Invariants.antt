use Rattle.std.proofs.Common.{◌≢◌, ℕ, ◌<◌, Contains, get_or}
use Rattle.plan_solver.specs.declared.costs.Place.{Place}
use Rattle.plan_solver.specs.Costs.{nowhere}
use Rattle.plan_solver.proofs.all_places.without.Given as goal

abbrev pub invariant-loop-place : goal.invariant-loop-place
invariant-loop-place l = record {
  kept : (k : ℕ) → k < l.place-index → get_or l.places k nowhere ≢ l.taken → Contains l.left.items (get_or l.places k nowhere);
  only : (p : Place) → Contains l.left.items p → Contains l.places p × (p ≢ l.taken);
}
