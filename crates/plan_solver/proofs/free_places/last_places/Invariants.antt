use Rattle.std.proofs.Common.{◌≡◌, ℕ, ◌<◌, vec_len, get_or}
use Rattle.plan_solver.specs.Costs.{nowhere}
use Rattle.plan_solver.proofs.free_places.last_places.Given as goal

abbrev pub invariant-loop-device : goal.invariant-loop-device
invariant-loop-device l = (vec_len l.places ≡ l.device) × ((d : ℕ) → d < l.device → get_or l.places.items d nowhere ≡ record { device = d; after = 0 })
