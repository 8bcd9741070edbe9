use Rattle.std.proofs.Common.{◌≡◌, ℕ, ◌<◌, ◌≤◌, get_or}
use Rattle.plan_solver.specs.declared.search.TheConstants.{UNSETTLED}
use Rattle.plan_solver.proofs.Nearest.{IsFound}
use Rattle.plan_solver.proofs.search.nearest.Given as goal

abbrev pub invariant-loop-at : goal.invariant-loop-at
invariant-loop-at l = record {
  found : IsFound l.search.lengths.items l.search.ranks.items l.columns l.search.exit.length l.least l.nearest;
  least : (i : ℕ) → i < l.at → get_or l.search.ranks.items (get_or l.search.reached.items i 0) 0 ≡ UNSETTLED → l.least ≤ get_or l.search.lengths.items (get_or l.search.reached.items i 0) 0;
}
