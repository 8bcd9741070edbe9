use Rattle.std.proofs.Common.{◌≡◌, ℕ, ◌+◌, ◌<◌, ◌≤◌, get_or}
use Rattle.plan_solver.proofs.matching.add_to_each.Given as goal

abbrev pub invariant-loop-value : goal.invariant-loop-value
invariant-loop-value l =
    ((k : ℕ) → k < l.value-index → get_or l.values k 0 ≡ get_or l.fn.values k 0 + l.more)
    × ((k : ℕ) → l.value-index ≤ k → get_or l.values k 0 ≡ get_or l.fn.values k 0)
