use Rattle.std.proofs.Common.{◌≡◌, ℕ, ◌+◌, ◌-◌, ◌<◌, ◌≤◌, get_or}
use Rattle.plan_solver.proofs.matching.raise.Given as goal

abbrev pub invariant-loop-c : goal.invariant-loop-c
invariant-loop-c l =
    ((k : ℕ) → k < l.c → get_or l.values k 0 ≡ get_or l.fn.values k 0 + (l.reach - get_or l.lengths k 0))
    × ((k : ℕ) → l.c ≤ k → get_or l.values k 0 ≡ get_or l.fn.values k 0)
