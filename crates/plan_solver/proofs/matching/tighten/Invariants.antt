use Rattle.std.proofs.Common.{◌≡◌, ℕ, ◌-◌, ◌<◌, ◌≤◌, get_or}
use Rattle.plan_solver.proofs.matching.tighten.Given as goal

abbrev pub invariant-loop-f : goal.invariant-loop-f
invariant-loop-f l =
    ((k : ℕ) → k < l.f → get_or l.slacks k 0 ≤ get_or l.fn.slacks k 0)
    × ((k : ℕ) → k < l.f → get_or l.slacks k 0 ≤ get_or l.search.nears.items k 0 - l.search.exit.length)
    × ((k : ℕ) → l.f ≤ k → get_or l.slacks k 0 ≡ get_or l.fn.slacks k 0)
