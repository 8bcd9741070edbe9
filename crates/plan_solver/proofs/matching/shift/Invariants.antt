use Rattle.std.proofs.Common.{◌≡◌, ◌≢◌, ℕ, ◌<◌, ◌≤◌, get_or}
use Rattle.std.specs.List.Sorted.{IsPermutation}
use Rattle.plan_solver.specs.Matching.{AreMoved}
use Rattle.plan_solver.proofs.matching.shift.Given as goal

abbrev pub invariant-loop-from : goal.invariant-loop-from
invariant-loop-from l = record {
  empty_in : l.empty ≤ l.last;
  from_is : l.from ≡ get_or l.froms l.empty 0;
  reached : get_or l.ranks l.empty 0 ≤ get_or l.ranks l.last 0;
  permutation : IsPermutation l.fn.jobs l.jobs;
  kept : (q : ℕ) → q < l.last → get_or l.ranks q 0 < get_or l.ranks l.empty 0 → (get_or l.jobs q 0 ≡ get_or l.fn.jobs q 0) × (get_or l.prices q 0 ≡ get_or l.fn.prices q 0);
  mover_job : get_or l.jobs l.empty 0 ≡ get_or l.fn.jobs l.last 0;
  mover_price : get_or l.prices l.empty 0 ≡ get_or l.fn.prices l.last 0;
  moved : (c : ℕ) → c ≤ l.last → c ≢ l.empty → AreMoved l.fn.jobs l.jobs l.fn.prices l.prices l.froms l.ranks l.last c;
}

abbrev pub decreases-loop-from : goal.decreases-loop-from
decreases-loop-from l = get_or l.ranks l.empty 0
