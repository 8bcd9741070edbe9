use Rattle.std.proofs.Common.{◌≡◌, ◌≢◌, ℕ, ◌<◌, ◌≤◌, length, vec_len, get_or, take, sum}
use Rattle.plan_solver.specs.declared.costs.TheConstants.{UNABLE}
use Rattle.plan_solver.proofs.answer.by_job.Given as goal

abbrev pub invariant-loop-c : goal.invariant-loop-c
invariant-loop-c l = record {
  len : vec_len l.charged ≡ length l.jobs;
  done : (k : ℕ) → k < l.c → get_or l.charged.items (get_or l.jobs k 0) 0 ≡ get_or l.prices k 0;
  blank : (j : ℕ) → ((k : ℕ) → k < l.c → get_or l.jobs k 0 ≢ j) → get_or l.charged.items j 0 ≡ 0;
  low : (j : ℕ) → get_or l.charged.items j 0 ≤ UNABLE;
  total : sum l.charged.items ≡ sum (take l.c l.prices);
}
