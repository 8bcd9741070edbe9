use Rattle.std.proofs.Common.{ℕ, ◌<◌}
use Rattle.plan_solver.specs.Begun.{IsFairAt, IsFairBeside}
use Rattle.plan_solver.proofs.fit.all_fair.Given as goal

abbrev pub invariant-loop-q : goal.invariant-loop-q
invariant-loop-q l = record {
  columns : (q : ℕ) → q < l.q → IsFairAt l.costs l.matching q;
  next : (q : ℕ) → q < l.q → IsFairBeside l.costs l.by_device l.matching q;
}
