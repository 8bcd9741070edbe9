use Rattle.std.proofs.Common.{ℕ, ◌<◌, get_or}
use Rattle.plan_checker.specs.Beside.{NotAbove, NotStranded}
use Rattle.plan_checker.proofs.beside.none_elsewhere.Given as goal

abbrev pub invariant-loop-job : goal.invariant-loop-job
invariant-loop-job l = record {
  above : (k d : ℕ) → k < l.job-index → NotAbove l.above (get_or l.class.ids k d);
  stranded : (k d : ℕ) → k < l.job-index → NotStranded l.stranded (get_or l.class.ids k d);
}
