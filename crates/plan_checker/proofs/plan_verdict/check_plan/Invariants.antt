use Rattle.plan_checker.proofs.Plans.{YesSoFar}
use Rattle.plan_checker.proofs.plan_verdict.check_plan.Given as goal

abbrev pub invariant-loop-place : goal.invariant-loop-place
invariant-loop-place l = YesSoFar l.plan l.place
