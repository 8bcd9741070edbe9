use Rattle.std.proofs.Common.{◌≡◌, drop}
use Rattle.plan_problem.proofs.alike.same_texts.Given as goal

abbrev pub invariant-loop-text : goal.invariant-loop-text
invariant-loop-text l = drop l.text-index l.one ≡ l.rest → l.one ≡ l.other
