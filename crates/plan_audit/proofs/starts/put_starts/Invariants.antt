use Rattle.std.proofs.Common.{◌≡◌, ◌++◌, drop}
use Rattle.plan_audit.specs.Check.{plan_starts}
use Rattle.plan_audit.proofs.starts.put_starts.Given as goal

abbrev pub invariant-loop-class : goal.invariant-loop-class
invariant-loop-class l = l.output.items ++ plan_starts l.devices (drop l.class-index l.classes) ≡ l.initial.output.items ++ plan_starts l.devices l.classes
