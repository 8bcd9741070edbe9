use Rattle.std.proofs.Common.{◌≡◌, ◌++◌, drop}
use Rattle.plan_text.specs.Writing.{lines_text, classes_lines}
use Rattle.plan_text.proofs.write_plan.put_classes.Given as goal

abbrev pub invariant-loop-class : goal.invariant-loop-class
invariant-loop-class l = l.output.items ++ lines_text (classes_lines l.devices (drop l.class-index l.classes)) ≡ l.initial.output.items ++ lines_text (classes_lines l.devices l.classes)
