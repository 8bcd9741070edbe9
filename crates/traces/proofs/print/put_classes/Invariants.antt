use Rattle.std.proofs.Common.{◌≡◌, ◌++◌, drop}
use Rattle.traces.specs.Printed.{class_words}
use Rattle.traces.proofs.print.put_classes.Given as goal

abbrev pub invariant-loop-class : goal.invariant-loop-class
invariant-loop-class l = l.output.items ++ class_words (drop l.class-index l.classes) ≡ l.initial.output.items ++ class_words l.classes
