use Rattle.std.proofs.Common.{take}
use Rattle.printer_objects.proofs.NamedMarks.{MarkedSoFar}
use Rattle.printer_objects.proofs.named.mark.Given as goal

abbrev pub invariant-loop-place : goal.invariant-loop-place
invariant-loop-place l = MarkedSoFar l.asked l.initial.marks (take l.place-index l.place-items) l.marks
