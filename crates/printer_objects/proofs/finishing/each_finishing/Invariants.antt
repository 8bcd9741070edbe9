use Rattle.std.proofs.Common.{◌≡◌, filter, take}
use Rattle.printer_objects.specs.Finishing.{has_finishing}
use Rattle.printer_objects.proofs.finishing.each_finishing.Given as goal

abbrev pub invariant-loop-finishing : goal.invariant-loop-finishing
invariant-loop-finishing l = l.each.items ≡ filter (has_finishing l.finishings) (take l.finishing-index l.finishing-items)
