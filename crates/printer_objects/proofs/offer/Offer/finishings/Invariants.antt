use Rattle.std.proofs.Common.{◌≡◌, filter, take}
use Rattle.printer_objects.specs.Offer.{offers_finishing}
use Rattle.printer_objects.proofs.offer.Offer.finishings.Given as goal

abbrev pub invariant-loop-finishing : goal.invariant-loop-finishing
invariant-loop-finishing l = l.found.items ≡ filter (offers_finishing l.self) (take l.finishing-index l.finishing-items)
