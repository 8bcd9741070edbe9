use Rattle.std.proofs.Common.{◌≡◌, take, map}
use Rattle.printer_objects.specs.Attribute.{enumerated}
use Rattle.printer_objects.specs.Finishing.{finishing_code}
use Rattle.printer_objects.proofs.finishing.finishings.Given as goal

abbrev pub invariant-loop-finishing : goal.invariant-loop-finishing
invariant-loop-finishing l = l.attribute ≡ record l.initial.attribute { others = map enumerated (map finishing_code (take l.finishing-index l.others)) }
