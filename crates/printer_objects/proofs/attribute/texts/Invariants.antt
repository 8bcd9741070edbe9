use Rattle.std.proofs.Common.{◌≡◌, take, map}
use Rattle.printer_objects.specs.Attribute.{text}
use Rattle.printer_objects.proofs.attribute.texts.Given as goal

abbrev pub invariant-loop-other : goal.invariant-loop-other
invariant-loop-other l = l.attribute ≡ record l.initial.attribute { others = map (text l.tag) (take l.other-index l.others) }
