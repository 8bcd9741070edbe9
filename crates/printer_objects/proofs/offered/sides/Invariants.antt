use Rattle.std.proofs.Common.{◌≡◌, take, map}
use Rattle.base_types.specs.Sides.{sides_keyword}
use Rattle.printer_objects.specs.Attribute.{keyword}
use Rattle.printer_objects.proofs.offered.sides.Given as goal

abbrev pub invariant-loop-sides : goal.invariant-loop-sides
invariant-loop-sides l = l.attribute ≡ record l.initial.attribute { others = map keyword (map sides_keyword (take l.sides-index l.others)) }
