use Rattle.std.proofs.Common.{◌≡◌, take, map}
use Rattle.printer_objects.specs.Attribute.{enumerated}
use Rattle.printer_objects.specs.Operation.{operation_code}
use Rattle.printer_objects.proofs.offered.operations.Given as goal

abbrev pub invariant-loop-operation : goal.invariant-loop-operation
invariant-loop-operation l = l.attribute ≡ record l.initial.attribute { others = map enumerated (map operation_code (take l.operation-index l.others)) }
