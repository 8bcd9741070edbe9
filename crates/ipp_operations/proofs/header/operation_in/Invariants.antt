use Rattle.std.proofs.Common.{◌≡◌, ◌==◌, drop, find}
use Rattle.printer_objects.specs.Operation.{operation_code}
use Rattle.ipp_operations.specs.ParsedRequest.{operation_in}
use Rattle.ipp_operations.proofs.header.operation_in.Given as goal

abbrev pub invariant-loop-operation : goal.invariant-loop-operation
invariant-loop-operation l = find (λ o. operation_code o == l.code) (drop l.operation-index l.operation-items) ≡ operation_in l.code
