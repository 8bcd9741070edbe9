use Rattle.std.proofs.Common.{arith, sym}
use Rattle.std.proofs.lemmas.List.{length-take-le, take_all}
use Rattle.printer_objects.specs.declared.attribute.TheConstants.{VALUE_BYTES}
use Rattle.printer_objects.proofs.attribute.prefix.Goals as goal

pub slice_bounds-result-end : goal.slice_bounds-result-end
slice_bounds-result-end c = sym (length-take-le VALUE_BYTES c.args.bytes.now (omega (arith, c.if-bytes-gt-VALUE_BYTES.true)))

pub returns-else-bytes-gt-VALUE_BYTES : goal.returns-else-bytes-gt-VALUE_BYTES
returns-else-bytes-gt-VALUE_BYTES c = sym (take_all VALUE_BYTES c.args.bytes.now (omega (arith, c.if-bytes-gt-VALUE_BYTES.false)))
