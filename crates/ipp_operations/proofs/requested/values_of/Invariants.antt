use Rattle.std.proofs.Common.{◌≡◌, ◌++◌, map}
use Rattle.ipp_codec.specs.Message.{bytes_in}
use Rattle.ipp_codec.specs.Views.{attribute_shown, values_left}
use Rattle.ipp_operations.specs.OperationAttribute.{values_in_order}
use Rattle.ipp_operations.proofs.requested.values_of.Given as goal

abbrev pub invariant-loop-value : goal.invariant-loop-value
invariant-loop-value l =
    (goal.iterator-loop-value).can_next l.value-iterator
    × (goal.iterator-loop-value).is_finite l.value-iterator
    × (l.requested ++ map bytes_in (values_left l.value-iterator) ≡ map bytes_in (values_in_order (attribute_shown l.attribute)))
