use Rattle.std.proofs.Common.{◌≡◌}
use Rattle.std.specs.List.{list_all}
use Rattle.ipp_codec.specs.Views.{attribute_shown, values_left}
use Rattle.ipp_operations.specs.OperationAttribute.{values_in_order}
use Rattle.ipp_operations.specs.Syntax.{has_syntax}
use Rattle.ipp_operations.proofs.attributes.all_have_syntax.Given as goal

abbrev pub invariant-loop-value : goal.invariant-loop-value
invariant-loop-value l =
    (goal.iterator-loop-value).can_next l.value-iterator
    × (goal.iterator-loop-value).is_finite l.value-iterator
    × (list_all (has_syntax l.syntax) (values_left l.value-iterator) ≡ list_all (has_syntax l.syntax) (values_in_order (attribute_shown l.attribute)))
