use Rattle.std.proofs.Common.{◌≡◌}
use Rattle.ipp_codec.specs.Views.{group_shown, attributes_left}
use Rattle.ipp_operations.specs.Attributes.{first_of_each}
use Rattle.ipp_operations.proofs.FirstOfEach.{kept_with, HasNames}
use Rattle.ipp_operations.proofs.copied.first_of_each.Given as goal

abbrev pub invariant-loop-attribute : goal.invariant-loop-attribute
invariant-loop-attribute l =
    (goal.iterator-loop-attribute).can_next l.attribute-iterator
    × (goal.iterator-loop-attribute).is_finite l.attribute-iterator
    × HasNames l.names l.kept.items
    × (kept_with l.kept.items (attributes_left l.attribute-iterator) ≡ first_of_each (group_shown l.group).attributes)
