use Rattle.std.proofs.Common.{◌≡◌}
use Rattle.ipp_codec.specs.Views.{group_shown, attributes_left}
use Rattle.ipp_requests.specs.Reply.{attribute_named}
use Rattle.ipp_requests.proofs.reply.attribute_named.Given as goal

abbrev pub invariant-loop-attribute : goal.invariant-loop-attribute
invariant-loop-attribute l =
    (goal.iterator-loop-attribute).can_next l.attribute-iterator
    × (goal.iterator-loop-attribute).is_finite l.attribute-iterator
    × (attribute_named l.name (attributes_left l.attribute-iterator) ≡ attribute_named l.name (group_shown l.group).attributes)
