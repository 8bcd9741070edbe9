use Rattle.std.proofs.Common.{◌≡◌}
use Rattle.std.specs.List.{list_any}
use Rattle.std.specs.Str.{bytes_eq}
use Rattle.ipp_codec.specs.Message.{bytes_in}
use Rattle.ipp_codec.specs.Views.{attribute_shown, values_left}
use Rattle.ipp_requests.specs.Reply.{has_value}
use Rattle.ipp_requests.proofs.reply.has_value.Given as goal

abbrev pub invariant-loop-value : goal.invariant-loop-value
invariant-loop-value l =
    (goal.iterator-loop-value).can_next l.value-iterator
    × (goal.iterator-loop-value).is_finite l.value-iterator
    × (list_any (λ value. bytes_eq (bytes_in value) l.bytes) (values_left l.value-iterator) ≡ has_value l.bytes (attribute_shown l.attribute))
