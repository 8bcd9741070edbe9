use Rattle.std.proofs.Common.{◌≡◌}
use Rattle.std.specs.List.{list_any}
use Rattle.ipp_codec.specs.Message.{bytes_in}
use Rattle.ipp_codec.specs.Views.{attribute_shown, values_left}
use Rattle.ipp_requests.specs.Printer.{stops_by, has_stop_reason}
use Rattle.ipp_requests.proofs.printer.has_stop_reason.Given as goal

abbrev pub invariant-loop-reason : goal.invariant-loop-reason
invariant-loop-reason l =
    (goal.iterator-loop-reason).can_next l.reason-iterator
    × (goal.iterator-loop-reason).is_finite l.reason-iterator
    × (list_any (λ reason. stops_by (bytes_in reason)) (values_left l.reason-iterator) ≡ has_stop_reason (attribute_shown l.reasons))
