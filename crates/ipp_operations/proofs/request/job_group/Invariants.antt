use Rattle.std.proofs.Common.{◌≡◌}
use Rattle.ipp_codec.specs.Views.{message_shown, groups_left}
use Rattle.ipp_operations.specs.Request.{first_job_group, job_group}
use Rattle.ipp_operations.proofs.request.job_group.Given as goal

abbrev pub invariant-loop-group : goal.invariant-loop-group
invariant-loop-group l =
    (goal.iterator-loop-group).can_next l.group-iterator
    × (goal.iterator-loop-group).is_finite l.group-iterator
    × (first_job_group (groups_left l.group-iterator) ≡ job_group (message_shown l.message))
