use Rattle.std.proofs.Common.{◌≡◌, ◌≤◌, max, drop}
use Rattle.base_types.specs.declared.limits.TheConstants.Limits.{HIGHEST_PRIORITY}
use Rattle.print_room.specs.Gathered.{highest_within}
use Rattle.print_room.proofs.ready.highest_within.Given as goal

abbrev pub invariant-loop-job : goal.invariant-loop-job
invariant-loop-job l =
    (max l.highest (highest_within l.most (drop l.job-index l.ready)) ≡ highest_within l.most l.ready)
    × (l.highest ≤ HIGHEST_PRIORITY)
