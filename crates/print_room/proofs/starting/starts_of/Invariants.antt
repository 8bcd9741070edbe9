use Rattle.std.proofs.Common.{◌≡◌, ◌≤◌, ◌++◌, drop, All}
use Rattle.base_types.specs.declared.limits.TheConstants.Limits.{JOB_TIME}
use Rattle.print_room.specs.Dispatch.{starts_from}
use Rattle.print_room.proofs.starting.starts_of.Given as goal

abbrev pub invariant-loop-place : goal.invariant-loop-place
invariant-loop-place l =
    (l.starts.items ++ starts_from l.now l.classes l.place (drop l.place l.devices) ≡ starts_from l.now l.classes 0 l.devices)
    × All (λ start. start.time ≤ JOB_TIME) l.starts.items
