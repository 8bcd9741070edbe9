use Rattle.std.proofs.Common.{◌≡◌, ◌+◌, nat_lt, drop}
use Rattle.base_types.specs.declared.limits.TheConstants.Limits.{JOB_OCTETS}
use Rattle.lpd.specs.Pending.{all_beside}
use Rattle.lpd.proofs.pending.is_above.Given as goal

abbrev pub invariant-loop-file : goal.invariant-loop-file
invariant-loop-file l = nat_lt JOB_OCTETS (all_beside l.name l.files + l.size) ≡ nat_lt l.room (all_beside l.name (drop l.file-index l.files) + l.size)
