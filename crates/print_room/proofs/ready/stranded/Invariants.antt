use Rattle.std.proofs.Common.{◌≡◌, filter_map, take}
use Rattle.print_room.specs.Gathered.{entry_of}
use Rattle.print_room.proofs.ready.stranded.Given as goal

abbrev pub invariant-loop-job : goal.invariant-loop-job
invariant-loop-job l = l.stranded.items ≡ filter_map entry_of (take l.job-index l.ready)
