use Rattle.std.proofs.Common.{◌≡◌, ◌++◌, map, take, drop}
use Rattle.print_room.specs.State.{loaded_if}
use Rattle.print_room.proofs.room.load.Given as goal

abbrev pub invariant-loop-medium : goal.invariant-loop-medium
invariant-loop-medium l = l.media ≡ map (loaded_if l.names) (take l.medium-index l.initial.media) ++ drop l.medium-index l.initial.media
