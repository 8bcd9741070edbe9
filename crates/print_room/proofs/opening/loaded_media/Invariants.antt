use Rattle.std.proofs.Common.{◌≡◌, map, take}
use Rattle.print_room.specs.Opening.{loaded_medium}
use Rattle.print_room.proofs.opening.loaded_media.Given as goal

abbrev pub invariant-loop-name : goal.invariant-loop-name
invariant-loop-name l = l.media.items ≡ map loaded_medium (take l.name-index l.names)
