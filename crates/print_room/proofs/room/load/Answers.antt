use Rattle.std.proofs.lemmas.List.Edits.{map_over_more}
use Rattle.print_room.specs.State.{loaded_if}
use Rattle.print_room.proofs.room.load.Goals as goal

pub loop-medium-preserved : goal.loop-medium-preserved
loop-medium-preserved c =
    rw (c.is_named-medium.ensures, c.as_bytes.ensures, ← c.medium-item.is)
    (map_over_more (loaded_if c.args.names.now) c.args.media.now c.loop-medium.media c.loop-medium.medium-index c.medium-item.result c.loop-medium-test.true c.loop-medium.invariant c.medium-item.is)
