use Rattle.ipp_codec.proofs.Steps.{goes_on}
use Rattle.ipp_codec.proofs.place.walk_from.Goals as goal

pub loop-next_place-preserved : goal.loop-next_place-preserved
loop-next_place-preserved c =
    let step = rw c.in-Ok-Some.field-0-is at c.in-Ok-Some.ensures in
    goes_on c.args.place c.args.bytes.now c.loop-next_place.rest.now c.loop-next_place.reached c.in-Ok-Some.next_place step.0 c.in-Ok-Some.tail.now c.loop-next_place.invariant step.1 step.2 step.3
