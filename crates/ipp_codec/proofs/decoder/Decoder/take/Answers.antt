use Rattle.std.proofs.Common.{◌≡◌, true, arith}
use Rattle.ipp_codec.specs.Decoder.{MayCome}
use Rattle.ipp_codec.proofs.Fields.{IsBytes}
use Rattle.ipp_codec.proofs.Segments.{more_taken, over_taken}
use Rattle.ipp_codec.proofs.decoder.Decoder.take.Goals as goal

pub loop-self-preserved : goal.loop-self-preserved
loop-self-preserved c =
    let some = c.in_ok-count.ensures {u = tt} in
    more_taken c.args.self.now c.loop-self.self c.take_some.new.self c.args.segment.now c.loop-self.rest.now c.in_ok-count.count c.loop-self.invariant some.count.1 some.taken some.grows some.bounded

pub returns-else-awaits-clause-taken : goal.returns-else-awaits-clause-taken
returns-else-awaits-clause-taken c =
    let fits : IsBytes c.args.segment.now = λ i. omega (arith, c.type_inv.segment i) in
    let over : ¬ (MayCome c.loop-self.self) = λ may. let holds : c.awaits.result ≡ true = c.awaits.ensures.1 may in absurd cc in
    over_taken c.args.self.now c.loop-self.self c.args.segment.now c.loop-self.rest.now fits c.loop-self.invariant over
