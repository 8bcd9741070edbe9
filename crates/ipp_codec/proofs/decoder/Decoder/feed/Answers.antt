use Rattle.std.proofs.Common.{◌≡◌, ◌-◌, ℕ, length, refl, ap, arith, rules}
use Rattle.ipp_codec.specs.declared.stage.Stage.TheVariants.{Awaiting}
use Rattle.ipp_codec.specs.Decoder.{TakesIn}
use Rattle.ipp_codec.proofs.Fields.{IsBytes}
use Rattle.ipp_codec.proofs.Segments.{fed_by, stays}
use Rattle.ipp_codec.proofs.decoder.Decoder.feed.Goals as goal

pub returns-then-ne-clause-fed : goal.returns-then-ne-clause-fed
returns-then-ne-clause-fed c =
    let old = c.args.self.now in
    let segment = c.args.segment.now in
    let fits : IsBytes segment = λ i. omega (arith, c.type_inv.segment i) in
    let other : ¬ (old.stage ≡ Awaiting) = search rules in
    let takes : TakesIn old segment old = λ fed reaches. stays fed segment old fits reaches (λ may. other may.0) in
    let none : length old.head - c.reached-reached.result.length ≡ length old.head - length old.head = ap (λ (n : ℕ). length old.head - n) (ap (λ r. r.length) c.reached-reached.ensures.reached) in
    rw (c.answer.ensures, none) (fed_by old old segment old.stage refl takes (omega arith) (omega arith))
