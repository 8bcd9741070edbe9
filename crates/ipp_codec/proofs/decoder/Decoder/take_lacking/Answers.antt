use Rattle.std.proofs.Common.{◌≤◌, ◌+◌, length, take, refl, sym, ap, subst, arith}
use Rattle.std.proofs.lemmas.List.{length-append, length-take}
use Rattle.base_types.specs.declared.limits.TheConstants.Limits.{IPP_HEAD_BYTES}
use Rattle.ipp_codec.specs.Decoder.{DecoderState}
use Rattle.ipp_codec.proofs.Fields.{IsBytes, IsBytes-take}
use Rattle.ipp_codec.proofs.Segments.{lacking_taken, advanced_grows, unread_within}
use Rattle.ipp_codec.proofs.decoder.Decoder.take_lacking.Goals as goal

pub advance-requires-clause-within : goal.advance-requires-clause-within
advance-requires-clause-within c =
    let old = c.args.self.now in
    let mid_is = (c.in_ok-append.ensures {u = tt}).ok in
    let within : c.append.new.self.walked ≤ length c.append.new.self.head =
    subst (λ (d : DecoderState). d.walked ≤ length d.head) (sym mid_is) (omega (arith, c.requires.begun, length-append old.head (take c.min-count.result c.args.segment.now))) in
    unread_within c.append.new.self c.place.result c.unread.result.now c.walk_from-walk.result c.walk_from-walk.ensures c.unread.ensures within

pub returns-clause-taken : goal.returns-clause-taken
returns-clause-taken c =
    let old = c.args.self.now in
    let chunk = take c.min-count.result c.args.segment.now in
    let fits : IsBytes c.args.segment.now = λ i. omega (arith, c.type_inv.segment i) in
    let room : length old.head + length chunk ≤ IPP_HEAD_BYTES = omega (arith, c.requires.awaits.1, c.room.ensures, c.min.ensures, c.min-count.ensures, length-take c.min-count.result c.args.segment.now) in
    lacking_taken old c.append.new.self c.advance.new.self chunk c.unread.result.now c.place.result c.walk_from-walk.result (length c.head-kept.result.now) (IsBytes-take c.min-count.result c.args.segment.now fits) c.requires.awaits c.requires.read c.requires.begun room
    ((c.in_ok-append.ensures {u = tt}).ok) c.place.ensures c.unread.ensures c.walk_from-walk.ensures (ap length c.head-kept.ensures) c.advance.ensures

pub returns-clause-grows : goal.returns-clause-grows
returns-clause-grows c =
    advanced_grows c.args.self.now c.append.new.self c.advance.new.self (take c.min-count.result c.args.segment.now) c.walk_from-walk.result c.walk_from-walk.result.fault (length c.head-kept.result.now) ((c.in_ok-append.ensures {u = tt}).ok) (ap length c.head-kept.ensures) refl c.advance.ensures
