use Rattle.std.proofs.Common.{◌≡◌, ◌≤◌, ◌+◌, ℕ, length, take, refl, sym, ap, subst, arith}
use Rattle.std.proofs.lemmas.List.{length-take}
use Rattle.base_types.specs.declared.limits.TheConstants.Limits.{IPP_HEAD_BYTES}
use Rattle.ipp_codec.specs.Decoder.{TakesIn}
use Rattle.ipp_codec.proofs.Fields.{IsBytes, IsBytes-take}
use Rattle.ipp_codec.proofs.Segments.{elements_taken}
use Rattle.ipp_codec.proofs.decoder.Decoder.take_elements.Goals as goal

pub returns-clause-taken : goal.returns-clause-taken
returns-clause-taken c =
    let old = c.args.self.now in
    let segment = c.args.segment.now in
    let chunk = take c.min.result segment in
    let fits : IsBytes segment = λ i. omega (arith, c.type_inv.segment i) in
    let long : length chunk ≡ c.min.result = omega (arith, c.min.ensures, length-take c.min.result segment) in
    let room : length old.head + length chunk ≤ IPP_HEAD_BYTES = omega (arith, c.requires.awaits.1, c.room.ensures, c.min.ensures, long) in
    let taken : TakesIn old chunk c.advance.new.self =
    elements_taken old c.append.new.self c.advance.new.self chunk (take c.kept_of.result chunk) c.place.result c.walk_from-walk.result (length c.head-kept.result.now) c.kept_of.result (IsBytes-take c.min.result segment fits)
    c.requires.awaits c.requires.read c.requires.between room c.place.ensures c.walk_from-walk.ensures c.kept_of.ensures refl ((c.in_ok-append.ensures {u = tt}).ok) (ap length c.head-kept.ensures) c.advance.ensures in
    subst (λ (n : ℕ). TakesIn old (take n segment) c.advance.new.self) (sym long) taken
