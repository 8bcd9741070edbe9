use Rattle.std.proofs.Common.{◌<◌, take, sym, subst, arith}
use Rattle.std.proofs.lemmas.List.{length-take}
use Rattle.std.proofs.lemmas.Result.{IfOk-weaker}
use Rattle.ipp_codec.specs.Decoder.{DecoderState, TakesIn}
use Rattle.ipp_codec.proofs.Fields.{IsBytes, IsBytes-take}
use Rattle.ipp_codec.proofs.Segments.{header_taken}
use Rattle.ipp_codec.proofs.decoder.Decoder.take_some.Goals as goal

pub returns-then-walked-lt-HEADER_BYTES-clause-taken : goal.returns-then-walked-lt-HEADER_BYTES-clause-taken
returns-then-walked-lt-HEADER_BYTES-clause-taken c =
    let old = c.args.self.now in
    let segment = c.args.segment.now in
    let fits : IsBytes segment = λ i. omega (arith, c.type_inv.segment i) in
    let low : old.walked < 8 = omega (arith, c.walked.ensures.walked, c.if-walked-lt-HEADER_BYTES.true) in
    IfOk-weaker c.take_header.result _ _
    (λ count is. subst (λ (d : DecoderState). TakesIn old (take count segment) d) (sym is.1) (header_taken old (take count segment) (IsBytes-take count segment fits) c.requires.awaits low (omega (arith, is.0, length-take count segment))))
    c.take_header.ensures.taken
