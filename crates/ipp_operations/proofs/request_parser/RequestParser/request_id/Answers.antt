use Rattle.std.proofs.Common.{ap, sym, ◌∙◌, subst}
use Rattle.ipp_operations.specs.ParsedRequest.{request_id_of}
use Rattle.ipp_operations.specs.Reader.{ReaderState, HasRead}
use Rattle.ipp_operations.proofs.BodyInParts.{id_kept}
use Rattle.ipp_operations.proofs.request_parser.RequestParser.request_id.Goals as goal

pub returns : goal.returns
returns c = λ bytes has_read.
    let reader : ReaderState = record { decoder = c.self.inside.decoder; document = c.self.inside.document } in
    let same : HasRead bytes reader = subst (λ (r : ReaderState). HasRead bytes r) (sym c.self.view_is) has_read in
    c.request_id.ensures ∙ ap request_id_of c.head.ensures ∙ id_kept bytes reader.decoder same.reaches
