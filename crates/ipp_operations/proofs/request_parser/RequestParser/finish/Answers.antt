use Rattle.std.proofs.Common.{sym, subst}
use Rattle.std.proofs.lemmas.Result.{IfOk-weaker}
use Rattle.ipp_operations.specs.Reader.{ReaderState, HasRead}
use Rattle.ipp_operations.proofs.BodyInParts.{holds}
use Rattle.ipp_operations.proofs.request_parser.RequestParser.finish.Goals as goal

pub returns-clause-asked : goal.returns-clause-asked
returns-clause-asked c =
    let reader : ReaderState = record { decoder = c.self.inside.decoder; document = c.self.inside.document } in
    IfOk-weaker c.parse_header.result _ _
    (λ parsed asks bytes has_read. let same : HasRead bytes reader = subst (λ (r : ReaderState). HasRead bytes r) (sym c.self.view_is) has_read in asks bytes same.reaches (holds bytes reader same))
    c.parse_header.ensures.asked
