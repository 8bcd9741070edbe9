use Rattle.std.proofs.Common.{◌≡◌, ◌++◌, Bool, true, false, cond, List, ℕ, drop, sym, ap, ◌∙◌, subst}
use Rattle.std.proofs.lemmas.List.{take_rest}
use Rattle.std.proofs.lemmas.Result.{on_ok_weaker}
use Rattle.ipp_codec.specs.declared.stage.Stage.TheVariants.{Awaiting, Whole, Faulty}
use Rattle.ipp_operations.specs.Reader.{ReaderState, HasRead, reads_document}
use Rattle.ipp_operations.proofs.BodyInParts.{read_no_head, read_head}
use Rattle.ipp_operations.proofs.request_parser.RequestParser.feed.Goals as goal

pub returns-in-Ok-More-clause-fed : goal.returns-in-Ok-More-clause-fed
returns-in-Ok-More-clause-fed c = λ bytes has_read.
    let fed = rw c.in-Ok-More.field-0-is at c.in-Ok-More.ensures.fed in
    let reader : ReaderState = record { decoder = c.self.inside.decoder; document = c.self.inside.document } in
    let same : HasRead bytes reader = subst (λ (r : ReaderState). HasRead bytes r) (sym c.self.view_is) has_read in
    read_no_head bytes c.args.segment.now reader.document reader.decoder c.feed.new.self fed.0 c.feed.ensures.over (λ h. let e : Whole ≡ Awaiting = sym h ∙ fed.1 in absurd cc) same

pub returns-then-not-reads_document-clause-fed : goal.returns-then-not-reads_document-clause-fed
returns-then-not-reads_document-clause-fed c = λ bytes has_read.
    let count = c.in-Ok-Head.count in
    let reader : ReaderState = record { decoder = c.self.inside.decoder; document = c.self.inside.document } in
    let fed = rw c.in-Ok-Head.field-0-is at c.in-Ok-Head.ensures.fed in
    let reads : reads_document c.feed.new.self.head ≡ false = ap reads_document (sym c.head.ensures) ∙ sym c.reads_document.ensures ∙ c.if-not-reads_document.true in
    let same : HasRead bytes reader = subst (λ (r : ReaderState). HasRead bytes r) (sym c.self.view_is) has_read in
    read_head bytes c.args.segment.now reader.document reader.document reader.decoder c.feed.new.self count fed.0 c.feed.ensures.over fed.1 fed.2 (sym (ap (λ (b : Bool). cond b (reader.document ++ drop count c.args.segment.now) reader.document) reads)) same

pub returns-in-Err-Fault-clause-fed : goal.returns-in-Err-Fault-clause-fed
returns-in-Err-Fault-clause-fed c = λ bytes has_read.
    let fed = rw c.in-Err-Fault.field-0-is at c.in-Err-Fault.ensures.fed in
    let reader : ReaderState = record { decoder = c.self.inside.decoder; document = c.self.inside.document } in
    let same : HasRead bytes reader = subst (λ (r : ReaderState). HasRead bytes r) (sym c.self.view_is) has_read in
    read_no_head bytes c.args.segment.now reader.document reader.decoder c.feed.new.self fed.0 c.feed.ensures.over (λ h. let e : Whole ≡ Faulty c.in-Err-Fault.field-0-0 = sym h ∙ fed.1 in absurd cc) same

pub returns-else-is_err-clause-fed : goal.returns-else-is_err-clause-fed
returns-else-is_err-clause-fed c =
    let segment = c.args.segment.now in
    let count = c.in-Ok-Head.count in
    let reader : ReaderState = record { decoder = c.self.inside.decoder; document = c.self.inside.document } in
    let new = c.feed.new.self in
    let fed = rw c.in-Ok-Head.field-0-is at c.in-Ok-Head.ensures.fed in
    let reads : reads_document new.head ≡ true = ap reads_document (sym c.head.ensures) ∙ sym c.reads_document.ensures ∙ c.if-not-reads_document.false in
    on_ok_weaker c.push-kept.result
    (λ more bytes has_read.
    let same : HasRead bytes reader = subst (λ (r : ReaderState). HasRead bytes r) (sym c.self.view_is) has_read in
    let later = more ∙ ap (λ (l : List ℕ). reader.document ++ l) (take_rest segment count) ∙ sym (ap (λ (b : Bool). cond b (reader.document ++ drop count segment) reader.document) reads) in
    read_head bytes segment reader.document c.push-kept.new.self reader.decoder new count fed.0 c.feed.ensures.over fed.1 fed.2 later same)
    c.push-kept.ensures.ok
