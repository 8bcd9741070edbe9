use Rattle.std.proofs.Common.{rules, sym, ap, ◌≡◌, ◌∙◌}
use Rattle.std.proofs.lemmas.Bool.{eqb-true}
use Rattle.std.proofs.lemmas.List.{nil_from_length}
use Rattle.http_front.specs.declared.awaited.Awaited.TheVariants as await
use Rattle.http_front.specs.Stream.{HttpState}
use Rattle.http_front.proofs.ReaderPlace.{fed_as, fed_after, fed_alone, reaches_still}
use Rattle.http_front.proofs.reader.HttpReader.feed.Goals as goal

pub returns-in-Nothing-clause-fed : goal.returns-in-Nothing-clause-fed
returns-in-Nothing-clause-fed c =
    let over : c.args.self.now.awaited ≡ await.Nothing = sym c.awaited.ensures ∙ c.in-Nothing.is in
    λ stream given reaches. reaches_still stream given c.args.segment.now c.args.self.now over reaches

pub returns-then-is_empty-clause-fed : goal.returns-then-is_empty-clause-fed
returns-then-is_empty-clause-fed c =
    fed_as c.args.self.now _ c.args.segment.now (fed_alone c.args.self.now c.self.inside.spare c.bytes.result.now c.pass.new.self c.args.segment.now c.swap.new.x c.self.inside.awaited (ap (λ (r : HttpState). r.awaited) c.self.view_is) (sym c.rest.ensures ∙ nil_from_length c.rest.result.now (eqb-true _ 0 (sym c.is_empty.ensures ∙ c.if-is_empty.true))) c.bytes.ensures c.pass.ensures (search rules))

pub returns-clause-fed : goal.returns-clause-fed
returns-clause-fed c =
    fed_as c.args.self.now _ c.args.segment.now (fed_after c.args.self.now c.self.inside.lent c.self.inside.unread c.args.segment.now c.pass-2.new.self c.self.inside.awaited c.self.view_is c.self.invariant (search rules))

pub returns-clause-over : goal.returns-clause-over
returns-clause-over c = λ over. absurd (c.in_default.not-Nothing (c.awaited.ensures ∙ over))
