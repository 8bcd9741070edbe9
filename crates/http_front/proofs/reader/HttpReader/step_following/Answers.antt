use Rattle.std.proofs.Common.{rules, subst, sym, ◌≡◌}
use Rattle.http_front.specs.declared.item.HttpItem.TheVariants as item
use Rattle.http_front.specs.declared.reader.Step.TheVariants as step
use Rattle.http_front.specs.declared.awaited.Awaited.TheVariants as await
use Rattle.http_front.specs.declared.awaited.Following.TheVariants as next
use Rattle.http_front.specs.Stream.{Steps, after_body}
use Rattle.http_front.proofs.Prefixes.{tail, ends_body}
use Rattle.http_front.proofs.reader.HttpReader.step_following.Goals as goal

pub returns-in-Close : goal.returns-in-Close
returns-in-Close c =
    let old = c.args.self.now in
    let is : old.awaited ≡ await.Body 0 (next.Close c.in-Close.last) = search (rules, c.requires, c.in-Close.is) in
    let new : c.pass.new.self ≡ tail old 0 (after_body c.in-Close.last) = search (rules, c.pass.ensures, c.after_body.ensures) in
    subst (λ new. Steps old (step.Gives item.BodyEnd) new) (sym new) (ends_body old c.in-Close.last is)
