use Rattle.std.proofs.Common.{rules, arith, subst, sym, ◌≡◌, ◌<◌, ◌≤◌, length, min}
use Rattle.http_front.specs.declared.item.HttpItem.TheVariants as item
use Rattle.http_front.specs.declared.reader.Step.TheVariants as step
use Rattle.http_front.specs.Stream.{Steps}
use Rattle.http_front.proofs.Steps.{lends, lends_less}
use Rattle.http_front.proofs.reader.HttpReader.step_body.Goals as goal

pub returns : goal.returns
returns c =
    let old = c.args.self.now in
    let size = c.min-length.result in
    let is : size ≡ min (length old.rest) c.args.count = search (rules, c.min-length.ensures, c.rest.ensures) in
    let within : size ≤ length old.rest = omega (arith, is) in
    let fits : size ≤ c.args.count = omega (arith, is) in
    let some : 0 < size = omega (arith, c.if-length-eq0.false) in
    subst (λ new. Steps old (step.Gives item.BodyPart) new) (sym c.lend.ensures) (lends old c.args.count c.args.next size c.requires within fits, tt, lends_less old c.args.count c.args.next size some within)
