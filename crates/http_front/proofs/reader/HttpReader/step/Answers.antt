use Rattle.std.proofs.Common.{rules, subst, sym, ◌≡◌}
use Rattle.http_front.specs.declared.item.HttpItem.TheVariants as item
use Rattle.http_front.specs.declared.reader.Step.TheVariants as step
use Rattle.http_front.specs.Stream.{Steps, body_by}
use Rattle.http_front.proofs.Prefixes.{invites, tail}
use Rattle.http_front.proofs.reader.HttpReader.step.Goals as goal

pub returns-in-Invitation : goal.returns-in-Invitation
returns-in-Invitation c =
    let old = c.args.self.now in
    let new : c.pass.new.self ≡ tail old 0 (body_by c.in-Invitation.framing c.in-Invitation.closes) = search (rules, c.pass.ensures, c.body_by.ensures) in
    subst (λ new. Steps old (step.Gives item.Continue) new) (sym new) (invites old c.in-Invitation.framing c.in-Invitation.closes (sym (c.in-Invitation.ensures {u = tt})))
