use Rattle.std.proofs.Common.{rules, subst, sym, ◌≡◌, take, Ok, Err}
use Rattle.http_front.specs.declared.item.HttpItem.TheVariants as item
use Rattle.http_front.specs.declared.reader.Step.TheVariants as step
use Rattle.http_front.specs.Head.{Asks}
use Rattle.http_front.specs.Stream.{Steps, after_head}
use Rattle.http_front.proofs.Prefixes.{tail, refuses_head, takes_head}
use Rattle.http_front.proofs.reader.HttpReader.take_head.Goals as goal

pub returns-in-Err : goal.returns-in-Err
returns-in-Err c =
    let old = c.args.self.now in
    let asks : Asks (take c.args.count old.rest) (Err c.in-Err.refusal) = rw (sym c.rest.ensures) c.in-Err.ensures in
    rw (c.refuse.ensures.state, c.refuse.ensures.answer) (refuses_head old c.args.count c.in-Err.refusal c.requires.head c.requires.begins c.requires.whole asks)

pub returns-in-Ok : goal.returns-in-Ok
returns-in-Ok c =
    let old = c.args.self.now in
    let asks : Asks (take c.args.count old.rest) (Ok c.in-Ok.request) = rw (sym c.rest.ensures) c.in-Ok.ensures in
    let new : c.pass.new.self ≡ tail old c.args.count (after_head c.in-Ok.request) = search (rules, c.pass.ensures, c.after_head.ensures) in
    subst (λ new. Steps old (step.Gives (item.Head c.in-Ok.request.closes)) new) (sym new) (takes_head old c.args.count c.in-Ok.request c.requires.head c.requires.begins c.requires.whole asks)
