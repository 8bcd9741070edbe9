use Rattle.std.proofs.Common.{subst, sym, refl, arith, ◌≡◌, ◌∙◌, []}
use Rattle.std.proofs.lemmas.List.{append-nil}
use Rattle.http_front.specs.declared.reader.Step.TheVariants as step
use Rattle.http_front.specs.declared.awaited.Awaited.TheVariants as await
use Rattle.http_front.specs.Stream.{Steps, Advances, HasRead, elements_of, PrefixIs, Waits}
use Rattle.http_front.proofs.Prefixes.{rank_passed}
use Rattle.http_front.proofs.Steps.{advances_nothing, advances_then, tells_all}
use Rattle.http_front.proofs.reader.HttpReader.next_item.Goals as goal

pub loop-item-init : goal.loop-item-init
loop-item-init c = (advances_nothing c.args.self.now, omega arith)

pub returns-in-Nothing-clause-answer : goal.returns-in-Nothing-clause-answer
returns-in-Nothing-clause-answer c =
    let old = c.args.self.now in
    let over : old.awaited ≡ await.Nothing = sym c.awaited.ensures ∙ c.in-Nothing.is in
    (advances_nothing old, tells_all old (subst (λ awaited. PrefixIs awaited old.rest Waits) (sym over) refl))

pub returns-in-Gives-clause-answer : goal.returns-in-Gives-clause-answer
returns-in-Gives-clause-answer c =
    let gave : Steps c.loop-item.self (step.Gives c.in-Gives.item) c.step.new.self = c.in-Gives.ensures in
    (advances_then c.args.self.now c.loop-item.self c.step.new.self (elements_of c.in-Gives.item c.step.new.self.part) c.loop-item.invariant.0 gave.0, gave.1)

pub loop-item-preserved : goal.loop-item-preserved
loop-item-preserved c =
    let passed : Steps c.loop-item.self step.Passes c.step.new.self = c.in-Passes.ensures in
    (advances_then c.args.self.now c.loop-item.self c.step.new.self [] c.loop-item.invariant.0 passed.0, omega (arith, c.loop-item.invariant.1, rank_passed c.loop-item.self c.step.new.self passed.1))

pub returns-in-Waits-clause-answer : goal.returns-in-Waits-clause-answer
returns-in-Waits-clause-answer c =
    let waits : Steps c.loop-item.self step.Waits c.step.new.self = c.in-Waits.ensures in (
      subst (λ new. Advances c.args.self.now [] new) (sym waits.0) c.loop-item.invariant.0,
      λ stream given reaches. tells_all c.loop-item.self waits.1 stream given (subst (λ g. HasRead stream g c.loop-item.self) (append-nil given) (c.loop-item.invariant.0 stream given reaches)),
    )

pub returns-in-Gives-clause-falls : goal.returns-in-Gives-clause-falls
returns-in-Gives-clause-falls c = λ some.
    let gave : Steps c.loop-item.self (step.Gives c.in-Gives.item) c.step.new.self = c.in-Gives.ensures in
    omega (arith, c.loop-item.invariant.1, gave.2)
