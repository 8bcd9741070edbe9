use Rattle.std.proofs.Common.{◌≡◌, arith, refl, false, Contains, is_some, sym, ◌∙◌, subst}
use Rattle.plan_prices.specs.declared.plan.PlannedClass.{PlannedClass}
use Rattle.plan_prices.proofs.Each.{none_is_true, each_more}
use Rattle.plan_checker.proofs.Above.{found_job, missed_job}
use Rattle.plan_checker.proofs.beside.not_above.Goals as goal

pub returns-then-is_some : goal.returns-then-is_some
returns-then-is_some c =
    let known : Contains c.class-item.result.problem.ids c.args.job = found_job c.class-item.result.problem.ids c.args.job c.place.result (sym c.if-is_some.ensures) c.place.ensures in
    (none_is_true, λ none. absurd (none c.loop-class.class-index c.class-item.result c.loop-class-test.true (subst (λ (class : PlannedClass). Contains class.problem.ids c.args.job) c.class-item.is known)))

pub loop-class-preserved : goal.loop-class-preserved
loop-class-preserved c =
    let none : is_some c.place.result ≡ false = sym c.is_some.ensures ∙ c.if-is_some.false in
    each_more (λ class. ¬ Contains class.problem.ids c.args.job) c.args.above.now c.loop-class.class-index c.class-item.result c.loop-class-test.true c.class-item.is
    (missed_job c.class-item.result.problem.ids c.args.job c.place.result none c.place.ensures) c.loop-class.invariant

pub returns : goal.returns
returns c = ((λ _ k d l. c.loop-class.invariant k d (omega arith)), λ _. refl)
