use Rattle.std.proofs.Common.{◌≡◌, ◌<◌, ◌≤◌, length, get_or, arith, ap, refl, sym, ◌∙◌, subst}
use Rattle.plan_checker.specs.Beside.{NotAbove, NotStranded}
use Rattle.plan_prices.proofs.Each.{none_is_true, each_more, past_end}
use Rattle.plan_checker.proofs.beside.none_elsewhere.Goals as goal

pub returns-then-not-not_above : goal.returns-then-not-not_above
returns-then-not-not_above c =
    let job : c.job-item.result ≡ get_or c.args.class.now.ids c.loop-job.job-index c.job-item.result = c.job-item.is ∙ ap (λ ids. get_or ids c.loop-job.job-index c.job-item.result) c.ids-job-items.ensures.ids in
    let below : c.loop-job.job-index < length c.args.class.now.ids = omega (arith, c.loop-job-test.true, ap length c.ids-job-items.ensures.ids) in
    (none_is_true, λ none. none_is_true (c.if-not-not_above.ensures.1 (subst (NotAbove c.args.above.now) (sym job) (none.above c.loop-job.job-index c.job-item.result below))))

pub returns-then-not-not_stranded : goal.returns-then-not-not_stranded
returns-then-not-not_stranded c =
    let job : c.job-item.result ≡ get_or c.args.class.now.ids c.loop-job.job-index c.job-item.result = c.job-item.is ∙ ap (λ ids. get_or ids c.loop-job.job-index c.job-item.result) c.ids-job-items.ensures.ids in
    let below : c.loop-job.job-index < length c.args.class.now.ids = omega (arith, c.loop-job-test.true, ap length c.ids-job-items.ensures.ids) in
    (none_is_true, λ none. none_is_true (c.if-not-not_stranded.ensures.1 (subst (NotStranded c.args.stranded.now) (sym job) (none.stranded c.loop-job.job-index c.job-item.result below))))

pub loop-job-preserved : goal.loop-job-preserved
loop-job-preserved c =
    let job : c.job-item.result ≡ get_or c.args.class.now.ids c.loop-job.job-index c.job-item.result = c.job-item.is ∙ ap (λ ids. get_or ids c.loop-job.job-index c.job-item.result) c.ids-job-items.ensures.ids in
    let below : c.loop-job.job-index < length c.args.class.now.ids = omega (arith, c.loop-job-test.true, ap length c.ids-job-items.ensures.ids) in
    record {
      above = each_more (NotAbove c.args.above.now) c.args.class.now.ids c.loop-job.job-index c.job-item.result below job (c.if-not-not_above.ensures.0 refl) c.loop-job.invariant.above;
      stranded = each_more (NotStranded c.args.stranded.now) c.args.class.now.ids c.loop-job.job-index c.job-item.result below job (c.if-not-not_stranded.ensures.0 refl) c.loop-job.invariant.stranded;
    }

pub returns : goal.returns
returns c =
    let all : length c.args.class.now.ids ≤ c.loop-job.job-index = past_end _ _ _ c.ids-job-items.ensures.ids c.loop-job-test.false in
    ((λ _. record { above = λ k d l. c.loop-job.invariant.above k d (omega arith); stranded = λ k d l. c.loop-job.invariant.stranded k d (omega arith) }), λ _. refl)
