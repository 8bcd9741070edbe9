use Rattle.std.proofs.Common.{◌≡◌, ◌<◌, ◌≤◌, List, length, take, get_or, arith, refl, sym, ap, ◌∙◌, subst}
use Rattle.plan_prices.specs.declared.plan.PlannedClass.{PlannedClass}
use Rattle.plan_checker.specs.Beside.{AboveHaveWays}
use Rattle.plan_checker.specs.Plan.{IsVerdictAt}
use Rattle.plan_checker.specs.declared.verdict.Verdict.TheVariants.{Yes, No}
use Rattle.plan_checker.proofs.Plans.{verdict_at, yes_more, above_ways, proved_plan, best_classes, beaten_timetables, yes_in_proved, fault_is_no, faulty_is_not_yes}
use Rattle.plan_checker.proofs.plan_verdict.check_plan.Goals as goal

pub judge-requires-clause-above : goal.judge-requires-clause-above
judge-requires-clause-above c =
    let plan = c.args.plan.now in
    let count : length c.classes-classes.result.now ≡ length plan.classes = ap length c.classes-classes.ensures in
    subst (λ (xs : List PlannedClass). AboveHaveWays (take c.loop-place.place xs)) (sym c.classes-classes.ensures)
    (above_ways plan c.requires c.loop-place.place (omega (arith, c.loop-place-test.true, count)) c.loop-place.invariant.yes)

pub loop-place-preserved : goal.loop-place-preserved
loop-place-preserved c =
    let plan = c.args.plan.now in
    let count : length c.classes-classes.result.now ≡ length plan.classes = ap length c.classes-classes.ensures in
    let below : c.loop-place.place < length plan.classes = omega (arith, c.loop-place-test.true, count) in
    let item : c.index-classes-place.result ≡ get_or plan.classes c.loop-place.place c.index-classes-place.result = c.index-classes-place.is ∙ ap (λ xs. get_or xs c.loop-place.place c.index-classes-place.result) c.classes-classes.ensures in
    let verdict : IsVerdictAt plan c.loop-place.place Yes =
    verdict_at plan c.classes-classes.result.now c.stranded.result.now c.loop-place.place c.index-classes-place.result Yes c.classes-classes.ensures c.stranded.ensures c.loop-place-test.true c.index-classes-place.is (c.in-Yes.ensures {u = tt}) in
    yes_more plan c.loop-place.place c.index-classes-place.result c.loop-place.invariant below item c.ids-class.ensures.class verdict

pub returns-in-No : goal.returns-in-No
returns-in-No c =
    let plan = c.args.plan.now in
    let fault = c.in-No.fault in
    let count : length c.classes-classes.result.now ≡ length plan.classes = ap length c.classes-classes.ensures in
    let below : c.loop-place.place < length plan.classes = omega (arith, c.loop-place-test.true, count) in
    let verdict : IsVerdictAt plan c.loop-place.place (No fault) =
    verdict_at plan c.classes-classes.result.now c.stranded.result.now c.loop-place.place c.index-classes-place.result (No fault) c.classes-classes.ensures c.stranded.ensures c.loop-place-test.true c.index-classes-place.is (c.in-No.ensures {u = tt}) in
    record {
      verdict = (below, c.loop-place.invariant.yes, verdict);
      yes = (
        (λ e. absurd (fault_is_no c.loop-place.place fault e)),
        λ proved. absurd (faulty_is_not_yes fault (yes_in_proved plan proved c.loop-place.place below c.index-classes-place.result (No fault) verdict)),
      );
      best = λ e. absurd (fault_is_no c.loop-place.place fault e);
      timetables = λ e. absurd (fault_is_no c.loop-place.place fault e);
    }

pub returns-clause-verdict : goal.returns-clause-verdict
returns-clause-verdict c =
    let plan = c.args.plan.now in
    let count : length c.classes-classes.result.now ≡ length plan.classes = ap length c.classes-classes.ensures in
    λ above before. c.loop-place.invariant.yes above (omega (arith, before, c.loop-place-test.false, count))

pub returns-clause-yes : goal.returns-clause-yes
returns-clause-yes c =
    let plan = c.args.plan.now in
    let count : length c.classes-classes.result.now ≡ length plan.classes = ap length c.classes-classes.ensures in
    let all : length plan.classes ≤ c.loop-place.place = omega (arith, c.loop-place-test.false, count) in
    ((λ _. proved_plan plan c.requires c.loop-place.place all c.loop-place.invariant), λ _. refl)

pub returns-clause-best : goal.returns-clause-best
returns-clause-best c =
    let plan = c.args.plan.now in
    let count : length c.classes-classes.result.now ≡ length plan.classes = ap length c.classes-classes.ensures in
    let all : length plan.classes ≤ c.loop-place.place = omega (arith, c.loop-place-test.false, count) in
    λ _. best_classes plan c.requires c.loop-place.place all c.loop-place.invariant

pub returns-clause-timetables : goal.returns-clause-timetables
returns-clause-timetables c =
    let plan = c.args.plan.now in
    let count : length c.classes-classes.result.now ≡ length plan.classes = ap length c.classes-classes.ensures in
    let all : length plan.classes ≤ c.loop-place.place = omega (arith, c.loop-place-test.false, count) in
    λ _. beaten_timetables plan c.requires c.loop-place.place all c.loop-place.invariant
