use Rattle.std.proofs.Common.{arith, ◌≡◌, ◌≤◌, ◌∙◌, ◌-◌, ◌++◌, ◌∷◌, [], ℕ, suc, true, List, length, Option, unwrap_or, sym, ap, subst}
use Rattle.base_types.specs.declared.limits.TheConstants.Limits.{HIGHEST_PRIORITY}
use Rattle.plan_prices.specs.declared.plan.PlannedClass.{PlannedClass}
use Rattle.print_room.specs.State.{State}
use Rattle.print_room.specs.Ready.{ready_of, class_of}
use Rattle.print_room.specs.GoodPlan.{is_some_job, IsPlannedBest}
use Rattle.print_room.specs.Gathered.{Gathered, gathered_of, highest_within}
use Rattle.print_room.proofs.Planned.{PlannedAbove}
use Rattle.print_room.proofs.ReadyJobs.{highest_least, some_highest}
use Rattle.print_room.proofs.ClassProblems.{above_few, few_ids}
use Rattle.print_room.proofs.Priorities.{none_planned, skip_to, next_some, all_planned}
use Rattle.print_room.proofs.room.PrintRoom.planned_classes.Goals as goal

pub loop-next-init : goal.loop-next-init
loop-next-init g c =
    let s : State = c.args.self.now in
    let waits : List ℕ = c.in_ok-waits.waits.items in
    let is : unwrap_or c.highest_within-next.result 0 ≡ highest_within HIGHEST_PRIORITY (gathered_of s) = c.highest_within-next.ensures ∙ ap (λ (gs : List Gathered). highest_within HIGHEST_PRIORITY gs) c.requires.ready in
    let none : PlannedAbove s c.args.now HIGHEST_PRIORITY c.new-classes.result.items waits = none_planned s c.args.now c.new-classes.result.items waits c.new-classes.ensures.items c.in_ok-waits.ensures.waits c.in_ok-waits.ensures.short in
    (subst (λ (p : ℕ). PlannedAbove s c.args.now p c.new-classes.result.items waits) (sym is) (skip_to s c.args.now HIGHEST_PRIORITY c.new-classes.result.items waits none), HIGHEST_PRIORITY, is)

pub plan_class-requires-clause-one_each : goal.plan_class-requires-clause-one_each
plan_class-requires-clause-one_each g c = c.loop-next.invariant.0.one_each

pub plan_class-requires-clause-short : goal.plan_class-requires-clause-short
plan_class-requires-clause-short g c = λ k d below.
    omega (arith, c.loop-next.invariant.0.short k d below, above_few c.args.self.now c.requires.spool (unwrap_or c.loop-next.next 0))

pub loop-next-smaller : goal.loop-next-smaller
loop-next-smaller g c =
    let s : State = c.args.self.now in
    let below : ℕ = c.level-below.result - 1 in
    let is : unwrap_or c.highest_within-next-in-Some.result 0 ≡ highest_within below (gathered_of s) = c.highest_within-next-in-Some.ensures ∙ ap (λ (gs : List Gathered). highest_within below gs) c.requires.ready in
    let was : unwrap_or c.loop-next.next 0 ≡ c.in-Some.priority = ap (λ (o : Option ℕ). unwrap_or o 0) c.in-Some.is in
    omega (arith, is, was, highest_least s below (ready_of s), c.level-below.ensures.value, c.level-below.ensures.in_range.0)

pub loop-next-preserved : goal.loop-next-preserved
loop-next-preserved g c =
    let s : State = c.args.self.now in
    let below : ℕ = c.level-below.result - 1 in
    let classes : List PlannedClass = c.loop-next.classes.items in
    let waits : List ℕ = c.loop-next.waits.items in
    let class : PlannedClass = c.in_ok-class.field-0.class in
    let after : List ℕ = c.in_ok-class.field-0.left.items in
    let is : unwrap_or c.highest_within-next-in-Some.result 0 ≡ highest_within below (gathered_of s) = c.highest_within-next-in-Some.ensures ∙ ap (λ (gs : List Gathered). highest_within below gs) c.requires.ready in
    let one : c.in-Some.priority ≡ suc below = omega (arith, c.level-below.ensures.value, c.level-below.ensures.in_range.0) in
    let was : unwrap_or c.loop-next.next 0 ≡ c.in-Some.priority = ap (λ (o : Option ℕ). unwrap_or o 0) c.in-Some.is in
    let above : PlannedAbove s c.args.now (suc below) classes waits = subst (λ (p : ℕ). PlannedAbove s c.args.now p classes waits) (was ∙ one) c.loop-next.invariant.0 in
    let found : is_some_job (class_of s c.in-Some.priority) ≡ true = some_highest s c.loop-next.invariant.1 c.in-Some.priority (ready_of s) (sym c.loop-next.invariant.2 ∙ was) c.level-below.ensures.in_range.0 in
    let some : is_some_job (class_of s (suc below)) ≡ true = subst (λ (p : ℕ). is_some_job (class_of s p) ≡ true) one found in
    let level : class.priority ≡ suc below = c.in_ok-class.ensures.priority ∙ one in
    let best : IsPlannedBest s waits class = c.in_ok-class.ensures.best in
    let few : length class.problem.ids ≤ length (class_of s (suc below)) = subst (λ (p : ℕ). length class.problem.ids ≤ length (class_of s p)) level (few_ids s class.priority waits class.problem best.problem) in
    let next : PlannedAbove s c.args.now below (classes ++ class ∷ []) after = next_some s c.args.now below classes waits after class above some level best c.in_ok-class.ensures.left c.in_ok-class.ensures.one_each few c.in_ok-class.ensures.grows in
    let pushed : c.push.new.self.items ≡ classes ++ class ∷ [] = (c.in_ok-push.ensures {u = tt}).items in
    rw pushed (subst (λ (p : ℕ). PlannedAbove s c.args.now p (classes ++ class ∷ []) after) (sym is) (skip_to s c.args.now below (classes ++ class ∷ []) after next), below, is)

pub returns-clause-priorities : goal.returns-clause-priorities
returns-clause-priorities g c =
    let s : State = c.args.self.now in
    let none : unwrap_or c.loop-next.next 0 ≡ 0 = ap (λ (o : Option ℕ). unwrap_or o 0) c.in_default.is in
    all_planned s c.args.now c.loop-next.classes.items c.loop-next.waits.items (subst (λ (p : ℕ). PlannedAbove s c.args.now p c.loop-next.classes.items c.loop-next.waits.items) none c.loop-next.invariant.0)

pub returns-clause-best : goal.returns-clause-best
returns-clause-best g c = c.loop-next.invariant.0.best
