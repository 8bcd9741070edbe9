-- A plan's classes, judged one by one from the top.
use Rattle.std.proofs.Common.{◌≡◌, ℕ, ◌+◌, ◌<◌, ◌≤◌, List, length, take, get_or, All, Some, arith, sym, ap, ◌∙◌, subst, inl, inr}
use Rattle.std.specs.Prelude.{slice_get}
use Rattle.std.proofs.lemmas.List.{get_or-take, length-take}
use Rattle.std.proofs.lemmas.Option.{get_or_from_slice_get, slice_get-get_or, slice_get_within}
use Rattle.base_types.specs.declared.needs.Stranded.{Stranded}
use Rattle.plan_problem.specs.Class.{IsClass}
use Rattle.plan_prices.specs.declared.plan.PlannedClass.{PlannedClass}
use Rattle.plan_prices.specs.Plan.{PlanRecord, HasOneListEach}
use Rattle.plan_prices.specs.Way.{IsWay}
use Rattle.plan_prices.specs.Total.{IsBest, total_of}
use Rattle.plan_prices.specs.Prices.{IsProved}
use Rattle.plan_prices.specs.Timetable.{Slot, IsTimetable, slots_total}
use Rattle.plan_prices.proofs.Names.{way_from_parts}
use Rattle.plan_prices.proofs.Timetables.{best_of_timetables}
use Rattle.plan_prices.proofs.Each.{each_more, last_or_before}
use Rattle.plan_checker.specs.Beside.{AboveHaveWays}
use Rattle.plan_checker.specs.Verdict.{IsVerdict}
use Rattle.plan_checker.specs.Plan.{beside_at, IsVerdictAt, YesAbove, IsProvedPlan}
use Rattle.plan_checker.specs.declared.verdict.Fault.{Fault}
use Rattle.plan_checker.specs.declared.verdict.Verdict.{Verdict}
use Rattle.plan_checker.specs.declared.verdict.Verdict.TheVariants.{Yes, No as Faulty}
use Rattle.plan_checker.specs.declared.verdict.PlanVerdict.TheVariants.{No, Yes as AllYes}
use Rattle.plan_checker.proofs.Proved.{proved_from_yes, yes_from_proved, only_yes, best_from_proved}

-- the verdict on a class that the code read is the one on the class at its place
pub verdict_at : (plan : PlanRecord) (cs : List PlannedClass) (ss : List Stranded) (place : ℕ) (item : PlannedClass) (v : Verdict) → cs ≡ plan.classes → ss ≡ plan.stranded → place < length cs → item ≡ get_or cs place item
    → IsVerdict (record { above = take place cs; stranded = ss }) item.problem item.priced.way item.priced.prices item.priced.total v → IsVerdictAt plan place v
verdict_at plan cs ss place item v classes stranded below is verdict class found =
    let same : item ≡ class = is ∙ ap (λ xs. get_or xs place item) classes ∙ get_or_from_slice_get plan.classes place class item found in
    let P : List PlannedClass → List Stranded → PlannedClass → Type 0 = λ xs ys k. IsVerdict (record { above = take place xs; stranded = ys }) k.problem k.priced.way k.priced.prices k.priced.total v in
    subst (λ xs. P xs plan.stranded class) classes (subst (λ ys. P cs ys class) stranded (subst (λ k. P cs ss k) same verdict))

-- the classes so far have the verdict yes
pub record YesSoFar (plan : PlanRecord) (place : ℕ) : Type 0 where
  pub yes : YesAbove plan place
  pub classes : (k : ℕ) (d : PlannedClass) → k < place → IsClass (get_or plan.classes k d).problem

-- one class more
pub yes_more : (plan : PlanRecord) (place : ℕ) (item : PlannedClass) → YesSoFar plan place → place < length plan.classes → item ≡ get_or plan.classes place item → IsClass item.problem → IsVerdictAt plan place Yes → YesSoFar plan (place + 1)
yes_more plan place item so_far below is class verdict = record {
  yes = λ above before. elim (last_or_before above place before) [
    | inl old ↦ so_far.yes above old
    | inr new ↦ subst (λ k. IsVerdictAt plan k Yes) (sym new) verdict
  ];
  classes = each_more (λ (k : PlannedClass). IsClass k.problem) plan.classes place item below is class so_far.classes;
}

module _ (plan : PlanRecord) (lists : All HasOneListEach plan.classes) where
  class_at : (k : ℕ) (d : PlannedClass) → k < length plan.classes → slice_get plan.classes k ≡ Some (get_or plan.classes k d)
  class_at k d l = slice_get-get_or plan.classes k d l

  -- each class with the verdict yes has a way
  way_at : (k : ℕ) (d : PlannedClass) → k < length plan.classes → IsVerdictAt plan k Yes → IsWay (get_or plan.classes k d).problem (get_or plan.classes k d).priced.way
  way_at k d l verdict =
      let class = get_or plan.classes k d in
      let y = verdict class (class_at k d l) in
      way_from_parts class.problem class.priced.way (lists k d l).queues y.0 y.1.0.in_way y.1.1.0.jobs y.1.1.1.0

  -- the classes above a class have ways too
  pub above_ways : (place : ℕ) → place ≤ length plan.classes → YesAbove plan place → AboveHaveWays (take place plan.classes)
  above_ways place most verdicts k d l =
      let n : length (take place plan.classes) ≤ place = omega (arith, length-take place plan.classes) in
      let before : k < place = omega arith in
      let same : get_or (take place plan.classes) k d ≡ get_or plan.classes k d = get_or-take place plan.classes k d before in
      subst (λ (class : PlannedClass). IsWay class.problem class.priced.way) (sym same) (way_at k d (omega arith) (verdicts k before))

  -- all classes judged, the plan is proved
  pub proved_plan : (place : ℕ) → length plan.classes ≤ place → YesSoFar plan place → IsProvedPlan plan
  proved_plan place all so_far = record {
    proved = λ k d l.
        let class = get_or plan.classes k d in
        proved_from_yes (beside_at plan k) class.problem (so_far.classes k d (omega arith)) class.priced.way class.priced.prices class.priced.total (lists k d l).queues (lists k d l).places
        (so_far.yes k (omega arith) class (class_at k d l));
    waits = λ at class found. let within : at < length plan.classes = slice_get_within plan.classes at class found in (so_far.yes at (omega arith) class found).1.1.1.1.0;
    once = λ at class found. let within : at < length plan.classes = slice_get_within plan.classes at class found in (so_far.yes at (omega arith) class found).1.0.elsewhere;
  }

  -- each class is planned best
  pub best_classes : (place : ℕ) → length plan.classes ≤ place → YesSoFar plan place → All (λ class. IsBest class.problem class.priced.way) plan.classes
  best_classes place all so_far k d l =
      let class = get_or plan.classes k d in
      best_from_proved class.problem (so_far.classes k d (omega arith)) class.priced.way class.priced.prices class.priced.total ((proved_plan place all so_far).proved k d l)

  pub beaten_timetables : (place : ℕ) → length plan.classes ≤ place → YesSoFar plan place → All (λ class. (slots : List Slot) → IsTimetable class.problem slots → total_of class.problem class.priced.way ≤ slots_total class.problem slots) plan.classes
  beaten_timetables place all so_far k d l slots timetable =
      let class = get_or plan.classes k d in
      best_of_timetables class.problem class.priced.way (so_far.classes k d (omega arith)) (best_classes place all so_far k d l) slots timetable

-- a class of a proved plan has no other verdict than yes
pub yes_in_proved : (plan : PlanRecord) → IsProvedPlan plan → (place : ℕ) → place < length plan.classes → (d : PlannedClass) (v : Verdict) → IsVerdictAt plan place v → v ≡ Yes
yes_in_proved plan proved place below d v verdict =
    let class = get_or plan.classes place d in
    let found : slice_get plan.classes place ≡ Some class = slice_get-get_or plan.classes place d below in
    let proof = yes_from_proved class.problem class.priced.way class.priced.prices class.priced.total (proved.proved place d below) (beside_at plan place) (proved.once place class found) (proved.waits place class found) in
    only_yes (beside_at plan place) class.problem class.priced.way class.priced.prices class.priced.total proof v (verdict class found)

-- a proved plan has the verdict yes at each class
pub yes_above_in_proved : (plan : PlanRecord) → IsProvedPlan plan → YesAbove plan (length plan.classes)
yes_above_in_proved plan proved place below class found =
    let same : get_or plan.classes place class ≡ class = get_or_from_slice_get plan.classes place class class found in
    let proof : IsProved class.problem class.priced.way class.priced.prices class.priced.total = subst (λ (k : PlannedClass). IsProved k.problem k.priced.way k.priced.prices k.priced.total) same (proved.proved place class below) in
    yes_from_proved class.problem class.priced.way class.priced.prices class.priced.total proof (beside_at plan place) (proved.once place class found) (proved.waits place class found)

-- a fault isn't yes
pub fault_is_no : (place : ℕ) (fault : Fault) → No place fault ≡ AllYes → ⊥
fault_is_no place fault e = cc

pub faulty_is_not_yes : (fault : Fault) → Faulty fault ≡ Yes → ⊥
faulty_is_not_yes fault e = cc
