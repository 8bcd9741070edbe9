-- The completion times of a way's jobs, written at their places.
use Rattle.std.proofs.Common.{◌≡◌, ℕ, zero, suc, ◌+◌, ◌^◌, ◌<◌, ◌≤◌, List, [], ◌∷◌, length, ◌++◌, take, drop, get_or, set, refl, sym, ap, ◌∙◌, subst, arith, inl, inr, All, add-one}
use Rattle.std.specs.List.{concat}
use Rattle.std.proofs.lemmas.Bool.{cases_eq}
use Rattle.std.proofs.lemmas.List.{get_or_default, get_or-set_same, get_or-set_other, length-set, length-take}
use Rattle.base_types.specs.declared.limits.TheConstants.Limits.{UNFINISHED_JOBS}
use Rattle.plan_problem.specs.Class.{Class, IsClass, place_of, wait_in}
use Rattle.plan_problem.proofs.Places.{place_at, at_place}
use Rattle.plan_prices.specs.Way.{IsWay, queue_of, times_named}
use Rattle.plan_prices.specs.Total.{time_on, busy_time, completion_of}
use Rattle.plan_prices.specs.Timetable.{Slot, end_of}
use Rattle.plan_prices.specs.OrderedSoFar.{IsEnd, AreEnds}
use Rattle.plan_prices.proofs.Names.{all_concat, of_counted, places_from_known}
use Rattle.plan_prices.proofs.Bounds.{queue_short, busy_fits}
use Rattle.plan_prices.proofs.Starts.{slot_from}
use Rattle.plan_prices.proofs.WayTimetable.{own_end}

pub busy_take : (c : Class) (d : ℕ) (jobs : List ℕ) (i : ℕ) → i < length jobs → busy_time c d (take (suc i) jobs) ≡ busy_time c d (take i jobs) + time_on c (get_or jobs i 0) d
busy_take c d [] i l = absurd (omega arith)
busy_take c d (j ∷ js) zero l = omega arith
busy_take c d (j ∷ js) (suc i) l = omega (arith, busy_take c d js i (omega arith))

pub busy_more : (c : Class) (d : ℕ) (jobs : List ℕ) (i x time free : ℕ) → i < length jobs → x ≡ get_or jobs i x → time ≡ time_on c x d → free ≡ wait_in c d + busy_time c d (take i jobs) → free + time ≡ wait_in c d + busy_time c d (take (i + 1) jobs)
busy_more c d jobs i x time free l is at e =
    let read : time ≡ time_on c (get_or jobs i 0) d = at ∙ ap (λ j. time_on c j d) (is ∙ get_or_default jobs i x 0 l) in
    let more : busy_time c d (take (i + 1) jobs) ≡ busy_time c d (take i jobs) + time_on c (get_or jobs i 0) d = rw add-one (busy_take c d jobs i l) in
    omega (arith, read, more, e)

pub free_fits : (c : Class) → IsClass c → (way : List (List ℕ)) → IsWay c way → (d i free : ℕ) (jobs : List ℕ) → jobs ≡ queue_of way d → free ≡ wait_in c d + busy_time c d (take i jobs) → free < 2 ^ 64
free_fits c ok way w d i free jobs is e =
    let few : length jobs ≤ UNFINISHED_JOBS = rw is (queue_short c ok way w d) in
    omega (arith, e, busy_fits c ok d (take i jobs) (omega (arith, few, length-take i jobs)))

-- when the device has printed a job of its list, the job is complete
completes : (c : Class) (way : List (List ℕ)) → IsWay c way → (d i : ℕ) → d < length way → i < length (queue_of way d) → wait_in c d + busy_time c d (take (suc i) (queue_of way d)) ≡ completion_of c way (get_or (queue_of way d) i 0)
completes c way w d i l m =
    let zero_d : 0 + d ≡ d = omega arith in
    let slot : ℕ → Slot = λ x. record { job = get_or (queue_of way d) i 0; device = x; start = wait_in c x + busy_time c x (take i (queue_of way d)) } in
    let ends : end_of c (slot (0 + d)) ≡ completion_of c way (get_or (queue_of way d) i 0) = own_end c way w (slot (0 + d)) (slot_from c 0 way d i l m) in
    let here : end_of c (slot d) ≡ completion_of c way (get_or (queue_of way d) i 0) = subst (λ x. end_of c (slot x) ≡ completion_of c way (get_or (queue_of way d) i 0)) zero_d ends in
    omega (arith, here, busy_take c d (queue_of way d) i m)

-- one more job's end is written
module _ (c : Class) (way : List (List ℕ)) (w : IsWay c way) (d i x free : ℕ) (jobs ends ends' : List ℕ) (l : d < length way) (is : jobs ≡ queue_of way d) (m : i < length jobs) (read : x ≡ get_or jobs i x)
    (e : free ≡ wait_in c d + busy_time c d (take (i + 1) jobs)) (n : length ends ≡ length c.ids) (written : ends' ≡ set ends (place_of c.ids x) free) where
  job_is : x ≡ get_or jobs i 0
  job_is = read ∙ get_or_default jobs i x 0 m

  known : place_of c.ids x < length c.ids
  known = subst (λ j. place_of c.ids j < length c.ids) (sym (job_is ∙ ap (λ q. get_or q i 0) is)) (places_from_known c.ids way w.known d [] l i 0 (subst (λ q. i < length q) is m))

  value : free ≡ completion_of c way x
  value =
      let step : i + 1 ≡ suc i = omega arith in
      e ∙ ap (λ k. wait_in c d + busy_time c d (take k jobs)) step ∙ ap (λ q. wait_in c d + busy_time c d (take (suc i) q)) is
      ∙ completes c way w d i l (subst (λ q. i < length q) is m) ∙ sym (ap (completion_of c way) (job_is ∙ ap (λ q. get_or q i 0) is))

  pub written_here : IsEnd c way ends' x
  written_here = ap (λ v. get_or v (place_of c.ids x) 0) written ∙ get_or-set_same ends (place_of c.ids x) free 0 (omega (arith, known, n)) ∙ value

  pub written_stay : (job : ℕ) → IsEnd c way ends job → IsEnd c way ends' job
  written_stay job h = elim (cases_eq (place_of c.ids job) (place_of c.ids x)) [
    | inl same ↦
        let below : place_of c.ids job < length c.ids = omega (arith, known, same) in
        let one : job ≡ x = sym (at_place c.ids job below) ∙ ap (λ k. get_or c.ids k 0) same ∙ at_place c.ids x known in
        subst (IsEnd c way ends') (sym one) written_here
    | inr other ↦ ap (λ v. get_or v (place_of c.ids job) 0) written ∙ get_or-set_other ends (place_of c.ids x) (place_of c.ids job) free 0 other ∙ h
  ]

  pub written_more : ((k : ℕ) → k < i → IsEnd c way ends (get_or jobs k 0)) → (k : ℕ) → k < i + 1 → IsEnd c way ends' (get_or jobs k 0)
  written_more before k below = elim (cases_eq k i) [
    | inl same ↦ subst (IsEnd c way ends') (job_is ∙ ap (λ j. get_or jobs j 0) (sym same)) written_here
    | inr other ↦ written_stay (get_or jobs k 0) (before k (omega (arith, below, other)))
  ]

-- at the end of a list
pub list_written : (c : Class) (way : List (List ℕ)) (d i : ℕ) (jobs ends : List ℕ) → jobs ≡ queue_of way d → length jobs ≤ i → ((k : ℕ) → k < i → IsEnd c way ends (get_or jobs k 0)) → All (IsEnd c way ends) (queue_of way d)
list_written c way d i jobs ends is all h = subst (All (IsEnd c way ends)) is (λ k e l. subst (IsEnd c way ends) (get_or_default jobs k 0 e l) (h k (omega (arith, l, all))))

-- at the end of all lists
pub all_written : (c : Class) → IsClass c → (way : List (List ℕ)) → IsWay c way → (ends : List ℕ) → length ends ≡ length c.ids → ((k : ℕ) → k < length way → All (IsEnd c way ends) (queue_of way k)) → AreEnds c way ends
unfolding times_named
all_written c ok way w ends n h = record {
  one_each = n;
  at = λ k below.
      let id : ℕ = get_or c.ids k 0 in
      let all = all_concat (IsEnd c way ends) way (λ d q l. subst (All (IsEnd c way ends)) (get_or_default way d [] q l) (h d l)) in
      let end : IsEnd c way ends id = of_counted (IsEnd c way ends) (concat way) id 0 (w.once k 0 below) all in
      subst (λ p. get_or ends p 0 ≡ completion_of c way id) (place_at c.ids ok.rising k below) end;
}

pub length_written : (c : Class) (ends ends' : List ℕ) (x free : ℕ) → ends' ≡ set ends (place_of c.ids x) free → length ends ≡ length c.ids → length ends' ≡ length c.ids
length_written c ends ends' x free written n = ap length written ∙ length-set ends (place_of c.ids x) free ∙ n

-- one more list
pub lists_more : (c : Class) (way : List (List ℕ)) (i d : ℕ) (items old new : List ℕ) → d ≡ i → old ≡ items → ((job : ℕ) → IsEnd c way old job → IsEnd c way new job) → All (IsEnd c way new) (queue_of way d) → ((k : ℕ) → k < i → All (IsEnd c way items) (queue_of way k)) → (k : ℕ) → k < i + 1 → All (IsEnd c way new) (queue_of way k)
lists_more c way i d items old new at same stay here before k below = elim (cases_eq k i) [
  | inl e ↦ subst (λ n. All (IsEnd c way new) (queue_of way n)) (at ∙ sym e) here
  | inr other ↦ λ j x l. stay (get_or (queue_of way k) j x) (subst (λ v. IsEnd c way v (get_or (queue_of way k) j x)) (sym same) (before k (omega (arith, below, other)) j x l))
]

-- a slice of all of a list, written back
pub lent_back : (n : ℕ) (new old : List ℕ) → n ≡ length new → take n (new ++ drop (length new) old) ≡ new
lent_back n new old e = rw e (take_append_length new (drop (length new) old))
  where
    take_append_length : (xs ys : List ℕ) → take (length xs) (xs ++ ys) ≡ xs
    take_append_length [] ys = refl
    take_append_length (x ∷ xs) ys = ap (λ l. x ∷ l) (take_append_length xs ys)
