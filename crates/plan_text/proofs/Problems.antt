-- Whether lists are the problem of a class, as a test and as a fact.
use Rattle.std.proofs.Common.{◌≡◌, ◌==◌, ◌&&◌, ℕ, zero, suc, ◌+◌, ◌<◌, ◌≤◌, Bool, true, false, List, [], ◌∷◌, length, All, IfSome, Option, Some, None, slice_index, slice_index_or, refl, arith, nat_le, nat_lt, add-one}
use Rattle.std.specs.List.{list_all, AllPass}
use Rattle.std.specs.List.Sorted.{IsStrictlyIncreasing}
use Rattle.std.proofs.lemmas.List.Sums.{list_all-from_AllPass, AllPass-from_list_all}
use Rattle.std.proofs.lemmas.Bool.{and_from, and_parts, false_from_ne_true}
use Rattle.std.proofs.lemmas.Bool.Decides.{nat_tests}
use Rattle.base_types.specs.declared.limits.TheConstants.Limits.{UNFINISHED_JOBS, DEVICES, JOB_TIME, WAIT}
use Rattle.plan_problem.specs.Class.{Class, IsClass}
use Rattle.plan_problem.specs.Time.{IsTime}
use Rattle.plan_text.specs.Steps.{is_problem, is_row, is_time, is_wait, rises}

le_yes : (m n : ℕ) → m ≤ n → nat_le m n ≡ true
le_yes m n h = grind (arith, nat_tests)

le_no : (m n : ℕ) → nat_le m n ≡ true → m ≤ n
le_no m n h = grind (arith, nat_tests)

lt_yes : (m n : ℕ) → m < n → nat_lt m n ≡ true
lt_yes m n h = grind (arith, nat_tests)

lt_no : (m n : ℕ) → nat_lt m n ≡ true → m < n
lt_no m n h = grind (arith, nat_tests)

eq_yes : (m n : ℕ) → m ≡ n → (m == n) ≡ true
eq_yes m n h = grind (arith, nat_tests)

eq_no : (m n : ℕ) → (m == n) ≡ true → m ≡ n
eq_no m n h = grind (arith, nat_tests)

rises_yes : (ids : List ℕ) → IsStrictlyIncreasing ids → rises ids ≡ true
rises_yes [] h = refl
rises_yes (id ∷ []) h = refl
rises_yes (id ∷ next ∷ ids) h =
    and_from (nat_lt id next) (rises (next ∷ ids)) (lt_yes id next (h 0 (omega arith)))
    (rises_yes (next ∷ ids) (λ k l. simp add-one (simp add-one at (h (suc k) (omega (arith, l))))))

rises_no : (ids : List ℕ) → rises ids ≡ true → (k : ℕ) → k + 1 < length ids → slice_index ids k < slice_index ids (k + 1)
rises_no [] h k l = absurd (omega (arith, l))
rises_no (id ∷ []) h k l = absurd (omega (arith, l))
rises_no (id ∷ next ∷ ids) h zero l =
    let p : (nat_lt id next ≡ true) × (rises (next ∷ ids) ≡ true) = and_parts (nat_lt id next) (rises (next ∷ ids)) h in
    lt_no id next p.0
rises_no (id ∷ next ∷ ids) h (suc k) l =
    let p : (nat_lt id next ≡ true) × (rises (next ∷ ids) ≡ true) = and_parts (nat_lt id next) (rises (next ∷ ids)) h in
    let later : slice_index (next ∷ ids) k < slice_index (next ∷ ids) (k + 1) = rises_no (next ∷ ids) p.1 k (omega (arith, l)) in
    simp add-one (simp add-one at later)

time_yes : (time : Option ℕ) → IfSome time IsTime → is_time time ≡ true
time_yes None h = refl
time_yes (Some time) h = and_from (nat_le 1 time) (nat_le time JOB_TIME) (le_yes 1 time h.0) (le_yes time JOB_TIME h.1)

time_no : (time : Option ℕ) → is_time time ≡ true → IfSome time IsTime
time_no None h = tt
time_no (Some time) h =
    let p : (nat_le 1 time ≡ true) × (nat_le time JOB_TIME ≡ true) = and_parts (nat_le 1 time) (nat_le time JOB_TIME) h in
    (le_no 1 time p.0, le_no time JOB_TIME p.1)

row_yes : (n : ℕ) (row : List (Option ℕ)) → length row ≡ n → All (λ entry. IfSome entry IsTime) row → is_row n row ≡ true
unfolding is_row
row_yes n row e h =
    and_from (length row == n) (list_all is_time row) (eq_yes (length row) n e)
    (list_all-from_AllPass is_time row (λ k d l. time_yes (slice_index_or row k d) (h k d l)))

row_no : (n : ℕ) (row : List (Option ℕ)) → is_row n row ≡ true → (length row ≡ n) × All (λ entry. IfSome entry IsTime) row
unfolding is_row
row_no n row h =
    let p : ((length row == n) ≡ true) × (list_all is_time row ≡ true) = and_parts (length row == n) (list_all is_time row) h in
    let q : AllPass is_time row = AllPass-from_list_all is_time row p.1 in
    (eq_no (length row) n p.0, λ k d l. time_no (slice_index_or row k d) (q k d l))

wait_yes : (wait : ℕ) → wait ≤ WAIT → is_wait wait ≡ true
unfolding is_wait
wait_yes wait h = le_yes wait WAIT h

wait_no : (wait : ℕ) → is_wait wait ≡ true → wait ≤ WAIT
unfolding is_wait
wait_no wait h = le_no wait WAIT h

six : (a b d e f g : Bool) → (a && b && d && e && f && g) ≡ true → (a ≡ true) × (b ≡ true) × (d ≡ true) × (e ≡ true) × (f ≡ true) × (g ≡ true)
six true true true true true true h = (refl, refl, refl, refl, refl, refl)
six false b d e f g h = absurd (cc)
six true false d e f g h = absurd (cc)
six true true false e f g h = absurd (cc)
six true true true false f g h = absurd (cc)
six true true true true false g h = absurd (cc)
six true true true true true false h = absurd (cc)

of_six : (a b d e f g : Bool) → a ≡ true → b ≡ true → d ≡ true → e ≡ true → f ≡ true → g ≡ true → (a && b && d && e && f && g) ≡ true
of_six a b d e f g ha hb hd he hf hg = rw (ha, hb, hd, he, hf, hg) refl

pub problem_is : (c : Class) → IsClass c → is_problem c ≡ true
unfolding is_problem
problem_is c h =
    of_six (nat_le (length c.ids) UNFINISHED_JOBS) (nat_le (length c.waits) DEVICES) (length c.rows == length c.ids) (rises c.ids) (list_all (is_row (length c.waits)) c.rows) (list_all is_wait c.waits)
    (le_yes (length c.ids) UNFINISHED_JOBS h.few_jobs) (le_yes (length c.waits) DEVICES h.few_devices) (eq_yes (length c.rows) (length c.ids) h.one_row_each) (rises_yes c.ids h.rising)
    (list_all-from_AllPass (is_row (length c.waits)) c.rows (λ k d l. row_yes (length c.waits) (slice_index_or c.rows k d) (h.one_time_each k d l) (h.times k d l)))
    (list_all-from_AllPass is_wait c.waits (λ k d l. wait_yes (slice_index_or c.waits k d) (h.short_waits k d l)))

pub problem_from : (c : Class) → is_problem c ≡ true → IsClass c
unfolding is_problem
problem_from c h =
    let p = six (nat_le (length c.ids) UNFINISHED_JOBS) (nat_le (length c.waits) DEVICES) (length c.rows == length c.ids) (rises c.ids) (list_all (is_row (length c.waits)) c.rows) (list_all is_wait c.waits) h in
    let rows : AllPass (is_row (length c.waits)) c.rows = AllPass-from_list_all (is_row (length c.waits)) c.rows p.4 in
    let waits : AllPass is_wait c.waits = AllPass-from_list_all is_wait c.waits p.5 in
    record {
      rising = rises_no c.ids p.3;
      one_row_each = eq_no (length c.rows) (length c.ids) p.2;
      one_time_each = λ k d l. (row_no (length c.waits) (slice_index_or c.rows k d) (rows k d l)).0;
      times = λ k d l. (row_no (length c.waits) (slice_index_or c.rows k d) (rows k d l)).1;
      short_waits = λ k d l. wait_no (slice_index_or c.waits k d) (waits k d l);
      few_jobs = le_no (length c.ids) UNFINISHED_JOBS p.0;
      few_devices = le_no (length c.waits) DEVICES p.1;
    }

pub problem_isnt : (c : Class) → (IsClass c → ⊥) → is_problem c ≡ false
problem_isnt c h = false_from_ne_true (is_problem c) (λ e. h (problem_from c e))
