-- each timetable has a way whose total is no greater
use Rattle.std.proofs.Common.{◌≡◌, ◌==◌, ◌⊎◌, ℕ, zero, suc, ◌+◌, ◌-◌, ◌*◌, ◌<◌, ◌≤◌, cond, leb, List, [], ◌∷◌, length, map, get_or, refl, sym, ap, ◌∙◌, subst, arith, inl, inr, IsSome, All, AllPairs, Contains, count_by}
use Rattle.std.specs.List.{concat}
use Rattle.std.proofs.lemmas.Bool.{cond_both, eqb-true, cases_lt, cases_eq, eq-eqb, ne_eqb, leb-true, leb-false}
use Rattle.std.proofs.lemmas.List.Elements.{All-head, All-tail, All-cons, All-nil, All-append, All-map}
use Rattle.std.proofs.lemmas.List.{get_or_past}
use Rattle.std.proofs.lemmas.List.Sums.{sum_by-cons, sum_by-append}
use Rattle.plan_problem.specs.Class.{Class, IsClass, time_in, wait_in}
use Rattle.plan_prices.specs.Way.{IsWay, queue_of, times_named}
use Rattle.plan_prices.specs.Total.{IsBest, time_on, total_of}
use Rattle.plan_prices.specs.Timetable.{Slot, end_of, Apart, slots_naming, IsTimetable, slots_total}
use Rattle.plan_problem.proofs.Places.{timed_device}
use Rattle.plan_prices.proofs.Totals.{list_total, total_from, list_total-later}
use Rattle.plan_prices.proofs.Completions.{total_is}
use Rattle.plan_prices.proofs.Duality.{some_value}

-- a slot goes before the first that starts after its end
abbrev pub put : Class → Slot → List Slot → List Slot
put c s [] = s ∷ []
put c s (x ∷ xs) = cond (leb (end_of c s) x.start) (s ∷ x ∷ xs) (x ∷ put c s xs)

-- the slots of a device, in the order of their starts
abbrev pub slots_on : Class → ℕ → List Slot → List Slot
slots_on c d [] = []
slots_on c d (s ∷ ss) = cond (s.device == d) (put c s (slots_on c d ss)) (slots_on c d ss)

-- each starts where the one before has ended
abbrev pub Follows : Class → ℕ → List Slot → Type 0
Follows c free [] = Unit {0}
Follows c free (s ∷ ss) = (free ≤ s.start) × Follows c (end_of c s) ss

-- each is apart from all later ones
abbrev pub Apart_all : Class → List Slot → Type 0
Apart_all c [] = Unit {0}
Apart_all c (s ∷ ss) = All (λ x. Apart c s x) ss × Apart_all c ss

abbrev pub jobs_of : List Slot → List ℕ
jobs_of slots = map (λ s. s.job) slots

-- a property of each element that `put` keeps
put_all : (c : Class) (P : Slot → Type 0) (s : Slot) (xs : List Slot) → P s → All P xs → All P (put c s xs)
put_all c P s [] h k = All-cons P s [] h k
put_all c P s (x ∷ xs) h k =
    cond_both (leb (end_of c s) x.start) (s ∷ x ∷ xs) (x ∷ put c s xs) (All P)
    (λ _. All-cons P s (x ∷ xs) h k)
    (λ _. All-cons P x (put c s xs) (All-head P x xs k) (put_all c P s xs h (All-tail P x xs k)))

slots_on_all : (c : Class) (P : Slot → Type 0) (d : ℕ) (ss : List Slot) → All P ss → All P (slots_on c d ss)
slots_on_all c P d [] k = k
slots_on_all c P d (s ∷ ss) k =
    let rest : All P (slots_on c d ss) = slots_on_all c P d ss (All-tail P s ss k) in
    cond_both (s.device == d) (put c s (slots_on c d ss)) (slots_on c d ss) (All P)
    (λ _. put_all c P s (slots_on c d ss) (All-head P s ss k) rest)
    (λ _. rest)

-- a slot that is apart from those of its device may be put among them
put_follows : (c : Class) (s : Slot) (free : ℕ) (xs : List Slot) → free ≤ s.start → Follows c free xs → All (λ x. (end_of c s ≤ x.start) ⊎ (end_of c x ≤ s.start)) xs → Follows c free (put c s xs)
put_follows c s free [] l f a = (l, tt)
put_follows c s free (x ∷ xs) l f a =
    let Q : Slot → Type 0 = λ y. (end_of c s ≤ y.start) ⊎ (end_of c y ≤ s.start) in
    cond_both (leb (end_of c s) x.start) (s ∷ x ∷ xs) (x ∷ put c s xs) (Follows c free)
    (λ e. (l, (leb-true (end_of c s) x.start e, f.1)))
    (λ e. (
      f.0,
      put_follows c s (end_of c x) xs
          (elim (All-head Q x xs a) [ inl le ↦ absurd (omega (arith, le, leb-false (end_of c s) x.start e)) | inr le ↦ le ]) f.1 (All-tail Q x xs a),
    ))

list_total-mono : (c : Class) (d free later : ℕ) (jobs : List ℕ) → free ≤ later → list_total c d free jobs ≤ list_total c d later jobs
list_total-mono c d free later jobs h =
    let e : later ≡ free + (later - free) = omega arith in
    let s : list_total c d (free + (later - free)) jobs ≡ list_total c d free jobs + length jobs * (later - free) = list_total-later c d free (later - free) jobs in
    let t : list_total c d later jobs ≡ list_total c d (free + (later - free)) jobs = ap (λ n. list_total c d n jobs) e in
    omega (arith, s, t)

-- without gaps the jobs end no later
list_total_at_most : (c : Class) (d free : ℕ) (ss : List Slot) → All (λ s. s.device ≡ d) ss → Follows c free ss → list_total c d free (jobs_of ss) ≤ slots_total c ss
list_total_at_most c d free [] h f = omega arith
list_total_at_most c d free (s ∷ ss) h f =
    let on : s.device ≡ d = All-head (λ x. x.device ≡ d) s ss h in
    let t : time_on c s.job s.device ≡ time_on c s.job d = ap (time_on c s.job) on in
    let r : list_total c d (end_of c s) (jobs_of ss) ≤ slots_total c ss = list_total_at_most c d (end_of c s) ss (All-tail (λ x. x.device ≡ d) s ss h) f.1 in
    let m : list_total c d (free + time_on c s.job d) (jobs_of ss) ≤ list_total c d (end_of c s) (jobs_of ss) = list_total-mono c d (free + time_on c s.job d) (end_of c s) (jobs_of ss) (omega (arith, t, f.0)) in
    omega (arith, t, r, m, f.0)

-- the slots on a device follow one another
slots_on_device : (c : Class) (d : ℕ) (ss : List Slot) → All (λ s. s.device ≡ d) (slots_on c d ss)
slots_on_device c d [] = All-nil (λ s. s.device ≡ d)
slots_on_device c d (s ∷ ss) =
    let rest : All (λ x. x.device ≡ d) (slots_on c d ss) = slots_on_device c d ss in
    cond_both (s.device == d) (put c s (slots_on c d ss)) (slots_on c d ss) (All (λ x. x.device ≡ d))
    (λ e. put_all c (λ x. x.device ≡ d) s (slots_on c d ss) (eqb-true s.device d e) rest)
    (λ _. rest)

slots_on_follow : (c : Class) (d : ℕ) (ss : List Slot) → All (λ s. wait_in c s.device ≤ s.start) ss → Apart_all c ss → Follows c (wait_in c d) (slots_on c d ss)
slots_on_follow c d [] w a = tt
slots_on_follow c d (s ∷ ss) w a =
    let rest : Follows c (wait_in c d) (slots_on c d ss) = slots_on_follow c d ss (All-tail (λ x. wait_in c x.device ≤ x.start) s ss w) a.1 in
    cond_both (s.device == d) (put c s (slots_on c d ss)) (slots_on c d ss) (Follows c (wait_in c d))
    (λ e.
    let on : s.device ≡ d = eqb-true s.device d e in
    let apart : All (λ x. Apart c s x) (slots_on c d ss) = slots_on_all c (λ x. Apart c s x) d ss a.0 in
    let here : All (λ x. x.device ≡ d) (slots_on c d ss) = slots_on_device c d ss in
    put_follows c s (wait_in c d) (slots_on c d ss) (let z : wait_in c s.device ≤ s.start = All-head (λ x. wait_in c x.device ≤ x.start) s ss w in rw on at z) rest
    (λ k x l. apart k x l (on ∙ sym (here k x l))))
    (λ _. rest)

-- a number for each slot, added up
abbrev pub weight : (Slot → ℕ) → List Slot → ℕ
weight f [] = 0
weight f (s ∷ ss) = f s + weight f ss

weight-put : (c : Class) (f : Slot → ℕ) (s : Slot) (xs : List Slot) → weight f (put c s xs) ≡ f s + weight f xs
weight-put c f s [] = refl
weight-put c f s (x ∷ xs) =
    cond_both (leb (end_of c s) x.start) (s ∷ x ∷ xs) (x ∷ put c s xs) (λ ys. weight f ys ≡ f s + (f x + weight f xs))
    (λ _. refl)
    (λ _. let r : weight f (put c s xs) ≡ f s + weight f xs = weight-put c f s xs in omega (arith, r))

-- over n devices from one on
abbrev pub weight_from : Class → (Slot → ℕ) → ℕ → ℕ → List Slot → ℕ
weight_from c f d zero ss = 0
weight_from c f d (suc n) ss = weight f (slots_on c d ss) + weight_from c f (suc d) n ss

weight_on-yes : (c : Class) (f : Slot → ℕ) (d : ℕ) (s : Slot) (ss : List Slot) → s.device ≡ d → weight f (slots_on c d (s ∷ ss)) ≡ f s + weight f (slots_on c d ss)
weight_on-yes c f d s ss e = rw (eq-eqb s.device d e) (weight-put c f s (slots_on c d ss))

weight_on-no : (c : Class) (f : Slot → ℕ) (d : ℕ) (s : Slot) (ss : List Slot) → (s.device ≡ d → ⊥) → weight f (slots_on c d (s ∷ ss)) ≡ weight f (slots_on c d ss)
weight_on-no c f d s ss e = rw (ne_eqb s.device d e) refl

weight_from-before : (c : Class) (f : Slot → ℕ) (d n : ℕ) (s : Slot) (ss : List Slot) → s.device < d → weight_from c f d n (s ∷ ss) ≡ weight_from c f d n ss
weight_from-before c f d zero s ss h = refl
weight_from-before c f d (suc n) s ss h =
    let a : weight f (slots_on c d (s ∷ ss)) ≡ weight f (slots_on c d ss) = weight_on-no c f d s ss (λ e. omega arith) in
    let b : weight_from c f (suc d) n (s ∷ ss) ≡ weight_from c f (suc d) n ss = weight_from-before c f (suc d) n s ss (omega arith) in
    rw (a, b) refl

weight_from-cons : (c : Class) (f : Slot → ℕ) (d n : ℕ) (s : Slot) (ss : List Slot) → d ≤ s.device → s.device < d + n → weight_from c f d n (s ∷ ss) ≡ f s + weight_from c f d n ss
weight_from-cons c f d zero s ss l h = absurd (omega arith)
weight_from-cons c f d (suc n) s ss l h = elim (cases_eq s.device d) [
  | inl e ↦
      let a : weight f (slots_on c d (s ∷ ss)) ≡ f s + weight f (slots_on c d ss) = weight_on-yes c f d s ss e in
      let b : weight_from c f (suc d) n (s ∷ ss) ≡ weight_from c f (suc d) n ss = weight_from-before c f (suc d) n s ss (omega arith) in
      omega (arith, a, b)
  | inr e ↦
      let a : weight f (slots_on c d (s ∷ ss)) ≡ weight f (slots_on c d ss) = weight_on-no c f d s ss e in
      let b : weight_from c f (suc d) n (s ∷ ss) ≡ f s + weight_from c f (suc d) n ss = weight_from-cons c f (suc d) n s ss (omega arith) (omega arith) in
      omega (arith, a, b)
]

weight_from-none : (c : Class) (f : Slot → ℕ) (d n : ℕ) → weight_from c f d n [] ≡ 0
weight_from-none c f d zero = refl
weight_from-none c f d (suc n) = omega (arith, weight_from-none c f (suc d) n)

weight_from_all : (c : Class) (f : Slot → ℕ) (n : ℕ) (ss : List Slot) → All (λ s. s.device < n) ss → weight_from c f 0 n ss ≡ weight f ss
weight_from_all c f n [] h = weight_from-none c f 0 n
weight_from_all c f n (s ∷ ss) h =
    let l : s.device < n = All-head (λ x. x.device < n) s ss h in
    let a : weight_from c f 0 n (s ∷ ss) ≡ f s + weight_from c f 0 n ss = weight_from-cons c f 0 n s ss (omega arith) (omega arith) in
    let b : weight_from c f 0 n ss ≡ weight f ss = weight_from_all c f n ss (All-tail (λ x. x.device < n) s ss h) in
    omega (arith, a, b)

-- the way that runs the slots in their order
abbrev pub way_from : Class → ℕ → ℕ → List Slot → List (List ℕ)
way_from c d zero ss = []
way_from c d (suc n) ss = jobs_of (slots_on c d ss) ∷ way_from c (suc d) n ss

length-way_from : (c : Class) (d n : ℕ) (ss : List Slot) → length (way_from c d n ss) ≡ n
length-way_from c d zero ss = refl
length-way_from c d (suc n) ss = ap suc (length-way_from c (suc d) n ss)

slots_total_is : (c : Class) (ss : List Slot) → slots_total c ss ≡ weight (end_of c) ss
slots_total_is c [] = refl
slots_total_is c (s ∷ ss) = ap (λ n. end_of c s + n) (slots_total_is c ss)

way_total_at_most : (c : Class) (d n : ℕ) (ss : List Slot) → All (λ s. wait_in c s.device ≤ s.start) ss → Apart_all c ss → total_from c d (way_from c d n ss) ≤ weight_from c (end_of c) d n ss
way_total_at_most c d zero ss w a = omega arith
way_total_at_most c d (suc n) ss w a =
    let x : list_total c d (wait_in c d) (jobs_of (slots_on c d ss)) ≤ slots_total c (slots_on c d ss) = list_total_at_most c d (wait_in c d) (slots_on c d ss) (slots_on_device c d ss) (slots_on_follow c d ss w a) in
    let y : total_from c (suc d) (way_from c (suc d) n ss) ≤ weight_from c (end_of c) (suc d) n ss = way_total_at_most c (suc d) n ss w a in
    omega (arith, x, y, slots_total_is c (slots_on c d ss))

-- the number of times that jobs are named, in a way and in slots
abbrev pub one_if : ℕ → Slot → ℕ
one_if job s = cond (s.job == job) 1 0

pub count-jobs_of : (job : ℕ) (ss : List Slot) → count_by (λ x. x == job) (jobs_of ss) ≡ weight (one_if job) ss
count-jobs_of job [] = refl
count-jobs_of job (s ∷ ss) = sum_by-cons (λ x. cond (x == job) 1 0) s.job (jobs_of ss) ∙ ap (λ n. one_if job s + n) (count-jobs_of job ss)

count-way_from : (c : Class) (job d n : ℕ) (ss : List Slot) → count_by (λ x. x == job) (concat (way_from c d n ss)) ≡ weight_from c (one_if job) d n ss
count-way_from c job d zero ss = refl
count-way_from c job d (suc n) ss =
    sum_by-append (λ x. cond (x == job) 1 0) (jobs_of (slots_on c d ss)) (concat (way_from c (suc d) n ss))
    ∙ ap (λ m. m + count_by (λ x. x == job) (concat (way_from c (suc d) n ss))) (count-jobs_of job (slots_on c d ss))
    ∙ ap (λ m. weight (one_if job) (slots_on c d ss) + m) (count-way_from c job (suc d) n ss)

pub slots_naming_is : (ss : List Slot) (job : ℕ) → slots_naming ss job ≡ weight (one_if job) ss
unfolding slots_naming
slots_naming_is [] job = refl
slots_naming_is (s ∷ ss) job = sum_by-cons (one_if job) s ss ∙ ap (λ n. one_if job s + n) (slots_naming_is ss job)

-- ---- the way is one of the class

jobs_all : (P : ℕ → Type 0) (ss : List Slot) → All (λ s. P s.job) ss → All P (jobs_of ss)
jobs_all P ss h = All-map P (λ s. s.job) ss h

way_known : (c : Class) (P : ℕ → Type 0) (d n : ℕ) (ss : List Slot) → All (λ s. P s.job) ss → All P (concat (way_from c d n ss))
way_known c P d zero ss h = All-nil P
way_known c P d (suc n) ss h = All-append P (jobs_of (slots_on c d ss)) (concat (way_from c (suc d) n ss)) (jobs_all P (slots_on c d ss) (slots_on_all c (λ s. P s.job) d ss h)) (way_known c P (suc d) n ss h)

queue_of-way_from : (c : Class) (d n i : ℕ) (ss : List Slot) → i < n → queue_of (way_from c d n ss) i ≡ jobs_of (slots_on c (d + i) ss)
queue_of-way_from c d zero i ss h = absurd (omega arith)
queue_of-way_from c d (suc n) zero ss h = ap (λ k. jobs_of (slots_on c k ss)) (let e : d ≡ d + zero = omega arith in e)
queue_of-way_from c d (suc n) (suc i) ss h = queue_of-way_from c (suc d) n i ss (omega arith) ∙ ap (λ k. jobs_of (slots_on c k ss)) (let e : suc d + i ≡ d + suc i = omega arith in e)

able_jobs : (c : Class) (d : ℕ) (ss : List Slot) → All (λ s. s.device ≡ d) ss → All (λ s. IsSome (time_in c s.job s.device)) ss → All (λ j. IsSome (time_in c j d)) (jobs_of ss)
able_jobs c d ss on able = jobs_all (λ j. IsSome (time_in c j d)) ss (λ k x l. subst (λ e. IsSome (time_in c (get_or ss k x).job e)) (on k x l) (able k x l))

way_able : (c : Class) (n : ℕ) (ss : List Slot) → All (λ s. IsSome (time_in c s.job s.device)) ss → (device : ℕ) → All (λ j. IsSome (time_in c j device)) (queue_of (way_from c 0 n ss) device)
way_able c n ss able device = elim (cases_lt device n) [
  | inl lt ↦
      let e : queue_of (way_from c 0 n ss) device ≡ jobs_of (slots_on c (0 + device) ss) = queue_of-way_from c 0 n device ss lt in
      let z : 0 + device ≡ device = omega arith in
      subst (λ q. All (λ j. IsSome (time_in c j device)) q) (sym (e ∙ ap (λ k. jobs_of (slots_on c k ss)) z))
      (able_jobs c device (slots_on c device ss) (slots_on_device c device ss) (slots_on_all c (λ s. IsSome (time_in c s.job s.device)) device ss able))
  | inr past ↦
      let l : length (way_from c 0 n ss) ≤ device = omega (arith, length-way_from c 0 n ss, past) in
      subst (λ q. All (λ j. IsSome (time_in c j device)) q) (sym (get_or_past (way_from c 0 n ss) device [] l)) (All-nil (λ j. IsSome (time_in c j device)))
]

pub apart_all : (c : Class) (ss : List Slot) → AllPairs (Apart c) ss → Apart_all c ss
apart_all c [] h = tt
apart_all c (s ∷ ss) h = ((λ k d l. h 0 (suc k) d (omega arith) (omega arith)), apart_all c ss (λ i j d l m. h (suc i) (suc j) d (omega arith) (omega arith)))

-- a device that is able is one of the class
on_devices : (c : Class) → IsClass c → (ss : List Slot) → All (λ s. IsSome (time_in c s.job s.device)) ss → All (λ s. s.device < length c.waits) ss
on_devices c ok ss able k d l =
    let s = get_or ss k d in
    timed_device c ok s.job s.device (time_on c s.job s.device) (some_value (time_in c s.job s.device) (able k d l))

-- each timetable has a way whose total is no greater
pub way_of_timetable : (c : Class) (ss : List Slot) → IsClass c → IsTimetable c ss → (way : List (List ℕ)) × IsWay c way × (total_of c way ≤ slots_total c ss)
unfolding times_named
way_of_timetable c ss ok t =
    let n = length c.waits in
    let small : All (λ s. s.device < n) ss = on_devices c ok ss t.able in
    let way = way_from c 0 n ss in
    let is_way : IsWay c way = record {
      one_list_each = length-way_from c 0 n ss;
      known = way_known c (Contains c.ids) 0 n ss t.known;
      once = λ k d l. count-way_from c (get_or c.ids k d) 0 n ss ∙ weight_from_all c (one_if (get_or c.ids k d)) n ss small ∙ sym (slots_naming_is ss (get_or c.ids k d)) ∙ t.once k d l;
      able = way_able c n ss t.able;
    } in
    let a : total_from c 0 way ≤ weight_from c (end_of c) 0 n ss = way_total_at_most c 0 n ss t.after_wait (apart_all c ss t.apart) in
    let b : weight_from c (end_of c) 0 n ss ≡ weight (end_of c) ss = weight_from_all c (end_of c) n ss small in (
      way,
      is_way,
      omega (arith, a, b, slots_total_is c ss, total_is c ok way is_way),
    )

-- no timetable has a smaller total than a best way
pub best_of_timetables : (c : Class) (way : List (List ℕ)) → IsClass c → IsBest c way → (ss : List Slot) → IsTimetable c ss → total_of c way ≤ slots_total c ss
best_of_timetables c way ok best ss t =
    let w = way_of_timetable c ss ok t in
    let a : total_of c way ≤ total_of c w.0 = best.least w.0 w.1 in
    omega (arith, a, w.2)
