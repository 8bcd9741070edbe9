-- each way is a timetable of its own total
use Rattle.std.proofs.Common.{◌≡◌, ◌==◌, true, false, ℕ, suc, ◌+◌, ◌≤◌, List, [], ◌∷◌, ◌++◌, length, get_or, refl, sym, ap, ◌∙◌, subst, arith, inl, IsSome, All, AllPairs, Contains, count_by, zero-add}
use Rattle.std.specs.List.{concat, list_any}
use Rattle.std.proofs.lemmas.List.{map-append, get_or-map, length-map}
use Rattle.std.proofs.lemmas.List.Elements.{All-head, All-tail, All-cons, All-nil, All-append}
use Rattle.std.proofs.lemmas.List.Kept.{AllPairs-cons}
use Rattle.plan_problem.specs.Class.{Class, IsClass, time_in, wait_in}
use Rattle.plan_prices.specs.Way.{IsWay, times_named}
use Rattle.plan_prices.specs.Total.{time_on, busy_time, up_to, completion_of, total_of}
use Rattle.plan_prices.specs.Timetable.{Slot, end_of, Apart, IsTimetable, slots_total, slots_of_list, slots_from, own_slots}
use Rattle.plan_prices.proofs.Timetables.{jobs_of, Apart_all, count-jobs_of, slots_naming_is}
use Rattle.plan_prices.proofs.Duality.{AbleFrom, able_from}
use Rattle.plan_prices.proofs.Totals.{list_total, total_from}
use Rattle.plan_prices.proofs.Completions.{Distinct, distinct_parts, distinct_names, up_to-here, up_to-later, has_own, has_other, completion_from, completion_here, completion_later, completion_is, total_is}

list_slots_total : (c : Class) (d free : ℕ) (q : List ℕ) → slots_total c (slots_of_list c d free q) ≡ list_total c d free q
list_slots_total c d free [] = refl
list_slots_total c d free (j ∷ js) = ap (λ n. (free + time_on c j d) + n) (list_slots_total c d (free + time_on c j d) js)

slots_total-append : (c : Class) (xs ys : List Slot) → slots_total c (xs ++ ys) ≡ slots_total c xs + slots_total c ys
slots_total-append c [] ys = omega arith
slots_total-append c (x ∷ xs) ys = omega (arith, slots_total-append c xs ys)

slots_from_total : (c : Class) (d : ℕ) (qs : List (List ℕ)) → slots_total c (slots_from c d qs) ≡ total_from c d qs
slots_from_total c d [] = refl
slots_from_total c d (q ∷ qs) = omega (arith, slots_total-append c (slots_of_list c d (wait_in c d) q) (slots_from c (suc d) qs), list_slots_total c d (wait_in c d) q, slots_from_total c (suc d) qs)

list_jobs : (c : Class) (d free : ℕ) (q : List ℕ) → jobs_of (slots_of_list c d free q) ≡ q
list_jobs c d free [] = refl
list_jobs c d free (j ∷ js) = ap (λ x. j ∷ x) (list_jobs c d (free + time_on c j d) js)

from_jobs : (c : Class) (d : ℕ) (qs : List (List ℕ)) → jobs_of (slots_from c d qs) ≡ concat qs
from_jobs c d [] = refl
from_jobs c d (q ∷ qs) =
    map-append (λ (s : Slot). s.job) (slots_of_list c d (wait_in c d) q) (slots_from c (suc d) qs)
    ∙ ap (λ x. x ++ jobs_of (slots_from c (suc d) qs)) (list_jobs c d (wait_in c d) q)
    ∙ ap (λ x. q ++ x) (from_jobs c (suc d) qs)

all_of_jobs : (P : ℕ → Type 0) (ss : List Slot) → All P (jobs_of ss) → All (λ s. P s.job) ss
all_of_jobs P ss h k x l = subst P (get_or-map (λ (s : Slot). s.job) ss k x 0 l) (h k 0 (let e : length (jobs_of ss) ≡ length ss = length-map ss (λ (s : Slot). s.job) in omega arith))

-- on one device
list_device : (c : Class) (d free : ℕ) (q : List ℕ) → All (λ s. s.device ≡ d) (slots_of_list c d free q)
list_device c d free [] = All-nil (λ s. s.device ≡ d)
list_device c d free (j ∷ js) = All-cons (λ s. s.device ≡ d) (record { job = j; device = d; start = free }) (slots_of_list c d (free + time_on c j d) js) refl (list_device c d (free + time_on c j d) js)

list_starts : (c : Class) (d low free : ℕ) (q : List ℕ) → low ≤ free → All (λ s. low ≤ s.start) (slots_of_list c d free q)
list_starts c d low free [] h = All-nil (λ s. low ≤ s.start)
list_starts c d low free (j ∷ js) h = All-cons (λ s. low ≤ s.start) (record { job = j; device = d; start = free }) (slots_of_list c d (free + time_on c j d) js) h (list_starts c d low (free + time_on c j d) js (omega arith))

list_apart : (c : Class) (d free : ℕ) (q : List ℕ) → Apart_all c (slots_of_list c d free q)
list_apart c d free [] = tt
list_apart c d free (j ∷ js) =
    ((λ k x l e. inl (list_starts c d (free + time_on c j d) (free + time_on c j d) js (omega arith) k x l)), list_apart c d (free + time_on c j d) js)

list_able : (c : Class) (d free : ℕ) (q : List ℕ) → All (λ j. IsSome (time_in c j d)) q → All (λ s. IsSome (time_in c s.job s.device)) (slots_of_list c d free q)
list_able c d free [] h = All-nil (λ s. IsSome (time_in c s.job s.device))
list_able c d free (j ∷ js) h = All-cons (λ s. IsSome (time_in c s.job s.device)) (record { job = j; device = d; start = free }) (slots_of_list c d (free + time_on c j d) js)
    (All-head (λ x. IsSome (time_in c x d)) j js h) (list_able c d (free + time_on c j d) js (All-tail (λ x. IsSome (time_in c x d)) j js h))

-- over the devices
from_device : (c : Class) (d : ℕ) (qs : List (List ℕ)) → All (λ s. d ≤ s.device) (slots_from c d qs)
from_device c d [] = All-nil (λ s. d ≤ s.device)
from_device c d (q ∷ qs) = All-append (λ s. d ≤ s.device) (slots_of_list c d (wait_in c d) q) (slots_from c (suc d) qs)
    (λ k x l. let e : (get_or (slots_of_list c d (wait_in c d) q) k x).device ≡ d = list_device c d (wait_in c d) q k x l in omega arith)
    (λ k x l. let e : suc d ≤ (get_or (slots_from c (suc d) qs) k x).device = from_device c (suc d) qs k x l in omega arith)

from_wait : (c : Class) (d : ℕ) (qs : List (List ℕ)) → All (λ s. wait_in c s.device ≤ s.start) (slots_from c d qs)
from_wait c d [] = All-nil (λ s. wait_in c s.device ≤ s.start)
from_wait c d (q ∷ qs) = All-append (λ s. wait_in c s.device ≤ s.start) (slots_of_list c d (wait_in c d) q) (slots_from c (suc d) qs)
    (λ k x l. let e : (get_or (slots_of_list c d (wait_in c d) q) k x).device ≡ d = list_device c d (wait_in c d) q k x l in
    let w : wait_in c (get_or (slots_of_list c d (wait_in c d) q) k x).device ≡ wait_in c d = ap (wait_in c) e in
    let s : wait_in c d ≤ (get_or (slots_of_list c d (wait_in c d) q) k x).start = list_starts c d (wait_in c d) (wait_in c d) q (omega arith) k x l in omega arith)
    (from_wait c (suc d) qs)

from_able : (c : Class) (d : ℕ) (qs : List (List ℕ)) → AbleFrom c d qs → All (λ s. IsSome (time_in c s.job s.device)) (slots_from c d qs)
from_able c d [] h = All-nil (λ s. IsSome (time_in c s.job s.device))
from_able c d (q ∷ qs) h = All-append (λ s. IsSome (time_in c s.job s.device)) (slots_of_list c d (wait_in c d) q) (slots_from c (suc d) qs) (list_able c d (wait_in c d) q h.0) (from_able c (suc d) qs h.1)

apart-append : (c : Class) (d : ℕ) (xs ys : List Slot) → All (λ s. s.device ≡ d) xs → All (λ s. suc d ≤ s.device) ys → Apart_all c xs → Apart_all c ys → Apart_all c (xs ++ ys)
apart-append c d [] ys on later a b = b
apart-append c d (x ∷ xs) ys on later a b = (
  All-append (λ y. Apart c x y) xs ys a.0
      (λ k z l e. let n : suc d ≤ (get_or ys k z).device = later k z l in let m : x.device ≡ d = All-head (λ s. s.device ≡ d) x xs on in absurd (omega arith)),
  apart-append c d xs ys (All-tail (λ s. s.device ≡ d) x xs on) later a.1 b,
)

from_apart : (c : Class) (d : ℕ) (qs : List (List ℕ)) → Apart_all c (slots_from c d qs)
from_apart c d [] = tt
from_apart c d (q ∷ qs) = apart-append c d (slots_of_list c d (wait_in c d) q) (slots_from c (suc d) qs) (list_device c d (wait_in c d) q) (from_device c (suc d) qs) (list_apart c d (wait_in c d) q) (from_apart c (suc d) qs)

all_pairs : (c : Class) (ss : List Slot) → Apart_all c ss → AllPairs (Apart c) ss
all_pairs c [] h = λ i j d l m. absurd (omega arith)
all_pairs c (s ∷ ss) h = AllPairs-cons (Apart c) s ss h.0 (all_pairs c ss h.1)

-- the starts of a way are a timetable
pub own_timetable : (c : Class) (w : List (List ℕ)) → IsWay c w → IsTimetable c (own_slots c w)
unfolding times_named
own_timetable c w h =
    let slots = own_slots c w in
    let names : jobs_of slots ≡ concat w = from_jobs c 0 w in
    record {
      known = all_of_jobs (Contains c.ids) slots (subst (All (Contains c.ids)) (sym names) h.known);
      once = λ k d l. slots_naming_is slots (get_or c.ids k d) ∙ sym (count-jobs_of (get_or c.ids k d) slots) ∙ ap (λ x. count_by (λ y. y == get_or c.ids k d) x) names ∙ h.once k d l;
      able = from_able c 0 w (able_from c 0 w (λ i. rw zero-add (h.able i)));
      after_wait = from_wait c 0 w;
      apart = all_pairs c slots (from_apart c 0 w);
    }

-- the total of the slots is the total of the way
pub own_total : (c : Class) → IsClass c → (w : List (List ℕ)) → IsWay c w → slots_total c (own_slots c w) ≡ total_of c w
own_total c ok w h = slots_from_total c 0 w ∙ sym (total_is c ok w h)

-- ---- each ends when its job is complete

-- a property of the jobs of a list is a property of the jobs of its slots
slots_have : (P : ℕ → Type 0) (c : Class) (d free : ℕ) (q : List ℕ) → All P q → All (λ s. P s.job) (slots_of_list c d free q)
slots_have P c d free q h = all_of_jobs P (slots_of_list c d free q) (subst (All P) (sym (list_jobs c d free q)) h)

list_ends : (c : Class) (d free : ℕ) (q : List ℕ) → Distinct q → All (λ s. end_of c s ≡ free + busy_time c d (up_to s.job q)) (slots_of_list c d free q)
list_ends c d free [] h = All-nil (λ s. end_of c s ≡ free + busy_time c d (up_to s.job []))
list_ends c d free (j ∷ js) h =
    let later : List Slot = slots_of_list c d (free + time_on c j d) js in
    let rest = list_ends c d (free + time_on c j d) js h.1 in
    let others : All (λ s. ¬ (j ≡ s.job)) later = slots_have (λ y. ¬ (j ≡ y)) c d (free + time_on c j d) js h.0 in
    All-cons (λ s. end_of c s ≡ free + busy_time c d (up_to s.job (j ∷ js))) (record { job = j; device = d; start = free }) later
    (let own : busy_time c d (up_to j (j ∷ js)) ≡ time_on c j d + 0 = ap (busy_time c d) (up_to-here j js) in omega (arith, own))
    (λ k x l.
    let s = get_or later k x in
    let more : busy_time c d (up_to s.job (j ∷ js)) ≡ time_on c j d + busy_time c d (up_to s.job js) = ap (busy_time c d) (up_to-later j js s.job (others k x l)) in
    omega (arith, more, rest k x l))

slot_ends : (c : Class) (d : ℕ) (qs : List (List ℕ)) → Distinct (concat qs) → All (λ s. end_of c s ≡ completion_from c d qs s.job) (slots_from c d qs)
slot_ends c d [] h = All-nil (λ s. end_of c s ≡ completion_from c d [] s.job)
slot_ends c d (q ∷ qs) h =
    let parts = distinct_parts q (concat qs) h in
    let own = slots_have (λ job. list_any (λ id. id == job) q ≡ true) c d (wait_in c d) q (has_own q) in
    let ends = list_ends c d (wait_in c d) q parts.0 in
    let rest = slot_ends c (suc d) qs parts.1 in
    let others = all_of_jobs (λ job. list_any (λ id. id == job) q ≡ false) (slots_from c (suc d) qs) (subst (All (λ job. list_any (λ id. id == job) q ≡ false)) (sym (from_jobs c (suc d) qs)) (has_other q (concat qs) parts.2)) in
    All-append (λ s. end_of c s ≡ completion_from c d (q ∷ qs) s.job) (slots_of_list c d (wait_in c d) q) (slots_from c (suc d) qs)
    (λ k x l. ends k x l ∙ sym (completion_here c d q qs (get_or (slots_of_list c d (wait_in c d) q) k x).job (own k x l)))
    (λ k x l. rest k x l ∙ sym (completion_later c d q qs (get_or (slots_from c (suc d) qs) k x).job (others k x l)))

pub own_ends : (c : Class) (w : List (List ℕ)) → IsWay c w → All (λ s. end_of c s ≡ completion_of c w s.job) (own_slots c w)
own_ends c w h k x l = slot_ends c 0 w (distinct_names c w h) k x l ∙ sym (completion_is c w (get_or (own_slots c w) k x).job)

pub own_end : (c : Class) (w : List (List ℕ)) → IsWay c w → (s : Slot) → Contains (own_slots c w) s → end_of c s ≡ completion_of c w s.job
own_end c w h s found = rw found.2 at (own_ends c w h found.0 s found.1)
