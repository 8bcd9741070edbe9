-- a verdict, from its parts
use Rattle.std.proofs.Common.{◌≡◌, ℕ, suc, ◌+◌, ◌*◌, ◌<◌, ◌≤◌, List, [], ◌∷◌, length, get_or, refl, sym, ap, ◌∙◌, subst, arith, inl, inr, All, ℤ, pos, ◌≤ℤ◌, Some}
use Rattle.std.specs.List.{concat}
use Rattle.std.proofs.lemmas.Bool.{cases_lt}
use Rattle.std.proofs.lemmas.List.{get_or_past, get_or_default}
use lib.Signed.{le_z_yes}
use Rattle.base_types.specs.declared.limits.TheConstants.Limits.{UNFINISHED_JOBS}
use Rattle.plan_problem.specs.Class.{Class, IsClass, time_in, wait_in}
use Rattle.plan_prices.specs.Way.{IsWay, queue_of}
use Rattle.plan_prices.specs.Total.{IsBest}
use Rattle.plan_prices.specs.Prices.{PriceLists, job_price, places_on, place_price, IsProved}
use Rattle.plan_problem.proofs.Places.{timed_device}
use Rattle.plan_prices.proofs.Names.{way_from_parts, none_twice_in, all_named_in}
use Rattle.plan_prices.proofs.Bounds.{length_names, part_short}
use Rattle.plan_prices.proofs.Duality.{best_from_fair}
use Rattle.plan_checker.specs.Fair.{NoneMissing, NonePositive, NoneTooHigh, IsFairOn}
use Rattle.plan_checker.specs.Beside.{Beside, alone, NoneElsewhere, WaitsFollow}
use Rattle.plan_checker.specs.Verdict.{MustHold, faults, IsFirst, IsVerdict}
use Rattle.plan_checker.specs.declared.verdict.Verdict.{Verdict}
use Rattle.plan_checker.specs.declared.verdict.Verdict.TheVariants.{Yes, No}
use Rattle.plan_checker.specs.declared.verdict.Fault.{Fault}

pub short_lists : (c : Class) → IsClass c → (w : List (List ℕ)) (p : PriceLists) → IsWay c w → NoneMissing c w p → All (λ prices. length prices ≤ UNFINISHED_JOBS) p.places
short_lists c ok w p h m k d l =
    let a : length (places_on p.places k) ≡ length (queue_of w k) = m.place_prices k in
    let b : length (queue_of w k) ≤ length (concat w) = part_short w k in
    let n : length (concat w) ≡ length c.ids = length_names c ok w h in
    let few : length c.ids ≤ UNFINISHED_JOBS = ok.few_jobs in
    let s : get_or p.places k d ≡ get_or p.places k [] = get_or_default p.places k d [] l in
    let z : length (get_or p.places k []) ≤ UNFINISHED_JOBS = omega arith in
    rw s z

not_positive_at : (prices : List ℤ) → All (λ price. price ≤ℤ pos 0) prices → (k : ℕ) → get_or prices k (pos 0) ≤ℤ pos 0
not_positive_at prices h k = elim (cases_lt k (length prices)) [
  | inl lt ↦ h k (pos 0) lt
  | inr past ↦ rw (get_or_past prices k (pos 0) past) (le_z_yes tt)
]

not_positive : (places : List (List ℤ)) → NonePositive places → (device k : ℕ) → place_price places device k ≤ℤ pos 0
not_positive places h device k = elim (cases_lt device (length places)) [
  | inl lt ↦ not_positive_at (places_on places device) (h device [] lt) k
  | inr past ↦ rw (get_or_past places device [] past) (le_z_yes tt)
]

all_not_positive : (places : List (List ℤ)) → ((device k : ℕ) → place_price places device k ≤ℤ pos 0) → NonePositive places
all_not_positive places h device d l k e m =
    let s : get_or places device d ≡ get_or places device [] = get_or_default places device d [] l in
    let n : k < length (get_or places device []) = rw s at m in
    let t : get_or (get_or places device []) k e ≡ get_or (get_or places device []) k (pos 0) = get_or_default (get_or places device []) k e (pos 0) n in
    rw (s, t) (h device k)

pub fair_on : (c : Class) → IsClass c → (w : List (List ℕ)) (p : PriceLists) → length p.places ≡ length c.waits → NoneTooHigh c p → (job device t : ℕ) → time_in c job device ≡ Some t → IsFairOn (wait_in c device) t (job_price c.ids p.jobs job) (places_on p.places device)
fair_on c ok w p n h job device t e = h device (let l : device < length c.waits = timed_device c ok job device t e in omega arith) job t e

-- a class with this verdict is proved
pub proved_from_yes : (beside : Beside) (c : Class) → IsClass c → (w : List (List ℕ)) (p : PriceLists) (total : ℕ) → length w ≡ length c.waits → length p.places ≡ length c.waits → IsVerdict beside c w p total Yes → IsProved c w p total
proved_from_yes beside c ok w p total n m y =
    let known = y.0 in
    let once = y.1.0 in
    let missing = y.1.1.0 in
    let able = y.1.1.1.0 in
    let low = y.1.1.1.1.1.0 in
    let fair = y.1.1.1.1.1.1.0 in
    let agree = y.1.1.1.1.1.1.1.0 in
    record {
      is_way = way_from_parts c w n known once.in_way missing.jobs able;
      fair = record {
        one_each_job = missing.job_prices;
        one_list_each = m ∙ sym n;
        one_each_place = missing.place_prices;
        not_positive = not_positive p.places low;
        used = λ job device t k e l. (fair_on c ok w p m fair job device t e).used k (let s : length (places_on p.places device) ≡ length (queue_of w device) = missing.place_prices device in omega arith);
        next = λ job device t e. subst (λ x. job_price c.ids p.jobs job ≤ℤ pos (wait_in c device + suc x * t)) (missing.place_prices device) (fair_on c ok w p m fair job device t e).next;
        sums = agree.price_sum ∙ ap pos agree.way_total;
      };
      stated = agree.way_total;
    }

module _ (c : Class) (w : List (List ℕ)) (p : PriceLists) (total : ℕ) (proved : IsProved c w p total) where
  none_missing_in : NoneMissing c w p
  none_missing_in = record {
    jobs = all_named_in c w proved.is_way;
    job_prices = proved.fair.one_each_job;
    place_prices = proved.fair.one_each_place;
  }

  none_too_high_in : NoneTooHigh c p
  none_too_high_in device l job t e = record {
    used = λ k m. proved.fair.used job device t k e (let s : length (places_on p.places device) ≡ length (queue_of w device) = proved.fair.one_each_place device in omega arith);
    next = subst (λ x. job_price c.ids p.jobs job ≤ℤ pos (wait_in c device + suc x * t)) (sym (proved.fair.one_each_place device)) (proved.fair.next job device t e);
  }

  -- a proved class has the verdict Yes, if none of its jobs is elsewhere and its waits follow the classes above
  pub yes_from_proved : (beside : Beside) → NoneElsewhere beside c → WaitsFollow beside.above c → IsVerdict beside c w p total Yes
  yes_from_proved beside elsewhere follow = (
    proved.is_way.known,
    (
      record { in_way = none_twice_in c w proved.is_way; elsewhere = elsewhere },
      (
        none_missing_in,
        (
          proved.is_way.able,
          (
            follow,
            (
              all_not_positive p.places proved.fair.not_positive,
              (
                none_too_high_in,
                (
                  record { way_total = proved.stated; price_sum = proved.fair.sums ∙ ap pos (sym proved.stated) },
                  tt,
                ),
              ),
            ),
          ),
        ),
      ),
    ),
  )

-- a class has no other verdict beside yes
no_fault : (Holds : Fault → Type 0) (checks : List Fault) (fault : Fault) → IsFirst Holds checks Yes → IsFirst Holds checks (No fault) → ⊥
no_fault Holds [] fault all first = first
no_fault Holds (next ∷ later) fault all (inl here) = here.1 all.0
no_fault Holds (next ∷ later) fault all (inr rest) = no_fault Holds later fault all.1 rest.1

pub only_yes : (beside : Beside) (c : Class) (w : List (List ℕ)) (p : PriceLists) (total : ℕ) → IsVerdict beside c w p total Yes → (v : Verdict) → IsVerdict beside c w p total v → v ≡ Yes
only_yes beside c w p total all Yes first = refl
only_yes beside c w p total all (No fault) first = absurd (no_fault (MustHold beside c w p total) faults fault all first)

pub best_from_proved : (c : Class) → IsClass c → (w : List (List ℕ)) (p : PriceLists) (total : ℕ) → IsProved c w p total → IsBest c w
best_from_proved c ok w p total h = best_from_fair c w p ok h.is_way h.fair

-- no class is above one by itself, and no job stranded
pub nothing_elsewhere : (c : Class) → NoneElsewhere alone c
nothing_elsewhere c = record {
  above = λ k d l. λ n e m. absurd (omega arith);
  stranded = λ k d l. λ n e m. absurd (omega arith);
}

pub nothing_above : (c : Class) → WaitsFollow [] c
nothing_above c place last e at = absurd (omega arith)
