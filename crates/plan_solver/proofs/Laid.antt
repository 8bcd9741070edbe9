-- The places of each device are its last places.
use Rattle.std.proofs.Common.{◌≡◌, ◌≢◌, ℕ, ◌+◌, ◌<◌, ◌≤◌, zero, suc, ◌*◌, add-one, cond, eqb, List, [], ◌∷◌, ◌++◌, length, vec_len, get_or, set, take, drop, ◌^◌, min, ap, sym, inl, inr, ◌∙◌, refl, arith}
use Rattle.std.proofs.lemmas.Bool.{cases_eq}
use Rattle.std.proofs.lemmas.Bool.Decides.{nat_tests}
use Rattle.std.proofs.Math.Nat.{mul-le-mul_left}
use Rattle.std.specs.List.{range_with_len}
use Rattle.std.proofs.Math.Seq.{take-length}
use Rattle.std.proofs.lemmas.List.{get_or_push, get_or_append_left, get_or-set_same, get_or-set_other, take-append-le, length_push}
use Rattle.std.proofs.lemmas.List.Sums.{sum_by_push, count_by-le-length}
use Rattle.std.proofs.Math.ListN.{length-set}
use Rattle.plan_solver.specs.declared.costs.Costs.{Costs}
use Rattle.plan_solver.specs.declared.costs.Place.{Place}
use Rattle.plan_solver.specs.declared.costs.TheConstants.{UNABLE}
use Rattle.plan_solver.specs.declared.matching.Matching.{Matching}
use Rattle.plan_solver.specs.Costs.{cost_of, cost_at, row_of, nowhere}
use Rattle.plan_solver.specs.Matching.{HasRoom, IsFair, IsFairlyMatched}
use Rattle.plan_solver.specs.Layout.{taken, IsFilled, IsLaid, ShowsNext, place_before}

abbrev before_of : ℕ → ℕ → Place
before_of device after = record { device = device; after = after }

abbrev pub on : ℕ → Place → ℕ
on device place = cond (eqb place.device device) 1 0

pub on-same : (device : ℕ) (place : Place) → place.device ≡ device → on device place ≡ 1
on-same device place e = grind (arith, nat_tests)

pub on-other : (device : ℕ) (place : Place) → place.device ≢ device → on device place ≡ 0
on-other device place ne = grind (arith, nat_tests)

pub taken-push : (device : ℕ) (place : Place) (places : List Place) → taken device (places ++ place ∷ []) ≡ taken device places + on device place
unfolding taken
taken-push device place places = sum_by_push (on device) places place

pub taken-le : (device : ℕ) (places : List Place) → taken device places ≤ length places
unfolding taken
taken-le device places = count_by-le-length (λ place. eqb place.device device) places

pub taken-none : (device : ℕ) → taken device [] ≡ 0
unfolding taken
taken-none device = refl

pub laid_now : (devices f : ℕ) (columns free columns' : List Place) → IsLaid devices columns → ShowsNext devices columns free → f < devices → columns' ≡ columns ++ get_or free f nowhere ∷ [] → IsLaid devices columns'
laid_now devices f columns free columns' h show lt es =
    let x = get_or free f nowhere in
    let next = show.next f lt in
    let new : get_or (columns ++ x ∷ []) (length columns) nowhere ≡ x = get_or_push columns x nowhere (length columns) refl in
    let whole : take (length columns) (columns ++ x ∷ []) ≡ columns = take-append-le (length columns) columns (x ∷ []) (omega arith) ∙ take-length columns in
    record {
      known = λ c below. elim (cases_eq c (length columns)) [
        | inl e ↦ rw (es, e, new, next) lt
        | inr ne ↦
            let before : c < length columns = omega (arith, below, ap length es, length_push columns x) in
            rw (es, get_or_append_left columns (x ∷ []) nowhere c before) (h.known c before)
      ];
      places = λ c below. elim (cases_eq c (length columns)) [
        | inl e ↦ rw (es, e, new, whole, next) refl
        | inr ne ↦
            let before : c < length columns = omega (arith, below, ap length es, length_push columns x) in
            let prefix : take c (columns ++ x ∷ []) ≡ take c columns = take-append-le c columns (x ∷ []) (omega arith) in
            rw (es, get_or_append_left columns (x ∷ []) nowhere c before, prefix) (h.places c before)
      ];
    }

pub shows_now : (devices f : ℕ) (columns free columns' free' : List Place) → ShowsNext devices columns free → f < devices → columns' ≡ columns ++ get_or free f nowhere ∷ [] → free' ≡ set free f (place_before (get_or free f nowhere)) → ShowsNext devices columns' free'
shows_now devices f columns free columns' free' show lt es ef =
    let x = get_or free f nowhere in
    let next = show.next f lt in
    record {
      one_each = rw (ef, length-set) show.one_each;
      next = λ d below. elim (cases_eq d f) [
        | inl e ↦ rw (es, ef, e, taken-push, on-same f x (ap (λ (p : Place). p.device) next), get_or-set_same free f (place_before x) nowhere (omega (arith, lt, show.one_each)), next) refl
        | inr ne ↦ rw (es, ef, taken-push, on-other d x (λ e. ne (sym e ∙ ap (λ (p : Place). p.device) next)), get_or-set_other free f d (place_before x) nowhere ne) (show.next d below ∙ ap (λ (t : ℕ). before_of d t) (omega arith))
      ];
    }

-- a place before another costs no less
rises_with : (time wait after : ℕ) → min (wait + suc after * time) UNABLE ≤ min (wait + suc (after + 1) * time) UNABLE
rises_with time wait after = omega (arith, mul-le-mul_left time (let more : suc after ≤ suc (after + 1) = omega arith in more))

pub rises : (costs : Costs) (job : ℕ) (place : Place) → cost_of costs job place ≤ cost_of costs job (place_before place)
unfolding cost_at
rises costs job place = rises_with (get_or (row_of costs job) place.device UNABLE) (get_or costs.waits.items place.device UNABLE) place.after

pub fair_later : (costs : Costs) (f : ℕ) (jobs prices : List ℕ) (free free' : List Place) → IsFair (cost_of costs) jobs prices free [] → f < length free → free' ≡ set free f (place_before (get_or free f nowhere)) → IsFair (cost_of costs) jobs prices free' []
fair_later costs f jobs prices free free' fair lt ef = record {
  at = λ q d lq ld. elim (cases_eq d f) [
    | inl e ↦ rw (ef, e, get_or-set_same free f (place_before (get_or free f nowhere)) nowhere lt) (omega (arith, fair.at q f lq lt, rises costs (get_or jobs q 0) (get_or free f nowhere)))
    | inr ne ↦ rw (ef, get_or-set_other free f d (place_before (get_or free f nowhere)) nowhere ne) (fair.at q d lq (rw (← length-set free f (place_before (get_or free f nowhere)), ← ef) ld))
  ];
}

-- the slacks, once one of the places is the one before it, and has its slack anew
pub room_later : (costs : Costs) (f k : ℕ) (jobs prices : List ℕ) (free free' : List Place) (slacks slacks' : List ℕ) → HasRoom (cost_of costs) jobs prices free slacks → f < length slacks → length slacks ≡ length free → free' ≡ set free f (place_before (get_or free f nowhere)) → slacks' ≡ set slacks f k
    → ((q : ℕ) → q < length jobs → get_or prices q 0 + k ≤ cost_of costs (get_or jobs q 0) (get_or free' f nowhere)) → HasRoom (cost_of costs) jobs prices free' slacks'
room_later costs f k jobs prices free free' slacks slacks' room lt len ef ek now = record {
  at = λ q d lq ld. elim (cases_eq d f) [
    | inl e ↦ rw (ek, e, get_or-set_same slacks f k 0 lt) (now q lq)
    | inr ne ↦ rw (ek, ef, get_or-set_other slacks f d k 0 ne, get_or-set_other free f d (place_before (get_or free f nowhere)) nowhere ne) (room.at q d lq (rw (← length-set slacks f k, ← ek) ld))
  ];
}

pub laid_none : (devices : ℕ) (columns : List Place) → columns ≡ [] → IsLaid devices columns
laid_none devices columns e = record {
  known = λ c below. absurd (omega (arith, below, ap length e));
  places = λ c below. absurd (omega (arith, below, ap length e));
}

pub shows_none : (devices : ℕ) (columns free : List Place) → columns ≡ [] → length free ≡ devices → ((d : ℕ) → d < devices → get_or free d nowhere ≡ record { device = d; after = 0 }) → ShowsNext devices columns free
shows_none devices columns free e len places = record {
  one_each = len;
  next = λ d below. rw (e, taken-none) (places d below);
}

range-suc : (a n : ℕ) → range_with_len a (suc n) ≡ range_with_len a n ++ (a + n) ∷ []
range-suc a zero = ap (λ (x : ℕ). x ∷ []) (omega arith)
range-suc a (suc n) = ap (λ (l : List ℕ). a ∷ l) (range-suc (a + 1) n ∙ ap (λ (x : ℕ). range_with_len (a + 1) n ++ x ∷ []) (omega arith))

pub range-push : (a n : ℕ) → range_with_len a (n + 1) ≡ range_with_len a n ++ (a + n) ∷ []
range-push a n = rw add-one (range-suc a n)

-- with other free places towards which prices are fair
pub matched_with : (costs : Costs) (s : Matching) (free free' : List Place) → IsFairlyMatched (cost_of costs) s free → IsFair (cost_of costs) s.jobs.items s.prices.items free' [] → IsFairlyMatched (cost_of costs) s free'
matched_with costs s free free' h fair = record {
  jobs = h.jobs;
  prices = h.prices;
  duals = h.duals;
  fair = h.fair;
  fair_free = fair;
  tight = h.tight;
}

-- no job in no column
pub matched_none : (costs : Costs) (s : Matching) (free : List Place) → s.columns.items ≡ [] → s.jobs.items ≡ [] → vec_len s.columns ≡ 0 → vec_len s.jobs ≡ 0 → vec_len s.prices ≡ 0 → vec_len s.duals ≡ 0 → IsFairlyMatched (cost_of costs) s free
matched_none costs s free es ej ls lj lp lr = record {
  jobs = omega arith;
  prices = omega arith;
  duals = omega arith;
  fair = record { at = λ q k lq lk. absurd (omega (arith, lk, ap length es)) };
  fair_free = record { at = λ q k lq lk. absurd (omega (arith, lq, ap length ej)) };
  tight = record { at = λ k lk. absurd (omega (arith, lk, ap length es)) };
}

-- the number that a place shows can go up by one
pub shown_low : (devices f : ℕ) (columns free : List Place) → ShowsNext devices columns free → f < devices → length columns < 2 ^ 63 → (get_or free f nowhere).after < 2 ^ 63
shown_low devices f columns free show lt small = rw (show.next f lt) (omega (arith, taken-le f columns))

-- the whole of a list that was lent
pub lent_whole : {X : Type 0} (n : ℕ) (new old : List X) → length new ≡ n → take n (new ++ drop (length new) old) ≡ new
lent_whole n new old e = rw (← e) (take-append-le (length new) new (drop (length new) old) (omega arith) ∙ take-length new)

-- the matching is filled, once its free places are the next places of the devices
pub filled_from : (costs : Costs) (s : Matching) (free : List Place) → IsFairlyMatched (cost_of costs) s free → IsLaid (vec_len costs.waits) s.columns.items → ShowsNext (vec_len costs.waits) s.columns.items free → IsFilled costs s
filled_from costs s free h laid show = record {
  matched = matched_with costs s free [] h (record { at = λ q k lq lk. absurd (omega (arith, lk)) });
  laid = laid;
  next = λ q d lq ld.
      let at = h.fair_free.at q d (omega (arith, lq, h.jobs, s.jobs.ok.0)) (omega (arith, ld, show.one_each)) in
      rw (← show.next d ld) (omega (arith, at));
}
