-- A job that isn't kept can be removed without a change of the kept jobs.
use Rattle.std.proofs.Common.{◌≡◌, ℕ, zero, suc, ◌+◌, ◌<◌, ◌≤◌, Bool, true, false, cond, not, ◌&&◌, ◌||◌, List, [], ◌∷◌, length, Option, Some, None, refl, sym, ◌∙◌, ap, arith, remove, get_or, position, filter, true≢false}
use Rattle.std.specs.Prelude.{count_by, nat_lt}
use Rattle.std.specs.List.{position_from}
use Rattle.std.proofs.lemmas.Bool.Decides.{nat_tests}
use Rattle.std.proofs.lemmas.Iterator.Adapters.{position_from-zero}
use Rattle.std.proofs.lemmas.List.Sums.{sum_by-remove, sum_by-le-sum_by}
use Rattle.std.proofs.lemmas.List.Quantifiers.{position-Some}
use Rattle.base_types.specs.declared.limits.TheConstants.Limits.{FINISHED_JOBS_KEPT}
use Rattle.spool.specs.Spooled.{SpooledRecord, is_retired}
use Rattle.spool.specs.Jobs.{SpoolRecord}
use Rattle.spool.specs.Kept.{is_later, later_jobs, is_kept, retained}

-- ---- counts and filters of a list without one element

abbrev one_if : Bool → ℕ
one_if b = cond b 1 0

count_removed : {X : Type 0} (p : X → Bool) (xs : List X) (i : ℕ) (d : X) → i < length xs → count_by p (remove xs i) + one_if (p (get_or xs i d)) ≡ count_by p xs
count_removed p xs i d inside = sum_by-remove (λ x. one_if (p x)) xs i d inside

one_more : (b c : Bool) → (b ≡ true → c ≡ true) → one_if b ≤ one_if c
one_more true true more = omega arith
one_more true false more = absurd (true≢false (sym (more refl)))
one_more false c more = omega arith

count_more : {X : Type 0} (p q : X → Bool) → ((x : X) → p x ≡ true → q x ≡ true) → (xs : List X) → count_by p xs ≤ count_by q xs
count_more p q more xs = sum_by-le-sum_by (λ x. one_if (p x)) (λ x. one_if (q x)) xs (λ x. one_more (p x) (q x) (more x))

filter_removed : {X : Type 0} (p : X → Bool) (xs : List X) (i : ℕ) (d : X) → i < length xs → p (get_or xs i d) ≡ false → filter p (remove xs i) ≡ filter p xs
filter_removed p [] i d inside out = absurd (omega (arith, inside))
filter_removed p (x ∷ xs) zero d inside out = ap (λ (b : Bool). cond b (x ∷ filter p xs) (filter p xs)) (sym out)
filter_removed {X} p (x ∷ xs) (suc i) d inside out = ap (λ (ys : List X). cond (p x) (x ∷ ys) ys) (filter_removed p xs i d (omega (arith, inside)) out)

-- ---- later

later_than_itself : (s : SpooledRecord) → is_later s s ≡ false
later_than_itself s = grind (arith, nat_tests)

later_than_later : (a b c : SpooledRecord) → is_later a b ≡ true → is_later b c ≡ true → is_later a c ≡ true
later_than_later a b c ab bc = grind (arith, nat_tests, ab, bc)

-- ---- the kept jobs

also_later : (a b c : SpooledRecord) → is_later b c ≡ true → (is_retired a && is_later a b) ≡ true → (is_retired a && is_later a c) ≡ true
also_later a b c bc ab = and_map (is_retired a) (is_later a b) (is_later a c) (λ l. later_than_later a b c l bc) ab
  where
    and_map : (x y z : Bool) → (y ≡ true → z ≡ true) → (x && y) ≡ true → (x && z) ≡ true
    and_map true y z f is = f is
    and_map false y z f is = is

-- whether the first is one of those that are finished later than the second
abbrev later_than : SpooledRecord → SpooledRecord → Bool
later_than first second = is_retired first && is_later first second

not_later_than_itself : (s : SpooledRecord) → later_than s s ≡ false
not_later_than_itself s = not_both (is_retired s) (is_later s s) (later_than_itself s)
  where
    not_both : (a b : Bool) → b ≡ false → (a && b) ≡ false
    not_both true b is = is
    not_both false b is = refl

-- a count of m less one, if that is so; where it is so, the count below stays at the limit or above
same_test : (b : Bool) (m n limit : ℕ) → n + one_if b ≡ m → (b ≡ true → limit ≤ n) → nat_lt m limit ≡ nat_lt n limit
same_test true m n limit is enough = let le = enough refl in grind (arith, nat_tests, is, le)
same_test false m n limit is enough = grind (arith, nat_tests, is)

not_below : (m limit : ℕ) (b : Bool) → (not b || nat_lt m limit) ≡ false → limit ≤ m
not_below m limit true is = grind (arith, nat_tests, is)
not_below m limit false is = absurd (true≢false is)

-- without a job that isn't kept, each job is kept or not as before
kept_same : (jobs : List SpooledRecord) (i : ℕ) (d : SpooledRecord) (y : SpooledRecord) → i < length jobs → is_kept jobs (get_or jobs i d) ≡ false → is_kept (remove jobs i) y ≡ is_kept jobs y
kept_same jobs i d y inside out =
    let x = get_or jobs i d in
    let of_y : later_jobs (remove jobs i) y + one_if (later_than x y) ≡ later_jobs jobs y = count_removed (λ o. later_than o y) jobs i d inside in
    let of_x : later_jobs (remove jobs i) x + one_if (later_than x x) ≡ later_jobs jobs x = count_removed (λ o. later_than o x) jobs i d inside in
    let many : FINISHED_JOBS_KEPT ≤ later_jobs jobs x = not_below (later_jobs jobs x) FINISHED_JOBS_KEPT (is_retired x) out in
    let still : FINISHED_JOBS_KEPT ≤ later_jobs (remove jobs i) x = omega (arith, many, of_x, ap one_if (not_later_than_itself x)) in
    let test : nat_lt (later_jobs jobs y) FINISHED_JOBS_KEPT ≡ nat_lt (later_jobs (remove jobs i) y) FINISHED_JOBS_KEPT =
    same_test (later_than x y) (later_jobs jobs y) (later_jobs (remove jobs i) y) FINISHED_JOBS_KEPT of_y
    (λ later. let more : later_jobs (remove jobs i) x ≤ later_jobs (remove jobs i) y = count_more (λ o. later_than o x) (λ o. later_than o y) (λ z zx. also_later z x y (later_of (is_retired x) (is_later x y) later) zx) (remove jobs i) in omega (arith, still, more)) in
    ap (λ (b : Bool). not (is_retired y) || b) (sym test)
  where
    later_of : (a b : Bool) → (a && b) ≡ true → b ≡ true
    later_of true b is = is
    later_of false b is = absurd (true≢false (sym is))

filter_same : {X : Type 0} (p q : X → Bool) → ((x : X) → p x ≡ q x) → (xs : List X) → filter p xs ≡ filter q xs
filter_same p q same [] = refl
filter_same {X} p q same (x ∷ xs) =
    ap (λ (b : Bool). cond b (x ∷ filter p xs) (filter p xs)) (same x) ∙ ap (λ (ys : List X). cond (q x) (x ∷ ys) ys) (filter_same p q same xs)

-- a job that isn't kept can be removed without a change of the kept jobs
pub retained_remove : (jobs : List SpooledRecord) (i : ℕ) (d : SpooledRecord) → i < length jobs → is_kept jobs (get_or jobs i d) ≡ false → retained (remove jobs i) ≡ retained jobs
retained_remove jobs i d inside out =
    filter_same (is_kept (remove jobs i)) (is_kept jobs) (λ y. kept_same jobs i d y inside out) (remove jobs i)
    ∙ filter_removed (is_kept jobs) jobs i d inside out

-- ---- the result of a search for a job that isn't kept

none_step : {X : Type 0} (b : Bool) (i : ℕ) (x : X) (o : Option ℕ) (xs ys : List X) → cond (not b) (Some i) o ≡ None → (o ≡ None → ys ≡ xs) → cond b (x ∷ ys) ys ≡ x ∷ xs
none_step true i x o xs ys none rest = ap (λ zs. x ∷ zs) (rest none)
none_step false i x o xs ys none rest = cc

all_from : {X : Type 0} (p : X → Bool) (i : ℕ) (xs : List X) → position_from (λ x. not (p x)) i xs ≡ None → filter p xs ≡ xs
all_from p i [] none = refl
all_from p i (x ∷ xs) none = none_step (p x) i x (position_from (λ y. not (p y)) (i + 1) xs) xs (filter p xs) none (all_from p (i + 1) xs)

pub all_kept : (jobs : List SpooledRecord) → position (λ s. not (is_kept jobs s)) jobs ≡ None → retained jobs ≡ jobs
all_kept jobs none = all_from (is_kept jobs) 0 jobs (sym (position_from-zero (λ s. not (is_kept jobs s)) jobs) ∙ none)

not_true : (b : Bool) → not b ≡ true → b ≡ false
not_true true is = absurd (true≢false (sym is))
not_true false is = refl

pub found_out : (jobs : List SpooledRecord) (i : ℕ) (d : SpooledRecord) → position (λ s. not (is_kept jobs s)) jobs ≡ Some i → (i < length jobs) × (is_kept jobs (get_or jobs i d) ≡ false)
found_out jobs i d found =
    let at = position-Some (λ s. not (is_kept jobs s)) jobs i d found in
    (at.0, not_true (is_kept jobs (get_or jobs i d)) at.1)

-- the first that isn't kept goes
pub retained_gone : (jobs : List SpooledRecord) (i : ℕ) → position (λ s. not (is_kept jobs s)) jobs ≡ Some i → retained (remove jobs i) ≡ retained jobs
retained_gone [] i found = cc
retained_gone (s ∷ jobs) i found = let at = found_out (s ∷ jobs) i s found in retained_remove (s ∷ jobs) i s at.0 at.1

pub spool_is : (now : SpoolRecord) (jobs : List SpooledRecord) (next : ℕ) → now.jobs ≡ jobs → now.next ≡ next → now ≡ record { jobs = jobs; next = next }
spool_is now jobs next of_jobs of_next = λ i. record { jobs = of_jobs i; next = of_next i }

-- ---- where so few are finished that all are kept

-- a job that isn't kept is retired
out_retired : (b c : Bool) → (not b || c) ≡ false → b ≡ true
out_retired true c is = refl
out_retired false c is = absurd (true≢false is)

later_retired : (a b : Bool) → (a && b) ≡ true → a ≡ true
later_retired true b is = refl
later_retired false b is = absurd (true≢false (sym is))

-- beside a job that isn't kept there are more retired jobs than are kept
more_retired : (jobs : List SpooledRecord) (i : ℕ) (d : SpooledRecord) → i < length jobs → is_kept jobs (get_or jobs i d) ≡ false → FINISHED_JOBS_KEPT < count_by is_retired jobs
more_retired jobs i d inside out =
    let x = get_or jobs i d in
    let of_x : later_jobs (remove jobs i) x + one_if (later_than x x) ≡ later_jobs jobs x = count_removed (λ o. later_than o x) jobs i d inside in
    let all : count_by is_retired (remove jobs i) + one_if (is_retired x) ≡ count_by is_retired jobs = count_removed is_retired jobs i d inside in
    let many : FINISHED_JOBS_KEPT ≤ later_jobs jobs x = not_below (later_jobs jobs x) FINISHED_JOBS_KEPT (is_retired x) out in
    let others : later_jobs (remove jobs i) x ≤ count_by is_retired (remove jobs i) = count_more (λ o. later_than o x) is_retired (λ z zx. later_retired (is_retired z) (is_later z x) zx) (remove jobs i) in
    omega (arith, of_x, all, many, others, ap one_if (not_later_than_itself x), ap one_if (out_retired (is_retired x) (nat_lt (later_jobs jobs x) FINISHED_JOBS_KEPT) out))

none_out : (jobs : List SpooledRecord) (d : SpooledRecord) (o : Option ℕ) → position (λ s. not (is_kept jobs s)) jobs ≡ o → count_by is_retired jobs ≤ FINISHED_JOBS_KEPT → o ≡ None
none_out jobs d None is few = refl
none_out jobs d (Some i) is few =
    let at = found_out jobs i d is in
    absurd (omega (arith, few, more_retired jobs i d at.0 at.1))

-- no search finds one
pub few_kept : (jobs : List SpooledRecord) → count_by is_retired jobs ≤ FINISHED_JOBS_KEPT → position (λ s. not (is_kept jobs s)) jobs ≡ None
few_kept [] few = refl
few_kept (s ∷ jobs) few = none_out (s ∷ jobs) s (position (λ t. not (is_kept (s ∷ jobs) t)) (s ∷ jobs)) refl few
