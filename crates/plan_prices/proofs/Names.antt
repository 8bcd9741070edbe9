-- The names of a way, list by list and joined.
use Rattle.std.proofs.Common.{◌≡◌, ◌==◌, ℕ, suc, ◌+◌, ◌<◌, ◌≤◌, List, [], ◌∷◌, ◌++◌, length, get_or, refl, sym, ap, ◌∙◌, subst, arith, All, Contains, inl, inr, take, cond, sum_by, count_by}
use Rattle.std.specs.List.{concat}
use Rattle.std.proofs.lemmas.Bool.{cases_lt, cases_eq}
use Rattle.std.proofs.lemmas.List.{length-append, get_or_append_left, get_or-append-add, get_or_default, take_all}
use Rattle.std.proofs.lemmas.List.Elements.{All-append, All-head, All-tail, All-cons, All-nil, All-weaker}
use Rattle.std.proofs.lemmas.List.Sums.{sum_by-cons, sum_by-append}
use Rattle.plan_problem.specs.Class.{Class, place_of}
use Rattle.plan_problem.proofs.Places.{place_below, at_place}
use Rattle.plan_prices.specs.Way.{IsWay, times_named, NamesKnown, NoneTwice, AllNamed, AllAble}
use Rattle.plan_prices.proofs.Sums.{count_of, count_of-no}

-- a property of the names of each list is a property of all names
pub all_concat : (P : ℕ → Type 0) (w : List (List ℕ)) → All (λ q. All P q) w → All P (concat w)
all_concat P [] h = All-nil P
all_concat P (q ∷ qs) h = All-append P q (concat qs) (All-head (λ x. All P x) q qs h) (all_concat P qs (All-tail (λ x. All P x) q qs h))

pub all_left : (P : ℕ → Type 0) (xs ys : List ℕ) → All P (xs ++ ys) → All P xs
all_left P xs ys h k d l = subst P (get_or_append_left xs ys d k l) (h k d (omega (arith, l, length-append xs ys)))

pub all_right : (P : ℕ → Type 0) (xs ys : List ℕ) → All P (xs ++ ys) → All P ys
all_right P xs ys h k d l = subst P (get_or-append-add xs ys k d) (h (length xs + k) d (omega (arith, l, length-append xs ys)))

-- the converse: a property of all names is a property of the names of each list
pub all_lists : (P : ℕ → Type 0) (w : List (List ℕ)) → All P (concat w) → All (λ q. All P q) w
all_lists P [] h = All-nil (λ q. All P q)
all_lists P (q ∷ qs) h = All-cons (λ x. All P x) q qs (all_left P q (concat qs) h) (all_lists P qs (all_right P q (concat qs) h))

-- one list more
pub each_list_more : (P : ℕ → Type 0) (w : List (List ℕ)) (i : ℕ) → i < length w → All P (get_or w i []) → ((k : ℕ) (d : List ℕ) → k < i → All P (get_or w k d)) → (k : ℕ) (d : List ℕ) → k < i + 1 → All P (get_or w k d)
each_list_more P w i l here before k d h = elim (cases_lt k i) [
  | inl lt ↦ before k d lt
  | inr ge ↦
      let e : k ≡ i = omega arith in
      subst (λ j. All P (get_or w j d)) (sym e) (subst (All P) (get_or_default w i [] d l) here)
]

-- a job that is in no list is none of the names
pub none_named : (w : List (List ℕ)) (job : ℕ) → All (λ q. All (λ id. ¬ (id ≡ job)) q) w → ¬ Contains (concat w) job
none_named w job none named = all_concat (λ id. ¬ (id ≡ job)) w none named.0 job named.1 named.2

-- a property of all names is a property of a name that is counted
pub of_counted : (P : ℕ → Type 0) (names : List ℕ) (job n : ℕ) → count_of names job ≡ suc n → All P names → P job
of_counted P [] job n e h = absurd (let z : 0 ≡ suc n = e in omega arith)
of_counted P (x ∷ xs) job n e h = elim (cases_eq x job) [
  | inl same ↦ subst P same (All-head P x xs h)
  | inr other ↦ of_counted P xs job n (sym (count_of-no x xs job other) ∙ e) (All-tail P x xs h)
]

-- the number of times that lists name a job, list by list
abbrev pub times_in_lists : List (List ℕ) → ℕ → ℕ
times_in_lists way job = sum_by (λ jobs. count_by (λ id. id == job) jobs) way

times_in_lists_is : (w : List (List ℕ)) (job : ℕ) → times_in_lists w job ≡ times_named w job
unfolding times_named
times_in_lists_is [] job = refl
times_in_lists_is (q ∷ qs) job =
    sum_by-cons (λ jobs. count_by (λ id. id == job) jobs) q qs
    ∙ ap (λ n. count_by (λ id. id == job) q + n) (times_in_lists_is qs job)
    ∙ sym (sum_by-append (λ id. cond (id == job) 1 0) q (concat qs))

-- a count of all lists counts the names
pub times_named_end : (w qs : List (List ℕ)) (i job n : ℕ) → qs ≡ w → length qs ≤ i → n ≡ times_in_lists (take i w) job → n ≡ times_named w job
times_named_end w qs i job n same l e =
    let z : take i w ≡ w = take_all i w (let m : length qs ≡ length w = ap length same in omega arith) in
    e ∙ ap (λ v. times_in_lists v job) z ∙ times_in_lists_is w job

pub contains_from_place : (ids : List ℕ) (j : ℕ) → place_of ids j < length ids → Contains ids j
contains_from_place ids j l = (place_of ids j, l, get_or_default ids (place_of ids j) j 0 l ∙ at_place ids j l)

-- the jobs of a class are those that are at a place
pub known_from_places : (ids : List ℕ) (w : List (List ℕ)) → All (λ q. All (λ j. place_of ids j < length ids) q) w → All (Contains ids) (concat w)
known_from_places ids w h = All-weaker (λ j. place_of ids j < length ids) (Contains ids) (contains_from_place ids) (concat w) (all_concat (λ j. place_of ids j < length ids) w h)

pub places_from_known : (ids : List ℕ) (w : List (List ℕ)) → All (Contains ids) (concat w) → All (λ q. All (λ j. place_of ids j < length ids) q) w
places_from_known ids w h = all_lists (λ j. place_of ids j < length ids) w (All-weaker (Contains ids) (λ j. place_of ids j < length ids) (place_below ids) (concat w) h)

-- the parts make a way
pub way_from_parts : (c : Class) (w : List (List ℕ)) → length w ≡ length c.waits → NamesKnown c w → NoneTwice c w → AllNamed c w → AllAble c w → IsWay c w
way_from_parts c w n known twice named able = record {
  one_list_each = n;
  known = known;
  once = λ k d l. let a : times_named w (get_or c.ids k d) ≤ 1 = twice k d l in let b : 1 ≤ times_named w (get_or c.ids k d) = named k d l in omega arith;
  able = able;
}

-- the same for the lists of a way
pub none_twice_in : (c : Class) (w : List (List ℕ)) → IsWay c w → NoneTwice c w
none_twice_in c w h k d l = let a : times_named w (get_or c.ids k d) ≡ 1 = h.once k d l in omega (arith, a)

pub all_named_in : (c : Class) (w : List (List ℕ)) → IsWay c w → AllNamed c w
all_named_in c w h k d l = let a : times_named w (get_or c.ids k d) ≡ 1 = h.once k d l in omega (arith, a)
