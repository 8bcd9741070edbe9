-- the prices of the jobs that a way names, added up, are the prices of all jobs
use Rattle.std.proofs.Common.{◌≡◌, ◌==◌, ℕ, zero, suc, ◌+◌, ◌<◌, List, [], ◌∷◌, length, cond, refl, ap, sym, ◌∙◌, arith, ℤ, pos, ◌+ℤ◌, get_or, count_by, All, AllPairs, inl, inr}
use Rattle.std.proofs.Math.Numerals.{one-add}
use Rattle.std.specs.List.Sorted.{IsStrictlyIncreasing}
use Rattle.std.proofs.lemmas.Int.{ints}
use Rattle.std.proofs.lemmas.Bool.{eq-eqb, ne_eqb, cases_eq}
use Rattle.std.proofs.lemmas.List.Sums.{sum_by-cons}
use Rattle.std.proofs.lemmas.List.Kept.{AllPairs-from_increasing}
use Rattle.std.proofs.lemmas.List.Elements.{All-head, All-tail}
use Rattle.plan_prices.specs.Prices.{job_price, sum_signed}

-- each number is below all later ones
abbrev pub Rises : List ℕ → Type 0
Rises [] = Unit {0}
Rises (x ∷ xs) = All (λ y. x < y) xs × Rises xs

abbrev pub count_of : List ℕ → ℕ → ℕ
count_of names job = count_by (λ x. x == job) names

-- a price, this number of times
abbrev pub times : ℕ → ℤ → ℤ
times zero p = pos 0
times (suc n) p = p +ℤ times n p

-- the sum of the jobs' prices, each as often as `count` gives
abbrev pub weighed : List ℕ → List ℤ → (ℕ → ℕ) → ℤ
weighed [] ps count = pos 0
weighed (i ∷ is) [] count = pos 0
weighed (i ∷ is) (p ∷ ps) count = times (count i) p +ℤ weighed is ps count

-- the prices of a list of jobs
abbrev pub prices_of : List ℕ → List ℤ → List ℕ → ℤ
prices_of ids ps [] = pos 0
prices_of ids ps (x ∷ xs) = job_price ids ps x +ℤ prices_of ids ps xs

pub weighed-same : (ids : List ℕ) (ps : List ℤ) (f g : ℕ → ℕ) → All (λ i. f i ≡ g i) ids → weighed ids ps f ≡ weighed ids ps g
weighed-same [] ps f g h = refl
weighed-same (i ∷ is) [] f g h = refl
weighed-same (i ∷ is) (p ∷ ps) f g h =
    let e : f i ≡ g i = All-head (λ i. f i ≡ g i) i is h in
    let r : weighed is ps f ≡ weighed is ps g = weighed-same is ps f g (All-tail (λ i. f i ≡ g i) i is h) in
    rw (e, r) refl

pub count_of-cons : (x : ℕ) (xs : List ℕ) (j : ℕ) → count_of (x ∷ xs) j ≡ cond (x == j) 1 0 + count_of xs j
count_of-cons x xs j = sum_by-cons (λ y. cond (y == j) 1 0) x xs

pub count_of-yes : (x : ℕ) (xs : List ℕ) (j : ℕ) → x ≡ j → count_of (x ∷ xs) j ≡ suc (count_of xs j)
count_of-yes x xs j h = count_of-cons x xs j ∙ (rw (eq-eqb x j h) (omega arith))

pub count_of-no : (x : ℕ) (xs : List ℕ) (j : ℕ) → (x ≡ j → ⊥) → count_of (x ∷ xs) j ≡ count_of xs j
count_of-no x xs j h = count_of-cons x xs j ∙ (rw (ne_eqb x j h) (omega arith))

pub job_price-here : (i : ℕ) (is : List ℕ) (p : ℤ) (ps : List ℤ) (x : ℕ) → i ≡ x → job_price (i ∷ is) (p ∷ ps) x ≡ p
job_price-here i is p ps x h = rw (eq-eqb i x h) refl

pub job_price-later : (i : ℕ) (is : List ℕ) (p : ℤ) (ps : List ℤ) (x : ℕ) → (i ≡ x → ⊥) → job_price (i ∷ is) (p ∷ ps) x ≡ job_price is ps x
job_price-later i is p ps x h =
    rw (ne_eqb i x h) (rw one-add refl)

-- later names are others
pub none_later : (i x : ℕ) (xs is : List ℕ) → i ≡ x → All (λ y. i < y) is → All (λ j. count_of (x ∷ xs) j ≡ count_of xs j) is
none_later i x xs is e h k d l = count_of-no x xs (get_or is k d) (λ s. let lt : i < get_or is k d = h k d l in omega arith)

-- one more name adds its price once
pub weighed-cons : (ids : List ℕ) (ps : List ℤ) (x : ℕ) (xs : List ℕ) → Rises ids → length ps ≡ length ids → weighed ids ps (count_of (x ∷ xs)) ≡ job_price ids ps x +ℤ weighed ids ps (count_of xs)
weighed-cons [] [] x xs r e = refl
weighed-cons [] (p ∷ ps) x xs r e = absurd (omega arith)
weighed-cons (i ∷ is) [] x xs r e = absurd (omega arith)
weighed-cons (i ∷ is) (p ∷ ps) x xs r e = elim (cases_eq i x) [
  | inl same ↦
      let a : times (count_of (x ∷ xs) i) p ≡ p +ℤ times (count_of xs i) p = ap (λ n. times n p) (count_of-yes x xs i (sym same)) in
      let b : weighed is ps (count_of (x ∷ xs)) ≡ weighed is ps (count_of xs) = weighed-same is ps (count_of (x ∷ xs)) (count_of xs) (none_later i x xs is same r.0) in
      let g : job_price (i ∷ is) (p ∷ ps) x ≡ p = job_price-here i is p ps x same in
      omega (arith, ints, a, b, g)
  | inr other ↦
      let a : times (count_of (x ∷ xs) i) p ≡ times (count_of xs i) p = ap (λ n. times n p) (count_of-no x xs i (λ s. other (sym s))) in
      let b : weighed is ps (count_of (x ∷ xs)) ≡ job_price is ps x +ℤ weighed is ps (count_of xs) = weighed-cons is ps x xs r.1 (omega arith) in
      let g : job_price (i ∷ is) (p ∷ ps) x ≡ job_price is ps x = job_price-later i is p ps x other in
      omega (arith, ints, a, b, g)
]

-- where each job is named once, the prices of the names are the prices
pub weighed-once : (ids : List ℕ) (ps : List ℤ) (count : ℕ → ℕ) → length ps ≡ length ids → All (λ i. count i ≡ 1) ids → weighed ids ps count ≡ sum_signed ps
weighed-once [] [] count e h = refl
weighed-once [] (p ∷ ps) count e h = absurd (omega arith)
weighed-once (i ∷ is) [] count e h = absurd (omega arith)
weighed-once (i ∷ is) (p ∷ ps) count e h =
    let a : count i ≡ suc 0 = All-head (λ i. count i ≡ 1) i is h in
    let b : times (count i) p ≡ p +ℤ pos 0 = ap (λ n. times n p) a in
    let r : weighed is ps count ≡ sum_signed ps = weighed-once is ps count (omega arith) (All-tail (λ i. count i ≡ 1) i is h) in
    omega (arith, ints, b, r)

weighed-none : (ids : List ℕ) (ps : List ℤ) → weighed ids ps (count_of []) ≡ pos 0
weighed-none [] ps = refl
weighed-none (i ∷ is) [] = refl
weighed-none (i ∷ is) (p ∷ ps) = omega (arith, ints, weighed-none is ps)

pub prices_of_is : (ids : List ℕ) (ps : List ℤ) (names : List ℕ) → Rises ids → length ps ≡ length ids → prices_of ids ps names ≡ weighed ids ps (count_of names)
prices_of_is ids ps [] r e = sym (weighed-none ids ps)
prices_of_is ids ps (x ∷ xs) r e =
    let a : weighed ids ps (count_of (x ∷ xs)) ≡ job_price ids ps x +ℤ weighed ids ps (count_of xs) = weighed-cons ids ps x xs r e in
    let b : prices_of ids ps xs ≡ weighed ids ps (count_of xs) = prices_of_is ids ps xs r e in
    rw (a, b) refl

pub rises : (ids : List ℕ) → AllPairs (λ x y. x < y) ids → Rises ids
rises [] h = tt
rises (x ∷ xs) h =
    ((λ k d l. h 0 (suc k) d (omega arith) (omega arith)), rises xs (λ i j d l m. h (suc i) (suc j) d (omega arith) (omega arith)))

-- each job is named once
pub prices_of_all : (ids : List ℕ) (ps : List ℤ) (names : List ℕ) → IsStrictlyIncreasing ids → length ps ≡ length ids → All (λ i. count_of names i ≡ 1) ids → prices_of ids ps names ≡ sum_signed ps
prices_of_all ids ps names up e once =
    prices_of_is ids ps names (rises ids (AllPairs-from_increasing ids up)) e ∙ weighed-once ids ps (count_of names) e once
