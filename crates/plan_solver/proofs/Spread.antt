-- Sums over the devices of the numbers that their columns add.
use Rattle.std.proofs.Common.{◌≡◌, ◌≢◌, ℕ, zero, suc, add-one, ◌+◌, ◌<◌, ◌≤◌, List, [], ◌∷◌, length, get_or, take, sum_by, ap, sym, ◌∙◌, refl, arith, inl, inr, All}
use Rattle.std.specs.List.{range_with_len}
use Rattle.std.specs.List.Sorted.{IsPermutation}
use Rattle.std.proofs.Math.Seq.{take-length}
use Rattle.std.proofs.lemmas.Bool.{cases_eq}
use Rattle.std.proofs.lemmas.List.{get_or_push, get_or_append_left, length_push}
use Rattle.std.proofs.lemmas.List.Elements.{All-nil, All-push}
use Rattle.std.proofs.lemmas.List.FromFn.{get_or-range_with_len, length-range_with_len}
use Rattle.std.proofs.lemmas.List.Sums.{sum_by_more}
use Rattle.std.proofs.lemmas.List.Sorted.{sum_by-IsPermutation}
use Rattle.plan_solver.specs.Answer.{of_devices}

abbrev pub sum_to : (ℕ → ℕ) → ℕ → ℕ
sum_to g zero = 0
sum_to g (suc n) = sum_to g n + g n

pub sum_to-same : (f g : ℕ → ℕ) (n : ℕ) → ((d : ℕ) → d < n → f d ≡ g d) → sum_to f n ≡ sum_to g n
sum_to-same f g zero h = refl
sum_to-same f g (suc n) h = omega (arith, sum_to-same f g n (λ d lt. h d (omega arith)), h n (omega arith))

-- one part more at one device
sum_to-more : (f g : ℕ → ℕ) (at x n : ℕ) → at < n → g at ≡ f at + x → ((d : ℕ) → d ≢ at → g d ≡ f d) → sum_to g n ≡ sum_to f n + x
sum_to-more f g at x zero lt e same = absurd (omega arith)
sum_to-more f g at x (suc n) lt e same = elim (cases_eq at n) [
  | inl is ↦
      let rest : sum_to g n ≡ sum_to f n = sum_to-same g f n (λ d below. same d (omega arith)) in
      let here : g n ≡ f n + x = rw (← is) e in
      omega (arith, rest, here)
  | inr ne ↦ omega (arith, sum_to-more f g at x n (omega arith) e same, same n (λ q. ne (sym q)))
]

sum_to-none : (f : ℕ → ℕ) (n : ℕ) → ((d : ℕ) → f d ≡ 0) → sum_to f n ≡ 0
sum_to-none f zero h = refl
sum_to-none f (suc n) h = omega (arith, sum_to-none f n h, h n)

-- a function of the device that grows, at the device of each column, by the number that the column adds
pub record Spreads (f : ℕ → ℕ → ℕ) (x device : ℕ → ℕ) (devices n : ℕ) : Type 0 where
  pub none : (d : ℕ) → f d 0 ≡ 0
  pub known : (m : ℕ) → m < n → device m < devices
  pub here : (m : ℕ) → m < n → f (device m) (suc m) ≡ f (device m) m + x m
  pub other : (m d : ℕ) → m < n → d ≢ device m → f d (suc m) ≡ f d m

pub spread : (f : ℕ → ℕ → ℕ) (x device : ℕ → ℕ) (devices n : ℕ) → Spreads f x device devices n → (m : ℕ) → m ≤ n → sum_to (λ d. f d m) devices ≡ sum_to x m
spread f x device devices n h zero le = sum_to-none (λ d. f d 0) devices h.none
spread f x device devices n h (suc m) le =
    omega (arith, spread f x device devices n h m (omega arith), sum_to-more (λ d. f d m) (λ d. f d (suc m)) (device m) (x m) devices (h.known m (omega arith)) (h.here m (omega arith)) (λ d ne. h.other m d (omega arith) ne))

-- by place, and as a sum over the list
by_place : {X : Type 0} (w : X → ℕ) (xs : List X) (o : X) (m : ℕ) → m ≤ length xs → sum_to (λ k. w (get_or xs k o)) m ≡ sum_by w (take m xs)
by_place w xs o zero le = refl
by_place w xs o (suc m) le =
    let more : sum_by w (take (suc m) xs) ≡ sum_by w (take m xs) + w (get_or xs m o) = rw (← add-one) (sum_by_more w xs m o (omega arith)) in
    omega (arith, more, by_place w xs o m (omega arith))

pub by_places : {X : Type 0} (w : X → ℕ) (xs : List X) (o : X) (n : ℕ) → n ≡ length xs → sum_to (λ k. w (get_or xs k o)) n ≡ sum_by w xs
by_places w xs o n e = by_place w xs o n (omega arith) ∙ ap (λ k. sum_by w (take k xs)) e ∙ ap (λ l. sum_by w l) (take-length xs)

-- in any order of the numbers below a bound
pub shuffled : (w : ℕ → ℕ) (n m : ℕ) (jobs : List ℕ) → IsPermutation (range_with_len 0 n) jobs → m ≡ length jobs → sum_to (λ k. w (get_or jobs k 0)) m ≡ sum_to w n
shuffled w n m jobs p e =
    let numbers : sum_to (λ k. w (get_or (range_with_len 0 n) k 0)) n ≡ sum_by w (range_with_len 0 n) = by_places w (range_with_len 0 n) 0 n (sym (length-range_with_len 0 n)) in
    let plain : sum_to (λ k. w (get_or (range_with_len 0 n) k 0)) n ≡ sum_to w n = sum_to-same (λ k. w (get_or (range_with_len 0 n) k 0)) w n (λ k lt. ap w (get_or-range_with_len 0 n k 0 lt ∙ omega arith)) in
    by_places w jobs 0 m e ∙ sum_by-IsPermutation w (range_with_len 0 n) jobs p ∙ sym numbers ∙ plain

-- the list of all devices
pub of_devices-length : {X : Type 0} (f : ℕ → X) (n : ℕ) → length (of_devices f n) ≡ n
of_devices-length f zero = refl
of_devices-length f (suc n) = omega (arith, length_push (of_devices f n) (f n), of_devices-length f n)

pub of_devices-at : {X : Type 0} (f : ℕ → X) (n d : ℕ) (o : X) → d < n → get_or (of_devices f n) d o ≡ f d
of_devices-at f zero d o lt = absurd (omega arith)
of_devices-at f (suc n) d o lt = elim (cases_eq d n) [
  | inl e ↦ rw e (get_or_push (of_devices f n) (f n) o n (of_devices-length f n))
  | inr ne ↦ get_or_append_left (of_devices f n) (f n ∷ []) o d (omega (arith, of_devices-length f n)) ∙ of_devices-at f n d o (omega arith)
]

pub of_devices-all : {X : Type 0} (P : X → Type 0) (f : ℕ → X) (n : ℕ) → ((d : ℕ) → P (f d)) → All P (of_devices f n)
of_devices-all P f zero h = All-nil P
of_devices-all P f (suc n) h = All-push P (of_devices f n) (f n) (of_devices-all P f n h) (h n)
