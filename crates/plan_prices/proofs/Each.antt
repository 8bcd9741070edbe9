-- properties of each element so far
use Rattle.std.proofs.Common.{◌≡◌, ℕ, ◌+◌, ◌<◌, ◌≤◌, List, length, get_or, sym, ap, ◌∙◌, subst, arith, inl, inr, Option, Some, None, IsSome, MatchOption, is_some, true, false, ◌⊎◌, IsTrue, rules}
use Rattle.std.proofs.lemmas.Bool.{cases_lt}
use Rattle.std.proofs.lemmas.List.{get_or_default, get_or_past}

pub last_or_before : (k i : ℕ) → k < i + 1 → (k < i) ⊎ (k ≡ i)
last_or_before k i h = elim (cases_lt k i) [ inl lt ↦ inl lt | inr ge ↦ inr (omega arith) ]

-- at any default
pub each_more : {X : Type 0} (P : X → Type 0) (xs : List X) (i : ℕ) (x : X) → i < length xs → x ≡ get_or xs i x → P x → ((k : ℕ) (d : X) → k < i → P (get_or xs k d)) → (k : ℕ) (d : X) → k < i + 1 → P (get_or xs k d)
each_more P xs i x l is here before k d h = elim (last_or_before k i h) [
  | inl lt ↦ before k d lt
  | inr e ↦ subst (λ j. P (get_or xs j d)) (sym e) (subst P (is ∙ get_or_default xs i x d l) here)
]

-- past the end is the default
pub each_all_at : {X : Type 0} (P : ℕ → X → Type 0) (xs : List X) (d : X) (i : ℕ) → length xs ≤ i → ((k : ℕ) → P k d) → ((k : ℕ) → k < i → P k (get_or xs k d)) → (k : ℕ) → P k (get_or xs k d)
each_all_at P xs d i end none before k = elim (cases_lt k i) [
  | inl lt ↦ before k lt
  | inr ge ↦ subst (P k) (sym (get_or_past xs k d (omega arith))) (none k)
]

pub some_since_is : {X : Type 0} (o : Option X) → is_some o ≡ true → IsSome o
some_since_is (Some x) h = search rules
some_since_is None h = absurd (cc)

pub match_since_some : {X : Type 0} (o : Option X) (A : Type 0) (B : X → Type 0) → is_some o ≡ true → MatchOption o A B → (x : X) × B x
match_since_some (Some x) A B h m = (x, m)
match_since_some None A B h m = absurd (cc)

pub none_is_true : {A : Type 0} → IsTrue false → A
none_is_true h = absurd (search rules)

-- an item that a loop reads, and the value that it is seen as
pub item_is : {X : Type 0} (qs w : List X) (i : ℕ) (q s d : X) → qs ≡ w → i < length qs → q ≡ get_or qs i q → s ≡ q → s ≡ get_or w i d
item_is qs w i q s d same l is seen = seen ∙ is ∙ get_or_default qs i q d l ∙ ap (λ v. get_or v i d) same

pub past_end : {X : Type 0} (qs w : List X) (i : ℕ) → qs ≡ w → length qs ≤ i → length w ≤ i
past_end qs w i same l = let e : length qs ≡ length w = ap length same in omega arith

pub each_last : (P : ℕ → Type 0) (i : ℕ) → P i → ((k : ℕ) → k < i → P k) → (k : ℕ) → k < i + 1 → P k
each_last P i here before k h = elim (last_or_before k i h) [
  | inl lt ↦ before k lt
  | inr e ↦ subst P (sym e) here
]
