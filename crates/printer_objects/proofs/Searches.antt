-- The first value that passes a test, among the values of the entries of a list.
use Rattle.std.proofs.Common.{◌≡◌, ◌∙◌, ℕ, suc, ◌+◌, ◌<◌, Bool, ◌&&◌, List, [], ◌∷◌, length, get_or, drop, find, filter, map, cond, true, false, Some, None, option_map, refl, sym, ap, drop-cons, add-one}
use Rattle.std.specs.List.{flat_map}
use Rattle.std.specs.Option.{option_or}
use Rattle.std.proofs.lemmas.List.Folds.{find-append}

-- the search from a place on: there, else after it
pub find_from : {X A : Type 0} (p : A → Bool) (f : X → List A) (xs : List X) (i : ℕ) (x : X) → i < length xs → x ≡ get_or xs i x → find p (flat_map f (drop i xs)) ≡ option_or (find p (f x)) (find p (flat_map f (drop (i + 1) xs)))
find_from {X} p f xs i x inside is =
    ap (λ (ys : List X). find p (flat_map f ys)) (drop-cons xs i x inside)
    ∙ (find-append p (f (get_or xs i x)) (flat_map f (drop (suc i) xs))
    ∙ (ap (λ (y : X). option_or (find p (f y)) (find p (flat_map f (drop (suc i) xs)))) (sym is)
    ∙ ap (λ (n : ℕ). option_or (find p (f x)) (find p (flat_map f (drop n xs)))) (sym (add-one i))))

-- found there
pub found_at : {X A : Type 0} (p : A → Bool) (f : X → List A) (xs : List X) (i : ℕ) (x : X) (found : A) → i < length xs → x ≡ get_or xs i x → Some found ≡ find p (f x) → Some found ≡ find p (flat_map f (drop i xs))
found_at p f xs i x found inside is here =
    sym (find_from p f xs i x inside is ∙ ap (λ o. option_or o (find p (flat_map f (drop (i + 1) xs)))) (sym here))

-- not there
pub not_at : {X A : Type 0} (p : A → Bool) (f : X → List A) (xs : List X) (i : ℕ) (x : X) → i < length xs → x ≡ get_or xs i x → None ≡ find p (f x) → find p (flat_map f (drop i xs)) ≡ find p (flat_map f (drop (i + 1) xs))
not_at p f xs i x inside is none =
    find_from p f xs i x inside is ∙ ap (λ o. option_or o (find p (flat_map f (drop (i + 1) xs)))) (sym none)

-- a search among the values of the elements
pub find_mapped : {X A : Type 0} (p : A → Bool) (f : X → A) (xs : List X) → find p (map f xs) ≡ option_map f (find (λ x. p (f x)) xs)
find_mapped p f [] = refl
find_mapped p f (x ∷ xs) =
    elim (p (f x)) as (λ b. cond b (Some (f x)) (find p (map f xs)) ≡ option_map f (cond b (Some x) (find (λ y. p (f y)) xs))) [
      | true ↦ refl
      | false ↦ find_mapped p f xs
    ]

-- a search among those that are kept
pub find_kept : {X : Type 0} (p q : X → Bool) (xs : List X) → find p (filter q xs) ≡ find (λ x. q x && p x) xs
find_kept p q [] = refl
find_kept p q (x ∷ xs) =
    elim (q x) as (λ b. find p (cond b (x ∷ filter q xs) (filter q xs)) ≡ cond (b && p x) (Some x) (find (λ y. q y && p y) xs)) [
      | true ↦ ap (λ o. cond (p x) (Some x) o) (find_kept p q xs)
      | false ↦ find_kept p q xs
    ]
