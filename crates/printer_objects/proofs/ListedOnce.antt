-- Searches among entries that are listed once each.
use Rattle.std.proofs.Common.{◌≡◌, ◌∙◌, ℕ, Bool, true, false, cond, ◌||◌, if◌then◌else◌, List, [], ◌∷◌, ◌++◌, find, Option, Some, None, is_some, refl, sym, ap}
use Rattle.std.specs.List.{Contains, list_any}
use Rattle.std.specs.Option.{option_or}
use Rattle.std.specs.Str.{bytes_eq}
use Rattle.std.proofs.lemmas.List.Folds.{find-append, list_any_at}
use Rattle.std.proofs.lemmas.Slice.Eq.{bytes_eq-Decides}
use Rattle.printer_objects.specs.Together.{is_among, with_entry, with_entries, distinct}

-- ---- a look-up in the list is one in the entries

option_or_none : (o : Option (List ℕ)) → option_or o None ≡ o
option_or_none None = refl
option_or_none (Some x) = refl

option_or_then : (o : Option (List ℕ)) (b : Bool) (x : List ℕ) (later : Option (List ℕ)) → option_or (option_or o (cond b (Some x) None)) later ≡ option_or o (cond b (Some x) later)
option_or_then None true x later = refl
option_or_then None false x later = refl
option_or_then (Some y) b x later = refl

-- an entry that fails isn't the entry that passes
among_others : (p : List ℕ → Bool) (y : List ℕ) (ys : List (List ℕ)) (entry : List ℕ) → p entry ≡ true → p y ≡ false → is_among (y ∷ ys) entry ≡ true → is_among ys entry ≡ true
among_others p y ys entry passes fails among =
    elim (bytes_eq y entry) as (λ b. bytes_eq y entry ≡ b → (b || is_among ys entry) ≡ true → is_among ys entry ≡ true) [
      | true ↦ λ same here. let wrong : false ≡ true = sym fails ∙ (ap p ((bytes_eq-Decides y entry).0 same) ∙ passes) in absurd cc
      | false ↦ λ same there. there
    ] refl among

-- if one of the entries passes, the search finds an entry
found_among : (p : List ℕ → Bool) (found : List (List ℕ)) (entry : List ℕ) (o : Option (List ℕ)) → p entry ≡ true → is_among found entry ≡ true → option_or (find p found) o ≡ find p found
found_among p [] entry o passes among = absurd cc
found_among p (y ∷ ys) entry o passes among =
    elim (p y) as (λ b. p y ≡ b → option_or (cond b (Some y) (find p ys)) o ≡ cond b (Some y) (find p ys)) [
      | true ↦ λ is. refl
      | false ↦ λ is. found_among p ys entry o passes (among_others p y ys entry passes is among)
    ] refl

found_with_entry : (p : List ℕ → Bool) (found : List (List ℕ)) (entry : List ℕ) → find p (with_entry found entry) ≡ option_or (find p found) (cond (p entry) (Some entry) None)
found_with_entry p found entry =
    elim (is_among found entry) as (λ b. is_among found entry ≡ b → find p (cond b found (found ++ entry ∷ [])) ≡ option_or (find p found) (cond (p entry) (Some entry) None)) [
      | true ↦ λ among. elim (p entry) as (λ b. p entry ≡ b → find p found ≡ option_or (find p found) (cond b (Some entry) None)) [
        | true ↦ λ passes. sym (found_among p found entry (Some entry) passes among)
        | false ↦ λ fails. sym (option_or_none (find p found))
      ] refl
      | false ↦ λ apart. find-append p found (entry ∷ [])
    ] refl

found_with_entries : (p : List ℕ → Bool) (found entries : List (List ℕ)) → find p (with_entries found entries) ≡ option_or (find p found) (find p entries)
found_with_entries p found [] = sym (option_or_none (find p found))
found_with_entries p found (entry ∷ entries) =
    found_with_entries p (with_entry found entry) entries
    ∙ (ap (λ (o : Option (List ℕ)). option_or o (find p entries)) (found_with_entry p found entry)
    ∙ option_or_then (find p found) (p entry) entry (find p entries))

-- a search among the listed entries, and then the default
pub find_offered : (p : List ℕ → Bool) (listed : List (List ℕ)) (default : List ℕ) → find p (distinct (listed ++ default ∷ [])) ≡ option_or (find p listed) (if p default then Some default else None)
find_offered p listed default = found_with_entries p [] (listed ++ default ∷ []) ∙ find-append p listed (default ∷ [])

-- no entry is found, neither among the listed entries nor in the default
pub none_offered : (p : List ℕ → Bool) (listed : List (List ℕ)) (default : List ℕ) → None ≡ find p listed → p default ≡ false → None ≡ find p (distinct (listed ++ default ∷ []))
none_offered p listed default none fails =
    sym (find_offered p listed default
    ∙ (ap (λ (o : Option (List ℕ)). option_or o (if p default then Some default else None)) (sym none)
    ∙ ap (λ (b : Bool). option_or None (if b then Some default else None)) fails))

-- ---- an entry that passes its own test is found

is_some_found : {X : Type 0} (p : X → Bool) (entries : List X) → is_some (find p entries) ≡ list_any p entries
is_some_found p [] = refl
is_some_found p (entry ∷ entries) =
    elim (p entry) as (λ b. is_some (cond b (Some entry) (find p entries)) ≡ (b || list_any p entries)) [
      | true ↦ refl
      | false ↦ is_some_found p entries
    ]

pub found_of : {X : Type 0} (p : X → Bool) (entries : List X) (entry : X) → p entry ≡ true → Contains entries entry → is_some (find p entries) ≡ true
found_of p entries entry passes (k, inside, is) =
    is_some_found p entries ∙ list_any_at p entries k entry inside (ap p is ∙ passes)
