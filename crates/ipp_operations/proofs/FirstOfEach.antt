-- The first attribute of each name, kept one after the other, with their names in a set.
use Rattle.std.proofs.Common.{◌≡◌, ◌∙◌, ℕ, Bool, true, false, cond, not, ◌||◌, List, [], ◌∷◌, ◌++◌, filter, refl, sym, ap, subst, append_assoc, Bor, Ordering}
use Rattle.std.specs.List.{list_any}
use Rattle.std.specs.Str.{bytes_eq}
use Rattle.std.specs.Ordering.{nat_cmp, is_eq}
use Rattle.std.specs.Cmp.Lexicographic.{slice_cmp}
use Rattle.std.specs.BTreeSet.{BTreeSet, contains, Updates, IsUnchanged}
use Rattle.std.proofs.lemmas.List.Folds.{list_any-append}
use Rattle.std.proofs.lemmas.Map.Text.{is_eq-slice_cmp}
use Rattle.std.proofs.lemmas.Slice.Eq.{bytes_eq-Decides}
use Rattle.ipp_codec.specs.Message.{IppAttribute}
use Rattle.ipp_operations.specs.Attributes.{first_of_each}

or_true : (b : Bool) → (b || true) ≡ true
or_true true = refl
or_true false = refl

or_false : (b : Bool) → (b || false) ≡ b
or_false true = refl
or_false false = refl

not_turned : (xs ys : List ℕ) (b : Bool) → bytes_eq xs ys ≡ b → bytes_eq ys xs ≡ false → b ≡ false
not_turned xs ys true same apart = sym ((bytes_eq-Decides ys xs).1 (sym ((bytes_eq-Decides xs ys).0 same))) ∙ apart
not_turned xs ys false same apart = refl

eq_turned : (xs ys : List ℕ) → bytes_eq xs ys ≡ bytes_eq ys xs
eq_turned xs ys =
    elim (bytes_eq ys xs) as (λ b. bytes_eq ys xs ≡ b → bytes_eq xs ys ≡ b) [
      | true ↦ λ same. (bytes_eq-Decides xs ys).1 (sym ((bytes_eq-Decides ys xs).0 same))
      | false ↦ λ apart. not_turned xs ys (bytes_eq xs ys) refl apart
    ] refl

-- ---- which are new

-- a kept attribute has the name
abbrev pub is_kept : List IppAttribute → List ℕ → Bool
is_kept kept name = list_any (λ a. bytes_eq a.name name) kept

-- no kept attribute has the attribute's name
abbrev pub is_new : List IppAttribute → IppAttribute → Bool
is_new kept attribute = not (is_kept kept attribute.name)

-- at first all are
filter_all : (xs : List IppAttribute) → filter (is_new []) xs ≡ xs
filter_all [] = refl
filter_all (x ∷ xs) = ap (λ (ys : List IppAttribute). x ∷ ys) (filter_all xs)

-- the attribute's name differs
abbrev pub differs : IppAttribute → IppAttribute → Bool
differs attribute other = not (bytes_eq other.name attribute.name)

-- the kept attributes, and from the rest the first attribute of each new name
abbrev pub kept_with : List IppAttribute → List IppAttribute → List IppAttribute
kept_with kept rest = kept ++ filter (is_new kept) (first_of_each rest)

-- of the same name
same_new : (kept : List IppAttribute) (a x : IppAttribute) → bytes_eq x.name a.name ≡ true → is_kept kept a.name ≡ true → is_new kept x ≡ false
same_new kept a x same there =
    ap (λ (name : List ℕ). not (is_kept kept name)) ((bytes_eq-Decides x.name a.name).0 same) ∙ ap not there

-- no new attribute is lost if the attributes of a kept name are left out
without_kept : (kept : List IppAttribute) (a : IppAttribute) (xs : List IppAttribute) → is_kept kept a.name ≡ true → filter (is_new kept) (filter (differs a) xs) ≡ filter (is_new kept) xs
without_kept kept a [] there = refl
without_kept kept a (x ∷ xs) there =
    elim (bytes_eq x.name a.name) as (λ b. bytes_eq x.name a.name ≡ b → filter (is_new kept) (cond (not b) (x ∷ filter (differs a) xs) (filter (differs a) xs)) ≡ cond (is_new kept x) (x ∷ filter (is_new kept) xs) (filter (is_new kept) xs)) [
      | true ↦ λ same.
          without_kept kept a xs there
          ∙ ap (λ (b : Bool). cond b (x ∷ filter (is_new kept) xs) (filter (is_new kept) xs)) (sym (same_new kept a x same there))
      | false ↦ λ apart. ap (λ (ys : List IppAttribute). cond (is_new kept x) (x ∷ ys) ys) (without_kept kept a xs there)
    ] refl

-- of the same name as a further one
kept_same : (kept : List IppAttribute) (a x : IppAttribute) → bytes_eq x.name a.name ≡ true → is_kept (kept ++ a ∷ []) x.name ≡ true
kept_same kept a x same =
    list_any-append (λ (y : IppAttribute). bytes_eq y.name x.name) kept (a ∷ [])
    ∙ (ap (λ (b : Bool). is_kept kept x.name || (b || false)) ((bytes_eq-Decides a.name x.name).1 (sym ((bytes_eq-Decides x.name a.name).0 same)))
    ∙ or_true (is_kept kept x.name))

-- of another name than the further one
kept_apart : (kept : List IppAttribute) (a x : IppAttribute) → bytes_eq x.name a.name ≡ false → is_kept (kept ++ a ∷ []) x.name ≡ is_kept kept x.name
kept_apart kept a x apart =
    list_any-append (λ (y : IppAttribute). bytes_eq y.name x.name) kept (a ∷ [])
    ∙ (ap (λ (b : Bool). is_kept kept x.name || (b || false)) (eq_turned a.name x.name ∙ apart)
    ∙ or_false (is_kept kept x.name))

-- with a further one kept the others of its name are no longer new
with_another : (kept : List IppAttribute) (a : IppAttribute) (xs : List IppAttribute) → filter (is_new kept) (filter (differs a) xs) ≡ filter (is_new (kept ++ a ∷ [])) xs
with_another kept a [] = refl
with_another kept a (x ∷ xs) =
    elim (bytes_eq x.name a.name) as (λ b. bytes_eq x.name a.name ≡ b → filter (is_new kept) (cond (not b) (x ∷ filter (differs a) xs) (filter (differs a) xs)) ≡ cond (is_new (kept ++ a ∷ []) x) (x ∷ filter (is_new (kept ++ a ∷ [])) xs) (filter (is_new (kept ++ a ∷ [])) xs)) [
      | true ↦ λ same.
          with_another kept a xs
          ∙ ap (λ (b : Bool). cond (not b) (x ∷ filter (is_new (kept ++ a ∷ [])) xs) (filter (is_new (kept ++ a ∷ [])) xs)) (sym (kept_same kept a x same))
      | false ↦ λ apart.
          ap (λ (ys : List IppAttribute). cond (is_new kept x) (x ∷ ys) ys) (with_another kept a xs)
          ∙ ap (λ (b : Bool). cond (not b) (x ∷ filter (is_new (kept ++ a ∷ [])) xs) (filter (is_new (kept ++ a ∷ [])) xs)) (sym (kept_apart kept a x apart))
    ] refl

-- ---- one attribute more

-- no attribute is kept at first
pub kept_first : (all : List IppAttribute) → kept_with [] all ≡ first_of_each all
kept_first all = filter_all (first_of_each all)

-- an attribute whose name is kept
pub kept_again : (kept : List IppAttribute) (a : IppAttribute) (rest : List IppAttribute) → is_kept kept a.name ≡ true → kept_with kept (a ∷ rest) ≡ kept_with kept rest
kept_again kept a rest there =
    ap (λ (b : Bool). kept ++ cond (not b) (a ∷ filter (is_new kept) (filter (differs a) (first_of_each rest))) (filter (is_new kept) (filter (differs a) (first_of_each rest)))) there
    ∙ ap (λ (xs : List IppAttribute). kept ++ xs) (without_kept kept a (first_of_each rest) there)

-- an attribute whose name is new
pub kept_then : (kept : List IppAttribute) (a : IppAttribute) (rest : List IppAttribute) → is_kept kept a.name ≡ false → kept_with kept (a ∷ rest) ≡ kept_with (kept ++ a ∷ []) rest
kept_then kept a rest apart =
    ap (λ (b : Bool). kept ++ cond (not b) (a ∷ filter (is_new kept) (filter (differs a) (first_of_each rest))) (filter (is_new kept) (filter (differs a) (first_of_each rest)))) apart
    ∙ (ap (λ (xs : List IppAttribute). kept ++ a ∷ xs) (with_another kept a (first_of_each rest))
    ∙ sym (append_assoc kept (a ∷ []) (filter (is_new (kept ++ a ∷ [])) (first_of_each rest))))

-- ---- their names in a set

-- texts in the order of their bytes
abbrev pub in_order : Bor (List ℕ) → Bor (List ℕ) → Ordering
in_order x y = slice_cmp nat_cmp x.now y.now

-- the set has just the names of those kept
abbrev pub HasNames : BTreeSet (Bor (List ℕ)) → List IppAttribute → Type 0
HasNames names kept = (name : Bor (List ℕ)) → contains in_order names name ≡ is_kept kept name.now

or_last : (b known : Bool) → cond b true known ≡ (known || (b || false))
or_last true true = refl
or_last true false = refl
or_last false true = refl
or_last false false = refl

pub names_more : (old new : BTreeSet (Bor (List ℕ))) (name : Bor (List ℕ)) (kept : List IppAttribute) (a : IppAttribute) → a.name ≡ name.now → Updates in_order old new name true → HasNames old kept → HasNames new (kept ++ a ∷ [])
names_more old new name kept a is updates has other =
    updates.0 other
    ∙ (ap (λ (b : Bool). cond b true (contains in_order old other)) (is_eq-slice_cmp name.now other.now)
    ∙ (ap (λ (b : Bool). cond (bytes_eq name.now other.now) true b) (has other)
    ∙ (ap (λ (text : List ℕ). cond (bytes_eq text other.now) true (is_kept kept other.now)) (sym is)
    ∙ (or_last (bytes_eq a.name other.now) (is_kept kept other.now)
    ∙ sym (list_any-append (λ (x : IppAttribute). bytes_eq x.name other.now) kept (a ∷ []))))))

pub names_same : (old new : BTreeSet (Bor (List ℕ))) (kept : List IppAttribute) → IsUnchanged old new → HasNames old kept → HasNames new kept
names_same old new kept same has other =
    ap (λ (keys : List (Bor (List ℕ))). list_any (λ key. is_eq (in_order other key)) keys) same ∙ has other

-- ---- both

-- no attribute is kept yet
pub none_kept : (names : BTreeSet (Bor (List ℕ))) (kept left all : List IppAttribute) → names.keys ≡ [] → kept ≡ [] → left ≡ all → HasNames names kept × (kept_with kept left ≡ first_of_each all)
none_kept names kept left all unnamed none same = (
  λ name.
      ap (λ (keys : List (Bor (List ℕ))). list_any (λ key. is_eq (in_order name key)) keys) unnamed
      ∙ sym (ap (λ (xs : List IppAttribute). is_kept xs name.now) none),
  ap (λ (xs : List IppAttribute). kept_with xs left) none ∙ (kept_first left ∙ ap first_of_each same),
)

known : (names : BTreeSet (Bor (List ℕ))) (name : Bor (List ℕ)) (kept : List IppAttribute) (a : IppAttribute) → name.now ≡ a.name → HasNames names kept → contains in_order names name ≡ is_kept kept a.name
known names name kept a is has = has name ∙ ap (λ (text : List ℕ). is_kept kept text) is

not_false : (b : Bool) → true ≡ not b → b ≡ false
not_false true wrong = wrong
not_false false right = refl

not_true : (b : Bool) → false ≡ not b → b ≡ true
not_true true right = refl
not_true false wrong = wrong

-- the next attribute has a new name, and is kept
pub one_new : (old new : BTreeSet (Bor (List ℕ))) (name : Bor (List ℕ)) (kept more : List IppAttribute) (a : IppAttribute) (left rest all : List IppAttribute) (added : Bool) → left ≡ a ∷ rest → name.now ≡ a.name → added ≡ not (contains in_order old name) → added ≡ true → Updates in_order old new name true → more ≡ kept ++ a ∷ [] → HasNames old kept → kept_with kept left ≡ first_of_each all → HasNames new more × (kept_with more rest ≡ first_of_each all)
one_new old new name kept more a left rest all added next is tells adds updates pushed has so =
    let apart : is_kept kept a.name ≡ false = sym (known old name kept a is has) ∙ not_false (contains in_order old name) (sym adds ∙ tells) in (
      subst (λ (xs : List IppAttribute). HasNames new xs) (sym pushed) (names_more old new name kept a (sym is) updates has),
      ap (λ (xs : List IppAttribute). kept_with xs rest) pushed
          ∙ (sym (kept_then kept a rest apart) ∙ (ap (λ (xs : List IppAttribute). kept_with kept xs) (sym next) ∙ so)),
    )

-- the next attribute has the name of a kept attribute
pub one_again : (old new : BTreeSet (Bor (List ℕ))) (name : Bor (List ℕ)) (kept : List IppAttribute) (a : IppAttribute) (left rest all : List IppAttribute) (added : Bool) → left ≡ a ∷ rest → name.now ≡ a.name → added ≡ not (contains in_order old name) → added ≡ false → IsUnchanged old new → HasNames old kept → kept_with kept left ≡ first_of_each all → HasNames new kept × (kept_with kept rest ≡ first_of_each all)
one_again old new name kept a left rest all added next is tells adds same has so =
    let there : is_kept kept a.name ≡ true = sym (known old name kept a is has) ∙ not_true (contains in_order old name) (sym adds ∙ tells) in (
      names_same old new kept same has,
      sym (kept_again kept a rest there) ∙ (ap (λ (xs : List IppAttribute). kept_with kept xs) (sym next) ∙ so),
    )
