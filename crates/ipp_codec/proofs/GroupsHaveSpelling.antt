-- Elements that may follow one another make groups that have a spelling, and each beginning of groups can be ended.
use Rattle.std.proofs.Common.{◌≡◌, ◌≢◌, ℕ, zero, suc, ◌-◌, ◌<◌, List, [], ◌∷◌, ◌++◌, length, refl, sym, ap, subst, ◌∙◌, arith, inl, inr}
use Rattle.std.specs.List.{AllByRecursion}
use Rattle.base_types.specs.declared.limits.TheConstants.Limits.{COLLECTION_DEPTH}
use Rattle.ipp_codec.specs.declared.place.Place.{Place}
use Rattle.ipp_codec.specs.declared.place.Place.TheVariants.{Outside, Opened, Valued, Begun, Naming, Within}
use Rattle.ipp_codec.specs.Message.{IppValue, plain, collection, IppMembers, IppAttribute, IppGroup, values_of}
use Rattle.ipp_codec.specs.Spelling.{Element, opening, plainly, begin, named, finish, values_then, attributes_then, elements}
use Rattle.ipp_codec.specs.Grammar.{IsName, IsValue, AreValues, AreMembers, IsAttribute, IsGroup, HasShape, IsPlain, IsCollectionTag}
use Rattle.ipp_codec.specs.Place.{depth, after_value, after, place_from, Follows}
use Rattle.ipp_codec.specs.Shown.{Level, add, add_member, top, below, before, levels_of}
use Rattle.ipp_codec.proofs.Tree.{spelled, Closed, spelled_again, top_is, inner_nameless, depth-after_value, member_depth, after_members}

-- The levels have a spelling, where this number of them lie inside collections.
pub Fit : ℕ → List Level → Type 0
Fit zero ls = AreValues COLLECTION_DEPTH (values_of (top ls).values) × AllByRecursion IsAttribute (top ls).attributes × AllByRecursion IsGroup (top ls).groups
Fit (suc d) ls = AreValues (COLLECTION_DEPTH - suc d) (values_of (top ls).values) × AreMembers (COLLECTION_DEPTH - suc d) (top ls).members × Fit d (below ls)

all_left : (v : IppValue) → IsValue (COLLECTION_DEPTH - 0) v → IsValue COLLECTION_DEPTH v
all_left v fits = let same : COLLECTION_DEPTH - 0 ≡ COLLECTION_DEPTH = omega arith in subst (λ (n : ℕ). IsValue n v) same fits

Fit-add : (d : ℕ) (name : List ℕ) (v : IppValue) (ls : List Level) → length name < 0x8000 → IsValue (COLLECTION_DEPTH - d) v → (0 < d → name ≡ []) → Fit d ls → Fit d (add name v (top ls) ∷ below ls)
unfolding Fit
Fit-add zero [] v ls short value none fits = ((all_left v value, fits.0), fits.1, fits.2)
Fit-add zero (c ∷ name) v ls short value none fits = (tt, (record { name = ((λ h. absurd cc), short); first = all_left v value; others = fits.0 }, fits.1), fits.2)
Fit-add (suc d) [] v ls short value none fits = ((value, fits.0), fits.1, fits.2)
Fit-add (suc d) (c ∷ name) v ls short value none fits = let h = none (omega arith) in absurd cc

Fit-begin : (d : ℕ) (name : List ℕ) (ls : List Level) → length name < 0x8000 → d < COLLECTION_DEPTH → (0 < d → name ≡ []) → Fit (suc d) ls → Fit d (before (begin name) ls)
unfolding Fit
Fit-begin d name ls short deep none fits =
    let less : (COLLECTION_DEPTH - d) - 1 ≡ COLLECTION_DEPTH - suc d = omega arith in
    let some : 0 < COLLECTION_DEPTH - d = omega (arith, deep) in
    let value : IsValue (COLLECTION_DEPTH - d) (collection (top ls).members) = (some, subst (λ (n : ℕ). AreMembers n (top ls).members) (sym less) fits.1) in
    Fit-add d name (collection (top ls).members) (below ls) short value none fits.2

members_fit : (limit : ℕ) (name : List ℕ) (vs : List IppValue) (ms : IppMembers) → IsName name → AreValues limit (values_of vs) → AreMembers limit ms → AreMembers limit (add_member name vs ms)
members_fit limit name [] ms is values members = members
members_fit limit name (v ∷ vs) ms is values members = ((is, values.0, values.1), members)

Fit-named : (d : ℕ) (name : List ℕ) (ls : List Level) → IsName name → Fit (suc d) ls → Fit (suc d) (before (named name) ls)
unfolding Fit
Fit-named d name ls is fits = (tt, members_fit (COLLECTION_DEPTH - suc d) name (top ls).values (top ls).members is fits.0 fits.1, fits.2)

Fit-finish : (d : ℕ) (ls : List Level) → Fit d ls → Fit (suc d) (before finish ls)
unfolding Fit
Fit-finish d ls fits = (tt, tt, fits)

Fit-opening : (tag : ℕ) (ls : List Level) → (0 < tag) × (tag < 16) × (tag ≢ 3) → Fit 0 ls → Fit 0 (before (opening tag) ls)
unfolding Fit
Fit-opening tag ls is fits = (tt, tt, (record { tag = is; attributes = fits.1 }, fits.2))

Fit-nothing : Fit 0 (levels_of [])
unfolding Fit levels_of
Fit-nothing = (tt, tt, tt)

pub fits_again : (place : Place) (es : List Element) → Follows place es → Closed place es → Fit (depth place) (levels_of es)
unfolding levels_of
fits_again place [] follows closed = subst (λ (n : ℕ). Fit n (levels_of [])) (sym closed) Fit-nothing
fits_again place (opening tag ∷ es) follows closed =
    subst (λ (n : ℕ). Fit n (before (opening tag) (levels_of es))) (sym follows.0.0) (Fit-opening tag (levels_of es) follows.0.1 (fits_again Opened es follows.1 closed))
fits_again place (plainly tag name bytes ∷ es) follows closed =
    let rest = subst (λ (n : ℕ). Fit n (levels_of es)) (depth-after_value (depth place)) (fits_again (after_value (depth place)) es follows.1 closed) in
    Fit-add (depth place) name (plain tag bytes) (levels_of es) follows.0.1.0 follows.0.1.1 (inner_nameless place name follows.0.0) rest
fits_again place (begin name ∷ es) follows closed =
    Fit-begin (depth place) name (levels_of es) follows.0.1.0 follows.0.1.1 (inner_nameless place name follows.0.0) (fits_again (Begun (depth place)) es follows.1 closed)
fits_again place (named name ∷ es) follows closed =
    let around = member_depth place follows.0.0 in
    let next = (after_members place around.0 follows.0.0 around.1).0 in
    let rest : Follows (Naming around.0) es = subst (λ (p : Place). Follows p es) next follows.1 in
    let end : Closed (Naming around.0) es = subst (λ (p : Place). Closed p es) next closed in
    subst (λ (n : ℕ). Fit n (before (named name) (levels_of es))) (sym around.1) (Fit-named around.0 name (levels_of es) follows.0.1 (fits_again (Naming around.0) es rest end))
fits_again place (finish ∷ es) follows closed =
    let around = member_depth place follows.0.0 in
    let next = (after_members place around.0 follows.0.0 around.1).1 in
    let rest : Follows (after_value around.0) es = subst (λ (p : Place). Follows p es) next follows.1 in
    let end : Closed (after_value around.0) es = subst (λ (p : Place). Closed p es) next closed in
    subst (λ (n : ℕ). Fit n (before finish (levels_of es))) (sym around.1)
    (Fit-finish around.0 (levels_of es) (subst (λ (n : ℕ). Fit n (levels_of es)) (depth-after_value around.0) (fits_again (after_value around.0) es rest end)))

-- the groups that elements make
abbrev pub groups_of : List Element → List IppGroup
groups_of es = (top (levels_of es)).groups

only_groups : (ls : List Level) (es : List Element) → (top ls).values ≡ [] → (top ls).attributes ≡ [] → spelled 0 ls ≡ es → elements (top ls).groups ≡ es
unfolding spelled
only_groups ls es values attributes is =
    ap (λ (vs : List IppValue). values_then (values_of vs) (elements (top ls).groups)) (sym values)
    ∙ ap (λ (xs : List IppAttribute). values_then (values_of (top ls).values) (attributes_then xs (elements (top ls).groups))) (sym attributes)
    ∙ is

Fit-groups : (ls : List Level) → Fit 0 ls → AllByRecursion IsGroup (top ls).groups
unfolding Fit
Fit-groups ls fits = fits.2

-- Elements from a head's first on are those of their groups.
pub groups_only : (es : List Element) → Follows Outside es → Closed Outside es → (elements (groups_of es) ≡ es) × AllByRecursion IsGroup (groups_of es)
groups_only es follows closed =
    let first = top_is Outside es follows closed in
    (only_groups (levels_of es) es first.0 first.1 (spelled_again Outside es follows closed), Fit-groups (levels_of es) (fits_again Outside es follows closed))

-- ---- each beginning can be ended

abbrev Ends : Place → Type 0
Ends place = (es : List Element) × Follows place es × Closed place es

end_within : (d : ℕ) → Ends (Within d)
end_within zero = (finish ∷ [], ((tt, tt), tt), refl)
end_within (suc d) = let rest = end_within d in (finish ∷ rest.0, ((tt, tt), rest.1), rest.2)

end_begun : (d : ℕ) → Ends (Begun d)
end_begun zero = (finish ∷ [], ((tt, tt), tt), refl)
end_begun (suc d) = let rest = end_within d in (finish ∷ rest.0, ((tt, tt), rest.1), rest.2)

-- a value without bytes that may be anywhere
no_shape : HasShape 0x13 []
no_shape = record { integer = λ h. absurd (omega (arith, h)); boolean = λ h. absurd (omega (arith, h)); enumeration = λ h. absurd (omega (arith, h)); date = λ h. absurd (omega (arith, h)); resolution = λ h. absurd (omega (arith, h)); range = λ h. absurd (omega (arith, h)); text = λ h. absurd (omega (arith, h)); name = λ h. absurd (omega (arith, h)) }

no_tag : ¬ (IsCollectionTag 0x13)
no_tag (inl h) = omega (arith, h)
no_tag (inr (inl h)) = omega (arith, h)
no_tag (inr (inr h)) = omega (arith, h)

no_plain : IsPlain 0x13 []
no_plain = record { tag_from = omega arith; tag_below = omega arith; no_collection = no_tag; length = omega arith; shape = no_shape }

end_of : (place : Place) → Ends place
end_of Outside = ([], tt, refl)
end_of Opened = ([], tt, refl)
end_of Valued = ([], tt, refl)
end_of (Begun d) = end_begun d
end_of (Naming d) = let rest = end_within d in (plainly 0x13 [] [] ∷ rest.0, ((refl, (omega arith, no_plain)), rest.1), rest.2)
end_of (Within d) = end_within d

pub Follows-append : (place : Place) (es fs : List Element) → Follows place es → Follows (place_from place es) fs → Follows place (es ++ fs)
Follows-append place [] fs begins follows = follows
Follows-append place (e ∷ es) fs begins follows = (begins.0, Follows-append (after place e) es fs begins.1 follows)

pub place_from-append : (place : Place) (es fs : List Element) → place_from place (es ++ fs) ≡ place_from (place_from place es) fs
place_from-append place [] fs = refl
place_from-append place (e ∷ es) fs = place_from-append (after place e) es fs

pub Follows-prefix : (place : Place) (es fs : List Element) → Follows place (es ++ fs) → Follows place es
Follows-prefix place [] fs follows = tt
Follows-prefix place (e ∷ es) fs follows = (follows.0, Follows-prefix (after place e) es fs follows.1)

-- Elements that may follow one another from the start are a prefix of the elements of groups.
pub can_end : (es : List Element) → Follows Outside es → (tail : List Element) × Follows Outside (es ++ tail) × Closed Outside (es ++ tail)
can_end es follows =
    let rest = end_of (place_from Outside es) in
    (rest.0, Follows-append Outside es rest.0 follows rest.1, ap depth (place_from-append Outside es rest.0) ∙ rest.2)
