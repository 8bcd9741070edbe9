-- Groups and their elements are the same.
use Rattle.std.proofs.Common.{◌≡◌, ◌≢◌, ℕ, zero, suc, ◌+◌, ◌-◌, ◌<◌, List, [], ◌∷◌, length, refl, sym, ap, subst, ◌∙◌, arith}
use Rattle.std.specs.List.{AllByRecursion}
use Rattle.base_types.specs.declared.limits.TheConstants.Limits.{COLLECTION_DEPTH}
use Rattle.ipp_codec.specs.declared.place.Place.{Place}
use Rattle.ipp_codec.specs.declared.place.Place.TheVariants.{Outside, Opened, Valued, Begun, Naming, Within}
use Rattle.ipp_codec.specs.Message.{IppValue, plain, collection, IppValues, no_value, value_and, IppMembers, no_member, member_and, IppAttribute, IppGroup, values_of, values_in}
use Rattle.ipp_codec.specs.Spelling.{Element, opening, plainly, begin, named, finish, value_then, values_then, members_then, attributes_then, elements}
use Rattle.ipp_codec.specs.Grammar.{IsValue, AreValues, AreMembers, IsAttribute, IsGroup}
use Rattle.ipp_codec.specs.Place.{depth, after_value, after_finish, after_named, place_from, TakesValue, TakesMember, Follows}
use Rattle.ipp_codec.specs.Shown.{Level, nothing, add, add_member, name_member, open_group, top, below, before, levels_of}

-- ---- lists of values

pub values_again : (vs : IppValues) → values_of (values_in vs) ≡ vs
values_again no_value = refl
values_again (value_and v vs) = ap (λ (ws : IppValues). value_and v ws) (values_again vs)

pub values_back : (vs : List IppValue) → values_in (values_of vs) ≡ vs
values_back [] = refl
values_back (v ∷ vs) = ap (λ (ws : List IppValue). v ∷ ws) (values_back vs)

-- ---- groups to elements and back

-- a value on the top level
abbrev add_to : List ℕ → IppValue → List Level → List Level
add_to name v ls = add name v (top ls) ∷ below ls

abbrev add_values : IppValues → List Level → List Level
add_values no_value ls = ls
add_values (value_and v vs) ls = add_to [] v (add_values vs ls)

abbrev inside : List IppValue → IppMembers → Level
inside vs ms = record { values = vs; members = ms; attributes = []; groups = [] }

add_values-inside : (vs : IppValues) (ms : IppMembers) (ls : List Level) → add_values vs (inside [] ms ∷ ls) ≡ inside (values_in vs) ms ∷ ls
add_values-inside no_value ms ls = refl
add_values-inside (value_and v vs) ms ls = ap (λ (ks : List Level). add_to [] v ks) (add_values-inside vs ms ls)

mutual
  unfolding levels_of

  read_value : (name : List ℕ) (v : IppValue) (es : List Element) → levels_of (value_then name v es) ≡ add_to name v (levels_of es)
  read_value name (plain tag bytes) es = refl
  read_value name (collection ms) es = ap (λ (ls : List Level). before (begin name) ls) (read_members ms es)

  read_values : (vs : IppValues) (es : List Element) → levels_of (values_then vs es) ≡ add_values vs (levels_of es)
  read_values no_value es = refl
  read_values (value_and v vs) es = read_value [] v (values_then vs es) ∙ ap (λ (ls : List Level). add_to [] v ls) (read_values vs es)

  read_members : (ms : IppMembers) (es : List Element) → levels_of (members_then ms (finish ∷ es)) ≡ inside [] ms ∷ levels_of es
  read_members no_member es = refl
  read_members (member_and name v vs ms) es =
      ap (λ (ls : List Level). before (named name) ls)
      (read_value [] v (values_then vs (members_then ms (finish ∷ es)))
      ∙ ap (λ (ls : List Level). add_to [] v ls) (read_values vs (members_then ms (finish ∷ es)) ∙ ap (λ (ls : List Level). add_values vs ls) (read_members ms es) ∙ add_values-inside vs ms (levels_of es)))
      ∙ ap (λ (ws : IppValues). inside [] (member_and name v ws ms) ∷ levels_of es) (values_again vs)

-- the level of attributes and groups at the outermost depth
abbrev outer : List IppValue → List IppAttribute → List IppGroup → Level
outer vs xs gs = record { values = vs; members = no_member; attributes = xs; groups = gs }

add_values-outer : (vs : List IppValue) (xs : List IppAttribute) (gs : List IppGroup) (ls : List Level) → top ls ≡ outer [] xs gs → top (add_values (values_of vs) ls) ≡ outer vs xs gs
add_values-outer [] xs gs ls is = is
add_values-outer (v ∷ vs) xs gs ls is = ap (λ (l : Level). add [] v l) (add_values-outer vs xs gs ls is)

add-outer : (name : List ℕ) (v : IppValue) (vs : List IppValue) (xs : List IppAttribute) (gs : List IppGroup) → name ≢ [] → add name v (outer vs xs gs) ≡ outer [] (record { name = name; first = v; others = vs } ∷ xs) gs
add-outer [] v vs xs gs some = absurd (some refl)
add-outer (c ∷ name) v vs xs gs some = refl

read_attributes : (xs : List IppAttribute) (gs : List IppGroup) (es : List Element) → AllByRecursion IsAttribute xs → top (levels_of es) ≡ outer [] [] gs → top (levels_of (attributes_then xs es)) ≡ outer [] xs gs
read_attributes [] gs es fits is = is
read_attributes (a ∷ xs) gs es fits is =
    let rest = read_attributes xs gs es fits.1 is in
    let others = ap top (read_values (values_of a.others) (attributes_then xs es)) ∙ add_values-outer a.others xs gs (levels_of (attributes_then xs es)) rest in
    ap top (read_value a.name a.first (values_then (values_of a.others) (attributes_then xs es)))
    ∙ ap (λ (l : Level). add a.name a.first l) others
    ∙ add-outer a.name a.first a.others xs gs fits.0.name.0

pub read_groups : (gs : List IppGroup) → AllByRecursion IsGroup gs → top (levels_of (elements gs)) ≡ outer [] [] gs
unfolding levels_of
read_groups [] fits = refl
read_groups (g ∷ gs) fits = ap (λ (l : Level). open_group g.tag l) (read_attributes g.attributes gs (elements gs) fits.0.attributes (read_groups gs fits.1))

-- ---- groups to elements that may follow one another

pub depth-after_value : (d : ℕ) → depth (after_value d) ≡ d
depth-after_value zero = refl
depth-after_value (suc d) = refl

nameless : (d : ℕ) → TakesValue (after_value d) []
nameless zero = tt
nameless (suc d) = refl

begins : (limit d : ℕ) → limit + d ≡ COLLECTION_DEPTH → 0 < limit → (d < COLLECTION_DEPTH) × ((limit - 1) + suc d ≡ COLLECTION_DEPTH)
begins limit d is some = (omega (arith, is, some), omega (arith, is, some))

-- a place that takes a member
pub after_members : (place : Place) (around : ℕ) → TakesMember place → depth place ≡ suc around → (after_named place ≡ Naming around) × (after_finish place ≡ after_value around)
after_members (Begun d) around takes deep = let same : d ≡ around = omega (arith, deep) in (ap Naming same, ap after_value same)
after_members (Within d) around takes deep = let same : d ≡ around = omega (arith, deep) in (ap Naming same, ap after_value same)
after_members Outside around takes deep = absurd takes
after_members Opened around takes deep = absurd takes
after_members Valued around takes deep = absurd takes
after_members (Naming d) around takes deep = absurd takes

mutual
  -- Collections of depth limit at most are where limit more may be opened.
  value_follows : (limit : ℕ) (place : Place) (name : List ℕ) (v : IppValue) (es : List Element) → limit + depth place ≡ COLLECTION_DEPTH → IsValue limit v → TakesValue place name → length name < 0x8000 → Follows (after_value (depth place)) es → Follows place (value_then name v es)
  value_follows limit place name (plain tag bytes) es is fits takes short rest = ((takes, (short, fits)), rest)
  value_follows limit place name (collection ms) es is fits takes short rest =
      let deep = begins limit (depth place) is fits.0 in
      ((takes, (short, deep.0)), members_follow (limit - 1) (depth place) (Begun (depth place)) ms es deep.1 fits.1 tt refl rest)

  values_follow : (limit : ℕ) (d : ℕ) (vs : IppValues) (es : List Element) → limit + d ≡ COLLECTION_DEPTH → AreValues limit vs → Follows (after_value d) es → Follows (after_value d) (values_then vs es)
  values_follow limit d no_value es is fits rest = rest
  values_follow limit d (value_and v vs) es is fits rest =
      let same = depth-after_value d in
      let more = values_follow limit d vs es is fits.1 rest in
      value_follows limit (after_value d) [] v (values_then vs es) (ap (λ (n : ℕ). limit + n) same ∙ is) fits.0 (nameless d) (omega arith) (subst (λ (n : ℕ). Follows (after_value n) (values_then vs es)) (sym same) more)

  -- members from a place inside a collection on
  members_follow : (limit : ℕ) (around : ℕ) (place : Place) (ms : IppMembers) (es : List Element) → limit + suc around ≡ COLLECTION_DEPTH → AreMembers limit ms → TakesMember place → depth place ≡ suc around → Follows (after_value around) es → Follows place (members_then ms (finish ∷ es))
  members_follow limit around place no_member es is fits takes deep rest = ((takes, tt), subst (λ (p : Place). Follows p es) (sym (after_members place around takes deep).1) rest)
  members_follow limit around place (member_and name v vs ms) es is fits takes deep rest =
      let values = value_follows limit (Naming around) [] v (values_then vs (members_then ms (finish ∷ es))) is fits.0.1 refl (omega arith)
      (values_follow limit (suc around) vs (members_then ms (finish ∷ es)) is fits.0.2
      (members_follow limit around (Within around) ms es is fits.1 tt refl rest)) in
      ((takes, fits.0.0), subst (λ (p : Place). Follows p (value_then [] v (values_then vs (members_then ms (finish ∷ es))))) (sym (after_members place around takes deep).0) values)

takes_named : (place : Place) (name : List ℕ) → depth place ≡ 0 → place ≢ Outside → name ≢ [] → TakesValue place name
takes_named Outside name d o n = absurd (o refl)
takes_named Opened name d o n = n
takes_named Valued name d o n = tt
takes_named (Begun k) name d o n = absurd (omega (arith, d))
takes_named (Naming k) name d o n = absurd (omega (arith, d))
takes_named (Within k) name d o n = absurd (omega (arith, d))

attributes_follow : (xs : List IppAttribute) (es : List Element) (place : Place) → depth place ≡ 0 → place ≢ Outside → AllByRecursion IsAttribute xs → ((p : Place) → depth p ≡ 0 → Follows p es) → Follows place (attributes_then xs es)
attributes_follow [] es place d o fits rest = rest place d
attributes_follow (a ∷ xs) es place d o fits rest =
    let deep : COLLECTION_DEPTH + depth place ≡ COLLECTION_DEPTH = omega (arith, d) in
    let more = attributes_follow xs es Valued refl (λ h. absurd cc) fits.1 rest in
    let others = values_follow COLLECTION_DEPTH 0 (values_of a.others) (attributes_then xs es) (omega arith) fits.0.others more in
    value_follows COLLECTION_DEPTH place a.name a.first (values_then (values_of a.others) (attributes_then xs es)) deep fits.0.first (takes_named place a.name d o fits.0.name.0) fits.0.name.1
    (subst (λ (n : ℕ). Follows (after_value n) (values_then (values_of a.others) (attributes_then xs es))) (sym d) others)

pub groups_follow : (gs : List IppGroup) (place : Place) → depth place ≡ 0 → AllByRecursion IsGroup gs → Follows place (elements gs)
groups_follow [] place d fits = tt
groups_follow (g ∷ gs) place d fits = ((d, fits.0.tag), attributes_follow g.attributes (elements gs) Opened refl (λ h. absurd cc) fits.0.attributes (λ p k. groups_follow gs p k fits.1))

-- ---- elements to groups

-- the elements of levels, of which this number lie inside collections
unfoldable pub spelled : ℕ → List Level → List Element
spelled zero ls = values_then (values_of (top ls).values) (attributes_then (top ls).attributes (elements (top ls).groups))
spelled (suc d) ls = values_then (values_of (top ls).values) (members_then (top ls).members (finish ∷ spelled d (below ls)))

spelled-add : (d : ℕ) (name : List ℕ) (v : IppValue) (ls : List Level) → (0 < d → name ≡ []) → spelled d (add name v (top ls) ∷ below ls) ≡ value_then name v (spelled d ls)
unfolding spelled
spelled-add zero [] v ls none = refl
spelled-add zero (c ∷ name) v ls none = refl
spelled-add (suc d) [] v ls none = refl
spelled-add (suc d) (c ∷ name) v ls none = let h = none (omega arith) in absurd cc

-- inside a collection a value has no name
pub inner_nameless : (place : Place) (name : List ℕ) → TakesValue place name → 0 < depth place → name ≡ []
inner_nameless Outside name takes deep = absurd takes
inner_nameless Opened name takes deep = absurd (omega (arith, deep))
inner_nameless Valued name takes deep = absurd (omega (arith, deep))
inner_nameless (Begun d) name takes deep = absurd takes
inner_nameless (Naming d) name takes deep = takes
inner_nameless (Within d) name takes deep = takes

-- The elements end outside of any collection.
abbrev pub Closed : Place → List Element → Type 0
Closed place es = depth (place_from place es) ≡ 0

abbrev pub IsSome : List IppValue → Type 0
IsSome [] = ⊥
IsSome (v ∷ vs) = Unit {0}

-- the condition of a place on the level after it
abbrev pub TopIs : Place → Level → Type 0
TopIs Outside l = (l.values ≡ []) × (l.attributes ≡ [])
TopIs Opened l = l.values ≡ []
TopIs Valued l = Unit {0}
TopIs (Begun d) l = l.values ≡ []
TopIs (Naming d) l = IsSome l.values
TopIs (Within d) l = Unit {0}

named_top : (name : List ℕ) (v : IppValue) (l : Level) → name ≢ [] → (add name v l).values ≡ []
named_top [] v l some = absurd (some refl)
named_top (c ∷ name) v l some = refl

-- a value, added at a place that takes it, makes a level that meets the condition of the place
value_top : (place : Place) (name : List ℕ) (v : IppValue) (l : Level) → TakesValue place name → TopIs place (add name v l)
value_top Outside name v l takes = absurd takes
value_top Opened name v l takes = named_top name v l takes
value_top Valued name v l takes = tt
value_top (Begun d) name v l takes = absurd takes
value_top (Naming d) [] v l takes = tt
value_top (Naming d) (c ∷ name) v l takes = absurd cc
value_top (Within d) name v l takes = tt

-- the same for a member or an end
member_top : (place : Place) (l : Level) → TakesMember place → l.values ≡ [] → TopIs place l
member_top (Begun d) l takes none = none
member_top (Within d) l takes none = tt
member_top Outside l takes none = absurd takes
member_top Opened l takes none = absurd takes
member_top Valued l takes none = absurd takes
member_top (Naming d) l takes none = absurd takes

opening_top : (place : Place) (tag : ℕ) (l : Level) → depth place ≡ 0 → TopIs place (open_group tag l)
opening_top Outside tag l d = (refl, refl)
opening_top Opened tag l d = refl
opening_top Valued tag l d = tt
opening_top (Begun k) tag l d = absurd (omega (arith, d))
opening_top (Naming k) tag l d = absurd (omega (arith, d))
opening_top (Within k) tag l d = absurd (omega (arith, d))

nothing_top : (place : Place) → depth place ≡ 0 → TopIs place nothing
nothing_top Outside d = (refl, refl)
nothing_top Opened d = refl
nothing_top Valued d = tt
nothing_top (Begun k) d = absurd (omega (arith, d))
nothing_top (Naming k) d = absurd (omega (arith, d))
nothing_top (Within k) d = absurd (omega (arith, d))

pub top_is : (place : Place) (es : List Element) → Follows place es → Closed place es → TopIs place (top (levels_of es))
unfolding levels_of
top_is place [] follows closed = nothing_top place closed
top_is place (opening tag ∷ es) follows closed = opening_top place tag (top (levels_of es)) follows.0.0
top_is place (plainly tag name bytes ∷ es) follows closed = value_top place name (plain tag bytes) (top (levels_of es)) follows.0.0
top_is place (begin name ∷ es) follows closed = value_top place name (collection (top (levels_of es)).members) (top (below (levels_of es))) follows.0.0
top_is place (named name ∷ es) follows closed = member_top place (name_member name (top (levels_of es))) follows.0.0 refl
top_is place (finish ∷ es) follows closed = member_top place nothing follows.0.0 refl

spelled-begin : (d : ℕ) (name : List ℕ) (ls : List Level) → (top ls).values ≡ [] → (0 < d → name ≡ []) → spelled d (before (begin name) ls) ≡ begin name ∷ spelled (suc d) ls
unfolding spelled
spelled-begin d name ls empty none =
    spelled-add d name (collection (top ls).members) (below ls) none
    ∙ ap (λ (vs : List IppValue). begin name ∷ values_then (values_of vs) (members_then (top ls).members (finish ∷ spelled d (below ls)))) (sym empty)

spelled-named : (d : ℕ) (name : List ℕ) (vs : List IppValue) (ls : List Level) → (top ls).values ≡ vs → IsSome vs → spelled (suc d) (before (named name) ls) ≡ named name ∷ spelled (suc d) ls
unfolding spelled
spelled-named d name [] ls is some = absurd some
spelled-named d name (v ∷ vs) ls is some =
    ap (λ (ws : List IppValue). members_then (add_member name ws (top ls).members) (finish ∷ spelled d (below ls))) is
    ∙ ap (λ (ws : List IppValue). named name ∷ values_then (values_of ws) (members_then (top ls).members (finish ∷ spelled d (below ls)))) (sym is)

spelled-opening : (tag : ℕ) (ls : List Level) → (top ls).values ≡ [] → spelled 0 (before (opening tag) ls) ≡ opening tag ∷ spelled 0 ls
unfolding spelled
spelled-opening tag ls empty = ap (λ (vs : List IppValue). opening tag ∷ values_then (values_of vs) (attributes_then (top ls).attributes (elements (top ls).groups))) (sym empty)

spelled-finish : (d : ℕ) (ls : List Level) → spelled (suc d) (before finish ls) ≡ finish ∷ spelled d ls
unfolding spelled
spelled-finish d ls = refl

spelled-nothing : spelled 0 (levels_of []) ≡ []
unfolding spelled levels_of
spelled-nothing = refl

again : (e : Element) (x : List Element) (es : List Element) {l : List Element} → l ≡ e ∷ x → x ≡ es → l ≡ e ∷ es
again e x es step is = step ∙ ap (λ (t : List Element). e ∷ t) is

at_depth : (d k : ℕ) (ls : List Level) (es : List Element) → d ≡ k → spelled k ls ≡ es → spelled d ls ≡ es
at_depth d k ls es same is = ap (λ (n : ℕ). spelled n ls) same ∙ is

-- at a place that takes a member, one collection more is open
pub member_depth : (place : Place) → TakesMember place → (around : ℕ) × (depth place ≡ suc around)
member_depth (Begun d) takes = (d, refl)
member_depth (Within d) takes = (d, refl)
member_depth Outside takes = absurd takes
member_depth Opened takes = absurd takes
member_depth Valued takes = absurd takes
member_depth (Naming d) takes = absurd takes

pub spelled_again : (place : Place) (es : List Element) → Follows place es → Closed place es → spelled (depth place) (levels_of es) ≡ es
unfolding levels_of
spelled_again place [] follows closed = at_depth (depth place) 0 (levels_of []) [] closed spelled-nothing
spelled_again place (opening tag ∷ es) follows closed =
    let ls = levels_of es in
    at_depth (depth place) 0 (before (opening tag) ls) (opening tag ∷ es) follows.0.0
    (again (opening tag) (spelled 0 ls) es (spelled-opening tag ls (top_is Opened es follows.1 closed)) (spelled_again Opened es follows.1 closed))
spelled_again place (plainly tag name bytes ∷ es) follows closed =
    let ls = levels_of es in
    let rest = at_depth (depth place) (depth (after_value (depth place))) ls es (sym (depth-after_value (depth place))) (spelled_again (after_value (depth place)) es follows.1 closed) in
    again (plainly tag name bytes) (spelled (depth place) ls) es (spelled-add (depth place) name (plain tag bytes) ls (inner_nameless place name follows.0.0)) rest
spelled_again place (begin name ∷ es) follows closed =
    let ls = levels_of es in
    again (begin name) (spelled (suc (depth place)) ls) es (spelled-begin (depth place) name ls (top_is (Begun (depth place)) es follows.1 closed) (inner_nameless place name follows.0.0)) (spelled_again (Begun (depth place)) es follows.1 closed)
spelled_again place (named name ∷ es) follows closed =
    let ls = levels_of es in
    let around = member_depth place follows.0.0 in
    let next = (after_members place around.0 follows.0.0 around.1).0 in
    let rest : Follows (Naming around.0) es = subst (λ (p : Place). Follows p es) next follows.1 in
    let end : Closed (Naming around.0) es = subst (λ (p : Place). Closed p es) next closed in
    let first = top_is (Naming around.0) es rest end in
    at_depth (depth place) (suc around.0) (before (named name) ls) (named name ∷ es) around.1
    (again (named name) (spelled (suc around.0) ls) es (spelled-named around.0 name (top ls).values ls refl first) (spelled_again (Naming around.0) es rest end))
spelled_again place (finish ∷ es) follows closed =
    let ls = levels_of es in
    let around = member_depth place follows.0.0 in
    let next = (after_members place around.0 follows.0.0 around.1).1 in
    let rest : Follows (after_value around.0) es = subst (λ (p : Place). Follows p es) next follows.1 in
    let end : Closed (after_value around.0) es = subst (λ (p : Place). Closed p es) next closed in
    at_depth (depth place) (suc around.0) (before finish ls) (finish ∷ es) around.1
    (again finish (spelled around.0 ls) es (spelled-finish around.0 ls) (at_depth around.0 (depth (after_value around.0)) ls es (sym (depth-after_value around.0)) (spelled_again (after_value around.0) es rest end)))

-- ---- groups end outside of any collection

mutual
  place_value : (place : Place) (name : List ℕ) (v : IppValue) (es : List Element) → place_from place (value_then name v es) ≡ place_from (after_value (depth place)) es
  place_value place name (plain tag bytes) es = refl
  place_value place name (collection ms) es = place_members (depth place) (Begun (depth place)) ms es tt refl

  place_values : (d : ℕ) (vs : IppValues) (es : List Element) → place_from (after_value d) (values_then vs es) ≡ place_from (after_value d) es
  place_values d no_value es = refl
  place_values d (value_and v vs) es =
      place_value (after_value d) [] v (values_then vs es) ∙ ap (λ (n : ℕ). place_from (after_value n) (values_then vs es)) (depth-after_value d) ∙ place_values d vs es

  place_members : (around : ℕ) (place : Place) (ms : IppMembers) (es : List Element) → TakesMember place → depth place ≡ suc around → place_from place (members_then ms (finish ∷ es)) ≡ place_from (after_value around) es
  place_members around place no_member es takes deep = ap (λ (p : Place). place_from p es) (after_members place around takes deep).1
  place_members around place (member_and name v vs ms) es takes deep =
      ap (λ (p : Place). place_from p (value_then [] v (values_then vs (members_then ms (finish ∷ es))))) (after_members place around takes deep).0
      ∙ place_value (Naming around) [] v (values_then vs (members_then ms (finish ∷ es)))
      ∙ place_values (suc around) vs (members_then ms (finish ∷ es))
      ∙ place_members around (Within around) ms es tt refl

closed_attributes : (xs : List IppAttribute) (es : List Element) (place : Place) → depth place ≡ 0 → ((p : Place) → depth p ≡ 0 → Closed p es) → Closed place (attributes_then xs es)
closed_attributes [] es place d rest = rest place d
closed_attributes (a ∷ xs) es place d rest =
    let more = closed_attributes xs es Valued refl rest in
    ap depth (place_value place a.name a.first (values_then (values_of a.others) (attributes_then xs es))
    ∙ ap (λ (n : ℕ). place_from (after_value n) (values_then (values_of a.others) (attributes_then xs es))) d
    ∙ place_values 0 (values_of a.others) (attributes_then xs es)) ∙ more

pub groups_closed : (gs : List IppGroup) (place : Place) → depth place ≡ 0 → Closed place (elements gs)
groups_closed [] place d = d
groups_closed (g ∷ gs) place d = closed_attributes g.attributes (elements gs) Opened refl (λ p k. groups_closed gs p k)
