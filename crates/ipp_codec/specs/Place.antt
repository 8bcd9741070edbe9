-- The places in a head, and the elements that may come at each (RFC 8010, sections 3.1.2 to 3.1.6).
use Rattle.std.specs.Prelude.{◌≡◌, ◌≢◌, ◌<◌, ℕ, zero, suc, List, [], ◌∷◌, length}
use Rattle.base_types.specs.declared.limits.TheConstants.Limits.{COLLECTION_DEPTH}
use Rattle.ipp_codec.specs.declared.place.Place.{Place}
use Rattle.ipp_codec.specs.declared.place.Place.TheVariants.{Outside, Opened, Valued, Begun, Naming, Within}
use Rattle.ipp_codec.specs.Spelling.{Element, opening, plainly, begin, named, finish}
use Rattle.ipp_codec.specs.Grammar.{IsGroupTag, IsPlain, IsName}

-- the number of open collections
abbrev pub depth : Place → ℕ
depth (Begun outer) = suc outer
depth (Naming outer) = suc outer
depth (Within outer) = suc outer
depth _ = 0

-- the place after a value, where `outer` collections are open
abbrev pub after_value : ℕ → Place
after_value zero = Valued
after_value (suc outer) = Within outer

-- the place after the end of a collection
abbrev pub after_finish : Place → Place
after_finish (Begun outer) = after_value outer
after_finish (Within outer) = after_value outer
after_finish place = place

-- the place after the name of a member
abbrev pub after_named : Place → Place
after_named (Begun outer) = Naming outer
after_named (Within outer) = Naming outer
after_named place = place

-- the place after an element
abbrev pub after : Place → Element → Place
after place (opening tag) = Opened
after place (plainly tag name bytes) = after_value (depth place)
after place (begin name) = Begun (depth place)
after place (named name) = after_named place
after place finish = after_finish place

-- the place after elements
abbrev pub place_from : Place → List Element → Place
place_from place [] = place
place_from place (e ∷ es) = place_from (after place e) es

-- A value with this name may come at the place: a group's first value has a name, a member's has none.
abbrev pub TakesValue : Place → List ℕ → Type 0
TakesValue Outside name = ⊥
TakesValue Opened name = name ≢ []
TakesValue Valued name = Unit {0}
TakesValue (Begun outer) name = ⊥
TakesValue (Naming outer) name = name ≡ []
TakesValue (Within outer) name = name ≡ []

-- A member's name or the collection's end may come at the place.
abbrev pub TakesMember : Place → Type 0
TakesMember (Begun outer) = Unit {0}
TakesMember (Within outer) = Unit {0}
TakesMember _ = ⊥

-- An element of this kind may come at the place.
abbrev pub Takes : Place → Element → Type 0
Takes place (opening tag) = depth place ≡ 0
Takes place (plainly tag name bytes) = TakesValue place name
Takes place (begin name) = TakesValue place name
Takes place (named name) = TakesMember place
Takes place finish = TakesMember place

-- The element has a spelling, and if it begins a collection, the depth allows that.
abbrev pub IsSpellable : ℕ → Element → Type 0
IsSpellable around (opening tag) = IsGroupTag tag
IsSpellable around (plainly tag name bytes) = (length name < 0x8000) × IsPlain tag bytes
IsSpellable around (begin name) = (length name < 0x8000) × (around < COLLECTION_DEPTH)
IsSpellable around (named name) = IsName name
IsSpellable around finish = Unit {0}

-- The element may come next.
abbrev pub IsAllowed : Place → Element → Type 0
IsAllowed place e = Takes place e × IsSpellable (depth place) e

-- Each element may come after those before it.
abbrev pub Follows : Place → List Element → Type 0
Follows place [] = Unit {0}
Follows place (e ∷ es) = IsAllowed place e × Follows (after place e) es
