-- The content of bytes: their elements, and the groups, attributes, values and members of these.
use Rattle.std.specs.Prelude.{ℕ, zero, suc, List, [], ◌∷◌, length, Option, Some, None}
use Rattle.ipp_codec.specs.Message.{IppValue, plain, collection, IppMembers, no_member, member_and, IppAttribute, IppGroup, values_of}
use Rattle.ipp_codec.specs.Spelling.{Element, opening, plainly, begin, named, finish}
use Rattle.ipp_codec.specs.Reading.{element_at}

-- the content from a place on at one depth: values without names, then members or attributes, then groups
pub record Level : Type 0 where
  pub values : List IppValue
  pub members : IppMembers
  pub attributes : List IppAttribute
  pub groups : List IppGroup

-- the empty content
abbrev pub nothing : Level
nothing = record { values = []; members = no_member; attributes = []; groups = [] }

-- the content with a value of this name at its beginning
abbrev pub add : List ℕ → IppValue → Level → Level
add [] v l = record { values = v ∷ l.values; members = l.members; attributes = l.attributes; groups = l.groups }
add (c ∷ name) v l = record { values = []; members = l.members; attributes = record { name = c ∷ name; first = v; others = l.values } ∷ l.attributes; groups = l.groups }

-- a member of this name, if it has a value
abbrev pub add_member : List ℕ → List IppValue → IppMembers → IppMembers
add_member name [] ms = ms
add_member name (v ∷ vs) ms = member_and name v (values_of vs) ms

-- the content with the name of a member at its beginning, which takes the values
abbrev pub name_member : List ℕ → Level → Level
name_member name l = record { values = []; members = add_member name l.values l.members; attributes = l.attributes; groups = l.groups }

-- the content with the tag of a group at its beginning, which takes the attributes
abbrev pub open_group : ℕ → Level → Level
open_group tag l = record { values = []; members = no_member; attributes = []; groups = record { tag = tag; attributes = l.attributes } ∷ l.groups }

-- the innermost of the nested levels
abbrev pub top : List Level → Level
top [] = nothing
top (l ∷ ls) = l

-- the levels around the innermost
abbrev pub below : List Level → List Level
below [] = []
below (l ∷ ls) = ls

-- the levels with an element at their beginning
abbrev pub before : Element → List Level → List Level
before (opening tag) ls = open_group tag (top ls) ∷ below ls
before (plainly tag name bytes) ls = add name (plain tag bytes) (top ls) ∷ below ls
before (begin name) ls = add name (collection (top ls).members) (top (below ls)) ∷ below (below ls)
before (named name) ls = name_member name (top ls) ∷ below ls
before finish ls = nothing ∷ ls

-- the levels of elements, built from the last element to the first
unfoldable pub levels_of : List Element → List Level
levels_of [] = []
levels_of (e ∷ es) = before e (levels_of es)

-- the list for an element that was found; empty if none was
abbrev pub listed : {A : Type 0} → Option (Element × List ℕ) → (Element × List ℕ → List A) → List A
listed (Some x) f = f x
listed None f = []

-- the elements at the beginning of the bytes, at most n
unfoldable pub elements_in : ℕ → List ℕ → List Element
elements_in zero bytes = []
elements_in (suc n) bytes = listed (element_at bytes) (λ x. x.0 ∷ elements_in n x.1)

-- the levels of bytes
abbrev pub shown : List ℕ → List Level
shown bytes = levels_of (elements_in (length bytes) bytes)
