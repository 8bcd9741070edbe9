-- The content of views of a head, and the elements that their iterators still have.
use Rattle.std.specs.Prelude.{◌≡◌, ◌<◌, ℕ, ◌+◌, length, is_some, if◌then◌else◌, ◌==◌, ◌≢◌, List, [], ◌∷◌, Option, Some, None}
use Rattle.std.specs.Borrow.{Bor}
use Rattle.ipp_codec.specs.declared.view.MessageView.{MessageView}
use Rattle.ipp_codec.specs.declared.view.GroupView.{GroupView}
use Rattle.ipp_codec.specs.declared.view.AttributeView.{AttributeView}
use Rattle.ipp_codec.specs.declared.member_view.MemberView.{MemberView}
use Rattle.ipp_codec.specs.declared.view.ValueView.{ValueView}
use Rattle.ipp_codec.specs.declared.view.Groups.{Groups}
use Rattle.ipp_codec.specs.declared.view.Attributes.{Attributes}
use Rattle.ipp_codec.specs.declared.member_view.Members.{Members}
use Rattle.ipp_codec.specs.declared.view.Values.{Values}
use Rattle.ipp_codec.specs.declared.element.ElementView.{ElementView}
use Rattle.ipp_codec.specs.declared.walk.Entry.{Entry}
use Rattle.ipp_codec.specs.declared.walk.Entry.TheVariants as entry
use Rattle.ipp_codec.specs.Message.{IppValue, plain, collection, IppMember, IppAttribute, IppGroup, IppMessage, members_in}
use Rattle.ipp_codec.specs.Spelling.{Element, plainly}
use Rattle.ipp_codec.specs.Reading.{seen}
use Rattle.ipp_codec.specs.Shown.{Level, nothing, add, name_member, open_group, top, before, shown}

-- the content of the bytes at their own depth
abbrev pub level : List ℕ → Level
level bytes = top (shown bytes)

-- the value of a view, which is a collection if the tag is that of begCollection
abbrev pub value_shown : ValueView → IppValue
value_shown v = if v.tag == 0x34 then collection (level v.content.now).members else plain v.tag v.content.now

-- a member of a collection; its other values are after the first
abbrev pub member_shown : MemberView → IppMember
member_shown m = record { name = m.name.now; first = value_shown m.first; others = (level m.rest.now).values }

-- an attribute; its other values are after the first
abbrev pub attribute_shown : AttributeView → IppAttribute
attribute_shown a = record { name = a.name.now; first = value_shown a.first; others = (level a.rest.now).values }

-- a group and the attributes after its tag
abbrev pub group_shown : GroupView → IppGroup
group_shown g = record { tag = g.tag; attributes = (level g.rest.now).attributes }

-- the message of a view
abbrev pub message_shown : MessageView → IppMessage
message_shown v = record { major = v.version.major; minor = v.version.minor; code = v.code; request_id = v.request_id; groups = (level v.body.now).groups }

-- ---- the elements that iterators still have

-- the groups that an iterator still has
abbrev pub groups_left : Groups → List IppGroup
groups_left it = (level it.rest.now).groups

-- the attributes that an iterator still has
abbrev pub attributes_left : Attributes → List IppAttribute
attributes_left it = (level it.rest.now).attributes

-- the members that an iterator still has
abbrev pub members_left : Members → List IppMember
members_left it = members_in (level it.rest.now).members

-- the values with a value at their beginning, if there is one
abbrev pub with_first : Option ValueView → List IppValue → List IppValue
with_first None vs = vs
with_first (Some v) vs = value_shown v ∷ vs

-- the values that an iterator still has
abbrev pub values_left : Values → List IppValue
values_left it = with_first it.first (level it.rest.now).values

-- an upper bound on the values that an iterator still has
abbrev pub size_left : Values → ℕ
size_left it = length it.rest.now + (if is_some it.first then 1 else 0)

-- ---- one step

-- A plain value isn't tagged as a collection, and its content is shorter than the bytes.
abbrev pub IsSorted : List ℕ → Element → Type 0
IsSorted bytes (plainly tag name content) = (tag ≢ 0x34) × (length content < length bytes)
IsSorted bytes _ = Unit {0}

-- the element at the beginning of the bytes, and the bytes after it
abbrev pub FirstShown : List ℕ → Option (ElementView × Bor (List ℕ)) → Type 0
FirstShown bytes None = shown bytes ≡ []
FirstShown bytes (Some x) = (shown bytes ≡ before (seen x.0) (shown x.1.now)) × (length x.1.now < length bytes) × IsSorted bytes (seen x.0)

-- the level with an entry at its beginning
abbrev pub entry_before : Entry → Level → Level
entry_before (entry.Group tag) l = open_group tag l
entry_before (entry.Value name v) l = add name.now (value_shown v) l
entry_before (entry.Member name) l = name_member name.now l
entry_before entry.End l = nothing

-- The content of an entry's value is shorter than the bytes.
abbrev pub IsWithin : List ℕ → Entry → Type 0
IsWithin bytes (entry.Value name v) = length v.content.now < length bytes
IsWithin bytes _ = Unit {0}

-- the entry at the beginning of the bytes, and the bytes after it
abbrev pub NextEntry : List ℕ → Option (Entry × Bor (List ℕ)) → Type 0
NextEntry bytes None = level bytes ≡ nothing
NextEntry bytes (Some x) = (level bytes ≡ entry_before x.0 (level x.1.now)) × (length x.1.now < length bytes) × IsWithin bytes x.0

-- the next group, with the bytes after its tag
abbrev pub NextGroup : List ℕ → Option GroupView → Type 0
NextGroup bytes None = (level bytes).groups ≡ []
NextGroup bytes (Some g) = ((level bytes).groups ≡ group_shown g ∷ (level g.rest.now).groups) × (length g.rest.now < length bytes)

-- the next attribute, with the bytes after its first value
abbrev pub NextAttribute : List ℕ → Option AttributeView → Type 0
NextAttribute bytes None = (level bytes).attributes ≡ []
NextAttribute bytes (Some a) = ((level bytes).attributes ≡ attribute_shown a ∷ (level a.rest.now).attributes) × (length a.rest.now < length bytes)

-- the next member, with the bytes after its first value
abbrev pub NextMember : List ℕ → Option MemberView → Type 0
NextMember bytes None = members_in (level bytes).members ≡ []
NextMember bytes (Some m) = (members_in (level bytes).members ≡ member_shown m ∷ members_in (level m.rest.now).members) × (length m.rest.now < length bytes) × (length m.first.content.now < length bytes)

-- the next value without a name, and the bytes after it
abbrev pub NextValue : List ℕ → Option (ValueView × Bor (List ℕ)) → Type 0
NextValue bytes None = (level bytes).values ≡ []
NextValue bytes (Some x) = (level bytes ≡ add [] (value_shown x.0) (level x.1.now)) × (length x.1.now < length bytes) × (length x.0.content.now < length bytes)
