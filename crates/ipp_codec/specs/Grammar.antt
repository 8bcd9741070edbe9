-- The messages that have a spelling, and the spelling of a message (RFC 8010, section 3).
use Rattle.std.specs.Prelude.{◌≡◌, ◌≢◌, ◌⊎◌, ◌<◌, ◌≤◌, ◌^◌, ℕ, ◌-◌, List, [], ◌∷◌, ◌++◌, length}
use Rattle.std.specs.List.{AllByRecursion}
use Rattle.base_types.specs.declared.limits.TheConstants.Limits.{COLLECTION_DEPTH}
use Rattle.ipp_codec.specs.Message.{IppValue, plain, collection, IppValues, no_value, value_and, IppMembers, no_member, member_and, IppAttribute, IppGroup, IppMessage, values_of}
use Rattle.ipp_codec.specs.Spelling.{counted, spelling}

-- a group's tag; 3 is the end's (RFC 8010, section 3.5.1)
abbrev pub IsGroupTag : ℕ → Type 0
IsGroupTag tag = (0 < tag) × (tag < 16) × (tag ≢ 3)

-- begCollection, endCollection, memberAttrName
abbrev pub IsCollectionTag : ℕ → Type 0
IsCollectionTag tag = (tag ≡ 0x34) ⊎ (tag ≡ 0x37) ⊎ (tag ≡ 0x4A)

-- a language and a text (RFC 8010, section 3.9)
abbrev pub IsWithLanguage : List ℕ → Type 0
IsWithLanguage bytes = (language : List ℕ) × (text : List ℕ) × (length language < 0x8000) × (length text < 0x8000) × (bytes ≡ counted language ++ counted text)

-- the lengths of the values of fixed size, a boolean's byte, and texts with a language (RFC 8010, section 3.9)
pub record HasShape (tag : ℕ) (bytes : List ℕ) : Type 0 where
  pub integer : tag ≡ 0x21 → length bytes ≡ 4
  pub boolean : tag ≡ 0x22 → (bytes ≡ 0 ∷ []) ⊎ (bytes ≡ 1 ∷ [])
  pub enumeration : tag ≡ 0x23 → length bytes ≡ 4
  pub date : tag ≡ 0x31 → length bytes ≡ 11
  pub resolution : tag ≡ 0x32 → length bytes ≡ 9
  pub range : tag ≡ 0x33 → length bytes ≡ 8
  pub text : tag ≡ 0x35 → IsWithLanguage bytes
  pub name : tag ≡ 0x36 → IsWithLanguage bytes

-- a value that isn't a collection
pub record IsPlain (tag : ℕ) (bytes : List ℕ) : Type 0 where
  pub tag_from : 16 ≤ tag
  pub tag_below : tag < 256
  pub no_collection : ¬ (IsCollectionTag tag)
  pub length : length bytes < 0x8000
  pub shape : HasShape tag bytes

-- a name that isn't empty, and whose length fits
abbrev pub IsName : List ℕ → Type 0
IsName name = (name ≢ []) × (length name < 0x8000)

-- values with at most `limit` nested collections
abbrev mutual
  pub IsValue : ℕ → IppValue → Type 0
  IsValue limit (plain tag bytes) = IsPlain tag bytes
  IsValue limit (collection members) = (0 < limit) × AreMembers (limit - 1) members

  pub AreValues : ℕ → IppValues → Type 0
  AreValues limit no_value = Unit {0}
  AreValues limit (value_and v vs) = IsValue limit v × AreValues limit vs

  pub AreMembers : ℕ → IppMembers → Type 0
  AreMembers limit no_member = Unit {0}
  AreMembers limit (member_and name v vs ms) = (IsName name × IsValue limit v × AreValues limit vs) × AreMembers limit ms

-- an attribute that has a spelling
pub record IsAttribute (a : IppAttribute) : Type 0 where
  pub name : IsName a.name
  pub first : IsValue COLLECTION_DEPTH a.first
  pub others : AreValues COLLECTION_DEPTH (values_of a.others)

-- a group that has a spelling
pub record IsGroup (g : IppGroup) : Type 0 where
  pub tag : IsGroupTag g.tag
  pub attributes : AllByRecursion IsAttribute g.attributes

-- a message that has a spelling
pub record IsMessage (m : IppMessage) : Type 0 where
  pub major : m.major < 256
  pub minor : m.minor < 256
  pub code : m.code < 2 ^ 16
  pub request_id : m.request_id < 2 ^ 32
  pub groups : AllByRecursion IsGroup m.groups

-- The bytes are the one spelling of the message.
abbrev pub Spells : List ℕ → IppMessage → Type 0
Spells bytes m = IsMessage m × (bytes ≡ spelling m)
