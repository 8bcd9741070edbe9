-- The element of a tag, a name and bytes (RFC 8010, sections 3.1.4 and 3.1.6).
use Rattle.std.specs.Prelude.{ℕ, List, [], ◌∷◌, Option, Some, None, ◌==◌, if◌then◌else◌}
use Rattle.ipp_codec.specs.Spelling.{Element, plainly, begin, named, finish}

-- begCollection has no bytes
abbrev pub begin_kind : List ℕ → List ℕ → Option Element
begin_kind name [] = Some (begin name)
begin_kind name (b ∷ bytes) = None

-- memberAttrName has the member's name as its bytes, and an empty name
abbrev pub named_kind : List ℕ → List ℕ → Option Element
named_kind [] (b ∷ bytes) = Some (named (b ∷ bytes))
named_kind [] [] = None
named_kind (n ∷ name) bytes = None

-- endCollection has an empty name and no bytes
abbrev pub finish_kind : List ℕ → List ℕ → Option Element
finish_kind [] [] = Some finish
finish_kind [] (b ∷ bytes) = None
finish_kind (n ∷ name) bytes = None

-- the element of a value's tag, name and bytes; a tag of a collection needs a name and bytes of its form
unfoldable pub kind_of : ℕ → List ℕ → List ℕ → Option Element
kind_of tag name bytes =
    if tag == 0x34 then begin_kind name bytes
    else if tag == 0x4A then named_kind name bytes
    else if tag == 0x37 then finish_kind name bytes
    else Some (plainly tag name bytes)
