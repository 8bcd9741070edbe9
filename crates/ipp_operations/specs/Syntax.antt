-- The syntaxes of attribute values, and their tags (RFC 8010, section 3.5.2).
use Rattle.std.specs.Prelude.{ℕ, ◌==◌, Bool, List, [], ◌∷◌}
use Rattle.std.specs.List.{list_any}
use Rattle.ipp_codec.specs.Message.{IppValue, tag_of}
use Rattle.ipp_codec.specs.Tag as tags
use Rattle.ipp_operations.specs.declared.syntax.Syntax.{Syntax}
use Rattle.ipp_operations.specs.declared.syntax.Syntax.TheVariants.{Integer, Boolean, Name, Keyword, KeywordOrName, Uri, MimeMediaType}

abbrev pub tags_of : Syntax → List ℕ
tags_of Integer = tags.integer ∷ []
tags_of Boolean = tags.boolean ∷ []
tags_of Name = tags.name ∷ tags.name_with_language ∷ []
tags_of Keyword = tags.keyword ∷ []
tags_of KeywordOrName = tags.keyword ∷ tags.name ∷ []
tags_of Uri = tags.uri ∷ []
tags_of MimeMediaType = tags.mime_media_type ∷ []

-- the tag is of the syntax
abbrev pub has_tag : Syntax → ℕ → Bool
has_tag syntax tag = list_any (λ known. tag == known) (tags_of syntax)

-- the value has a tag of the syntax
abbrev pub has_syntax : Syntax → IppValue → Bool
has_syntax syntax value = has_tag syntax (tag_of value)
