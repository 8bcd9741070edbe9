-- The bytes of a reply (RFC 8011, section 4.1.4.2).
use Rattle.std.specs.Prelude.{ℕ, ◌≡◌, ◌++◌, Bool, true, false, if◌then◌else◌, List, [], ◌∷◌, codes}
use Rattle.ipp_codec.specs.Message.{plain, IppAttribute, IppGroup, IppMessage}
use Rattle.ipp_codec.specs.Spelling.{spelling}
use Rattle.ipp_codec.specs.Tag as tags
use Rattle.events.specs.declared.effects.IppResponse.{IppResponse}
use Rattle.events.specs.declared.status.Status.{Status}
use Rattle.events.specs.declared.status.Status.TheVariants.{OkIgnoredOrSubstituted, AttributesNotSupported}
use Rattle.events.specs.Status.{code_of}

-- an attribute of one value
abbrev pub alone : List ℕ → ℕ → List ℕ → IppAttribute
alone name tag bytes = record { name = name; first = plain tag bytes; others = [] }

-- the charset and the natural language of the reply
abbrev pub opening_group : IppGroup
opening_group = record {
  tag = tags.operation_attributes;
  attributes = alone (codes "attributes-charset") tags.charset (codes "utf-8") ∷ alone (codes "attributes-natural-language") tags.natural_language (codes "en") ∷ [];
}

-- whether the status reports unsupported attributes (section 4.1.7)
abbrev pub tells_unsupported : Status → Bool
tells_unsupported OkIgnoredOrSubstituted = true
tells_unsupported AttributesNotSupported = true
tells_unsupported _ = false

-- the group of the unsupported attributes, if there are any
abbrev pub unsupported_group : List IppAttribute → List IppGroup
unsupported_group [] = []
unsupported_group (attribute ∷ attributes) = record { tag = tags.unsupported_attributes; attributes = attribute ∷ attributes } ∷ []

abbrev pub unsupported_of : Status → List IppAttribute → List IppGroup
unsupported_of status attributes = if tells_unsupported status then unsupported_group attributes else []

-- a reply of version 1.1, with these groups after the operation group
abbrev pub reply_of : Status → ℕ → List IppGroup → IppMessage
reply_of status id groups = record { major = 1; minor = 1; code = code_of status; request_id = id; groups = opening_group ∷ groups }

-- the reply of a status without further groups
abbrev pub refusal_bytes : Status → ℕ → List ℕ
refusal_bytes status id = spelling (reply_of status id [])

abbrev pub message_of : IppResponse → ℕ → IppMessage
message_of answer id =
    reply_of answer.status id (unsupported_of answer.status answer.unsupported ++ answer.groups)

-- the bytes are the spelling of the response's message
pub record IsReply (answer : IppResponse) (id : ℕ) (bytes : List ℕ) : Type 0 where
  pub spelt : bytes ≡ spelling (message_of answer id)
