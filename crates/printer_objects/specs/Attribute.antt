-- Attributes of the syntaxes that the tables use (RFC 8010, section 3.9).
use Rattle.std.specs.Prelude.{ℕ, ◌+◌, ◌/◌, pos, min, map, take, List, [], ◌∷◌, Option, Some, None}
use Rattle.base_types.specs.declared.limits.TheConstants.Limits.{LAST_INTEGER}
use Rattle.ipp_codec.specs.Message.{IppValue, plain, IppAttribute}
use Rattle.ipp_codec.specs.Typed.{bytes_of_integer}
use Rattle.ipp_codec.specs.Tag as tags
use Rattle.job_objects.specs.declared.reason.Reason.{Reason}
use Rattle.job_objects.specs.declared.reason.JobReasons.{JobReasons}
use Rattle.job_objects.specs.Reasons.{keyword_of}
use Rattle.printer_objects.specs.declared.attribute.TheConstants.{MILLIS_PER_SECOND, VALUE_BYTES}

-- an attribute of one value
abbrev pub alone : List ℕ → IppValue → IppAttribute
alone name value = record { name = name; first = value; others = [] }

-- an integer; a number above LAST_INTEGER is shown as LAST_INTEGER
abbrev pub number : ℕ → IppValue
number n = plain tags.integer (bytes_of_integer (pos (min n LAST_INTEGER)))

-- a number of an enumeration
abbrev pub enumerated : ℕ → IppValue
enumerated n = plain tags.enumeration (bytes_of_integer (pos (min n LAST_INTEGER)))

abbrev pub no_value : IppValue
no_value = plain tags.no_value []

-- a text with a tag; of a text with more than VALUE_BYTES bytes, its prefix
unfoldable pub text : ℕ → List ℕ → IppValue
text tag bytes = plain tag (take VALUE_BYTES bytes)

abbrev pub keyword : List ℕ → IppValue
keyword word = text tags.keyword word

-- a moment, given in ms, as the number of seconds begun since the start; no value for a moment that hasn't come
abbrev pub time : Option ℕ → IppValue
time (Some moment) = number (moment / MILLIS_PER_SECOND + 1)
time None = no_value

abbrev pub second_reason : Option Reason → List IppValue
second_reason (Some reason) = keyword (keyword_of reason) ∷ []
second_reason None = []

-- one reason, or two in order
abbrev pub reasons_attribute : List ℕ → JobReasons → IppAttribute
reasons_attribute name reasons = record { name = name; first = keyword (keyword_of reasons.first); others = second_reason reasons.second }

-- numbers of an enumeration, in order; the value `no-value` if there are none
abbrev pub enumerations : List ℕ → List ℕ → IppAttribute
enumerations name [] = alone name no_value
enumerations name (code ∷ codes) = record { name = name; first = enumerated code; others = map enumerated codes }

-- texts with a tag, in order; the value `no-value` if there are none
abbrev pub texts_attribute : List ℕ → ℕ → List (List ℕ) → IppAttribute
texts_attribute name tag [] = alone name no_value
texts_attribute name tag (first ∷ others) = record { name = name; first = text tag first; others = map (text tag) others }
