-- The attributes of a request's job group that a printer supports, and the template of the job (RFC 8011, section 5.2).
use Rattle.std.specs.Prelude.{ℕ, ◌==◌, ◌||◌, nat_lt, Bool, false, if◌then◌else◌, List, [], ◌∷◌, find, Option, Some, None, is_some, option_map, unwrap_or}
use Rattle.std.specs.Option.{option_and_then, option_map_or}
use Rattle.std.specs.Str.{bytes_eq}
use Rattle.base_types.specs.declared.limits.TheConstants.Limits.{COPIES, HIGHEST_PRIORITY, DEFAULT_PRIORITY}
use Rattle.base_types.specs.Finishings.{no_finishings}
use Rattle.base_types.specs.Hold.{hold_of_keyword, is_held}
use Rattle.base_types.specs.declared.finishings.Finishings.{Finishings}
use Rattle.base_types.specs.declared.needs.Sides.{Sides}
use Rattle.base_types.specs.declared.needs.Sides.TheVariants.{One}
use Rattle.ipp_codec.specs.Message.{IppValue, tag_of, bytes_in, IppAttribute}
use Rattle.ipp_codec.specs.Typed.{integer_in, unsigned}
use Rattle.ipp_codec.specs.Tag as tags
use Rattle.printer_objects.specs.Offer.{OfferRecord, sides_named, medium_named, finishing_named}
use Rattle.printer_objects.specs.Finishing.{has_finishing, with_finishing}
use Rattle.printer_objects.specs.declared.finishing.Finishing.{Finishing}
use Rattle.printer_objects.specs.declared.finishing.TheConstants.{NO_FINISHING}
use Rattle.job_template.specs.declared.template_name.TemplateName.{TemplateName}
use Rattle.job_template.specs.declared.template_name.TemplateName.TheVariants as Is
use Rattle.job_template.specs.TemplateName.{name_of, template_name}

-- ---- the value of an attribute of exactly one value

abbrev pub alone : IppValue → List IppValue → Option IppValue
alone value [] = Some value
alone value (other ∷ others) = None

abbrev pub only_value : IppAttribute → Option IppValue
only_value attribute = alone attribute.first attribute.others

-- an integer that isn't negative
abbrev pub number_of : IppValue → Option ℕ
number_of value = if tag_of value == tags.integer then option_and_then unsigned (integer_in value) else None

-- a number of an enumeration that isn't negative
abbrev pub enumerated_of : IppValue → Option ℕ
enumerated_of value = if tag_of value == tags.enumeration then option_and_then unsigned (integer_in value) else None

-- the bytes of a keyword
abbrev pub keyword_of : IppValue → Option (List ℕ)
keyword_of value = if tag_of value == tags.keyword then Some (bytes_in value) else None

-- the bytes of a keyword, or of a name without a language
abbrev pub word_of : IppValue → Option (List ℕ)
word_of value = if (tag_of value == tags.keyword) || (tag_of value == tags.name) then Some (bytes_in value) else None

abbrev pub number : IppAttribute → Option ℕ
number attribute = option_and_then number_of (only_value attribute)

abbrev pub keyword : IppAttribute → Option (List ℕ)
keyword attribute = option_and_then keyword_of (only_value attribute)

abbrev pub word : IppAttribute → Option (List ℕ)
word attribute = option_and_then word_of (only_value attribute)

-- ---- the values of supported attributes

-- a number from 1 to `most`
abbrev pub up_to : ℕ → ℕ → Option ℕ
up_to most count = if nat_lt count 1 || nat_lt most count then None else Some count

-- copies (section 5.2.5)
abbrev pub copies_in : IppAttribute → Option ℕ
copies_in attribute = option_and_then (up_to COPIES) (number attribute)

-- job-priority (section 5.2.1)
abbrev pub priority_in : IppAttribute → Option ℕ
priority_in attribute = option_and_then (up_to HIGHEST_PRIORITY) (number attribute)

-- whether the job is held, by the keyword of job-hold-until (section 5.2.2)
abbrev pub hold_named : List ℕ → Option Bool
hold_named word = option_map is_held (hold_of_keyword word)

abbrev pub hold_in : IppAttribute → Option Bool
hold_in attribute = option_and_then hold_named (keyword attribute)

-- sides (section 5.2.8)
abbrev pub sides_in : OfferRecord → IppAttribute → Option Sides
sides_in offer attribute = option_and_then (sides_named offer) (keyword attribute)

-- media (section 5.2.11)
abbrev pub medium_in : OfferRecord → IppAttribute → Option (List ℕ)
medium_in offer attribute = option_and_then (medium_named offer) (word attribute)

-- ---- finishings (section 5.2.6), the only attribute that may have several values

-- the finishing that a value names, if the printer has it
abbrev pub finishing_in : OfferRecord → IppValue → Option Finishing
finishing_in offer value = option_and_then (finishing_named offer) (enumerated_of value)

-- the finishings with one more, if that isn't among them
abbrev pub unless_there : Finishings → Finishing → Option Finishings
unless_there found finishing = if has_finishing found finishing then None else Some (with_finishing found finishing)

-- the finishings with one for each value, if each value names one of the printer's and none is named twice
abbrev pub finishings_from : OfferRecord → Finishings → List IppValue → Option Finishings
finishings_from offer found [] = Some found
finishings_from offer found (value ∷ values) =
    option_and_then (λ more. finishings_from offer more values) (option_and_then (unless_there found) (finishing_in offer value))

-- the attribute has one value, the number of no finishing
abbrev pub wants_none : IppAttribute → Bool
wants_none attribute = option_map_or (λ number. number == NO_FINISHING) (option_and_then enumerated_of (only_value attribute)) false

-- no finishings, or those of the values
abbrev pub finishings_in : OfferRecord → IppAttribute → Option Finishings
finishings_in offer attribute =
    if wants_none attribute then Some no_finishings
    else finishings_from offer no_finishings (attribute.first ∷ attribute.others)

-- ---- which attributes are supported

-- whether the printer supports the attribute of a name with its values
abbrev pub supports : OfferRecord → IppAttribute → Option TemplateName → Bool
supports offer attribute (Some Is.Copies) = is_some (copies_in attribute)
supports offer attribute (Some Is.Media) = is_some (medium_in offer attribute)
supports offer attribute (Some Is.Sides) = is_some (sides_in offer attribute)
supports offer attribute (Some Is.Finishings) = is_some (finishings_in offer attribute)
supports offer attribute (Some Is.JobPriority) = is_some (priority_in attribute)
supports offer attribute (Some Is.JobHoldUntil) = is_some (hold_in attribute)
supports offer attribute None = false

unfoldable pub is_supported : OfferRecord → IppAttribute → Bool
is_supported offer attribute = supports offer attribute (template_name attribute.name)

-- ---- the template of a job by its job group

-- the attribute of a name
abbrev pub named : TemplateName → List IppAttribute → Option IppAttribute
named which attributes = find (λ a. bytes_eq (name_of which) a.name) attributes

-- the value of the attribute of a name, if it is supported
abbrev pub asked_by : {X : Type 0} → TemplateName → (IppAttribute → Option X) → List IppAttribute → Option X
asked_by which value attributes = option_and_then value (named which attributes)

-- the template without the medium
pub record TemplateRecord : Type 0 where
  pub priority : ℕ
  pub sides : Sides
  pub finishings : Finishings
  pub copies : ℕ
  pub held : Bool

-- an attribute that is missing or isn't supported has its default
unfoldable pub template_of : OfferRecord → List IppAttribute → TemplateRecord
template_of offer attributes = record {
  priority = unwrap_or (asked_by Is.JobPriority priority_in attributes) DEFAULT_PRIORITY;
  sides = unwrap_or (asked_by Is.Sides (sides_in offer) attributes) One;
  finishings = unwrap_or (asked_by Is.Finishings (finishings_in offer) attributes) no_finishings;
  copies = unwrap_or (asked_by Is.Copies copies_in attributes) 1;
  held = unwrap_or (asked_by Is.JobHoldUntil hold_in attributes) false;
}

-- the medium; without a supported one the printer's default
unfoldable pub medium_of : OfferRecord → List IppAttribute → List ℕ
medium_of offer attributes = unwrap_or (asked_by Is.Media (medium_in offer) attributes) offer.printer.media_default
