-- The offer of a printer (RFC 8011, sections 5.2 and 5.4). The lists of supported values are also those in which a request's values are looked up.
use Rattle.std.specs.Prelude.{ℕ, ◌==◌, Bool, false, if◌then◌else◌, List, [], ◌∷◌, ◌++◌, filter, find, Option, Some, None, is_some}
use Rattle.std.specs.List.{flat_map, list_any, slice_get}
use Rattle.std.specs.Option.{option_map_or}
use Rattle.std.specs.Str.{bytes_eq}
use Rattle.base_types.specs.Device.{Device}
use Rattle.base_types.specs.declared.needs.Sides.{Sides}
use Rattle.base_types.specs.declared.needs.Sides.TheVariants.{One, LongEdge, ShortEdge}
use Rattle.base_types.specs.Sides.{sides_keyword}
use Rattle.settings_file.specs.Settings.{PrinterEntry}
use Rattle.printer_objects.specs.declared.together.Listed.{Listed}
use Rattle.printer_objects.specs.declared.together.Listed.TheVariants.{Formats, Media, LoadedMedia}
use Rattle.printer_objects.specs.declared.finishing.Finishing.{Finishing}
use Rattle.printer_objects.specs.Finishing.{finishing_table, finishing_code, has_finishing}
use Rattle.printer_objects.specs.DocumentFormat.{is_same_format}
use Rattle.printer_objects.specs.Together.{listed_by, distinct}

-- all devices, and a printer with the places of its own among them
pub record OfferRecord : Type 0 where
  pub devices : List Device
  pub printer : PrinterEntry

-- ---- the lists

-- the entries of the device at a place, if there is one
abbrev pub listed_at : Listed → OfferRecord → ℕ → List (List ℕ)
listed_at listed offer place = option_map_or (listed_by listed) (slice_get offer.devices place) []

-- the entries of the printer's devices, in order
abbrev pub listed_of : Listed → OfferRecord → List (List ℕ)
listed_of listed offer = flat_map (listed_at listed offer) offer.printer.devices

-- the document formats (section 5.4.22): those of the devices, then the printer's default, each once
unfoldable pub formats_of : OfferRecord → List (List ℕ)
formats_of offer = distinct (listed_of Formats offer ++ offer.printer.format_default ∷ [])

-- the media (section 5.2.11), loaded or not: those of the devices, then the printer's default, each once
unfoldable pub media_of : OfferRecord → List (List ℕ)
media_of offer = distinct (listed_of Media offer ++ offer.printer.media_default ∷ [])

-- the loaded media, each once
abbrev pub ready_media_of : OfferRecord → List (List ℕ)
ready_media_of offer = distinct (listed_of LoadedMedia offer)

abbrev pub is_two_sided : Option Device → Bool
is_two_sided (Some device) = is_some device.rate_two
is_two_sided None = false

-- some device of the printer prints two-sided
abbrev pub prints_two_sided : OfferRecord → Bool
prints_two_sided offer = list_any (λ place. is_two_sided (slice_get offer.devices place)) offer.printer.devices

-- the sides (section 5.2.8): both two-sided ways if some device prints two-sided
unfoldable pub sides_of : OfferRecord → List Sides
sides_of offer = if prints_two_sided offer then One ∷ LongEdge ∷ ShortEdge ∷ [] else One ∷ []

abbrev pub finishes_so : Finishing → Option Device → Bool
finishes_so finishing (Some device) = has_finishing device.finishings finishing
finishes_so finishing None = false

-- some device of the printer has the finishing
abbrev pub offers_finishing : OfferRecord → Finishing → Bool
offers_finishing offer finishing = list_any (λ place. finishes_so finishing (slice_get offer.devices place)) offer.printer.devices

-- the finishings (section 5.2.6) that some device of the printer has
unfoldable pub finishings_of : OfferRecord → List Finishing
finishings_of offer = filter (offers_finishing offer) finishing_table

-- ---- looking up a request's value

-- the first format that is equal to the requested one
unfoldable pub format_named : OfferRecord → List ℕ → Option (List ℕ)
format_named offer asked = find (is_same_format asked) (formats_of offer)

-- the medium of a name
unfoldable pub medium_named : OfferRecord → List ℕ → Option (List ℕ)
medium_named offer name = find (bytes_eq name) (media_of offer)

-- the sides of a keyword
unfoldable pub sides_named : OfferRecord → List ℕ → Option Sides
sides_named offer keyword = find (λ sides. bytes_eq keyword (sides_keyword sides)) (sides_of offer)

-- the finishing of a number
unfoldable pub finishing_named : OfferRecord → ℕ → Option Finishing
finishing_named offer number = find (λ finishing. number == finishing_code finishing) (finishings_of offer)
