-- The attributes of a printer and their values (RFC 8011, sections 5.4 and 5.2).
use Rattle.std.specs.Prelude.{ℕ, ◌/◌, Bool, List, [], ◌∷◌, map, filter, Some, codes}
use Rattle.base_types.specs.declared.limits.TheConstants.Limits.{COPIES, DEFAULT_PRIORITY, HIGHEST_PRIORITY, INCOMING_JOB_TIME}
use Rattle.base_types.specs.declared.hold.Hold.TheVariants.{NoHold}
use Rattle.base_types.specs.declared.needs.Sides.TheVariants.{One}
use Rattle.base_types.specs.Hold.{hold_keyword}
use Rattle.base_types.specs.Sides.{sides_keyword}
use Rattle.ipp_codec.specs.Message.{plain, IppAttribute, IppGroup}
use Rattle.ipp_codec.specs.Tag as tags
use Rattle.printer_objects.specs.declared.attribute.TheConstants.{MILLIS_PER_SECOND}
use Rattle.printer_objects.specs.declared.printer_attribute.PrinterAttribute.{PrinterAttribute}
use Rattle.printer_objects.specs.declared.printer_attribute.PrinterAttribute.TheVariants.{UriSupported, UriSecuritySupported, UriAuthenticationSupported, Name, State, StateReasons, IppVersionsSupported, OperationsSupported, MultipleDocumentJobsSupported, MultipleOperationTimeOut, CharsetConfigured, CharsetSupported, NaturalLanguageConfigured, GeneratedNaturalLanguageSupported, DocumentFormatDefault, DocumentFormatSupported, IsAcceptingJobs, QueuedJobCount, PdlOverrideSupported, UpTime, CompressionSupported, CopiesDefault, CopiesSupported, HoldUntilDefault, HoldUntilSupported, PriorityDefault, PrioritySupported, MediaDefault, MediaSupported, MediaReady, SidesDefault, SidesSupported, FinishingsDefault, FinishingsSupported}
use Rattle.printer_objects.specs.PrinterState.{printer_state_code, printer_state_of, printer_reason_of, printer_keyword}
use Rattle.printer_objects.specs.Attribute.{alone, text, number, enumerated, keyword, time, texts_attribute}
use Rattle.printer_objects.specs.JobShown.{printer_uri}
use Rattle.printer_objects.specs.PrinterAttribute.{printer_attribute_name, printer_table, is_wanted_of_printer}
use Rattle.printer_objects.specs.Operation.{operation_table}
use Rattle.printer_objects.specs.declared.finishing.TheConstants.{NO_FINISHING}
use Rattle.printer_objects.specs.Finishing.{finishings_supported}
use Rattle.printer_objects.specs.Offer.{OfferRecord, formats_of, media_of, ready_media_of, sides_of, finishings_of}
use Rattle.printer_objects.specs.Offered.{operations_attribute, range, hold_untils_attribute, sides_attribute}

-- the data of a printer's attributes
pub record ShownPrinter : Type 0 where
  pub paused : Bool
  -- the printer's settings and offer
  pub offer : OfferRecord
  -- the beginning of the URIs of printers and jobs
  pub uri_base : List ℕ
  -- whether some job keeps the printer busy
  pub busy : Bool
  -- the number of its unfinished jobs
  pub queued : ℕ
  -- the moment of the request
  pub moment : ℕ

-- the attribute of a name, with its values
abbrev pub valued_of_printer : List ℕ → ShownPrinter → PrinterAttribute → IppAttribute
valued_of_printer name shown UriSupported = alone name (text tags.uri (printer_uri shown.uri_base shown.offer.printer.name))
valued_of_printer name shown UriSecuritySupported = alone name (keyword (codes "none"))
valued_of_printer name shown UriAuthenticationSupported = alone name (keyword (codes "requesting-user-name"))
valued_of_printer name shown Name = alone name (text tags.name shown.offer.printer.name)
valued_of_printer name shown State = alone name (enumerated (printer_state_code (printer_state_of shown.busy shown.paused)))
valued_of_printer name shown StateReasons = alone name (keyword (printer_keyword (printer_reason_of shown.busy shown.paused)))
valued_of_printer name shown IppVersionsSupported = alone name (keyword (codes "1.1"))
valued_of_printer name shown OperationsSupported = operations_attribute name operation_table
valued_of_printer name shown MultipleDocumentJobsSupported = alone name (plain tags.boolean (1 ∷ []))
valued_of_printer name shown MultipleOperationTimeOut = alone name (number (INCOMING_JOB_TIME / MILLIS_PER_SECOND))
valued_of_printer name shown CharsetConfigured = alone name (text tags.charset (codes "utf-8"))
valued_of_printer name shown CharsetSupported = alone name (text tags.charset (codes "utf-8"))
valued_of_printer name shown NaturalLanguageConfigured = alone name (text tags.natural_language (codes "en"))
valued_of_printer name shown GeneratedNaturalLanguageSupported = alone name (text tags.natural_language (codes "en"))
valued_of_printer name shown DocumentFormatDefault = alone name (text tags.mime_media_type shown.offer.printer.format_default)
valued_of_printer name shown DocumentFormatSupported = texts_attribute name tags.mime_media_type (formats_of shown.offer)
valued_of_printer name shown IsAcceptingJobs = alone name (plain tags.boolean (1 ∷ []))
valued_of_printer name shown QueuedJobCount = alone name (number shown.queued)
valued_of_printer name shown PdlOverrideSupported = alone name (keyword (codes "not-attempted"))
valued_of_printer name shown UpTime = alone name (time (Some shown.moment))
valued_of_printer name shown CompressionSupported = alone name (keyword (codes "none"))
valued_of_printer name shown CopiesDefault = alone name (number 1)
valued_of_printer name shown CopiesSupported = alone name (range 1 COPIES)
valued_of_printer name shown HoldUntilDefault = alone name (keyword (hold_keyword NoHold))
valued_of_printer name shown HoldUntilSupported = hold_untils_attribute name
valued_of_printer name shown PriorityDefault = alone name (number DEFAULT_PRIORITY)
valued_of_printer name shown PrioritySupported = alone name (number HIGHEST_PRIORITY)
valued_of_printer name shown MediaDefault = alone name (keyword shown.offer.printer.media_default)
valued_of_printer name shown MediaSupported = texts_attribute name tags.keyword (media_of shown.offer)
valued_of_printer name shown MediaReady = texts_attribute name tags.keyword (ready_media_of shown.offer)
valued_of_printer name shown SidesDefault = alone name (keyword (sides_keyword One))
valued_of_printer name shown SidesSupported = sides_attribute name (sides_of shown.offer)
valued_of_printer name shown FinishingsDefault = alone name (enumerated NO_FINISHING)
valued_of_printer name shown FinishingsSupported = finishings_supported name (finishings_of shown.offer)

-- an attribute of a printer
abbrev pub printer_shown : ShownPrinter → PrinterAttribute → IppAttribute
printer_shown shown which = valued_of_printer (printer_attribute_name which) shown which

-- the printer group of a response: the requested attributes, in the table's order
abbrev pub printer_attributes : ShownPrinter → List (List ℕ) → IppGroup
printer_attributes shown requested = record { tag = tags.printer_attributes; attributes = map (printer_shown shown) (filter (is_wanted_of_printer requested) printer_table) }
