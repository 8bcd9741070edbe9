-- The attributes of a printer: their order, names and groups (RFC 8011, sections 5.4 and 5.2).
use Rattle.std.specs.Prelude.{ℕ, Bool, true, false, if◌then◌else◌, List, [], ◌∷◌, codes}
use Rattle.printer_objects.specs.declared.printer_attribute.PrinterAttribute.{PrinterAttribute}
use Rattle.printer_objects.specs.declared.printer_attribute.PrinterAttribute.TheVariants.{UriSupported, UriSecuritySupported, UriAuthenticationSupported, Name, State, StateReasons, IppVersionsSupported, OperationsSupported, MultipleDocumentJobsSupported, MultipleOperationTimeOut, CharsetConfigured, CharsetSupported, NaturalLanguageConfigured, GeneratedNaturalLanguageSupported, DocumentFormatDefault, DocumentFormatSupported, IsAcceptingJobs, QueuedJobCount, PdlOverrideSupported, UpTime, CompressionSupported, CopiesDefault, CopiesSupported, HoldUntilDefault, HoldUntilSupported, PriorityDefault, PrioritySupported, MediaDefault, MediaSupported, MediaReady, SidesDefault, SidesSupported, FinishingsDefault, FinishingsSupported}
use Rattle.printer_objects.specs.Requested.{is_requested}

-- the table's order: printer description, then job template
abbrev pub printer_table : List PrinterAttribute
printer_table = UriSupported ∷ UriSecuritySupported ∷ UriAuthenticationSupported ∷ Name ∷ State ∷ StateReasons ∷ IppVersionsSupported ∷ OperationsSupported ∷ MultipleDocumentJobsSupported ∷ MultipleOperationTimeOut ∷ CharsetConfigured ∷ CharsetSupported ∷ NaturalLanguageConfigured ∷ GeneratedNaturalLanguageSupported ∷ DocumentFormatDefault ∷ DocumentFormatSupported ∷ IsAcceptingJobs ∷ QueuedJobCount ∷ PdlOverrideSupported ∷ UpTime ∷ CompressionSupported ∷ CopiesDefault ∷ CopiesSupported ∷ HoldUntilDefault ∷ HoldUntilSupported ∷ PriorityDefault ∷ PrioritySupported ∷ MediaDefault ∷ MediaSupported ∷ MediaReady ∷ SidesDefault ∷ SidesSupported ∷ FinishingsDefault ∷ FinishingsSupported ∷ []

abbrev pub printer_attribute_name : PrinterAttribute → List ℕ
printer_attribute_name UriSupported = codes "printer-uri-supported"
printer_attribute_name UriSecuritySupported = codes "uri-security-supported"
printer_attribute_name UriAuthenticationSupported = codes "uri-authentication-supported"
printer_attribute_name Name = codes "printer-name"
printer_attribute_name State = codes "printer-state"
printer_attribute_name StateReasons = codes "printer-state-reasons"
printer_attribute_name IppVersionsSupported = codes "ipp-versions-supported"
printer_attribute_name OperationsSupported = codes "operations-supported"
printer_attribute_name MultipleDocumentJobsSupported = codes "multiple-document-jobs-supported"
printer_attribute_name MultipleOperationTimeOut = codes "multiple-operation-time-out"
printer_attribute_name CharsetConfigured = codes "charset-configured"
printer_attribute_name CharsetSupported = codes "charset-supported"
printer_attribute_name NaturalLanguageConfigured = codes "natural-language-configured"
printer_attribute_name GeneratedNaturalLanguageSupported = codes "generated-natural-language-supported"
printer_attribute_name DocumentFormatDefault = codes "document-format-default"
printer_attribute_name DocumentFormatSupported = codes "document-format-supported"
printer_attribute_name IsAcceptingJobs = codes "printer-is-accepting-jobs"
printer_attribute_name QueuedJobCount = codes "queued-job-count"
printer_attribute_name PdlOverrideSupported = codes "pdl-override-supported"
printer_attribute_name UpTime = codes "printer-up-time"
printer_attribute_name CompressionSupported = codes "compression-supported"
printer_attribute_name CopiesDefault = codes "copies-default"
printer_attribute_name CopiesSupported = codes "copies-supported"
printer_attribute_name HoldUntilDefault = codes "job-hold-until-default"
printer_attribute_name HoldUntilSupported = codes "job-hold-until-supported"
printer_attribute_name PriorityDefault = codes "job-priority-default"
printer_attribute_name PrioritySupported = codes "job-priority-supported"
printer_attribute_name MediaDefault = codes "media-default"
printer_attribute_name MediaSupported = codes "media-supported"
printer_attribute_name MediaReady = codes "media-ready"
printer_attribute_name SidesDefault = codes "sides-default"
printer_attribute_name SidesSupported = codes "sides-supported"
printer_attribute_name FinishingsDefault = codes "finishings-default"
printer_attribute_name FinishingsSupported = codes "finishings-supported"

-- whether it is an attribute of the job template (section 5.2)
abbrev pub is_of_template : PrinterAttribute → Bool
is_of_template CopiesDefault = true
is_of_template CopiesSupported = true
is_of_template HoldUntilDefault = true
is_of_template HoldUntilSupported = true
is_of_template PriorityDefault = true
is_of_template PrioritySupported = true
is_of_template MediaDefault = true
is_of_template MediaSupported = true
is_of_template MediaReady = true
is_of_template SidesDefault = true
is_of_template SidesSupported = true
is_of_template FinishingsDefault = true
is_of_template FinishingsSupported = true
is_of_template _ = false

-- the name of the attribute's group in requested-attributes
abbrev pub printer_attribute_group : PrinterAttribute → List ℕ
printer_attribute_group which = if is_of_template which then codes "job-template" else codes "printer-description"

-- whether requested-attributes asks for the attribute
abbrev pub is_wanted_of_printer : List (List ℕ) → PrinterAttribute → Bool
is_wanted_of_printer requested which = is_requested (printer_attribute_name which) (printer_attribute_group which) requested
