-- Each group that the tables give has a spelling.
use Rattle.std.proofs.Common.{◌≡◌, inl, inr, ℕ, ℤ, ◌+◌, ◌/◌, ◌<◌, nat_lt, true, List, [], ◌∷◌, length, take, map, pos, min, refl, arith, codes, Option, Some, None}
use Rattle.std.specs.List.{AllByRecursion}
use Rattle.std.proofs.lemmas.List.{length-take}
use Rattle.base_types.specs.declared.limits.TheConstants.Limits.{COLLECTION_DEPTH, COPIES, DEFAULT_PRIORITY, HIGHEST_PRIORITY, INCOMING_JOB_TIME, LAST_INTEGER}
use Rattle.base_types.specs.declared.hold.Hold.TheVariants as hold
use Rattle.base_types.specs.declared.needs.Sides.TheVariants as side
use Rattle.base_types.specs.Hold.{hold_keyword, hold_where}
use Rattle.base_types.specs.Sides.{sides_keyword}
use Rattle.ipp_codec.specs.Message.{IppValue, IppAttribute, values_of}
use Rattle.ipp_codec.specs.Grammar.{IsCollectionTag, HasShape, IsPlain, IsName, IsValue, AreValues, IsAttribute, IsGroup, IsGroupTag}
use Rattle.ipp_codec.specs.Typed.{bytes_of_integer}
use Rattle.ipp_codec.specs.Tag as tags
use Rattle.job_objects.specs.declared.job_state.JobState.{JobState}
use Rattle.job_objects.specs.declared.reason.Reason.{Reason}
use Rattle.job_objects.specs.declared.reason.JobReasons.{JobReasons}
use Rattle.job_objects.specs.JobState.{state_code}
use Rattle.job_objects.specs.Reasons.{keyword_of, reasons_of}
use Rattle.printer_objects.specs.declared.attribute.TheConstants.{MILLIS_PER_SECOND, VALUE_BYTES}
use Rattle.printer_objects.specs.declared.finishing.Finishing.{Finishing}
use Rattle.printer_objects.specs.declared.finishing.TheConstants.{NO_FINISHING}
use Rattle.printer_objects.specs.declared.job_attribute.JobAttribute.{JobAttribute}
use Rattle.printer_objects.specs.declared.job_attribute.JobAttribute.TheVariants as job
use Rattle.printer_objects.specs.declared.printer_attribute.PrinterAttribute.{PrinterAttribute}
use Rattle.printer_objects.specs.declared.printer_attribute.PrinterAttribute.TheVariants as printer
use Rattle.printer_objects.specs.Attribute.{alone, number, enumerated, no_value, text, keyword, time, second_reason, reasons_attribute, enumerations, texts_attribute}
use Rattle.printer_objects.specs.Created.{created_attributes}
use Rattle.printer_objects.specs.Finishing.{finishing_code, each_finishing, finishings_attribute}
use Rattle.printer_objects.specs.JobAttribute.{job_attribute_name}
use Rattle.printer_objects.specs.JobShown.{ShownJob, job_uri, printer_uri, k_octets, impressions_shown, valued, job_shown, job_attributes}
use Rattle.printer_objects.specs.Offered.{range}
use Rattle.printer_objects.specs.Offer.{formats_of, media_of, ready_media_of, sides_of, finishings_of}
use Rattle.printer_objects.specs.Operation.{operation_code, operation_table}
use Rattle.printer_objects.specs.PrinterAttribute.{printer_attribute_name}
use Rattle.printer_objects.specs.PrinterState.{printer_state_code, printer_state_of, printer_reason_of, printer_keyword}
use Rattle.printer_objects.specs.PrinterShown.{ShownPrinter, valued_of_printer, printer_shown, printer_attributes}

-- ---- values

-- no value of fixed size has a tag of texts
texts_shape : (tag : ℕ) (bytes : List ℕ) → 0x40 < tag → HasShape tag bytes
texts_shape tag bytes above = record { integer = λ h. absurd (omega (arith, h, above)); boolean = λ h. absurd (omega (arith, h, above)); enumeration = λ h. absurd (omega (arith, h, above)); date = λ h. absurd (omega (arith, h, above)); resolution = λ h. absurd (omega (arith, h, above)); range = λ h. absurd (omega (arith, h, above)); text = λ h. absurd (omega (arith, h, above)); name = λ h. absurd (omega (arith, h, above)) }

texts_tag : (tag : ℕ) → 0x40 < tag → tag < 0x4A → ¬ (IsCollectionTag tag)
texts_tag tag above below (inl h) = omega (arith, h, above)
texts_tag tag above below (inr (inl h)) = omega (arith, h, above)
texts_tag tag above below (inr (inr h)) = omega (arith, h, below)

pub text_spelt : (tag : ℕ) (bytes : List ℕ) → 0x40 < tag → tag < 0x4A → length bytes < 0x8000 → IsPlain tag bytes
text_spelt tag bytes above below fits = record { tag_from = omega (arith, above); tag_below = omega (arith, below); no_collection = texts_tag tag above below; length = fits; shape = texts_shape tag bytes above }

prefix_fits : (bytes : List ℕ) → length (take VALUE_BYTES bytes) < 0x8000
prefix_fits bytes = rw (length-take VALUE_BYTES bytes) (grind arith)

text_is : (tag : ℕ) (bytes : List ℕ) → 0x40 < tag → tag < 0x4A → IsValue COLLECTION_DEPTH (text tag bytes)
unfolding text
text_is tag bytes above below = text_spelt tag (take VALUE_BYTES bytes) above below (prefix_fits bytes)

integer_tag : ¬ (IsCollectionTag tags.integer)
integer_tag (inl h) = omega (arith, h)
integer_tag (inr (inl h)) = omega (arith, h)
integer_tag (inr (inr h)) = omega (arith, h)

pub integer_spelt : (n : ℤ) → IsPlain tags.integer (bytes_of_integer n)
integer_spelt n = record { tag_from = omega arith; tag_below = omega arith; no_collection = integer_tag; length = omega arith; shape = record { integer = λ h. refl; boolean = λ h. absurd (omega (arith, h)); enumeration = λ h. absurd (omega (arith, h)); date = λ h. absurd (omega (arith, h)); resolution = λ h. absurd (omega (arith, h)); range = λ h. absurd (omega (arith, h)); text = λ h. absurd (omega (arith, h)); name = λ h. absurd (omega (arith, h)) } }

integer_is : (n : ℕ) → IsValue COLLECTION_DEPTH (number n)
integer_is n = integer_spelt (pos (min n LAST_INTEGER))

enumeration_tag : ¬ (IsCollectionTag tags.enumeration)
enumeration_tag (inl h) = omega (arith, h)
enumeration_tag (inr (inl h)) = omega (arith, h)
enumeration_tag (inr (inr h)) = omega (arith, h)

enumeration_is : (n : ℕ) → IsPlain tags.enumeration (bytes_of_integer (pos (min n LAST_INTEGER)))
enumeration_is n = record { tag_from = omega arith; tag_below = omega arith; no_collection = enumeration_tag; length = omega arith; shape = record { integer = λ h. absurd (omega (arith, h)); boolean = λ h. absurd (omega (arith, h)); enumeration = λ h. refl; date = λ h. absurd (omega (arith, h)); resolution = λ h. absurd (omega (arith, h)); range = λ h. absurd (omega (arith, h)); text = λ h. absurd (omega (arith, h)); name = λ h. absurd (omega (arith, h)) } }

no_value_tag : ¬ (IsCollectionTag tags.no_value)
no_value_tag (inl h) = omega (arith, h)
no_value_tag (inr (inl h)) = omega (arith, h)
no_value_tag (inr (inr h)) = omega (arith, h)

no_value_is : IsPlain tags.no_value []
no_value_is = record { tag_from = omega arith; tag_below = omega arith; no_collection = no_value_tag; length = omega arith; shape = record { integer = λ h. absurd (omega (arith, h)); boolean = λ h. absurd (omega (arith, h)); enumeration = λ h. absurd (omega (arith, h)); date = λ h. absurd (omega (arith, h)); resolution = λ h. absurd (omega (arith, h)); range = λ h. absurd (omega (arith, h)); text = λ h. absurd (omega (arith, h)); name = λ h. absurd (omega (arith, h)) } }

yes_tag : ¬ (IsCollectionTag tags.boolean)
yes_tag (inl h) = omega (arith, h)
yes_tag (inr (inl h)) = omega (arith, h)
yes_tag (inr (inr h)) = omega (arith, h)

yes_is : IsPlain tags.boolean (1 ∷ [])
yes_is = record { tag_from = omega arith; tag_below = omega arith; no_collection = yes_tag; length = omega arith; shape = record { integer = λ h. absurd (omega (arith, h)); boolean = λ h. inr refl; enumeration = λ h. absurd (omega (arith, h)); date = λ h. absurd (omega (arith, h)); resolution = λ h. absurd (omega (arith, h)); range = λ h. absurd (omega (arith, h)); text = λ h. absurd (omega (arith, h)); name = λ h. absurd (omega (arith, h)) } }

range_tag : ¬ (IsCollectionTag tags.range_of_integer)
range_tag (inl h) = omega (arith, h)
range_tag (inr (inl h)) = omega (arith, h)
range_tag (inr (inr h)) = omega (arith, h)

range_is : (least most : ℕ) → IsValue COLLECTION_DEPTH (range least most)
range_is least most = record { tag_from = omega arith; tag_below = omega arith; no_collection = range_tag; length = omega arith; shape = record { integer = λ h. absurd (omega (arith, h)); boolean = λ h. absurd (omega (arith, h)); enumeration = λ h. absurd (omega (arith, h)); date = λ h. absurd (omega (arith, h)); resolution = λ h. absurd (omega (arith, h)); range = λ h. refl; text = λ h. absurd (omega (arith, h)); name = λ h. absurd (omega (arith, h)) } }

keyword_is : (word : List ℕ) → IsValue COLLECTION_DEPTH (keyword word)
keyword_is word = text_is tags.keyword word (omega arith) (omega arith)

-- ---- attributes of a name

one_is : (name : List ℕ) (value : IppValue) → IsName name → IsValue COLLECTION_DEPTH value → IsAttribute (alone name value)
one_is name value named is = record { name = named; first = is; others = tt }

text_one : (name : List ℕ) (tag : ℕ) (bytes : List ℕ) → IsName name → 0x40 < tag → tag < 0x4A → IsAttribute (alone name (text tag bytes))
text_one name tag bytes named above below = one_is name (text tag bytes) named (text_is tag bytes above below)

keyword_one : (name word : List ℕ) → IsName name → IsAttribute (alone name (keyword word))
keyword_one name word named = one_is name (keyword word) named (keyword_is word)

number_one : (name : List ℕ) (n : ℕ) → IsName name → IsAttribute (alone name (number n))
number_one name n named = one_is name (number n) named (integer_is n)

enumerated_one : (name : List ℕ) (n : ℕ) → IsName name → IsAttribute (alone name (enumerated n))
enumerated_one name n named = one_is name (enumerated n) named (enumeration_is n)

time_is : (name : List ℕ) (moment : Option ℕ) → IsName name → IsAttribute (alone name (time moment))
time_is name (Some moment) named = one_is name (time (Some moment)) named (integer_is (moment / MILLIS_PER_SECOND + 1))
time_is name None named = one_is name no_value named no_value_is

second_is : (second : Option Reason) → AreValues COLLECTION_DEPTH (values_of (second_reason second))
second_is (Some reason) = (keyword_is (keyword_of reason), tt)
second_is None = tt

reasons_are : (name : List ℕ) (reasons : JobReasons) → IsName name → IsAttribute (reasons_attribute name reasons)
reasons_are name reasons named = record { name = named; first = keyword_is (keyword_of reasons.first); others = second_is reasons.second }

each_enumerated : (codes : List ℕ) → AreValues COLLECTION_DEPTH (values_of (map enumerated codes))
each_enumerated [] = tt
each_enumerated (code ∷ codes) = (enumeration_is code, each_enumerated codes)

enumerations_are : (name : List ℕ) (codes : List ℕ) → IsName name → IsAttribute (enumerations name codes)
enumerations_are name [] named = one_is name no_value named no_value_is
enumerations_are name (code ∷ codes) named = record { name = named; first = enumeration_is code; others = each_enumerated codes }

each_text : (tag : ℕ) (texts : List (List ℕ)) → 0x40 < tag → tag < 0x4A → AreValues COLLECTION_DEPTH (values_of (map (text tag) texts))
each_text tag [] above below = tt
each_text tag (first ∷ others) above below = (text_is tag first above below, each_text tag others above below)

texts_are : (name : List ℕ) (tag : ℕ) (texts : List (List ℕ)) → IsName name → 0x40 < tag → tag < 0x4A → IsAttribute (texts_attribute name tag texts)
texts_are name tag [] named above below = one_is name no_value named no_value_is
texts_are name tag (first ∷ others) named above below = record { name = named; first = text_is tag first above below; others = each_text tag others above below }

finishings_are : (name : List ℕ) (finishings : List Finishing) → IsName name → IsAttribute (finishings_attribute name finishings)
finishings_are name [] named = one_is name (enumerated NO_FINISHING) named (enumeration_is NO_FINISHING)
finishings_are name (first ∷ others) named = enumerations_are name (map finishing_code (first ∷ others)) named

-- ---- names

below : (a b : ℕ) → nat_lt a b ≡ true → a < b
below a b h = grind arith

pub named : (first : ℕ) (others : List ℕ) → nat_lt (length (first ∷ others)) 0x8000 ≡ true → IsName (first ∷ others)
named first others fits = ((λ none. absurd cc), below _ _ fits)

job_named : (which : JobAttribute) → IsName (job_attribute_name which)
job_named job.Uri = named _ _ refl
job_named job.Id = named _ _ refl
job_named job.PrinterUri = named _ _ refl
job_named job.Name = named _ _ refl
job_named job.OriginatingUserName = named _ _ refl
job_named job.State = named _ _ refl
job_named job.StateReasons = named _ _ refl
job_named job.NumberOfDocuments = named _ _ refl
job_named job.KOctets = named _ _ refl
job_named job.Impressions = named _ _ refl
job_named job.TimeAtCreation = named _ _ refl
job_named job.TimeAtProcessing = named _ _ refl
job_named job.TimeAtCompleted = named _ _ refl
job_named job.PrinterUpTime = named _ _ refl
job_named job.Copies = named _ _ refl
job_named job.HoldUntil = named _ _ refl
job_named job.Priority = named _ _ refl
job_named job.Media = named _ _ refl
job_named job.Sides = named _ _ refl
job_named job.Finishings = named _ _ refl

printer_named : (which : PrinterAttribute) → IsName (printer_attribute_name which)
printer_named printer.UriSupported = named _ _ refl
printer_named printer.UriSecuritySupported = named _ _ refl
printer_named printer.UriAuthenticationSupported = named _ _ refl
printer_named printer.Name = named _ _ refl
printer_named printer.State = named _ _ refl
printer_named printer.StateReasons = named _ _ refl
printer_named printer.IppVersionsSupported = named _ _ refl
printer_named printer.OperationsSupported = named _ _ refl
printer_named printer.MultipleDocumentJobsSupported = named _ _ refl
printer_named printer.MultipleOperationTimeOut = named _ _ refl
printer_named printer.CharsetConfigured = named _ _ refl
printer_named printer.CharsetSupported = named _ _ refl
printer_named printer.NaturalLanguageConfigured = named _ _ refl
printer_named printer.GeneratedNaturalLanguageSupported = named _ _ refl
printer_named printer.DocumentFormatDefault = named _ _ refl
printer_named printer.DocumentFormatSupported = named _ _ refl
printer_named printer.IsAcceptingJobs = named _ _ refl
printer_named printer.QueuedJobCount = named _ _ refl
printer_named printer.PdlOverrideSupported = named _ _ refl
printer_named printer.UpTime = named _ _ refl
printer_named printer.CompressionSupported = named _ _ refl
printer_named printer.CopiesDefault = named _ _ refl
printer_named printer.CopiesSupported = named _ _ refl
printer_named printer.HoldUntilDefault = named _ _ refl
printer_named printer.HoldUntilSupported = named _ _ refl
printer_named printer.PriorityDefault = named _ _ refl
printer_named printer.PrioritySupported = named _ _ refl
printer_named printer.MediaDefault = named _ _ refl
printer_named printer.MediaSupported = named _ _ refl
printer_named printer.MediaReady = named _ _ refl
printer_named printer.SidesDefault = named _ _ refl
printer_named printer.SidesSupported = named _ _ refl
printer_named printer.FinishingsDefault = named _ _ refl
printer_named printer.FinishingsSupported = named _ _ refl

-- ---- each attribute of the tables

valued_is : (name : List ℕ) (shown : ShownJob) (which : JobAttribute) → IsName name → IsAttribute (valued name shown which)
valued_is name shown job.Uri named = text_one name tags.uri (job_uri shown.uri_base shown.job.id) named (omega arith) (omega arith)
valued_is name shown job.Id named = number_one name shown.job.id named
valued_is name shown job.PrinterUri named = text_one name tags.uri (printer_uri shown.uri_base shown.printer_name) named (omega arith) (omega arith)
valued_is name shown job.Name named = text_one name tags.name shown.job.name named (omega arith) (omega arith)
valued_is name shown job.OriginatingUserName named = text_one name tags.name shown.job.owner named (omega arith) (omega arith)
valued_is name shown job.State named = enumerated_one name (state_code shown.job.state) named
valued_is name shown job.StateReasons named = reasons_are name (reasons_of shown.job shown.printer_paused) named
valued_is name shown job.NumberOfDocuments named = number_one name shown.job.documents named
valued_is name shown job.KOctets named = number_one name (k_octets shown.job.octets) named
valued_is name shown job.Impressions named = number_one name (impressions_shown shown.job) named
valued_is name shown job.TimeAtCreation named = time_is name (Some shown.job.created) named
valued_is name shown job.TimeAtProcessing named = time_is name shown.job.started named
valued_is name shown job.TimeAtCompleted named = time_is name shown.job.finished named
valued_is name shown job.PrinterUpTime named = time_is name (Some shown.moment) named
valued_is name shown job.Copies named = number_one name shown.job.needs.copies named
valued_is name shown job.HoldUntil named = keyword_one name (hold_keyword (hold_where shown.job.held)) named
valued_is name shown job.Priority named = number_one name shown.job.priority named
valued_is name shown job.Media named = keyword_one name shown.job.needs.media named
valued_is name shown job.Sides named = keyword_one name (sides_keyword shown.job.needs.sides) named
valued_is name shown job.Finishings named = finishings_are name (each_finishing shown.job.needs.finishings) named

valued_of_printer_is : (name : List ℕ) (shown : ShownPrinter) (which : PrinterAttribute) → IsName name → IsAttribute (valued_of_printer name shown which)
valued_of_printer_is name shown printer.UriSupported named = text_one name tags.uri (printer_uri shown.uri_base shown.offer.printer.name) named (omega arith) (omega arith)
valued_of_printer_is name shown printer.UriSecuritySupported named = keyword_one name (codes "none") named
valued_of_printer_is name shown printer.UriAuthenticationSupported named = keyword_one name (codes "requesting-user-name") named
valued_of_printer_is name shown printer.Name named = text_one name tags.name shown.offer.printer.name named (omega arith) (omega arith)
valued_of_printer_is name shown printer.State named = enumerated_one name (printer_state_code (printer_state_of shown.busy shown.paused)) named
valued_of_printer_is name shown printer.StateReasons named = keyword_one name (printer_keyword (printer_reason_of shown.busy shown.paused)) named
valued_of_printer_is name shown printer.IppVersionsSupported named = keyword_one name (codes "1.1") named
valued_of_printer_is name shown printer.OperationsSupported named = enumerations_are name (map operation_code operation_table) named
valued_of_printer_is name shown printer.MultipleDocumentJobsSupported named = one_is name _ named yes_is
valued_of_printer_is name shown printer.MultipleOperationTimeOut named = number_one name (INCOMING_JOB_TIME / MILLIS_PER_SECOND) named
valued_of_printer_is name shown printer.CharsetConfigured named = text_one name tags.charset (codes "utf-8") named (omega arith) (omega arith)
valued_of_printer_is name shown printer.CharsetSupported named = text_one name tags.charset (codes "utf-8") named (omega arith) (omega arith)
valued_of_printer_is name shown printer.NaturalLanguageConfigured named = text_one name tags.natural_language (codes "en") named (omega arith) (omega arith)
valued_of_printer_is name shown printer.GeneratedNaturalLanguageSupported named = text_one name tags.natural_language (codes "en") named (omega arith) (omega arith)
valued_of_printer_is name shown printer.DocumentFormatDefault named = text_one name tags.mime_media_type shown.offer.printer.format_default named (omega arith) (omega arith)
valued_of_printer_is name shown printer.DocumentFormatSupported named = texts_are name tags.mime_media_type (formats_of shown.offer) named (omega arith) (omega arith)
valued_of_printer_is name shown printer.IsAcceptingJobs named = one_is name _ named yes_is
valued_of_printer_is name shown printer.QueuedJobCount named = number_one name shown.queued named
valued_of_printer_is name shown printer.PdlOverrideSupported named = keyword_one name (codes "not-attempted") named
valued_of_printer_is name shown printer.UpTime named = time_is name (Some shown.moment) named
valued_of_printer_is name shown printer.CompressionSupported named = keyword_one name (codes "none") named
valued_of_printer_is name shown printer.CopiesDefault named = number_one name 1 named
valued_of_printer_is name shown printer.CopiesSupported named = one_is name (range 1 COPIES) named (range_is 1 COPIES)
valued_of_printer_is name shown printer.HoldUntilDefault named = keyword_one name (hold_keyword hold.NoHold) named
valued_of_printer_is name shown printer.HoldUntilSupported named = record { name = named; first = keyword_is (hold_keyword hold.NoHold); others = (keyword_is (hold_keyword hold.Indefinite), tt) }
valued_of_printer_is name shown printer.PriorityDefault named = number_one name DEFAULT_PRIORITY named
valued_of_printer_is name shown printer.PrioritySupported named = number_one name HIGHEST_PRIORITY named
valued_of_printer_is name shown printer.MediaDefault named = keyword_one name shown.offer.printer.media_default named
valued_of_printer_is name shown printer.MediaSupported named = texts_are name tags.keyword (media_of shown.offer) named (omega arith) (omega arith)
valued_of_printer_is name shown printer.MediaReady named = texts_are name tags.keyword (ready_media_of shown.offer) named (omega arith) (omega arith)
valued_of_printer_is name shown printer.SidesDefault named = keyword_one name (sides_keyword side.One) named
valued_of_printer_is name shown printer.SidesSupported named = texts_are name tags.keyword (map sides_keyword (sides_of shown.offer)) named (omega arith) (omega arith)
valued_of_printer_is name shown printer.FinishingsDefault named = enumerated_one name NO_FINISHING named
valued_of_printer_is name shown printer.FinishingsSupported named = enumerations_are name (NO_FINISHING ∷ map finishing_code (finishings_of shown.offer)) named

-- ---- groups

each_is : {X : Type 0} (f : X → IppAttribute) → ((x : X) → IsAttribute (f x)) → (xs : List X) → AllByRecursion IsAttribute (map f xs)
each_is f is [] = tt
each_is f is (x ∷ xs) = (is x, each_is f is xs)

tagged : (tag : ℕ) (attributes : List IppAttribute) → IsGroupTag tag → AllByRecursion IsAttribute attributes → IsGroup (record { tag = tag; attributes = attributes })
tagged tag attributes is each = record { tag = is; attributes = each }

pub job_spelt : (shown : ShownJob) (attributes : List JobAttribute) → IsGroup (job_attributes shown attributes)
job_spelt shown attributes = tagged tags.job_attributes _ (omega arith, omega arith, λ h. absurd (omega (arith, h))) (each_is (job_shown shown) (λ which. valued_is (job_attribute_name which) shown which (job_named which)) attributes)

pub printer_spelt : (shown : ShownPrinter) (requested : List (List ℕ)) → IsGroup (printer_attributes shown requested)
printer_spelt shown requested = tagged tags.printer_attributes _ (omega arith, omega arith, λ h. absurd (omega (arith, h))) (each_is (printer_shown shown) (λ which. valued_of_printer_is (printer_attribute_name which) shown which (printer_named which)) _)

pub created_spelt : (uri_base : List ℕ) (id : ℕ) (state : JobState) (reasons : JobReasons) → IsGroup (created_attributes uri_base id state reasons)
created_spelt uri_base id state reasons =
    tagged tags.job_attributes _ (omega arith, omega arith, λ h. absurd (omega (arith, h)))
    (text_one (codes "job-uri") tags.uri (job_uri uri_base id) (named _ _ refl) (omega arith) (omega arith), (number_one (codes "job-id") id (named _ _ refl), (enumerated_one (codes "job-state") (state_code state) (named _ _ refl), (reasons_are (codes "job-state-reasons") reasons (named _ _ refl), tt))))
