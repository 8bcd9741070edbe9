-- The attributes of a job: their order, names and groups (RFC 8011, sections 5.3 and 5.2).
use Rattle.std.specs.Prelude.{ℕ, Bool, List, [], ◌∷◌, codes, filter}
use Rattle.printer_objects.specs.declared.job_attribute.JobAttribute.{JobAttribute}
use Rattle.printer_objects.specs.declared.job_attribute.JobAttribute.TheVariants.{Uri, Id, PrinterUri, Name, OriginatingUserName, State, StateReasons, NumberOfDocuments, KOctets, Impressions, TimeAtCreation, TimeAtProcessing, TimeAtCompleted, PrinterUpTime, Copies, HoldUntil, Priority, Media, Sides, Finishings}
use Rattle.printer_objects.specs.Requested.{is_requested}

-- the table's order: job description, then job template
abbrev pub job_table : List JobAttribute
job_table = Uri ∷ Id ∷ PrinterUri ∷ Name ∷ OriginatingUserName ∷ State ∷ StateReasons ∷ NumberOfDocuments ∷ KOctets ∷ Impressions ∷ TimeAtCreation ∷ TimeAtProcessing ∷ TimeAtCompleted ∷ PrinterUpTime ∷ Copies ∷ HoldUntil ∷ Priority ∷ Media ∷ Sides ∷ Finishings ∷ []

abbrev pub job_attribute_name : JobAttribute → List ℕ
job_attribute_name Uri = codes "job-uri"
job_attribute_name Id = codes "job-id"
job_attribute_name PrinterUri = codes "job-printer-uri"
job_attribute_name Name = codes "job-name"
job_attribute_name OriginatingUserName = codes "job-originating-user-name"
job_attribute_name State = codes "job-state"
job_attribute_name StateReasons = codes "job-state-reasons"
job_attribute_name NumberOfDocuments = codes "number-of-documents"
job_attribute_name KOctets = codes "job-k-octets"
job_attribute_name Impressions = codes "job-impressions"
job_attribute_name TimeAtCreation = codes "time-at-creation"
job_attribute_name TimeAtProcessing = codes "time-at-processing"
job_attribute_name TimeAtCompleted = codes "time-at-completed"
job_attribute_name PrinterUpTime = codes "job-printer-up-time"
job_attribute_name Copies = codes "copies"
job_attribute_name HoldUntil = codes "job-hold-until"
job_attribute_name Priority = codes "job-priority"
job_attribute_name Media = codes "media"
job_attribute_name Sides = codes "sides"
job_attribute_name Finishings = codes "finishings"

-- the name of the attribute's group in requested-attributes
abbrev pub job_attribute_group : JobAttribute → List ℕ
job_attribute_group Uri = codes "job-description"
job_attribute_group Id = codes "job-description"
job_attribute_group PrinterUri = codes "job-description"
job_attribute_group Name = codes "job-description"
job_attribute_group OriginatingUserName = codes "job-description"
job_attribute_group State = codes "job-description"
job_attribute_group StateReasons = codes "job-description"
job_attribute_group NumberOfDocuments = codes "job-description"
job_attribute_group KOctets = codes "job-description"
job_attribute_group Impressions = codes "job-description"
job_attribute_group TimeAtCreation = codes "job-description"
job_attribute_group TimeAtProcessing = codes "job-description"
job_attribute_group TimeAtCompleted = codes "job-description"
job_attribute_group PrinterUpTime = codes "job-description"
job_attribute_group Copies = codes "job-template"
job_attribute_group HoldUntil = codes "job-template"
job_attribute_group Priority = codes "job-template"
job_attribute_group Media = codes "job-template"
job_attribute_group Sides = codes "job-template"
job_attribute_group Finishings = codes "job-template"

-- whether requested-attributes asks for the attribute
abbrev pub is_wanted : List (List ℕ) → JobAttribute → Bool
is_wanted requested which = is_requested (job_attribute_name which) (job_attribute_group which) requested

-- the requested attributes, in the table's order
abbrev pub wanted_of : List (List ℕ) → List JobAttribute
wanted_of requested = filter (is_wanted requested) job_table
