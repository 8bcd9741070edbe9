-- The attributes of the operation group that are read (RFC 8011, sections 4.1 to 4.3): their names, the tags of their values, and the operations that read them.
use Rattle.std.specs.Prelude.{ℕ, Bool, true, false, if◌then◌else◌, List, [], ◌∷◌, codes}
use Rattle.ipp_codec.specs.Message.{IppValue, IppAttribute}
use Rattle.printer_objects.specs.declared.operation.Operation.{Operation}
use Rattle.printer_objects.specs.declared.operation.Operation.TheVariants as operation
use Rattle.ipp_operations.specs.declared.operation_attribute.OperationAttribute.{OperationAttribute}
use Rattle.ipp_operations.specs.declared.operation_attribute.OperationAttribute.TheVariants.{PrinterUri, RequestingUserName, JobUri, JobId, JobName, IppAttributeFidelity, JobImpressions, DocumentFormat, Compression, LastDocument, RequestedAttributes, WhichJobs, Limit, MyJobs, JobHoldUntil}
use Rattle.ipp_operations.specs.declared.syntax.Syntax.{Syntax}
use Rattle.ipp_operations.specs.declared.syntax.Syntax.TheVariants as syntax

abbrev pub attribute_name : OperationAttribute → List ℕ
attribute_name PrinterUri = codes "printer-uri"
attribute_name RequestingUserName = codes "requesting-user-name"
attribute_name JobUri = codes "job-uri"
attribute_name JobId = codes "job-id"
attribute_name JobName = codes "job-name"
attribute_name IppAttributeFidelity = codes "ipp-attribute-fidelity"
attribute_name JobImpressions = codes "job-impressions"
attribute_name DocumentFormat = codes "document-format"
attribute_name Compression = codes "compression"
attribute_name LastDocument = codes "last-document"
attribute_name RequestedAttributes = codes "requested-attributes"
attribute_name WhichJobs = codes "which-jobs"
attribute_name Limit = codes "limit"
attribute_name MyJobs = codes "my-jobs"
attribute_name JobHoldUntil = codes "job-hold-until"

abbrev pub attribute_syntax : OperationAttribute → Syntax
attribute_syntax PrinterUri = syntax.Uri
attribute_syntax RequestingUserName = syntax.Name
attribute_syntax JobUri = syntax.Uri
attribute_syntax JobId = syntax.Integer
attribute_syntax JobName = syntax.Name
attribute_syntax IppAttributeFidelity = syntax.Boolean
attribute_syntax JobImpressions = syntax.Integer
attribute_syntax DocumentFormat = syntax.MimeMediaType
attribute_syntax Compression = syntax.Keyword
attribute_syntax LastDocument = syntax.Boolean
attribute_syntax RequestedAttributes = syntax.Keyword
attribute_syntax WhichJobs = syntax.Keyword
attribute_syntax Limit = syntax.Integer
attribute_syntax MyJobs = syntax.Boolean
attribute_syntax JobHoldUntil = syntax.KeywordOrName

-- whether all values of the attribute are read, or its first alone
abbrev pub all_values_act : OperationAttribute → Bool
all_values_act RequestedAttributes = true
all_values_act _ = false

abbrev pub values_in_order : IppAttribute → List IppValue
values_in_order attribute = attribute.first ∷ attribute.others

-- the values that are read
abbrev pub acting_values : OperationAttribute → IppAttribute → List IppValue
acting_values which attribute = if all_values_act which then values_in_order attribute else attribute.first ∷ []

-- the attributes that an operation reads; all others are ignored
abbrev pub attributes_read : Operation → List OperationAttribute
attributes_read operation.PrintJob = PrinterUri ∷ RequestingUserName ∷ JobName ∷ IppAttributeFidelity ∷ JobImpressions ∷ DocumentFormat ∷ Compression ∷ []
attributes_read operation.ValidateJob = PrinterUri ∷ RequestingUserName ∷ JobName ∷ IppAttributeFidelity ∷ JobImpressions ∷ DocumentFormat ∷ Compression ∷ []
attributes_read operation.CreateJob = PrinterUri ∷ RequestingUserName ∷ JobName ∷ IppAttributeFidelity ∷ JobImpressions ∷ []
attributes_read operation.SendDocument = PrinterUri ∷ RequestingUserName ∷ JobUri ∷ JobId ∷ DocumentFormat ∷ Compression ∷ LastDocument ∷ []
attributes_read operation.CancelJob = PrinterUri ∷ RequestingUserName ∷ JobUri ∷ JobId ∷ []
attributes_read operation.GetJobAttributes = PrinterUri ∷ RequestingUserName ∷ JobUri ∷ JobId ∷ RequestedAttributes ∷ []
attributes_read operation.GetJobs = PrinterUri ∷ RequestingUserName ∷ RequestedAttributes ∷ WhichJobs ∷ Limit ∷ MyJobs ∷ []
attributes_read operation.GetPrinterAttributes = PrinterUri ∷ RequestingUserName ∷ RequestedAttributes ∷ []
attributes_read operation.HoldJob = PrinterUri ∷ RequestingUserName ∷ JobUri ∷ JobId ∷ JobHoldUntil ∷ []
attributes_read operation.ReleaseJob = PrinterUri ∷ RequestingUserName ∷ JobUri ∷ JobId ∷ []
attributes_read operation.PausePrinter = PrinterUri ∷ RequestingUserName ∷ []
attributes_read operation.ResumePrinter = PrinterUri ∷ RequestingUserName ∷ []
