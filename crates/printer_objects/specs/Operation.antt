-- The operations that printers offer, and their codes (RFC 8011, section 5.4.15).
use Rattle.std.specs.Prelude.{ℕ, List, [], ◌∷◌}
use Rattle.printer_objects.specs.declared.operation.Operation.{Operation}
use Rattle.printer_objects.specs.declared.operation.Operation.TheVariants.{PrintJob, ValidateJob, CreateJob, SendDocument, CancelJob, GetJobAttributes, GetJobs, GetPrinterAttributes, HoldJob, ReleaseJob, PausePrinter, ResumePrinter}

-- all operations, by rising code
abbrev pub operation_table : List Operation
operation_table = PrintJob ∷ ValidateJob ∷ CreateJob ∷ SendDocument ∷ CancelJob ∷ GetJobAttributes ∷ GetJobs ∷ GetPrinterAttributes ∷ HoldJob ∷ ReleaseJob ∷ PausePrinter ∷ ResumePrinter ∷ []

abbrev pub operation_code : Operation → ℕ
operation_code PrintJob = 0x0002
operation_code ValidateJob = 0x0004
operation_code CreateJob = 0x0005
operation_code SendDocument = 0x0006
operation_code CancelJob = 0x0008
operation_code GetJobAttributes = 0x0009
operation_code GetJobs = 0x000A
operation_code GetPrinterAttributes = 0x000B
operation_code HoldJob = 0x000C
operation_code ReleaseJob = 0x000D
operation_code PausePrinter = 0x0010
operation_code ResumePrinter = 0x0011
