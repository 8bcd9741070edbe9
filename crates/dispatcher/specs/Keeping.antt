-- The documents of jobs that devices have, over a step and a dispatch.
use Rattle.std.specs.Prelude.{◌≡◌, List, []}
use Rattle.octets.specs.Document.{DocumentRecord}
use Rattle.print_room.specs.State.{State}
use Rattle.print_room.specs.DeviceJobs.{AllKeep, KeepsOrEnds}
use Rattle.events.specs.declared.event.Event.{Event}
use Rattle.events.specs.declared.event.Event.TheVariants as Is

-- the documents are unchanged, byte for byte; the effects of a device's report have all documents of the job that the report ends
abbrev pub StepKeeps : Event → State → List DocumentRecord → State → Type 0
StepKeeps (Is.PrintJob request) old documents new = AllKeep old new × (documents ≡ [])
StepKeeps (Is.ValidateJob request) old documents new = AllKeep old new × (documents ≡ [])
StepKeeps (Is.CreateJob request) old documents new = AllKeep old new × (documents ≡ [])
StepKeeps (Is.SendDocument request) old documents new = AllKeep old new × (documents ≡ [])
StepKeeps (Is.CancelJob request) old documents new = AllKeep old new × (documents ≡ [])
StepKeeps (Is.GetJobAttributes request) old documents new = AllKeep old new × (documents ≡ [])
StepKeeps (Is.GetJobs request) old documents new = AllKeep old new × (documents ≡ [])
StepKeeps (Is.GetPrinterAttributes request) old documents new = AllKeep old new × (documents ≡ [])
StepKeeps (Is.HoldJob request) old documents new = AllKeep old new × (documents ≡ [])
StepKeeps (Is.ReleaseJob request) old documents new = AllKeep old new × (documents ≡ [])
StepKeeps (Is.PausePrinter request) old documents new = AllKeep old new × (documents ≡ [])
StepKeeps (Is.ResumePrinter request) old documents new = AllKeep old new × (documents ≡ [])
StepKeeps (Is.SubmitFiles request) old documents new = AllKeep old new × (documents ≡ [])
StepKeeps (Is.ListQueue request) old documents new = AllKeep old new × (documents ≡ [])
StepKeeps (Is.RemoveJobs request) old documents new = AllKeep old new × (documents ≡ [])
StepKeeps (Is.Report device report) old documents new = KeepsOrEnds device old documents new
StepKeeps Is.Tick old documents new = AllKeep old new × (documents ≡ [])
