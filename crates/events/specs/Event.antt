-- The events of the core: requests, some of which are queries, and reports of devices.
use Rattle.std.specs.Prelude.{Bool, true, false}
use Rattle.events.specs.declared.event.Event.{Event}
use Rattle.events.specs.declared.event.Event.TheVariants as Is

-- whether an event is a query
abbrev pub is_query : Event → Bool
is_query (Is.PrintJob request) = false
is_query (Is.ValidateJob request) = true
is_query (Is.CreateJob request) = false
is_query (Is.SendDocument request) = false
is_query (Is.CancelJob request) = false
is_query (Is.GetJobAttributes request) = true
is_query (Is.GetJobs request) = true
is_query (Is.GetPrinterAttributes request) = true
is_query (Is.HoldJob request) = false
is_query (Is.ReleaseJob request) = false
is_query (Is.PausePrinter request) = false
is_query (Is.ResumePrinter request) = false
is_query (Is.SubmitFiles request) = false
is_query (Is.ListQueue request) = true
is_query (Is.RemoveJobs request) = false
is_query (Is.Report device report) = false
is_query Is.Tick = false
