-- The groups of a printer, of a job, and of a list of jobs, by the state of a room at a moment (RFC 8011, sections 4.2.5, 4.3.4 and 4.2.6).
use Rattle.std.specs.Prelude.{ℕ, ◌==◌, ◌&&◌, Bool, List, [], map, count_by, slice_get}
use Rattle.std.specs.List.{list_any}
use Rattle.std.specs.Option.{option_map_or}
use Rattle.settings_file.specs.Settings.{ServerSettings}
use Rattle.ipp_codec.specs.Message.{IppGroup}
use Rattle.job_objects.specs.Job.{JobRecord}
use Rattle.spool.specs.Spooled.{SpooledRecord}
use Rattle.spool.specs.Calls.{is_unfinished, paused_at}
use Rattle.printer_objects.specs.PrinterState.{is_busy_with, printer_state_of}
use Rattle.printer_objects.specs.declared.state.PrinterState.{PrinterState}
use Rattle.printer_objects.specs.Offer.{OfferRecord}
use Rattle.printer_objects.specs.JobAttribute.{wanted_of}
use Rattle.printer_objects.specs.JobShown.{ShownJob, job_attributes}
use Rattle.printer_objects.specs.PrinterShown.{ShownPrinter, printer_attributes}
use Rattle.print_room.specs.State.{State}
use Rattle.listings.specs.Listing.{WantedJobs, listing}

-- ---- a printer

-- whether some job of the printer at a place is on a device
abbrev pub is_busy : ℕ → State → Bool
is_busy place state = list_any (λ s. is_busy_with place s.job) state.spool.jobs

-- the state of the printer at a place (section 5.4.11)
abbrev pub state_of_printer : ℕ → State → PrinterState
state_of_printer place state = printer_state_of (is_busy place state) (paused_at state.paused place)

-- whether a job of the printer at a place is unfinished
abbrev pub is_queued : ℕ → SpooledRecord → Bool
is_queued place spooled = (spooled.job.needs.printer == place) && is_unfinished spooled

-- the data of the printer at a place of the settings, with its offer
abbrev pub shown_printer : ℕ → OfferRecord → ℕ → State → ShownPrinter
shown_printer place offer now state = record {
  paused = paused_at state.paused place;
  offer = offer;
  uri_base = state.settings.uri_base;
  busy = is_busy place state;
  queued = count_by (is_queued place) state.spool.jobs;
  moment = now;
}

abbrev pub printer_group : ℕ → OfferRecord → ℕ → List (List ℕ) → State → IppGroup
printer_group place offer now requested state = printer_attributes (shown_printer place offer now state) requested

-- ---- jobs

-- the name of the printer at a place of the settings; empty if there is none
abbrev pub printer_name : ServerSettings → ℕ → List ℕ
printer_name settings place = option_map_or (λ p. p.name) (slice_get settings.printers place) []

abbrev pub shown_job : ℕ → State → JobRecord → ShownJob
shown_job now state job = record {
  job = job;
  uri_base = state.settings.uri_base;
  printer_name = printer_name state.settings job.needs.printer;
  printer_paused = paused_at state.paused job.needs.printer;
  moment = now;
}

abbrev pub job_group : ℕ → List (List ℕ) → State → JobRecord → IppGroup
job_group now requested state job = job_attributes (shown_job now state job) (wanted_of requested)

-- a group for each listed job, in order
abbrev pub job_groups : WantedJobs → ℕ → List (List ℕ) → State → List IppGroup
job_groups wanted now requested state = map (job_group now requested state) (listing now state wanted)
