-- The group of a printer, as the code puts it together.
use Rattle.std.proofs.Common.{◌≡◌, ℕ, count_by, refl}
use Rattle.spool.specs.Calls.{paused_at}
use Rattle.printer_objects.specs.Offer.{OfferRecord}
use Rattle.printer_objects.specs.PrinterShown.{ShownPrinter}
use Rattle.print_room.specs.State.{State}
use Rattle.listings.specs.Groups.{is_busy, is_queued, shown_printer}

pub printer_shown_so : (place now : ℕ) (offer : OfferRecord) (s : State) (shown : ShownPrinter) → shown.paused ≡ paused_at s.paused place → shown.offer ≡ offer → shown.uri_base ≡ s.settings.uri_base → shown.busy ≡ is_busy place s → shown.queued ≡ count_by (is_queued place) s.spool.jobs → shown.moment ≡ now → shown ≡ shown_printer place offer now s
printer_shown_so place now offer s shown p o u b q m = rw (← p, ← o, ← u, ← b, ← q, ← m) refl
