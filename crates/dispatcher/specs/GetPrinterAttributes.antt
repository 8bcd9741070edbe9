-- The step of a Get-Printer-Attributes request (RFC 8011, section 4.2.5): the response has the group of the printer.
use Rattle.std.specs.Prelude.{ℕ, [], ◌∷◌, MatchResult}
use Rattle.listings.specs.Groups.{printer_group}
use Rattle.events.specs.declared.event.GetPrinterAttributes.{GetPrinterAttributes}
use Rattle.events.specs.declared.effects.Effects.{Effects}
use Rattle.dispatcher.specs.Answers.{Refuses, Shows}
use Rattle.dispatcher.specs.Checks.{named_printer}
use Rattle.print_room.specs.State.{State}

-- the relation has at most one result: effects and a state
abbrev pub ShowsPrinter : ℕ → GetPrinterAttributes → State → Effects → State → Type 0
ShowsPrinter now request old effects new =
    MatchResult (named_printer request.target old)
    (λ printer. Shows now old (printer_group printer.id printer.offer now request.requested old ∷ []) effects new)
    (λ refusal. Refuses now old refusal effects new)
