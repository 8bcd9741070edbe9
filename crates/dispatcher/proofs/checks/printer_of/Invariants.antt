use Rattle.std.proofs.Common.{◌≡◌, drop, find}
use Rattle.std.specs.List.{enumerate_from}
use Rattle.events.specs.Target.{names}
use Rattle.dispatcher.specs.Target.{printer_of}
use Rattle.dispatcher.proofs.checks.printer_of.Given as goal

abbrev pub invariant-loop-place : goal.invariant-loop-place
invariant-loop-place l =
    find (λ found. names l.target found.1) (enumerate_from l.place (drop l.place l.printers)) ≡ printer_of l.target l.printers
