use Rattle.std.proofs.Common.{◌≡◌, ◌+◌, All}
use Rattle.settings_file.specs.Settings.{IsPrinterEntry}
use Rattle.simulation.specs.Further.{names}
use Rattle.simulation.proofs.further_device.add_to_each.Given as goal

abbrev pub invariant-loop-printer : goal.invariant-loop-printer
invariant-loop-printer l =
    (names l.printers ≡ names l.initial.printers)
    × All (IsPrinterEntry (l.place + 1)) l.printers
