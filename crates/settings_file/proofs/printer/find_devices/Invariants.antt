use Rattle.std.proofs.Common.{◌≡◌, drop}
use Rattle.settings_file.specs.Printer.{places_of}
use Rattle.settings_file.proofs.ItemLemmas.{places_followed}
use Rattle.settings_file.proofs.printer.find_devices.Given as goal

abbrev pub invariant-loop-name : goal.invariant-loop-name
invariant-loop-name l =
    places_of l.devices l.names ≡ places_followed l.places.items (places_of l.devices (drop l.name-index l.names))
