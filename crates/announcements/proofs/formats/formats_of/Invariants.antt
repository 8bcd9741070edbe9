use Rattle.std.proofs.Common.{◌≡◌, [], take}
use Rattle.std.specs.List.{flat_map}
use Rattle.announcements.specs.Printer.{formats_at, with_entries}
use Rattle.announcements.proofs.formats.formats_of.Given as goal

abbrev pub invariant-loop-place : goal.invariant-loop-place
invariant-loop-place l = l.found.items ≡ with_entries [] (flat_map (formats_at l.settings) (take l.place-index l.places))
