use Rattle.std.proofs.Common.{◌≡◌, take}
use Rattle.announcements.specs.Printer.{with_entries}
use Rattle.announcements.proofs.formats.add_formats.Given as goal

abbrev pub invariant-loop-format : goal.invariant-loop-format
invariant-loop-format l = l.found.items ≡ with_entries l.initial.found.items (take l.format-index l.formats)
