use Rattle.std.proofs.Common.{◌≡◌, ◌++◌, drop}
use Rattle.announcements.specs.Xml.{escaped}
use Rattle.announcements.proofs.xml.put_escaped.Given as goal

abbrev pub invariant-loop-byte : goal.invariant-loop-byte
invariant-loop-byte l = l.output.items ++ escaped (drop l.byte-index l.text) ≡ l.initial.output.items ++ escaped l.text
