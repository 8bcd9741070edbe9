use Rattle.std.proofs.Common.{◌≡◌, ◌++◌, drop}
use Rattle.announcements.specs.Group.{record_lines}
use Rattle.announcements.proofs.group.put_records.Given as goal

abbrev pub invariant-loop-string : goal.invariant-loop-string
invariant-loop-string l = l.output.items ++ record_lines (drop l.string-index l.records) ≡ l.initial.output.items ++ record_lines l.records
