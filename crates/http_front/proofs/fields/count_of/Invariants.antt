use Rattle.std.proofs.Common.{◌≡◌, ◌+◌, ◌≤◌, map, drop}
use Rattle.httparse.specs.Borrowed.{header_parts}
use Rattle.http_front.specs.Fields.{count_of}
use Rattle.http_front.proofs.fields.count_of.Given as goal

abbrev pub invariant-loop-field : goal.invariant-loop-field
invariant-loop-field l =
    (l.count ≤ l.field-index)
    × (l.count + count_of l.name (map header_parts (drop l.field-index l.fields)) ≡ count_of l.name (map header_parts l.fields))
