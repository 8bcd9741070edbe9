use Rattle.std.proofs.Common.{◌≡◌, map, drop}
use Rattle.httparse.specs.Borrowed.{header_parts}
use Rattle.http_front.specs.Fields.{first_of}
use Rattle.http_front.proofs.fields.first_of.Given as goal

abbrev pub invariant-loop-field : goal.invariant-loop-field
invariant-loop-field l = first_of l.name (map header_parts (drop l.field-index l.fields)) ≡ first_of l.name (map header_parts l.fields)
