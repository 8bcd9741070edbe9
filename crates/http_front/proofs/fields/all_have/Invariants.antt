use Rattle.std.proofs.Common.{◌≡◌, map, drop}
use Rattle.httparse.specs.Borrowed.{header_parts}
use Rattle.http_front.specs.Fields.{all_have}
use Rattle.http_front.proofs.fields.all_have.Given as goal

abbrev pub invariant-loop-field : goal.invariant-loop-field
invariant-loop-field l = all_have l.name l.value (map header_parts (drop l.field-index l.fields)) ≡ all_have l.name l.value (map header_parts l.fields)
