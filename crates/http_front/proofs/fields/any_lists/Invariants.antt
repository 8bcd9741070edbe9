use Rattle.std.proofs.Common.{◌≡◌, map, drop}
use Rattle.httparse.specs.Borrowed.{header_parts}
use Rattle.http_front.specs.Fields.{any_lists}
use Rattle.http_front.proofs.fields.any_lists.Given as goal

abbrev pub invariant-loop-field : goal.invariant-loop-field
invariant-loop-field l = any_lists l.name l.word (map header_parts (drop l.field-index l.fields)) ≡ any_lists l.name l.word (map header_parts l.fields)
