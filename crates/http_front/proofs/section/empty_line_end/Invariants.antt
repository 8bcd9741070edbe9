use Rattle.std.proofs.Common.{◌≡◌, drop, true}
use Rattle.http_front.specs.Section.{empty_line_end}
use Rattle.http_front.proofs.section.empty_line_end.Given as goal

abbrev pub invariant-loop-i : goal.invariant-loop-i
invariant-loop-i l = empty_line_end l.begins l.i (drop l.i l.bytes) ≡ empty_line_end true 0 l.bytes
