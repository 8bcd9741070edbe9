use Rattle.std.proofs.Common.{◌≡◌, map, drop}
use Rattle.lpd.specs.Control.{joined, nothing}
use Rattle.lpd.proofs.control.read_lines.Given as goal

abbrev pub invariant-loop-line : goal.invariant-loop-line
invariant-loop-line l = joined l.draft (map (λ line. line.now) (drop l.line-index l.lines)) ≡ joined nothing (map (λ line. line.now) l.lines)
