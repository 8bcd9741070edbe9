use Rattle.std.proofs.Common.{◌≡◌, ◌++◌, drop}
use Rattle.traces.specs.Printed.{start_lines}
use Rattle.traces.proofs.print.put_starts.Given as goal

abbrev pub invariant-loop-start : goal.invariant-loop-start
invariant-loop-start l = l.output.items ++ start_lines l.names (drop l.start-index l.started) ≡ l.initial.output.items ++ start_lines l.names l.started
