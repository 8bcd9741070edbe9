use Rattle.std.proofs.Common.{◌≡◌, ◌++◌, drop}
use Rattle.plan_text.specs.Writing.{lines_text, way_lines}
use Rattle.plan_text.proofs.write_plan.put_ways.Given as goal

abbrev pub invariant-loop-device : goal.invariant-loop-device
invariant-loop-device l = l.output.items ++ lines_text (way_lines (drop l.device-index l.devices) l.rest) ≡ l.initial.output.items ++ lines_text (way_lines l.devices l.queues)
