use Rattle.std.proofs.Common.{◌≡◌, ◌++◌, drop}
use Rattle.plan_text.specs.Writing.{lines_text, device_lines}
use Rattle.plan_text.proofs.write_plan.put_devices.Given as goal

abbrev pub invariant-loop-name : goal.invariant-loop-name
invariant-loop-name l = l.output.items ++ lines_text (device_lines (drop l.name-index l.names)) ≡ l.initial.output.items ++ lines_text (device_lines l.names)
