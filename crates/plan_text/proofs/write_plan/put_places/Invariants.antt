use Rattle.std.proofs.Common.{◌≡◌, ◌++◌, drop}
use Rattle.plan_text.specs.Writing.{lines_text, place_price_lines}
use Rattle.plan_text.proofs.write_plan.put_places.Given as goal

abbrev pub invariant-loop-device : goal.invariant-loop-device
invariant-loop-device l = l.output.items ++ lines_text (place_price_lines (drop l.device-index l.devices) l.rest) ≡ l.initial.output.items ++ lines_text (place_price_lines l.devices l.lists)
