use Rattle.std.proofs.Common.{◌≡◌, ◌++◌, drop}
use Rattle.plan_prices.specs.Waits.{waits_from, waits_after}
use Rattle.plan_prices.proofs.way_waits.waits_after.Given as goal

abbrev pub invariant-loop-place : goal.invariant-loop-place
invariant-loop-place l = l.after.items ++ waits_from l.class l.place (drop l.place l.way) ≡ waits_after l.class l.way
