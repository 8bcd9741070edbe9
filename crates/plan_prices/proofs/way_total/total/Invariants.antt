use Rattle.std.proofs.Common.{◌≡◌, ◌+◌, drop}
use Rattle.plan_prices.specs.Total.{cost_from, total_by_places}
use Rattle.plan_prices.proofs.way_total.total.Given as goal

abbrev pub invariant-loop-place : goal.invariant-loop-place
invariant-loop-place l = l.sum + cost_from l.class l.place (drop l.place l.way) ≡ total_by_places l.class l.way
