use Rattle.plan_prices.specs.Rising.{HasLatest}
use Rattle.plan_prices.proofs.rising.rise.Given as goal

abbrev pub invariant-loop-job : goal.invariant-loop-job
invariant-loop-job l = HasLatest l.slots.items l.marks l.ends l.latest.items l.job
