use Rattle.std.proofs.Common.{ℕ, ◌<◌, IsSome, All}
use Rattle.plan_problem.specs.Class.{time_in}
use Rattle.plan_prices.specs.Way.{queue_of}
use Rattle.plan_prices.proofs.way_facts.all_able.Given as goal

abbrev pub invariant-loop-place : goal.invariant-loop-place
invariant-loop-place l = (k : ℕ) → k < l.place → All (λ job. IsSome (time_in l.class job k)) (queue_of l.way k)
