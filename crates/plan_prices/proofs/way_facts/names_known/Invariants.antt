use Rattle.std.proofs.Common.{ℕ, ◌<◌, get_or, length, All, List}
use Rattle.plan_problem.specs.Class.{place_of}
use Rattle.plan_prices.proofs.way_facts.names_known.Given as goal

abbrev pub invariant-loop-queue : goal.invariant-loop-queue
invariant-loop-queue l = (k : ℕ) (d : List ℕ) → k < l.queue-index → All (λ job. place_of l.class.ids job < length l.class.ids) (get_or l.way k d)
