use Rattle.std.proofs.Common.{◌≡◌, ℕ, ◌+◌, ◌<◌, length, take, get_or}
use Rattle.plan_problem.specs.Class.{wait_in}
use Rattle.plan_prices.specs.Total.{busy_time}
use Rattle.plan_prices.specs.OrderedSoFar.{IsEnd}
use Rattle.plan_prices.proofs.ends.write_ends.Given as goal

abbrev pub invariant-loop-job : goal.invariant-loop-job
invariant-loop-job l =
    (l.free ≡ wait_in l.class l.device + busy_time l.class l.device (take l.job-index l.job-items))
    × (length l.ends ≡ length l.class.ids)
    × ((job : ℕ) → IsEnd l.class l.way l.initial.ends job → IsEnd l.class l.way l.ends job)
    × ((k : ℕ) → k < l.job-index → IsEnd l.class l.way l.ends (get_or l.job-items k 0))
