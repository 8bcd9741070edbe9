use Rattle.std.proofs.Common.{◌≡◌, ◌≤◌, ◌+◌, ◌*◌, ◌^◌, ◌++◌, map, drop}
use Rattle.plan_problem.specs.Class.{wait_in}
use Rattle.plan_prices.specs.Timetable.{slots_of_list}
use Rattle.listings.specs.Expected.{completion}
use Rattle.listings.proofs.expected.add_queue.Given as goal

-- the appended entries and the entries that the rest of the list adds are all entries; each step adds less than 2 ^ 64
abbrev pub invariant-loop-job : goal.invariant-loop-job
invariant-loop-job l =
    (l.expected.items ++ map (completion l.class) (slots_of_list l.class l.device l.free (drop l.job-index l.jobs)) ≡ l.initial.expected.items ++ map (completion l.class) (slots_of_list l.class l.device (wait_in l.class l.device) l.jobs))
    × (l.free ≤ (l.job-index + 1) * 2 ^ 64)
