-- The entries of a class problem that a planner has read.
use Rattle.std.specs.Prelude.{◌≡◌, ℕ, ◌<◌, List, All, length, slice_index, slice_index_or, unwrap_or, vec_len}
use Rattle.plan_problem.specs.Class.{Class, time_in}
use Rattle.plan_solver.specs.declared.costs.TheConstants.{UNABLE}
use Rattle.plan_solver.specs.declared.times.Entries.{Entries}
use Rattle.plan_solver.specs.Costs.{row_of}
use Rattle.plan_solver.specs.Marks.{mark_of}

-- the times of a job on this many devices, UNABLE where a device isn't able
pub record IsReadRow (c : Class) (job devices : ℕ) (row : List ℕ) : Type 0 where
  pub one_each : length row ≡ devices
  pub times : (device : ℕ) → device < devices → slice_index_or row device UNABLE ≡ unwrap_or (time_in c job device) UNABLE

-- the entries are the jobs, waits and times of the class, and the marks of the jobs
pub record IsRead (c : Class) (e : Entries) : Type 0 where
  pub ids : e.ids.items ≡ c.ids
  pub waits : e.costs.waits.items ≡ c.waits
  pub rows : vec_len e.costs.rows ≡ length c.ids
  pub times : (job device : ℕ) → job < length c.ids → device < length c.waits → slice_index_or (row_of e.costs job) device UNABLE ≡ unwrap_or (time_in c (slice_index c.ids job) device) UNABLE
  pub widths : All (λ row. length row ≡ length c.waits) e.costs.rows.items
  pub marks : vec_len e.marks ≡ length c.ids
  pub marked : (job : ℕ) → job < length c.ids → slice_index e.marks.items job ≡ mark_of (row_of e.costs job)
