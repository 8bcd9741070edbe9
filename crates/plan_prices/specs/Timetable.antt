-- Timetables of a class: its jobs start at any moments, in any order, with gaps.
use Rattle.std.specs.Prelude.{◌≡◌, ◌==◌, ◌⊎◌, ℕ, suc, ◌+◌, ◌≤◌, List, [], ◌∷◌, ◌++◌, IsSome, All, AllPairs, Contains, count_by}
use Rattle.plan_problem.specs.Class.{Class, time_in, wait_in}
use Rattle.plan_prices.specs.Total.{time_on}

-- a job, its device, and its start, in ms from the moment from which the waits are counted
pub record Slot : Type 0 where
  pub job : ℕ
  pub device : ℕ
  pub start : ℕ

-- the end of the job
abbrev pub end_of : Class → Slot → ℕ
end_of c slot = slot.start + time_on c slot.job slot.device

-- the slots are on different devices, or one ends before the other starts
abbrev pub Apart : Class → Slot → Slot → Type 0
Apart c one other = one.device ≡ other.device → (end_of c one ≤ other.start) ⊎ (end_of c other ≤ one.start)

-- the number of slots of a job
unfoldable pub slots_naming : List Slot → ℕ → ℕ
slots_naming slots job = count_by (λ slot. slot.job == job) slots

-- each job of the class has one slot, on a device that is able, not before the device's wait, and no two slots overlap
pub record IsTimetable (c : Class) (slots : List Slot) : Type 0 where
  pub known : All (λ slot. Contains c.ids slot.job) slots
  pub once : All (λ job. slots_naming slots job ≡ 1) c.ids
  pub able : All (λ slot. IsSome (time_in c slot.job slot.device)) slots
  pub after_wait : All (λ slot. wait_in c slot.device ≤ slot.start) slots
  pub apart : AllPairs (Apart c) slots

-- the sum of the ends
abbrev pub slots_total : Class → List Slot → ℕ
slots_total c [] = 0
slots_total c (slot ∷ slots) = end_of c slot + slots_total c slots

-- the slots of a list of jobs on a device, one after the other from a moment on
abbrev pub slots_of_list : Class → ℕ → ℕ → List ℕ → List Slot
slots_of_list c device free [] = []
slots_of_list c device free (job ∷ jobs) = record { job = job; device = device; start = free } ∷ slots_of_list c device (free + time_on c job device) jobs

-- the slots of the lists of the devices, from a device on
abbrev pub slots_from : Class → ℕ → List (List ℕ) → List Slot
slots_from c device [] = []
slots_from c device (jobs ∷ lists) = slots_of_list c device (wait_in c device) jobs ++ slots_from c (suc device) lists

-- the own timetable of a way: on each device the jobs one after the other, from the device's wait on
abbrev pub own_slots : Class → List (List ℕ) → List Slot
own_slots c way = slots_from c 0 way
