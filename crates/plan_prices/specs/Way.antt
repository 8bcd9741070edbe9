-- A way to print the jobs of a class: for each device a list of them.
use Rattle.std.specs.Prelude.{◌≡◌, ◌==◌, ◌≤◌, ℕ, List, [], length, IsSome, All, Contains, count_by, slice_index_or}
use Rattle.std.specs.List.{concat}
use Rattle.plan_problem.specs.Class.{Class, time_in}

-- the jobs of a device's list, the first to be printed first; a way is a list of such lists, one for each device
abbrev pub queue_of : List (List ℕ) → ℕ → List ℕ
queue_of way device = slice_index_or way device []

-- how often a job is in the lists of a way
unfoldable pub times_named : List (List ℕ) → ℕ → ℕ
times_named way job = count_by (λ id. id == job) (concat way)

-- each job of the class is in the lists once, and on a device that is able
pub record IsWay (c : Class) (way : List (List ℕ)) : Type 0 where
  pub one_list_each : length way ≡ length c.waits
  pub known : All (Contains c.ids) (concat way)
  pub once : All (λ job. times_named way job ≡ 1) c.ids
  pub able : (device : ℕ) → All (λ job. IsSome (time_in c job device)) (queue_of way device)

-- the parts of the definition of a way, as a checker tests them one by one

-- all jobs in the lists are of the class
abbrev pub NamesKnown : Class → List (List ℕ) → Type 0
NamesKnown c way = All (Contains c.ids) (concat way)

-- no job of the class is in the lists twice
abbrev pub NoneTwice : Class → List (List ℕ) → Type 0
NoneTwice c way = All (λ job. times_named way job ≤ 1) c.ids

-- each job of the class is in a list
abbrev pub AllNamed : Class → List (List ℕ) → Type 0
AllNamed c way = All (λ job. 1 ≤ times_named way job) c.ids

-- each job is on a device that is able
abbrev pub AllAble : Class → List (List ℕ) → Type 0
AllAble c way = (device : ℕ) → All (λ job. IsSome (time_in c job device)) (queue_of way device)
