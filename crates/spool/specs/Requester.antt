-- The people who may change a job: its owner, and operators.
use Rattle.std.specs.Prelude.{ℕ, Bool, ◌||◌, if◌then◌else◌, List}
use Rattle.std.specs.Str.{bytes_eq}
use Rattle.job_objects.specs.declared.job.Canceler.{Canceler}
use Rattle.job_objects.specs.declared.job.Canceler.TheVariants.{Owner, Operator}
use Rattle.job_objects.specs.Job.{JobRecord}

-- a requester: the name that a request claims, and whether it is an operator's
pub record RequesterRecord : Type 0 where
  pub name : List ℕ
  pub is_operator : Bool

abbrev pub may_change : RequesterRecord → JobRecord → Bool
may_change requester job = requester.is_operator || bytes_eq requester.name job.owner

-- an operator who cancels a job of their own does that as its owner
abbrev pub canceler_of : List ℕ → JobRecord → Canceler
canceler_of name job = if bytes_eq name job.owner then Owner else Operator
