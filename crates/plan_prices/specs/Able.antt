-- The classes that can be planned.
use Rattle.std.specs.Prelude.{ℕ, IsSome, All}
use Rattle.plan_problem.specs.Class.{Class, time_in}

-- some device is able to print each job of the class
abbrev pub EachAble : Class → Type 0
EachAble c = All (λ job. (device : ℕ) × IsSome (time_in c job device)) c.ids
