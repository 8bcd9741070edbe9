-- The jobs that the operands of an LPD command name (RFC 1179, sections 5.3 to 5.5).
use Rattle.std.specs.Prelude.{ℕ, ◌==◌, ◌||◌, Bool, List, length}
use Rattle.std.specs.List.{list_any}
use Rattle.std.specs.Option.{option_map_or}
use Rattle.std.specs.Str.{bytes_eq}
use Rattle.text.specs.Digits.{decimal_in}
use Rattle.job_objects.specs.Job.{JobRecord}

-- an operand of digits names the job of that id, any other operand the jobs of that owner
abbrev pub names : List ℕ → JobRecord → Bool
names operand job = option_map_or (λ id. id == job.id) (decimal_in operand) (bytes_eq operand job.owner)

-- some operand names the job, or there are no operands
abbrev pub is_shown : List (List ℕ) → JobRecord → Bool
is_shown operands job = (length operands == 0) || list_any (λ operand. names operand job) operands
