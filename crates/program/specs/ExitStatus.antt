-- The exit statuses of a program.
use Rattle.std.specs.Prelude.{ℕ}
use Rattle.program.specs.declared.exit_status.ExitStatus.{ExitStatus}
use Rattle.program.specs.declared.exit_status.ExitStatus.TheVariants.{Done, No, Refused, Failed}

-- the number of the status for a shell
abbrev pub code_of : ExitStatus → ℕ
code_of Done = 0
code_of No = 1
code_of Refused = 2
code_of Failed = 3
