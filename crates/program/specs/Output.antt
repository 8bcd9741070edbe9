-- The output of a program: a text on standard output, and its exit status.
use Rattle.std.specs.Prelude.{ℕ, List, ◌++◌, codes}
use Rattle.program.specs.declared.exit_status.ExitStatus.{ExitStatus}
use Rattle.program.specs.declared.exit_status.ExitStatus.TheVariants as Ends

pub record ProgramOutput : Type 0 where
  pub text : List ℕ
  pub status : ExitStatus

-- the output for an input that is refused
abbrev pub refused_as : List ℕ → ProgramOutput
refused_as name = record { text = codes "refused " ++ (name ++ codes "\n"); status = Ends.Refused }

-- the output with a text before it
abbrev pub output_after : List ℕ → ProgramOutput → ProgramOutput
output_after text output = record output { text = text ++ output.text }
