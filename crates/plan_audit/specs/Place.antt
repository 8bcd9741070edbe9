-- The line of the fault of a text that is no plan.
use Rattle.std.specs.Prelude.{ℕ, suc, ◌≡◌, ◌<◌, ◌==◌, ◌+◌, Bool, true, false, List, count_by, length, take, Result, Ok, Err}
use Rattle.plan_text.specs.declared.fault.TextFault.{TextFault}
use Rattle.plan_text.specs.declared.fault.TextFault.TheVariants.{BadLine, OutOfRange, NoEnd}
use Rattle.plan_text.specs.NamedPlan.{NamedPlan}
use Rattle.plan_text.specs.Whole.{plan_at}

-- the fault is a fault of a line
abbrev pub is_of_line : TextFault → Bool
is_of_line BadLine = true
is_of_line OutOfRange = true
is_of_line NoEnd = false

abbrev pub is_refused_for_line : Result NamedPlan TextFault → Bool
is_refused_for_line (Ok named) = false
is_refused_for_line (Err fault) = is_of_line fault

-- whether a text has a faulty line
unfoldable pub has_faulty_line : List ℕ → Bool
has_faulty_line text = is_refused_for_line (plan_at text)

-- the line of the byte after these bytes, counted from 1
abbrev pub line_after : List ℕ → ℕ
line_after prefix = 1 + count_by (λ byte. byte == 10) prefix

-- the text before this byte has no faulty line, and the text up to this byte has a faulty line
pub record Decides (text : List ℕ) (count : ℕ) : Type 0 where
  pub within : count < length text
  pub sound : has_faulty_line (take count text) ≡ false
  pub faulty : has_faulty_line (take (suc count) text) ≡ true

-- the line of the byte that decides
abbrev pub IsFaultyLine : List ℕ → ℕ → Type 0
IsFaultyLine text line = (count : ℕ) × Decides text count × (line ≡ line_after (take count text))

-- the line of the fault of a text: the line of the byte that decides; else the line that is missing or has no end
abbrev pub IsFaultLine : List ℕ → TextFault → ℕ → Type 0
IsFaultLine text BadLine line = IsFaultyLine text line
IsFaultLine text OutOfRange line = IsFaultyLine text line
IsFaultLine text NoEnd line = line ≡ line_after text
