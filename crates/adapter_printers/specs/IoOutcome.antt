-- The result of a call on a connection.
use Rattle.std.specs.Prelude.{ℕ, ◌<◌, ◌≤◌, List, length}
use Rattle.adapter_printers.specs.declared.printer_link.IoOutcome.{IoOutcome}
use Rattle.adapter_printers.specs.declared.printer_link.IoOutcome.TheVariants.{Nothing, Bytes, End, Broken}

-- at least one byte was moved, and at most all bytes
abbrev pub MovesAtMost : IoOutcome → List ℕ → Type 0
MovesAtMost (Bytes count) bytes = (0 < count) × (count ≤ length bytes)
MovesAtMost Nothing bytes = Unit {0}
MovesAtMost End bytes = Unit {0}
MovesAtMost Broken bytes = Unit {0}
