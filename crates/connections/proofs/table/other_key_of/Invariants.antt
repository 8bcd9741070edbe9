use Rattle.std.proofs.Common.{◌≡◌, ◌≢◌, ◌<◌, ℕ, false}
use Rattle.connections.specs.Slots.{is_of}
use Rattle.connections.proofs.table.other_key_of.Given as goal

abbrev pub invariant-loop-key : goal.invariant-loop-key
invariant-loop-key l = (other : ℕ) → other < l.key → other ≢ l.this → is_of l.connections.slots l.device other ≡ false
