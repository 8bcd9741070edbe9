use Rattle.std.proofs.Common.{◌≡◌, drop, length}
use Rattle.toml.specs.View.{members_view}
use Rattle.settings_file.specs.Entry.{other_key}
use Rattle.settings_file.proofs.entry.other_key.Given as goal

abbrev pub invariant-loop-key : goal.invariant-loop-key
invariant-loop-key l = other_key l.keys (members_view l.table.entries) ≡ other_key l.keys (members_view (drop (length l.yielded) l.table.entries))
