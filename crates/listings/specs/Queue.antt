-- The printer of a queue (RFC 1179, section 5).
use Rattle.std.specs.Prelude.{ℕ, List, Option}
use Rattle.settings_file.specs.Settings.{printer_named}
use Rattle.print_room.specs.State.{State}

-- the place of the printer of this name in the settings
abbrev pub queue_of : List ℕ → State → Option ℕ
queue_of name state = printer_named state.settings name
