-- The printers that are paused, by name.
use Rattle.std.specs.Prelude.{ℕ, Bool, false, not, List, map, filter}
use Rattle.std.specs.List.{enumerate_from}
use Rattle.std.specs.Option.{option_map_or}
use Rattle.settings_file.specs.Settings.{PrinterEntry, printer_named}
use Rattle.spool.specs.Calls.{paused_at}
use Rattle.print_room.specs.State.{State}

-- the names of the printers that are paused, in the order of the settings
abbrev pub paused_names : State → List (List ℕ)
paused_names core = map (λ found. found.1.name) (filter (λ found. paused_at core.paused found.0) (enumerate_from 0 core.settings.printers))

-- whether the settings have a printer of a name, and it isn't paused
abbrev pub is_unpaused : State → List ℕ → Bool
is_unpaused core name = option_map_or (λ place. not (paused_at core.paused place)) (printer_named core.settings name) false
