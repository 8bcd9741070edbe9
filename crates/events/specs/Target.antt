-- The printer that a request names (RFC 8011, section 4.1.5).
use Rattle.std.specs.Prelude.{Bool, true, false}
use Rattle.std.specs.Str.{bytes_eq}
use Rattle.settings_file.specs.Settings.{PrinterEntry}
use Rattle.events.specs.declared.event.Target.{Target}
use Rattle.events.specs.declared.event.Target.TheVariants.{Named, First, Unknown}

-- the target names the printer: by the printer's name, or any printer if the target is the first
abbrev pub names : Target → PrinterEntry → Bool
names (Named name) printer = bytes_eq name printer.name
names First printer = true
names Unknown printer = false
