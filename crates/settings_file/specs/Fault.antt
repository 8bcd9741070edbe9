-- The faults of settings, and their words.
use Rattle.std.specs.Prelude.{◌≡◌, ℕ, List, ◌++◌, Option, Some, None, IfSome, Result, Ok, Err, codes}
use Rattle.settings_file.specs.declared.key.Key.{Key}
use Rattle.settings_file.specs.declared.key.Key.TheVariants.{Version, UriBase, Operators, Device, Printer, Name, RateOne, RateTwo, Setup, Media, Formats, Finishings, Devices, MediaDefault, FormatDefault}
use Rattle.settings_file.specs.declared.fault.SettingsFault.{SettingsFault}
use Rattle.settings_file.specs.declared.fault.SettingsFault.TheVariants as code

-- the first fault of a text
pub data Fault : Type 0 where
  not_toml : Fault
  missing : Key → Fault
  wrong_kind : Key → Fault
  out_of_range : Key → Fault
  unknown : List ℕ → Fault
  twice : List ℕ → Fault

-- the key as a text writes it
abbrev pub key_name : Key → List ℕ
key_name Version = codes "version"
key_name UriBase = codes "uri_base"
key_name Operators = codes "operators"
key_name Device = codes "device"
key_name Printer = codes "printer"
key_name Name = codes "name"
key_name RateOne = codes "rate_one"
key_name RateTwo = codes "rate_two"
key_name Setup = codes "setup"
key_name Media = codes "media"
key_name Formats = codes "formats"
key_name Finishings = codes "finishings"
key_name Devices = codes "devices"
key_name MediaDefault = codes "media_default"
key_name FormatDefault = codes "format_default"

-- the fault of a value of the code, None for out of memory
abbrev pub fault_of : SettingsFault → Option Fault
fault_of code.NotToml = Some not_toml
fault_of (code.Missing key) = Some (missing key)
fault_of (code.WrongKind key) = Some (wrong_kind key)
fault_of (code.OutOfRange key) = Some (out_of_range key)
fault_of (code.Unknown name) = Some (unknown name)
fault_of (code.Twice name) = Some (twice name)
fault_of code.OutOfMemory = None

-- the words of a fault at a key or a name
abbrev pub words_about : List ℕ → List ℕ → List ℕ
words_about kind name = ((codes "settings " ++ kind) ++ codes " ") ++ name

-- the words of a fault
abbrev pub fault_words : Fault → List ℕ
fault_words not_toml = codes "settings NotToml"
fault_words (missing key) = words_about (codes "Missing") (key_name key)
fault_words (wrong_kind key) = words_about (codes "WrongKind") (key_name key)
fault_words (out_of_range key) = words_about (codes "OutOfRange") (key_name key)
fault_words (unknown name) = words_about (codes "Unknown") name
fault_words (twice name) = words_about (codes "Twice") name

-- the code's result is the value or the fault of the definition, unless memory ran out
abbrev pub Gives : {A B : Type 0} → (A → B) → Result A SettingsFault → Result B Fault → Type 0
Gives seen (Ok a) expected = expected ≡ Ok (seen a)
Gives seen (Err e) expected = IfSome (fault_of e) (λ fault. expected ≡ Err fault)
