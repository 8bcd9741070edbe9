-- The words for doors.
use Rattle.std.specs.Prelude.{ℕ, ◌≡◌, List, codes}
use Rattle.wires.specs.declared.wire.Door.{Door}
use Rattle.wires.specs.declared.wire.Door.TheVariants.{Ipp, Lpd, Devices}

-- the word for a door in a trace and in a recording
abbrev pub door_word : Door → List ℕ
door_word Ipp = codes "ipp"
door_word Lpd = codes "lpd"
door_word Devices = codes "device"

-- these bytes are that word
abbrev pub IsWordOf : List ℕ → Door → Type 0
IsWordOf word Ipp = word ≡ door_word Ipp
IsWordOf word Lpd = word ≡ door_word Lpd
IsWordOf word Devices = word ≡ door_word Devices

-- the option of the command line that states where a door listens
abbrev pub door_option : Door → List ℕ
door_option Ipp = codes "ipp"
door_option Lpd = codes "lpd"
door_option Devices = codes "devices"
