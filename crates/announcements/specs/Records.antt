-- The strings of a printer's TXT record (RFC 6763, section 6), with the keys of Apple's Bonjour Printing
-- Specification 1.2.1.
use Rattle.std.specs.Prelude.{ℕ, ◌-◌, nat_lt, nat_le, Bool, if◌then◌else◌, List, [], ◌∷◌, ◌++◌, length, codes}
use Rattle.settings_file.specs.Settings.{ServerSettings, PrinterEntry}
use Rattle.announcements.specs.declared.ability.Ability.{Ability}
use Rattle.announcements.specs.declared.ability.Ability.TheVariants.{TwoSided, Staple, Punch, Bind}
use Rattle.announcements.specs.declared.protocol.Protocol.{Protocol}
use Rattle.announcements.specs.declared.protocol.Protocol.TheVariants.{Ipp, Lpd}
use Rattle.announcements.specs.Printer.{formats_of, is_able}

-- the type of a protocol's service (RFC 6763, section 7)
abbrev pub kind_of : Protocol → List ℕ
kind_of Ipp = codes "_ipp._tcp"
kind_of Lpd = codes "_printer._tcp"

-- the priority of a protocol: clients prefer the least number
abbrev pub priority_of : Protocol → List ℕ
priority_of Ipp = codes "20"
priority_of Lpd = codes "50"

-- the name of the printer in a protocol: the path of its URI without the first `/`, or its queue
abbrev pub resource_of : Protocol → List ℕ → List ℕ
resource_of Ipp name = codes "printers/" ++ name
resource_of Lpd name = name

-- the string of a key and its value
abbrev pub record_of : List ℕ → List ℕ → List ℕ
record_of key value = key ++ (codes "=" ++ value)

-- ---- the formats that fit into this number of octets, with a comma between two formats

abbrev pub others_text : ℕ → List (List ℕ) → List ℕ
others_text room [] = []
others_text room (f ∷ fs) = if nat_le room (length f) then [] else codes "," ++ (f ++ others_text (room - length f - 1) fs)

abbrev pub formats_text : ℕ → List (List ℕ) → List ℕ
formats_text room [] = []
formats_text room (f ∷ fs) = if nat_lt room (length f) then [] else f ++ others_text (room - length f) fs

-- a string has at most 255 octets, of which `pdl=` has four
abbrev pub pdl_room : ℕ
pdl_room = 251

-- ---- the strings

-- the value of a Boolean key
abbrev pub yes_or_no : Bool → List ℕ
yes_or_no able = if able then codes "T" else codes "F"

abbrev pub ability_key : Ability → List ℕ
ability_key TwoSided = codes "Duplex"
ability_key Staple = codes "Staple"
ability_key Punch = codes "Punch"
ability_key Bind = codes "Bind"

abbrev pub ability_record : ServerSettings → PrinterEntry → Ability → List ℕ
ability_record settings printer ability = record_of (ability_key ability) (yes_or_no (is_able settings printer ability))

-- the strings about the queue, and about its name in a protocol
abbrev pub queue_records : Protocol → PrinterEntry → List (List ℕ)
queue_records protocol printer =
    record_of (codes "txtvers") (codes "1")
    ∷ record_of (codes "qtotal") (codes "1")
    ∷ record_of (codes "rp") (resource_of protocol printer.name)
    ∷ record_of (codes "priority") (priority_of protocol)
    ∷ []

-- the printer's description
unfoldable pub model : List ℕ
model = codes "Hoodbasil print server"

-- the same description in parentheses, by which clients choose a driver
unfoldable pub product : List ℕ
product = codes "(Hoodbasil print server)"

-- the strings of the description, and of the formats that the printer takes
abbrev pub kind_records : ServerSettings → PrinterEntry → List (List ℕ)
kind_records settings printer =
    record_of (codes "ty") model
    ∷ record_of (codes "product") product
    ∷ record_of (codes "pdl") (formats_text pdl_room (formats_of settings printer))
    ∷ []

-- the strings of the abilities that a job may ask for
abbrev pub ability_records : ServerSettings → PrinterEntry → List (List ℕ)
ability_records settings printer =
    record_of (codes "Copies") (codes "T")
    ∷ ability_record settings printer TwoSided
    ∷ ability_record settings printer Staple
    ∷ ability_record settings printer Punch
    ∷ ability_record settings printer Bind
    ∷ []

abbrev pub records_of : ServerSettings → PrinterEntry → Protocol → List (List ℕ)
records_of settings printer protocol = queue_records protocol printer ++ (kind_records settings printer ++ ability_records settings printer)
