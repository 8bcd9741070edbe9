-- The text of a service group, as Avahi reads it (avahi.service(5)): a name, and services under it.
use Rattle.std.specs.Prelude.{ℕ, List, [], ◌∷◌, ◌++◌, codes}
use Rattle.std.specs.Fmt.{decimal}
use Rattle.settings_file.specs.Settings.{ServerSettings, PrinterEntry}
use Rattle.announcements.specs.declared.group.Ports.{Ports}
use Rattle.announcements.specs.declared.protocol.Protocol.{Protocol}
use Rattle.announcements.specs.declared.protocol.Protocol.TheVariants.{Ipp, Lpd}
use Rattle.announcements.specs.Records.{kind_of, records_of}
use Rattle.announcements.specs.Xml.{escaped, element}

-- ---- a service: its type, its port, and the strings of its TXT record

abbrev pub record_line : List ℕ → List ℕ
record_line string = element (codes "txt-record") string

abbrev pub record_lines : List (List ℕ) → List ℕ
record_lines [] = []
record_lines (string ∷ records) = record_line string ++ record_lines records

abbrev pub service_text : List ℕ → ℕ → List (List ℕ) → List ℕ
service_text kind port records =
    codes "<service>\n" ++ (element (codes "type") kind ++ (element (codes "port") (decimal port) ++ (record_lines records ++ codes "</service>\n")))

-- the service of a printer over one protocol
unfoldable pub printer_service : ServerSettings → PrinterEntry → Protocol → ℕ → List ℕ
printer_service settings printer protocol port = service_text (kind_of protocol) port (records_of settings printer protocol)

-- ---- the group

-- the text before the name of every group, and the text that ends every group
unfoldable pub group_head : List ℕ
group_head = codes "<?xml version='1.0' standalone='no'?>\n<!DOCTYPE service-group SYSTEM 'avahi-service.dtd'>\n<service-group>\n"

unfoldable pub group_end : List ℕ
group_end = codes "</service-group>\n"

-- the name of the services: the name of the printer, and `%h` for the name of the machine
unfoldable pub group_name : List ℕ → List ℕ
group_name name = codes "<name replace-wildcards='yes'>" ++ (escaped name ++ codes " @ %h</name>\n")

-- the group of a printer: its services over IPP and over LPD
abbrev pub printer_group : ServerSettings → PrinterEntry → Ports → List ℕ
printer_group settings printer ports =
    group_head
    ++ (group_name printer.name
    ++ (printer_service settings printer Ipp ports.ipp
    ++ (printer_service settings printer Lpd ports.lpd
    ++ group_end)))
