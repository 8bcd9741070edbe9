-- The items of an array, found one after another.
use Rattle.std.proofs.Common.{◌≡◌, ℕ, List, [], ◌∷◌, ◌++◌, Option, Some, None, option_map, Result, Ok, Err, refl, sym, ap, append_assoc}
use Rattle.toml.specs.Data.{Data, Members, Items, item, as_str, as_table}
use Rattle.settings_file.specs.Fault.{Fault}
use Rattle.settings_file.specs.Settings.{DeviceEntry, PrinterEntry}
use Rattle.settings_file.specs.Entry.{first_then, item_texts, item_tables}
use Rattle.settings_file.specs.Device.{place_of, device_of, devices_of}
use Rattle.settings_file.specs.Printer.{places_of, printer_of, printers_of}
use Rattle.text.specs.Steps.{◌>>=◌}

-- those found, and then those of the rest
abbrev pub followed : {A : Type 0} → List A → Option (List A) → Option (List A)
followed found rest = option_map (λ others. found ++ others) rest

-- the places found, and then those of the rest
abbrev pub places_followed : List ℕ → Result (List ℕ) Fault → Result (List ℕ) Fault
places_followed found rest = rest >>= (λ others. Ok (found ++ others))

-- the next is the last of those found, or the first of the rest

next_followed : {A : Type 0} (found : List A) (next : A) (rest : Option (List A)) → followed found (first_then (Some next) rest) ≡ followed (found ++ next ∷ []) rest
next_followed found next None = refl
next_followed found next (Some others) = ap Some (sym (append_assoc found (next ∷ []) others))

pub next_text : (found : List (List ℕ)) (value : Data) (text : List ℕ) (rest : Items) → Some text ≡ as_str value →
    followed found (item_texts (item value rest)) ≡ followed (found ++ text ∷ []) (item_texts rest)
next_text found value text rest is = rw (← is) (next_followed found text (item_texts rest))

pub next_table : (found : List Members) (value : Data) (table : Members) (rest : Items) → Some table ≡ as_table value →
    followed found (item_tables (item value rest)) ≡ followed (found ++ table ∷ []) (item_tables rest)
next_table found value table rest is = rw (← is) (next_followed found table (item_tables rest))

then_place : (found : List ℕ) (place : ℕ) (rest : Result (List ℕ) Fault) →
    places_followed found (rest >>= (λ places. Ok (place ∷ places))) ≡ places_followed (found ++ place ∷ []) rest
then_place found place (Ok others) = ap Ok (sym (append_assoc found (place ∷ []) others))
then_place found place (Err fault) = refl

pub next_place : (devices : List DeviceEntry) (found : List ℕ) (name : List ℕ) (place : ℕ) (rest : List (List ℕ)) → Some place ≡ place_of devices name →
    places_followed found (places_of devices (name ∷ rest)) ≡ places_followed (found ++ place ∷ []) (places_of devices rest)
next_place devices found name place rest is = rw (← is) (then_place found place (places_of devices rest))

pub next_device : (version : ℕ) (earlier : List DeviceEntry) (table : Members) (rest : List Members) (device : DeviceEntry) → device_of version earlier table ≡ Ok device →
    devices_of version earlier (table ∷ rest) ≡ devices_of version (earlier ++ device ∷ []) rest
next_device version earlier table rest device is = rw is refl

pub next_printer : (devices : List DeviceEntry) (earlier : List PrinterEntry) (table : Members) (rest : List Members) (printer : PrinterEntry) → printer_of devices earlier table ≡ Ok printer →
    printers_of devices earlier (table ∷ rest) ≡ printers_of devices (earlier ++ printer ∷ []) rest
next_printer devices earlier table rest printer is = rw is refl
