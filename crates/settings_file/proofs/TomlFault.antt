-- Only a text that is no TOML has the fault of no TOML.
use Rattle.std.proofs.Common.{◌≡◌, ◌==◌, ℕ, ℤ, pos, negsuc, Bool, true, false, ◌&&◌, cond, leb, List, [], ◌∷◌, ◌++◌, length, Option, Some, None, option_and_then, unwrap_or, Result, Ok, Err, refl}
use Rattle.std.specs.List.{list_all}
use Rattle.toml.specs.Data.{Data, Members, as_integer, as_str, as_array}
use Rattle.toml.specs.Parse.{parse_document}
use Rattle.base_types.specs.declared.limits.TheConstants.Limits.{RATE, SETUP, DEVICES, PRINTERS}
use Rattle.settings_file.specs.declared.key.Key.{Key}
use Rattle.settings_file.specs.declared.key.Key.TheVariants.{Version, UriBase, Operators, Device, Printer, Name, RateOne, RateTwo, Setup, Media, Formats, Finishings, Devices, MediaDefault, FormatDefault}
use Rattle.settings_file.specs.declared.fault.SettingsFault.{SettingsFault}
use Rattle.settings_file.specs.declared.fault.SettingsFault.TheVariants.{NotToml}
use Rattle.settings_file.specs.Fault.{Fault, Gives, not_toml, missing, wrong_kind, out_of_range, unknown, twice}
use Rattle.settings_file.specs.Settings.{DeviceEntry, PrinterEntry, ServerSettings}
use Rattle.text.specs.Steps.{◌>>=◌}
use Rattle.settings_file.specs.Entry.{required, number_in, number_of, number, optional_number, takes, text_in, text_of, text, new_texts, most_entries, list_in, list_of, optional_list, list, tables_in, tables_of, tables, item_texts, item_tables, value_at, other_key, unless_unknown, unless_twice}
use Rattle.base_types.specs.Finishings.{no_finishings}
use Rattle.settings_file.specs.Device.{device_keys, finishings_named, finishings_of, has_device, place_of, device_of, devices_of}
use Rattle.settings_file.specs.Printer.{printer_keys, has_printer, known_place, places_of, printer_of, printers_of}
use Rattle.settings_file.specs.Reading.{root_keys, settings_in, settings_read, settings_of}

-- the outcome isn't that the text is no TOML
record IsOfTable {A : Type 0} (r : Result A Fault) : Type 0 where
  holds : r ≡ Err not_toml → ⊥

given : {A : Type 0} (a : A) → IsOfTable (Ok a)
given a = record { holds = λ h. cc }

chain : {A B : Type 0} (r : Result A Fault) (next : A → Result B Fault) → IsOfTable r → ((a : A) → IsOfTable (next a)) → IsOfTable (r >>= next)
chain (Ok a) next first rest = rest a
chain (Err f) next first rest = record { holds = λ h. first.holds (same_fault f h) }
  where
    same_fault : {A B : Type 0} (f : Fault) → (let r : Result B Fault = Err f in r ≡ Err not_toml) → (let r : Result A Fault = Err f in r ≡ Err not_toml)
    same_fault f h = let e : f ≡ not_toml = cc in cc

either : {A : Type 0} (b : Bool) (r s : Result A Fault) → IsOfTable r → IsOfTable s → IsOfTable (cond b r s)
either true r s f g = f
either false r s f g = g

is_missing : {A : Type 0} (key : Key) → IsOfTable {A = A} (Err (missing key))
is_missing key = record { holds = λ h. cc }

is_wrong_kind : {A : Type 0} (key : Key) → IsOfTable {A = A} (Err (wrong_kind key))
is_wrong_kind key = record { holds = λ h. cc }

is_out_of_range : {A : Type 0} (key : Key) → IsOfTable {A = A} (Err (out_of_range key))
is_out_of_range key = record { holds = λ h. cc }

is_unknown : {A : Type 0} (name : List ℕ) → IsOfTable {A = A} (Err (unknown name))
is_unknown name = record { holds = λ h. cc }

is_twice : {A : Type 0} (name : List ℕ) → IsOfTable {A = A} (Err (twice name))
is_twice name = record { holds = λ h. cc }

of_required : {A : Type 0} (key : Key) (o : Option A) → IsOfTable (required key o)
of_required key None = is_missing key
of_required key (Some a) = given a

of_number_in : (key : Key) (low high : ℕ) (o : Option ℤ) → IsOfTable (number_in key low high o)
of_number_in key low high None = is_wrong_kind key
of_number_in key low high (Some (pos n)) = either (leb low n && leb n high) _ _ (given n) (is_out_of_range key)
of_number_in key low high (Some (negsuc n)) = is_out_of_range key

of_number_of : (key : Key) (low high : ℕ) (d : Option Data) → IsOfTable (number_of key low high d)
of_number_of key low high None = given None
of_number_of key low high (Some d) = chain (number_in key low high (as_integer d)) _ (of_number_in key low high (as_integer d)) (λ n. given (Some n))

of_number : (key : Key) (low high : ℕ) (table : Members) → IsOfTable (number key low high table)
of_number key low high table = chain (optional_number key low high table) _ (of_number_of key low high (value_at key table)) (of_required key)

of_text_in : (key : Key) (o : Option (List ℕ)) → IsOfTable (text_in key o)
of_text_in key None = is_wrong_kind key
of_text_in key (Some t) = either (takes key t) _ _ (given t) (is_out_of_range key)

of_text_of : (key : Key) (d : Option Data) → IsOfTable (text_of key d)
of_text_of key None = is_missing key
of_text_of key (Some d) = of_text_in key (as_str d)

of_list_in : (key : Key) (o : Option (List (List ℕ))) → IsOfTable (list_in key o)
of_list_in key None = is_wrong_kind key
of_list_in key (Some ts) =
    either (leb (length (new_texts [] ts)) (most_entries key) && list_all (takes key) (new_texts [] ts)) _ _ (given (new_texts [] ts)) (is_out_of_range key)

of_list_of : (key : Key) (d : Option Data) → IsOfTable (list_of key d)
of_list_of key None = given None
of_list_of key (Some d) =
    let texts = option_and_then item_texts (as_array d) in
    chain (list_in key texts) _ (of_list_in key texts) (λ entries. given (Some entries))

of_list : (key : Key) (table : Members) → IsOfTable (list key table)
of_list key table = chain (optional_list key table) _ (of_list_of key (value_at key table)) (of_required key)

of_tables_in : (key : Key) (most : ℕ) (o : Option (List Members)) → IsOfTable (tables_in key most o)
of_tables_in key most None = is_wrong_kind key
of_tables_in key most (Some ts) = either (leb 1 (length ts) && leb (length ts) most) _ _ (given ts) (is_out_of_range key)

of_tables_of : (key : Key) (most : ℕ) (d : Option Data) → IsOfTable (tables_of key most d)
of_tables_of key most None = is_missing key
of_tables_of key most (Some d) = of_tables_in key most (option_and_then item_tables (as_array d))

of_known : {A : Type 0} (o : Option (List ℕ)) (rest : Result A Fault) → IsOfTable rest → IsOfTable (unless_unknown o rest)
of_known None rest h = h
of_known (Some name) rest h = is_unknown name

of_new : {A : Type 0} (b : Bool) (name : List ℕ) (rest : Result A Fault) → IsOfTable rest → IsOfTable (unless_twice b name rest)
of_new b name rest h = either b _ _ (is_twice name) h

of_finishings : (version : ℕ) (table : Members) → IsOfTable (finishings_of version table)
of_finishings version table =
    either (version == 1) _ _ (given no_finishings)
    (chain (optional_list Finishings table) _ (of_list_of Finishings (value_at Finishings table)) (λ entries. given (finishings_named (unwrap_or entries []))))

of_device : (version : ℕ) (earlier : List DeviceEntry) (table : Members) → IsOfTable (device_of version earlier table)
of_device version earlier table =
    chain (text Name table) _ (of_text_of Name (value_at Name table)) (λ name.
    chain (number RateOne 1 RATE table) _ (of_number RateOne 1 RATE table) (λ rate_one.
    chain (optional_number RateTwo 1 RATE table) _ (of_number_of RateTwo 1 RATE (value_at RateTwo table)) (λ rate_two.
    chain (optional_number Setup 0 SETUP table) _ (of_number_of Setup 0 SETUP (value_at Setup table)) (λ setup.
    chain (list Media table) _ (of_list Media table) (λ media.
    chain (list Formats table) _ (of_list Formats table) (λ formats.
    chain (finishings_of version table) _ (of_finishings version table) (λ finishings.
    of_known (other_key (device_keys version) table) _ (of_new (has_device earlier name) name _ (given _)))))))))

of_devices : (version : ℕ) (earlier : List DeviceEntry) (ts : List Members) → IsOfTable (devices_of version earlier ts)
of_devices version earlier [] = given earlier
of_devices version earlier (t ∷ ts) =
    chain (device_of version earlier t) _ (of_device version earlier t) (λ device. of_devices version (earlier ++ device ∷ []) ts)

of_place : (name : List ℕ) (o : Option ℕ) → IsOfTable (known_place name o)
of_place name None = is_unknown name
of_place name (Some place) = given place

of_places : (devices : List DeviceEntry) (names : List (List ℕ)) → IsOfTable (places_of devices names)
of_places devices [] = given []
of_places devices (n ∷ ns) =
    chain (known_place n (place_of devices n)) _ (of_place n (place_of devices n)) (λ place.
    chain (places_of devices ns) _ (of_places devices ns) (λ places. given (place ∷ places)))

of_printer : (devices : List DeviceEntry) (earlier : List PrinterEntry) (table : Members) → IsOfTable (printer_of devices earlier table)
of_printer devices earlier table =
    chain (text Name table) _ (of_text_of Name (value_at Name table)) (λ name.
    chain (list Devices table) _ (of_list Devices table) (λ names.
    chain (text MediaDefault table) _ (of_text_of MediaDefault (value_at MediaDefault table)) (λ media.
    chain (text FormatDefault table) _ (of_text_of FormatDefault (value_at FormatDefault table)) (λ format.
    of_known (other_key printer_keys table) _
    (of_new (has_printer earlier name) name _
    (chain (places_of devices names) _ (of_places devices names) (λ places. given _)))))))

of_printers : (devices : List DeviceEntry) (earlier : List PrinterEntry) (ts : List Members) → IsOfTable (printers_of devices earlier ts)
of_printers devices earlier [] = given earlier
of_printers devices earlier (t ∷ ts) =
    chain (printer_of devices earlier t) _ (of_printer devices earlier t) (λ printer. of_printers devices (earlier ++ printer ∷ []) ts)

of_root : (root : Members) → IsOfTable (settings_in root)
of_root root =
    chain (number Version 1 2 root) _ (of_number Version 1 2 root) (λ version.
    chain (text UriBase root) _ (of_text_of UriBase (value_at UriBase root)) (λ base.
    chain (optional_list Operators root) _ (of_list_of Operators (value_at Operators root)) (λ operators.
    chain (tables Device DEVICES root) _ (of_tables_of Device DEVICES (value_at Device root)) (λ device_tables.
    chain (tables Printer PRINTERS root) _ (of_tables_of Printer PRINTERS (value_at Printer root)) (λ printer_tables.
    of_known (other_key root_keys root) _
    (chain (devices_of version [] device_tables) _ (of_devices version [] device_tables) (λ devices.
    chain (printers_of devices [] printer_tables) _ (of_printers devices [] printer_tables) (λ printers.
    given _))))))))

of_parsed : (o : Option Members) → settings_read o ≡ Err not_toml → o ≡ None
of_parsed None h = refl
of_parsed (Some root) h = absurd ((of_root root).holds h)

-- a text with the fault of no TOML is none
pub only_no_toml : (bytes : List ℕ) → settings_of bytes ≡ Err not_toml → parse_document bytes ≡ None
unfolding settings_of
only_no_toml bytes h = of_parsed (parse_document bytes) h

-- a text that the code takes for no TOML is none
pub no_toml_kept : (bytes : List ℕ) (result : Result ServerSettings SettingsFault) → Gives (λ s. s) result (settings_of bytes) → result ≡ Err NotToml → parse_document bytes ≡ None
no_toml_kept bytes (Ok settings) h e = cc
no_toml_kept bytes (Err fault) h e =
    let same : fault ≡ NotToml = cc in
    let is : settings_of bytes ≡ Err not_toml = rw same at h in
    only_no_toml bytes is
