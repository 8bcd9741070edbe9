-- The settings that a text has are within the limits.
use Rattle.std.proofs.Common.{◌≡◌, ℕ, ℤ, pos, negsuc, ◌+◌, ◌<◌, ◌≤◌, Bool, true, false, cond, leb, ltb, List, [], ◌∷◌, ◌++◌, length, Option, Some, None, option_and_then, unwrap_or, Result, Ok, Err, IfOk, refl, subst, arith, length-append, ◌≢◌, get_or, IsTrue, All}
use Rattle.std.specs.List.{list_all, list_any, position_or_len, AllPairs}
use Rattle.std.specs.Option.{ForSome}
use Rattle.std.proofs.lemmas.Bool.{and_parts, leb-true, ltb-true, both_ways}
use Rattle.std.proofs.lemmas.List.Sums.{AllPass-from_list_all}
use Rattle.std.proofs.lemmas.List.Elements.{All-nil, All-push, All-cons}
use Rattle.std.proofs.lemmas.List.Folds.{list_any_at}
use Rattle.std.proofs.lemmas.List.Quantifiers.{all_pairs_push}
use Rattle.std.proofs.lemmas.Slice.Eq.{bytes_eq-Decides}
use Rattle.std.specs.Char.{is_ascii_graphic}
use Rattle.std.specs.Str.{bytes_eq}
use Rattle.base_types.specs.Forms.{has_length, is_name_byte, is_media_byte, is_format_byte, is_name, is_media, is_format, is_uri_base, HasForm, IsName, IsMedia, IsFormat, IsUriBase}
use Rattle.toml.specs.Data.{Data, Members, as_integer, as_str, as_array}
use Rattle.toml.specs.Parse.{parse_document}
use Rattle.base_types.specs.Ranges.{IsSetup}
use Rattle.base_types.specs.declared.limits.TheConstants.Limits.{NAME_BYTES, MEDIA_BYTES, FORMAT_BYTES, URI_BASE_BYTES, RATE, SETUP, DEVICES, PRINTERS}
use Rattle.settings_file.specs.declared.key.Key.{Key}
use Rattle.settings_file.specs.declared.key.Key.TheVariants.{Version, UriBase, Operators, Device, Printer, Name, RateOne, RateTwo, Setup, Media, Formats, Devices, MediaDefault, FormatDefault}
use Rattle.settings_file.specs.declared.fault.SettingsFault.{SettingsFault}
use Rattle.settings_file.specs.Fault.{Fault, Gives}
use Rattle.settings_file.specs.Settings.{DeviceEntry, PrinterEntry, ServerSettings, IsShort, IsDeviceEntry, IsPrinterEntry, MeetsLimits}
use Rattle.text.proofs.Chains.{went_on}
use Rattle.settings_file.specs.Entry.{required, number_in, number_of, number, takes, text_in, text_of, text, new_texts, most_entries, list_in, list_of, optional_list, list, tables_in, tables_of, tables, item_texts, item_tables, value_at, other_key, unless_unknown, unless_twice}
use Rattle.settings_file.specs.Device.{finishings_of, has_device, place_of, device_of, devices_of}
use Rattle.settings_file.specs.Printer.{has_printer, known_place, places_of, printer_of, printers_of}
use Rattle.settings_file.specs.Reading.{root_keys, settings_in, settings_read, settings_of}

form_ok : (passes : ℕ → Bool) (most : ℕ) (t : List ℕ) → cond (has_length most t) (list_all passes t) false ≡ true → HasForm passes most t
form_ok passes most t h = by (has_length most t) refl h
  where
    by : (b : Bool) → has_length most t ≡ b → cond b (list_all passes t) false ≡ true → HasForm passes most t
    by true e h =
        let (some, few) = and_parts (leb 1 (length t)) (leb (length t) most) e in
        record { some = leb-true 1 (length t) some; few = leb-true (length t) most few; each = AllPass-from_list_all passes t h }
    by false e h = cc

name_ok : (t : List ℕ) → is_name t ≡ true → IsName t
unfolding is_name
name_ok t h = form_ok is_name_byte NAME_BYTES t h

media_ok : (t : List ℕ) → is_media t ≡ true → IsMedia t
unfolding is_media
media_ok t h = form_ok is_media_byte MEDIA_BYTES t h

format_ok : (t : List ℕ) → is_format t ≡ true → IsFormat t
unfolding is_format
format_ok t h = form_ok is_format_byte FORMAT_BYTES t h

uri_base_ok : (t : List ℕ) → is_uri_base t ≡ true → IsUriBase t
unfolding is_uri_base
uri_base_ok t h = form_ok is_ascii_graphic URI_BASE_BYTES t h

known_ok : {A : Type 0} (o : Option (List ℕ)) (rest : Result A Fault) (a : A) → unless_unknown o rest ≡ Ok a → rest ≡ Ok a
known_ok None rest a h = h
known_ok (Some name) rest a h = cc

same_value : {A : Type 0} (a b : A) → (let left : Result A Fault = Ok a in left ≡ Ok b) → a ≡ b
same_value a b h = cc

-- a value that a test let through
passed : {A : Type 0} (b : Bool) (a c : A) (f : Fault) → cond b (Ok a) (Err f) ≡ Ok c → (b ≡ true) × (a ≡ c)
passed true a c f h = (refl, cc)
passed false a c f h = cc

new_ok : {A : Type 0} (b : Bool) (name : List ℕ) (rest : Result A Fault) (a : A) → unless_twice b name rest ≡ Ok a → (b ≡ false) × (rest ≡ Ok a)
new_ok true name rest a h = cc
new_ok false name rest a h = (refl, h)

-- a name that none of the entries has differs from that of each
names_differ : {A : Type 0} (name_of : A → List ℕ) (entries : List A) (name : List ℕ) → list_any (λ e. bytes_eq (name_of e) name) entries ≡ false
    → (k : ℕ) (d : A) → k < length entries → name_of (get_or entries k d) ≢ name
names_differ name_of entries name new k d within same =
    let found : bytes_eq (name_of (get_or entries k d)) name ≡ true = (bytes_eq-Decides (name_of (get_or entries k d)) name).1 same in
    both_ways (list_any (λ e. bytes_eq (name_of e) name) entries) new (list_any_at (λ e. bytes_eq (name_of e) name) entries k d within found)

device_differs : (devices : List DeviceEntry) (name : List ℕ) → has_device devices name ≡ false
    → (k : ℕ) (d : DeviceEntry) → k < length devices → (get_or devices k d).name ≢ name
unfolding has_device
device_differs devices name new = names_differ (λ (d : DeviceEntry). d.name) devices name new

printer_differs : (printers : List PrinterEntry) (name : List ℕ) → has_printer printers name ≡ false
    → (k : ℕ) (d : PrinterEntry) → k < length printers → (get_or printers k d).name ≢ name
unfolding has_printer
printer_differs printers name new = names_differ (λ (p : PrinterEntry). p.name) printers name new

required_ok : {A : Type 0} (key : Key) (o : Option A) (a : A) → required key o ≡ Ok a → o ≡ Some a
required_ok key None a h = cc
required_ok key (Some b) a h = cc

number_in_ok : (key : Key) (low high : ℕ) (o : Option ℤ) (n : ℕ) → number_in key low high o ≡ Ok n → (low ≤ n) × (n ≤ high)
number_in_ok key low high None n h = cc
number_in_ok key low high (Some (pos m)) n h =
    let (test, same) = passed _ m n _ h in
    let (above, below) = and_parts (leb low m) (leb m high) test in
    let a : low ≤ m = leb-true low m above in
    let b : m ≤ high = leb-true m high below in
    (omega (arith, same), omega (arith, same))
number_in_ok key low high (Some (negsuc m)) n h = cc

number_of_ok : (key : Key) (low high : ℕ) (d : Option Data) (o : Option ℕ) → number_of key low high d ≡ Ok o → ForSome o (λ n. (low ≤ n) × (n ≤ high))
number_of_ok key low high None o h = λ n e. cc
number_of_ok key low high (Some d) o h = λ n e.
    let (m, read, same) = went_on _ _ o h in
    let is : m ≡ n = cc in
    let (a, b) = number_in_ok key low high (as_integer d) m read in
    (omega arith, omega arith)

number_ok : (key : Key) (low high : ℕ) (table : Members) (n : ℕ) → number key low high table ≡ Ok n → (low ≤ n) × (n ≤ high)
number_ok key low high table n h =
    let (o, read, given) = went_on _ _ n h in
    number_of_ok key low high (value_at key table) o read n (required_ok key o n given)

text_in_ok : (key : Key) (o : Option (List ℕ)) (t : List ℕ) → text_in key o ≡ Ok t → takes key t ≡ true
text_in_ok key None t h = cc
text_in_ok key (Some s) t h =
    let (test, same) = passed _ s t _ h in
    rw (← same) test

text_of_ok : (key : Key) (d : Option Data) (t : List ℕ) → text_of key d ≡ Ok t → takes key t ≡ true
text_of_ok key None t h = cc
text_of_ok key (Some d) t h = text_in_ok key (as_str d) t h

list_in_ok : (key : Key) (o : Option (List (List ℕ))) (ts : List (List ℕ)) → list_in key o ≡ Ok ts → (length ts ≤ most_entries key) × All (λ t. IsTrue (takes key t)) ts
list_in_ok key None ts h = cc
list_in_ok key (Some all) ts h =
    let (test, same) = passed _ (new_texts [] all) ts _ h in
    let (few, each) = and_parts (leb (length (new_texts [] all)) (most_entries key)) (list_all (takes key) (new_texts [] all)) test in
    let short : length (new_texts [] all) ≤ most_entries key = leb-true _ _ few in
    rw (← same) (short, AllPass-from_list_all (takes key) (new_texts [] all) each)

list_of_ok : (key : Key) (d : Option Data) (o : Option (List (List ℕ))) → list_of key d ≡ Ok o → ForSome o (λ ts. (length ts ≤ most_entries key) × All (λ t. IsTrue (takes key t)) ts)
list_of_ok key None o h = λ ts e. cc
list_of_ok key (Some d) o h = λ ts e.
    let (read, found, same) = went_on _ _ o h in
    let is : read ≡ ts = cc in
    rw (← is) (list_in_ok key (option_and_then item_texts (as_array d)) read found)

list_ok : (key : Key) (table : Members) (ts : List (List ℕ)) → list key table ≡ Ok ts → (length ts ≤ most_entries key) × All (λ t. IsTrue (takes key t)) ts
list_ok key table ts h =
    let (o, read, given) = went_on _ _ ts h in
    list_of_ok key (value_at key table) o read ts (required_ok key o ts given)

tables_in_ok : (key : Key) (most : ℕ) (o : Option (List Members)) (ts : List Members) → tables_in key most o ≡ Ok ts → (1 ≤ length ts) × (length ts ≤ most)
tables_in_ok key most None ts h = cc
tables_in_ok key most (Some all) ts h =
    let (test, same) = passed _ all ts _ h in
    let (some, few) = and_parts (leb 1 (length all)) (leb (length all) most) test in
    rw (← same) (leb-true 1 (length all) some, leb-true (length all) most few)

tables_of_ok : (key : Key) (most : ℕ) (d : Option Data) (ts : List Members) → tables_of key most d ≡ Ok ts → (1 ≤ length ts) × (length ts ≤ most)
tables_of_ok key most None ts h = cc
tables_of_ok key most (Some d) ts h = tables_in_ok key most (option_and_then item_tables (as_array d)) ts h

setup_ok : (o : Option ℕ) → ForSome o (λ n. (0 ≤ n) × (n ≤ SETUP)) → IsSetup (unwrap_or o 0)
setup_ok None h = omega arith
setup_ok (Some n) h = (h n refl).1

device_of_ok : (version : ℕ) (earlier : List DeviceEntry) (table : Members) (device : DeviceEntry) → device_of version earlier table ≡ Ok device → IsDeviceEntry device × (has_device earlier device.name ≡ false)
device_of_ok version earlier table device h =
    let (name, name_read, h1) = went_on _ _ device h in
    let (rate_one, rate_one_read, h2) = went_on _ _ device h1 in
    let (rate_two, rate_two_read, h3) = went_on _ _ device h2 in
    let (setup, setup_read, h4) = went_on _ _ device h3 in
    let (media, media_read, h5) = went_on _ _ device h4 in
    let (formats, formats_read, h6) = went_on _ _ device h5 in
    let (finishings, finishings_read, h7) = went_on (finishings_of version table) _ device h6 in
    let h8 = known_ok _ _ device h7 in
    let (new, h9) = new_ok (has_device earlier name) name _ device h8 in
    let made : DeviceEntry = record { name = name; rate_one = rate_one; rate_two = rate_two; setup = unwrap_or setup 0; media = media; formats = formats; finishings = finishings } in
    let same : made ≡ device = same_value made device h9 in
    let (few_media, each_media) = list_ok Media table media media_read in
    let (few_formats, each_format) = list_ok Formats table formats formats_read in
    subst (λ (d : DeviceEntry). IsDeviceEntry d × (has_device earlier d.name ≡ false)) same (
      record {
        name = name_ok name (text_of_ok Name (value_at Name table) name name_read);
        rate_one = number_ok RateOne 1 RATE table rate_one rate_one_read;
        rate_two = number_of_ok RateTwo 1 RATE (value_at RateTwo table) rate_two rate_two_read;
        setup = setup_ok setup (number_of_ok Setup 0 SETUP (value_at Setup table) setup setup_read);
        few_media = few_media;
        each_media = λ k d b. media_ok _ (each_media k d b);
        few_formats = few_formats;
        each_format = λ k d b. format_ok _ (each_format k d b);
      },
      new,
    )

devices_of_ok : (version : ℕ) (earlier : List DeviceEntry) (tables : List Members) (devices : List DeviceEntry)
    → All IsDeviceEntry earlier → AllPairs (λ a b. a.name ≢ b.name) earlier → devices_of version earlier tables ≡ Ok devices
    → All IsDeviceEntry devices × AllPairs (λ a b. a.name ≢ b.name) devices × (length devices ≡ length earlier + length tables)
devices_of_ok version earlier [] devices before differ h =
    let same : earlier ≡ devices = cc in
    rw (← same) (before, differ, omega arith)
devices_of_ok version earlier (t ∷ ts) devices before differ h =
    let (device, read, h1) = went_on (device_of version earlier t) _ devices h in
    let (here, new) = device_of_ok version earlier t device read in
    let all_before = All-push IsDeviceEntry earlier device before here in
    let all_differ = all_pairs_push (λ (a : DeviceEntry) (b : DeviceEntry). a.name ≢ b.name) earlier device differ (device_differs earlier device.name new) in
    let (each, pairs, count) = devices_of_ok version (earlier ++ device ∷ []) ts devices all_before all_differ h1 in
    (each, pairs, omega (arith, count, length-append earlier (device ∷ [])))

place_below : (devices : List DeviceEntry) (name : List ℕ) (place : ℕ) → place_of devices name ≡ Some place → place < length devices
unfolding place_of
place_below devices name place h =
    let P = position_or_len (λ (d : DeviceEntry). bytes_eq d.name name) devices in
    found_below (ltb P (length devices)) P (length devices) place refl h
  where
    found_below : (b : Bool) (p n q : ℕ) → ltb p n ≡ b → cond b (Some p) None ≡ Some q → q < n
    found_below true p n q test e =
        let same : p ≡ q = cc in
        let below : p < n = ltb-true p n test in
        omega arith
    found_below false p n q test e = cc

place_known : (name : List ℕ) (o : Option ℕ) (place : ℕ) → known_place name o ≡ Ok place → o ≡ Some place
place_known name None place h = cc
place_known name (Some p) place h = cc

places_of_ok : (devices : List DeviceEntry) (names : List (List ℕ)) (places : List ℕ) → places_of devices names ≡ Ok places
    → All (λ p. p < length devices) places × (length places ≡ length names)
places_of_ok devices [] places h =
    let same : [] ≡ places = cc in
    rw (← same) (All-nil (λ (p : ℕ). p < length devices), refl)
places_of_ok devices (n ∷ ns) places h =
    let (place, found, h1) = went_on _ _ places h in
    let (rest, read, h2) = went_on _ _ places h1 in
    let same : place ∷ rest ≡ places = cc in
    let here = place_below devices n place (place_known n (place_of devices n) place found) in
    let (each, count) = places_of_ok devices ns rest read in
    rw (← same) (All-cons (λ (p : ℕ). p < length devices) place rest here each, omega (arith, count))

printer_of_ok : (devices : List DeviceEntry) (earlier : List PrinterEntry) (table : Members) (printer : PrinterEntry) → printer_of devices earlier table ≡ Ok printer
    → IsPrinterEntry (length devices) printer × (has_printer earlier printer.name ≡ false)
printer_of_ok devices earlier table printer h =
    let (name, name_read, h1) = went_on _ _ printer h in
    let (names, names_read, h2) = went_on _ _ printer h1 in
    let (media, media_read, h3) = went_on _ _ printer h2 in
    let (format, format_read, h4) = went_on _ _ printer h3 in
    let h5 = known_ok _ _ printer h4 in
    let (new, h6) = new_ok (has_printer earlier name) name _ printer h5 in
    let (places, places_read, h7) = went_on (places_of devices names) _ printer h6 in
    let made : PrinterEntry = record { name = name; devices = places; media_default = media; format_default = format } in
    let same : made ≡ printer = same_value made printer h7 in
    let (few_names, each) = list_ok Devices table names names_read in
    let (each_place, count_places) = places_of_ok devices names places places_read in
    subst (λ (p : PrinterEntry). IsPrinterEntry (length devices) p × (has_printer earlier p.name ≡ false)) same (
      record {
        name = name_ok name (text_of_ok Name (value_at Name table) name name_read);
        few_devices = as_few (length places) (length names) count_places few_names;
        each_device = each_place;
        media_default = media_ok media (text_of_ok MediaDefault (value_at MediaDefault table) media media_read);
        format_default = format_ok format (text_of_ok FormatDefault (value_at FormatDefault table) format format_read);
      },
      new,
    )
  where
    as_few : (n m : ℕ) → n ≡ m → m ≤ DEVICES → n ≤ DEVICES
    as_few n m e h = omega arith

printers_of_ok : (devices : List DeviceEntry) (earlier : List PrinterEntry) (tables : List Members) (printers : List PrinterEntry)
    → All (IsPrinterEntry (length devices)) earlier → AllPairs (λ a b. a.name ≢ b.name) earlier → printers_of devices earlier tables ≡ Ok printers
    → All (IsPrinterEntry (length devices)) printers × AllPairs (λ a b. a.name ≢ b.name) printers × (length printers ≡ length earlier + length tables)
printers_of_ok devices earlier [] printers before differ h =
    let same : earlier ≡ printers = cc in
    rw (← same) (before, differ, omega arith)
printers_of_ok devices earlier (t ∷ ts) printers before differ h =
    let (printer, read, h1) = went_on (printer_of devices earlier t) _ printers h in
    let (here, new) = printer_of_ok devices earlier t printer read in
    let all_before = All-push (IsPrinterEntry (length devices)) earlier printer before here in
    let all_differ = all_pairs_push (λ (a : PrinterEntry) (b : PrinterEntry). a.name ≢ b.name) earlier printer differ (printer_differs earlier printer.name new) in
    let (each, pairs, count) = printers_of_ok devices (earlier ++ printer ∷ []) ts printers all_before all_differ h1 in
    (each, pairs, omega (arith, count, length-append earlier (printer ∷ [])))

operators_ok : (o : Option (List (List ℕ))) → ForSome o (λ ts. IsShort ts × All (λ t. IsTrue (takes Operators t)) ts) → IsShort (unwrap_or o [])
operators_ok None h = omega arith
operators_ok (Some ts) h = (h ts refl).0

as_many : (n m low high : ℕ) → n ≡ 0 + m → (low ≤ m) × (m ≤ high) → (low ≤ n) × (n ≤ high)
as_many n m low high e h = (omega (arith, h.0), omega (arith, h.1))

none_differ : {A : Type 0} (R : A → A → Type 0) → AllPairs R []
none_differ R i j d before within = absurd (omega arith)

settings_in_ok : (root : Members) (settings : ServerSettings) → settings_in root ≡ Ok settings → MeetsLimits settings
settings_in_ok root settings h =
    let (version, version_read, h1) = went_on (number Version 1 2 root) _ settings h in
    let (base, base_read, h2) = went_on (text UriBase root) _ settings h1 in
    let (operators, operators_read, h3) = went_on (optional_list Operators root) _ settings h2 in
    let (device_tables, device_tables_read, h4) = went_on (tables Device DEVICES root) _ settings h3 in
    let (printer_tables, printer_tables_read, h5) = went_on (tables Printer PRINTERS root) _ settings h4 in
    let h6 = known_ok (other_key root_keys root) _ settings h5 in
    let (devices, devices_read, h7) = went_on (devices_of version [] device_tables) _ settings h6 in
    let (printers, printers_read, h8) = went_on (printers_of devices [] printer_tables) _ settings h7 in
    let made : ServerSettings = record { uri_base = base; operators = unwrap_or operators []; devices = devices; printers = printers } in
    let same : made ≡ settings = same_value made settings h8 in
    let (each_device, devices_differ, count_devices) = devices_of_ok version [] device_tables devices (All-nil IsDeviceEntry) (none_differ (λ (a : DeviceEntry) (b : DeviceEntry). a.name ≢ b.name)) devices_read in
    let (each_printer, printers_differ, count_printers) = printers_of_ok devices [] printer_tables printers (All-nil (IsPrinterEntry (length devices))) (none_differ (λ (a : PrinterEntry) (b : PrinterEntry). a.name ≢ b.name)) printers_read in
    let (some_device, few_devices) = as_many (length devices) (length device_tables) 1 DEVICES count_devices (tables_of_ok Device DEVICES (value_at Device root) device_tables device_tables_read) in
    let (some_printer, few_printers) = as_many (length printers) (length printer_tables) 1 PRINTERS count_printers (tables_of_ok Printer PRINTERS (value_at Printer root) printer_tables printer_tables_read) in
    subst (λ (s : ServerSettings). MeetsLimits s) same
    (record {
      uri_base = uri_base_ok base (text_of_ok UriBase (value_at UriBase root) base base_read);
      few_operators = operators_ok operators (list_of_ok Operators (value_at Operators root) operators operators_read);
      some_device = some_device;
      few_devices = few_devices;
      each_device = each_device;
      device_names_differ = devices_differ;
      some_printer = some_printer;
      few_printers = few_printers;
      each_printer = each_printer;
      printer_names_differ = printers_differ;
    })

settings_read_ok : (o : Option Members) (settings : ServerSettings) → settings_read o ≡ Ok settings → MeetsLimits settings
settings_read_ok None settings h = cc
settings_read_ok (Some root) settings h = settings_in_ok root settings h

-- the settings of a text are within the limits
pub settings_of_ok : (bytes : List ℕ) (settings : ServerSettings) → settings_of bytes ≡ Ok settings → MeetsLimits settings
unfolding settings_of
settings_of_ok bytes settings h = settings_read_ok (parse_document bytes) settings h

-- the settings that the code gives for a text are within the limits
pub limits_kept : (bytes : List ℕ) (given : Result ServerSettings SettingsFault) → Gives (λ s. s) given (settings_of bytes) → IfOk given MeetsLimits
limits_kept bytes (Ok settings) h = settings_of_ok bytes settings h
limits_kept bytes (Err e) h = tt
