-- Settings with a further device are within their limits.
use Rattle.std.proofs.Common.{◌≡◌, ◌≢◌, ℕ, ◌+◌, ◌<◌, ◌≤◌, ◌∙◌, Bool, true, false, cond, ltb, leb, List, [], ◌∷◌, ◌++◌, length, get_or, set, Some, None, All, AllPairs, refl, sym, ap, subst, arith, length-append}
use Rattle.std.specs.List.{list_all, position_or_len}
use Rattle.std.specs.Option.{ForSome}
use Rattle.std.specs.Str.{bytes_eq}
use Rattle.std.proofs.lemmas.Bool.{and_parts, leb-true, both_ways}
use Rattle.std.proofs.lemmas.List.{get_or-map, length-map, map-set, set-get_or}
use Rattle.std.proofs.lemmas.List.Sums.{AllPass-from_list_all, fails_before_first}
use Rattle.std.proofs.lemmas.List.Elements.{All-push}
use Rattle.std.proofs.lemmas.List.Quantifiers.{all_pairs_push}
use Rattle.std.proofs.lemmas.Slice.Eq.{bytes_eq-Decides}
use Rattle.base_types.specs.Forms.{has_length, is_name_byte, is_media_byte, is_format_byte, is_name, is_media, is_format, HasForm, IsName, IsMedia, IsFormat}
use Rattle.base_types.specs.Ranges.{IsRate, IsSetup}
use Rattle.base_types.specs.declared.limits.TheConstants.Limits.{NAME_BYTES, MEDIA_BYTES, FORMAT_BYTES, LIST_ENTRIES, DEVICES}
use Rattle.settings_file.specs.Settings.{DeviceEntry, PrinterEntry, ServerSettings, IsDeviceEntry, IsPrinterEntry, MeetsLimits, device_named}
use Rattle.simulation.specs.Further.{is_within, names}

has_form : (passes : ℕ → Bool) (most : ℕ) (t : List ℕ) → cond (has_length most t) (list_all passes t) false ≡ true → HasForm passes most t
has_form passes most t h = by (has_length most t) refl h
  where
    by : (b : Bool) → has_length most t ≡ b → cond b (list_all passes t) false ≡ true → HasForm passes most t
    by true e h =
        let (some, few) = and_parts (leb 1 (length t)) (leb (length t) most) e in
        record { some = leb-true 1 (length t) some; few = leb-true (length t) most few; each = AllPass-from_list_all passes t h }
    by false e h = cc

name_is : (t : List ℕ) → is_name t ≡ true → IsName t
unfolding is_name
name_is t h = has_form is_name_byte NAME_BYTES t h

media_is : (t : List ℕ) → is_media t ≡ true → IsMedia t
unfolding is_media
media_is t h = has_form is_media_byte MEDIA_BYTES t h

format_is : (t : List ℕ) → is_format t ≡ true → IsFormat t
unfolding is_format
format_is t h = has_form is_format_byte FORMAT_BYTES t h

pub entry_is : (device : DeviceEntry) → IsRate device.rate_one → ForSome device.rate_two IsRate → IsSetup device.setup → is_within device ≡ true → IsDeviceEntry device
entry_is device one two setup h =
    let (h1, formats) = and_parts _ _ h in
    let (h2, few_formats) = and_parts _ _ h1 in
    let (h3, media) = and_parts _ _ h2 in
    let (name, few_media) = and_parts _ _ h3 in
    record {
      name = name_is device.name name;
      rate_one = one;
      rate_two = two;
      setup = setup;
      few_media = leb-true (length device.media) LIST_ENTRIES few_media;
      each_media = λ k d b. media_is _ (AllPass-from_list_all is_media device.media media k d b);
      few_formats = leb-true (length device.formats) LIST_ENTRIES few_formats;
      each_format = λ k d b. format_is _ (AllPass-from_list_all is_format device.formats formats k d b);
    }

beyond : (b : Bool) (p n : ℕ) → ltb p n ≡ b → cond b (Some p) None ≡ None → n ≤ p
beyond true p n e h = cc
beyond false p n e h = grind arith

-- a name that no device has differs from that of each
differs : (settings : ServerSettings) (name : List ℕ) → device_named settings name ≡ None → (k : ℕ) (d : DeviceEntry) → k < length settings.devices → (get_or settings.devices k d).name ≢ name
differs settings name none k d within same =
    let test = λ (device : DeviceEntry). bytes_eq name device.name in
    let all = beyond _ (position_or_len test settings.devices) (length settings.devices) refl none in
    let found : bytes_eq name (get_or settings.devices k d).name ≡ true = (bytes_eq-Decides name (get_or settings.devices k d).name).1 (sym same) in
    both_ways _ (fails_before_first test settings.devices k d (omega (arith, within, all))) found

pub as_many : (old new : List PrinterEntry) → names new ≡ names old → length new ≡ length old
as_many old new same = sym (length-map new (λ (p : PrinterEntry). p.name)) ∙ ap length same ∙ length-map old (λ (p : PrinterEntry). p.name)

-- printers have different names where others of the same names have
as_named : (old new : List PrinterEntry) → names new ≡ names old → AllPairs (λ a b. a.name ≢ b.name) old → AllPairs (λ a b. a.name ≢ b.name) new
as_named old new same differ i j d below within equal =
    let name = λ (p : PrinterEntry). p.name in
    let long = as_many old new same in
    let at : (k : ℕ) → k < length new → (get_or new k d).name ≡ (get_or old k d).name = λ k lt. sym (get_or-map name new k d d.name lt) ∙ ap (λ l. get_or l k d.name) same ∙ get_or-map name old k d d.name (omega (arith, lt, long)) in
    differ i j d below (omega (arith, within, long)) (sym (at i (omega (arith, below, within))) ∙ equal ∙ at j within)

pub extended_is : (old : ServerSettings) (device : DeviceEntry) (printers : List PrinterEntry) → MeetsLimits old → IsDeviceEntry device → length old.devices < DEVICES → device_named old device.name ≡ None
    → names printers ≡ names old.printers → All (IsPrinterEntry (length old.devices + 1)) printers
    → MeetsLimits (record old { devices = old.devices ++ device ∷ []; printers = printers })
extended_is old device printers is entry few new same each =
    let long : length (old.devices ++ device ∷ []) ≡ length old.devices + 1 = length-append old.devices (device ∷ []) in
    let count = as_many old.printers printers same in
    record {
      uri_base = is.uri_base;
      few_operators = is.few_operators;
      some_device = omega (arith, long);
      few_devices = omega (arith, long, few);
      each_device = All-push IsDeviceEntry old.devices device is.each_device entry;
      device_names_differ = all_pairs_push (λ (a : DeviceEntry) (b : DeviceEntry). a.name ≢ b.name) old.devices device is.device_names_differ (differs old device.name new);
      some_printer = omega (arith, count, is.some_printer);
      few_printers = omega (arith, count, is.few_printers);
      each_printer = subst (λ n. All (IsPrinterEntry n) printers) (sym long) each;
      printer_names_differ = as_named old.printers printers same is.printer_names_differ;
    }

-- printers of some devices are printers of one more
pub still_entries : (count : ℕ) (printers : List PrinterEntry) → All (IsPrinterEntry count) printers → All (IsPrinterEntry (count + 1)) printers
still_entries count printers each k d b =
    let is = each k d b in
    record { name = is.name; few_devices = is.few_devices; each_device = λ i e lt. omega (arith, is.each_device i e lt); media_default = is.media_default; format_default = is.format_default }

-- a printer in place of one of the same name
pub names_stay : (printers : List PrinterEntry) (made d : PrinterEntry) (i : ℕ) → made.name ≡ (get_or printers i d).name → names (set printers i made) ≡ names printers
names_stay printers made d i named =
    let name = λ (p : PrinterEntry). p.name in
    map-set name printers i made ∙ ap (set (names printers) i) named ∙ sym (map-set name printers i (get_or printers i d)) ∙ ap names (set-get_or printers i d)
