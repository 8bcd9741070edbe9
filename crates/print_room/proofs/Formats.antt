-- The document formats of printers: a change of a device that keeps its formats keeps theirs.
use Rattle.std.proofs.Common.{◌≡◌, ℕ, zero, suc, List, [], ◌∷◌, ◌++◌, map, refl, ap, Some, None}
use Rattle.std.specs.Prelude.{slice_get}
use Rattle.std.specs.List.{flat_map}
use Rattle.std.specs.Option.{option_map_or}
use Rattle.base_types.specs.Device.{Device}
use Rattle.settings_file.specs.Settings.{PrinterEntry}
use Rattle.printer_objects.specs.Together.{distinct}
use Rattle.printer_objects.specs.Offer.{formats_of}
use Rattle.print_room.specs.State.{formats_by, with_device}

-- a list of the device at a place
same_at : (list : Device → List (List ℕ)) (change : Device → Device) → ((d : Device) → list (change d) ≡ list d) → (changed place : ℕ) (devices : List Device) → option_map_or list (slice_get (with_device changed change devices) place) [] ≡ option_map_or list (slice_get devices place) []
same_at list change keeps changed place [] = refl
same_at list change keeps zero zero (device ∷ devices) = keeps device
same_at list change keeps zero (suc place) (device ∷ devices) = refl
same_at list change keeps (suc changed) zero (device ∷ devices) = refl
same_at list change keeps (suc changed) (suc place) (device ∷ devices) = same_at list change keeps changed place devices

-- the lists of the devices at these places
same_of : (list : Device → List (List ℕ)) (change : Device → Device) → ((d : Device) → list (change d) ≡ list d) → (changed : ℕ) (devices : List Device) (places : List ℕ) → flat_map (λ place. option_map_or list (slice_get (with_device changed change devices) place) []) places ≡ flat_map (λ place. option_map_or list (slice_get devices place) []) places
same_of list change keeps changed devices [] = refl
same_of list change keeps changed devices (place ∷ places) = rw (same_at list change keeps changed place devices, same_of list change keeps changed devices places) refl

-- the formats of each printer
pub same_formats : (change : Device → Device) → ((d : Device) → (change d).formats ≡ d.formats) → (changed : ℕ) (devices : List Device) (printers : List PrinterEntry) → formats_by (with_device changed change devices) printers ≡ formats_by devices printers
unfolding formats_of
same_formats change keeps changed devices [] = refl
same_formats change keeps changed devices (printer ∷ printers) =
    let here : formats_of (record { devices = with_device changed change devices; printer = printer }) ≡ formats_of (record { devices = devices; printer = printer }) = ap (λ (listed : List (List ℕ)). distinct (listed ++ printer.format_default ∷ [])) (same_of (λ d. d.formats) change keeps changed devices printer.devices) in
    rw (here, same_formats change keeps changed devices printers) refl

-- the row of a printer
pub row_of : {Row : Type 0} → (items : Row → List (List ℕ)) (devices : List Device) (printers : List PrinterEntry) (rows : List Row) (place : ℕ) (row : Row) (printer : PrinterEntry) → map items rows ≡ formats_by devices printers → slice_get rows place ≡ Some row → slice_get printers place ≡ Some printer → items row ≡ formats_of (record { devices = devices; printer = printer })
row_of items devices [] rows place row printer are there entry = absurd cc
row_of items devices (p ∷ printers) [] place row printer are there entry = absurd cc
row_of items devices (p ∷ printers) (r ∷ rows) zero row printer are there entry = cc
row_of items devices (p ∷ printers) (r ∷ rows) (suc place) row printer are there entry = row_of items devices printers rows place row printer (cc are) there entry

-- each printer has a row
pub has_row : {Row : Type 0} → (items : Row → List (List ℕ)) (devices : List Device) (printers : List PrinterEntry) (rows : List Row) (place : ℕ) (printer : PrinterEntry) → map items rows ≡ formats_by devices printers → slice_get rows place ≡ None → slice_get printers place ≡ Some printer → ⊥
has_row items devices [] rows place printer are none entry = cc
has_row items devices (p ∷ printers) [] place printer are none entry = cc
has_row items devices (p ∷ printers) (r ∷ rows) zero printer are none entry = cc
has_row items devices (p ∷ printers) (r ∷ rows) (suc place) printer are none entry = has_row items devices printers rows place printer (cc are) none entry
