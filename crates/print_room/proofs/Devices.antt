-- A write of one device.
use Rattle.std.proofs.Common.{◌≡◌, ℕ, zero, suc, ◌<◌, ◌≤◌, List, Some, None, [], ◌∷◌, length, map, refl, ap, arith, get_or, set, All}
use Rattle.std.proofs.lemmas.List.Elements.{All-cons, All-head, All-tail, All-weaker}
use Rattle.base_types.specs.declared.device.Activity.{Activity}
use Rattle.base_types.specs.declared.device.Activity.TheVariants.{Running, Stopped}
use Rattle.base_types.specs.Device.{Device}
use Rattle.settings_file.specs.Settings.{DeviceEntry}
use Rattle.print_room.specs.Opening.{opening_device}
use Rattle.print_room.specs.Activity.{KeepsTime}
use Rattle.print_room.specs.State.{with_device}

pub set_one : (change : Device → Device) (devices : List Device) (place : ℕ) (d : Device) → place < length devices → set devices place (change (get_or devices place d)) ≡ with_device place change devices
set_one change [] place d inside = absurd (omega arith)
set_one change (device ∷ devices) zero d inside = refl
set_one change (device ∷ devices) (suc place) d inside = ap (λ (ds : List Device). device ∷ ds) (set_one change devices place d (omega arith))

pub length_opening : (entries : List DeviceEntry) → length (map opening_device entries) ≡ length entries
length_opening [] = refl
length_opening (entry ∷ entries) = ap suc (length_opening entries)

-- a property of each device holds after a change of one device
pub all_with : (P : Device → Type 0) (place : ℕ) (change : Device → Device) → ((d : Device) → P d → P (change d)) → (devices : List Device) → All P devices → All P (with_device place change devices)
all_with P place change keeps [] all = all
all_with P zero change keeps (d ∷ ds) all = All-cons P (change d) ds (keeps d (All-head P d ds all)) (All-tail P d ds all)
all_with P (suc place) change keeps (d ∷ ds) all = All-cons P d (with_device place change ds) (All-head P d ds all) (all_with P place change keeps ds (All-tail P d ds all))

pub length_with : (place : ℕ) (change : Device → Device) (devices : List Device) → length (with_device place change devices) ≡ length devices
length_with place change [] = refl
length_with zero change (device ∷ devices) = refl
length_with (suc place) change (device ∷ devices) = ap suc (length_with place change devices)

keeps_later : (last now : ℕ) (activity : Activity) → last ≤ now → KeepsTime last activity → KeepsTime now activity
keeps_later last now (Running (Some printing)) later keeps = omega (arith, later, keeps)
keeps_later last now (Running None) later keeps = tt
keeps_later last now (Stopped (Some interrupted)) later keeps = keeps
keeps_later last now (Stopped None) later keeps = tt

-- each device's job takes no longer at a later moment
pub all_keep_later : (last now : ℕ) (devices : List Device) → last ≤ now → All (λ d. KeepsTime last d.activity) devices → All (λ d. KeepsTime now d.activity) devices
all_keep_later last now devices later all = All-weaker (λ (d : Device). KeepsTime last d.activity) (λ (d : Device). KeepsTime now d.activity) (λ d keeps. keeps_later last now d.activity later keeps) devices all

-- a device that is changed twice
pub twice_changed : (place : ℕ) (first next : Device → Device) (devices : List Device) → with_device place next (with_device place first devices) ≡ with_device place (λ d. next (first d)) devices
twice_changed place first next [] = refl
twice_changed zero first next (device ∷ devices) = refl
twice_changed (suc place) first next (device ∷ devices) = ap (λ (ds : List Device). device ∷ ds) (twice_changed place first next devices)
