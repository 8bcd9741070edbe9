-- The entries of several devices, each once.
use Rattle.std.specs.Prelude.{ℕ, Bool, if◌then◌else◌, List, [], ◌∷◌, ◌++◌, map}
use Rattle.std.specs.List.{fold, list_any}
use Rattle.std.specs.Str.{bytes_eq}
use Rattle.base_types.specs.Device.{Device, loaded_media}
use Rattle.printer_objects.specs.declared.together.Listed.{Listed}
use Rattle.printer_objects.specs.declared.together.Listed.TheVariants.{Formats, Media, LoadedMedia}

-- the entries of a device
abbrev pub listed_by : Listed → Device → List (List ℕ)
listed_by Formats device = device.formats
listed_by Media device = map (λ m. m.name) device.media
listed_by LoadedMedia device = loaded_media device

abbrev pub is_among : List (List ℕ) → List ℕ → Bool
is_among found entry = list_any (λ other. bytes_eq other entry) found

-- the entry after those found, unless it is among them
abbrev pub with_entry : List (List ℕ) → List ℕ → List (List ℕ)
with_entry found entry = if is_among found entry then found else found ++ entry ∷ []

-- the entries after those found, one after the other
abbrev pub with_entries : List (List ℕ) → List (List ℕ) → List (List ℕ)
with_entries found entries = fold with_entry found entries

-- each entry once, at its first place
abbrev pub distinct : List (List ℕ) → List (List ℕ)
distinct entries = with_entries [] entries
