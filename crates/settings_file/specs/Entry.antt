-- The entries of a table of the settings, each by its key, or the fault there.
use Rattle.std.specs.Prelude.{ℕ, ℤ, pos, negsuc, List, [], ◌∷◌, ◌++◌, Bool, true, ◌&&◌, ◌||◌, if◌then◌else◌, nat_le, Option, Some, None, option_map, option_and_then, Result, Ok, Err, length, codes}
use Rattle.std.specs.List.{list_all, list_any}
use Rattle.std.specs.Str.{bytes_eq}
use Rattle.toml.specs.Data.{Data, Members, no_members, member, Items, no_items, item, get_member, as_integer, as_str, as_array, as_table}
use Rattle.base_types.specs.declared.limits.TheConstants.Limits.{LIST_ENTRIES, DEVICES}
use Rattle.settings_file.specs.declared.key.Key.{Key}
use Rattle.settings_file.specs.declared.key.Key.TheVariants.{UriBase, Name, Media, Formats, Finishings, Devices, MediaDefault, FormatDefault}
use Rattle.text.specs.Steps.{◌>>=◌}
use Rattle.base_types.specs.Forms.{is_name, is_media, is_format, is_uri_base}
use Rattle.settings_file.specs.Fault.{Fault, missing, wrong_kind, out_of_range, unknown, twice, key_name}

-- the value at a key
abbrev pub value_at : Key → Members → Option Data
value_at key table = get_member (key_name key) table

-- the value of a key that must be there
abbrev pub required : {A : Type 0} → Key → Option A → Result A Fault
required key None = Err (missing key)
required key (Some a) = Ok a

-- a whole number in a range
abbrev pub number_in : Key → ℕ → ℕ → Option ℤ → Result ℕ Fault
number_in key low high None = Err (wrong_kind key)
number_in key low high (Some (pos n)) = if nat_le low n && nat_le n high then Ok n else Err (out_of_range key)
number_in key low high (Some (negsuc n)) = Err (out_of_range key)

abbrev pub number_of : Key → ℕ → ℕ → Option Data → Result (Option ℕ) Fault
number_of key low high None = Ok None
number_of key low high (Some value) = number_in key low high (as_integer value) >>= (λ n. Ok (Some n))

-- the whole number of a key that may be missing
abbrev pub optional_number : Key → ℕ → ℕ → Members → Result (Option ℕ) Fault
optional_number key low high table = number_of key low high (value_at key table)

-- the whole number of a key that must be there
abbrev pub number : Key → ℕ → ℕ → Members → Result ℕ Fault
number key low high table = optional_number key low high table >>= required key

-- whether the text names a finishing
abbrev pub is_finishing : List ℕ → Bool
is_finishing bytes = (bytes_eq bytes (codes "staple") || bytes_eq bytes (codes "punch")) || bytes_eq bytes (codes "bind")

-- whether the key takes the text; an operator, and a device of a printer, may be any text
abbrev pub takes : Key → List ℕ → Bool
takes UriBase bytes = is_uri_base bytes
takes Name bytes = is_name bytes
takes Media bytes = is_media bytes
takes MediaDefault bytes = is_media bytes
takes Formats bytes = is_format bytes
takes Finishings bytes = is_finishing bytes
takes FormatDefault bytes = is_format bytes
takes _ bytes = true

abbrev pub text_in : Key → Option (List ℕ) → Result (List ℕ) Fault
text_in key None = Err (wrong_kind key)
text_in key (Some bytes) = if takes key bytes then Ok bytes else Err (out_of_range key)

abbrev pub text_of : Key → Option Data → Result (List ℕ) Fault
text_of key None = Err (missing key)
text_of key (Some value) = text_in key (as_str value)

-- the text of a key
abbrev pub text : Key → Members → Result (List ℕ) Fault
text key table = text_of key (value_at key table)

abbrev pub first_then : {A : Type 0} → Option A → Option (List A) → Option (List A)
first_then None rest = None
first_then (Some first) rest = option_map (λ others. first ∷ others) rest

-- the texts of an array, if it has only texts
abbrev pub item_texts : Items → Option (List (List ℕ))
item_texts no_items = Some []
item_texts (item d ds) = first_then (as_str d) (item_texts ds)

-- the tables of an array, if it has only tables
abbrev pub item_tables : Items → Option (List Members)
item_tables no_items = Some []
item_tables (item d ds) = first_then (as_table d) (item_tables ds)

-- whether the text is among those found
unfoldable pub is_among : List (List ℕ) → List ℕ → Bool
is_among found t = list_any (λ f. bytes_eq f t) found

-- the texts that aren't among those found, each once
abbrev pub new_texts : List (List ℕ) → List (List ℕ) → List (List ℕ)
new_texts found [] = []
new_texts found (t ∷ ts) = if is_among found t then new_texts found ts else (t ∷ new_texts (found ++ t ∷ []) ts)

-- the most entries of a list: a printer may have all devices, other lists are shorter
abbrev pub most_entries : Key → ℕ
most_entries Devices = DEVICES
most_entries _ = LIST_ENTRIES

-- a list of texts that the key takes, each once
abbrev pub list_in : Key → Option (List (List ℕ)) → Result (List (List ℕ)) Fault
list_in key None = Err (wrong_kind key)
list_in key (Some texts) =
    let entries = new_texts [] texts in
    if nat_le (length entries) (most_entries key) && list_all (takes key) entries then Ok entries else Err (out_of_range key)

abbrev pub list_of : Key → Option Data → Result (Option (List (List ℕ))) Fault
list_of key None = Ok None
list_of key (Some value) = list_in key (option_and_then item_texts (as_array value)) >>= (λ entries. Ok (Some entries))

-- the list of texts of a key that may be missing
abbrev pub optional_list : Key → Members → Result (Option (List (List ℕ))) Fault
optional_list key table = list_of key (value_at key table)

-- the list of texts of a key that must be there
abbrev pub list : Key → Members → Result (List (List ℕ)) Fault
list key table = optional_list key table >>= required key

-- the tables, if they are 1 to `most`
abbrev pub tables_in : Key → ℕ → Option (List Members) → Result (List Members) Fault
tables_in key most None = Err (wrong_kind key)
tables_in key most (Some ts) = if nat_le 1 (length ts) && nat_le (length ts) most then Ok ts else Err (out_of_range key)

abbrev pub tables_of : Key → ℕ → Option Data → Result (List Members) Fault
tables_of key most None = Err (missing key)
tables_of key most (Some value) = tables_in key most (option_and_then item_tables (as_array value))

-- the tables of a key
abbrev pub tables : Key → ℕ → Members → Result (List Members) Fault
tables key most table = tables_of key most (value_at key table)

-- whether the key is one of these
unfoldable pub is_one_of : List Key → List ℕ → Bool
is_one_of keys k = list_any (λ key. bytes_eq (key_name key) k) keys

-- the first key of the table, by bytes, that isn't one of these
abbrev pub other_key : List Key → Members → Option (List ℕ)
other_key keys no_members = None
other_key keys (member k d ms) = if is_one_of keys k then other_key keys ms else Some k

-- an unknown key is a fault
abbrev pub unless_unknown : {A : Type 0} → Option (List ℕ) → Result A Fault → Result A Fault
unless_unknown None rest = rest
unless_unknown (Some key) rest = Err (unknown key)

-- a name that an earlier table has is a fault
abbrev pub unless_twice : {A : Type 0} → Bool → List ℕ → Result A Fault → Result A Fault
unless_twice is_taken name rest = if is_taken then Err (twice name) else rest
