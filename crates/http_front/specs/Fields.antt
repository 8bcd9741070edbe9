-- The fields of a head, each a name and a value without the blanks around it. Names are compared without regard to the case of ASCII letters (RFC 9110, section 5.1).
use Rattle.std.specs.Prelude.{ℕ, ◌&&◌, ◌||◌, not, Bool, List, Option, option_map, count_by, find}
use Rattle.std.specs.List.{list_any, list_all}
use Rattle.std.specs.Str.{bytes_eq}
use Rattle.http_front.specs.Words.{is_word, lists_word}

abbrev pub Fields : Type 0
Fields = List (List ℕ × List ℕ)

-- the number of fields of a name
abbrev pub count_of : List ℕ → Fields → ℕ
count_of name fields = count_by (λ field. is_word field.0 name) fields

-- the value of the first field of a name
abbrev pub first_of : List ℕ → Fields → Option (List ℕ)
first_of name fields = option_map (λ field. field.1) (find (λ field. is_word field.0 name) fields)

-- whether all fields of a name have this value
abbrev pub all_have : List ℕ → List ℕ → Fields → Bool
all_have name value fields = list_all (λ field. not (is_word field.0 name) || bytes_eq field.1 value) fields

-- whether a field of a name lists a word
abbrev pub any_lists : List ℕ → List ℕ → Fields → Bool
any_lists name word fields = list_any (λ field. is_word field.0 name && lists_word word field.1) fields
