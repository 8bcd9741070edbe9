-- The formats of documents, and their equality (RFC 8011, section 5.1.10).
use Rattle.std.specs.Prelude.{ℕ, Bool, List}
use Rattle.std.specs.Str.{str_eq_ignore_ascii_case}
use Rattle.text.specs.Trimmed.{without_parameters}

-- the formats are equal without their parameters and without regard to the case of ASCII letters
unfoldable pub is_same_format : List ℕ → List ℕ → Bool
is_same_format asked known = str_eq_ignore_ascii_case (without_parameters asked) (without_parameters known)
