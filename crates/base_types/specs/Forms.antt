-- The forms of names: of devices and printers, of media, of document formats, and the base of URIs.
use Rattle.std.specs.Prelude.{ℕ, ◌≤◌, List, Bool, ◌&&◌, ◌||◌, ◌==◌, nat_le, not, length, if◌then◌else◌, false}
use Rattle.std.specs.List.{list_all, AllPass}
use Rattle.std.specs.Char.{is_ascii_alphanumeric, is_ascii_lowercase, is_ascii_uppercase, is_ascii_digit, is_ascii_graphic}
use Rattle.base_types.specs.declared.limits.TheConstants.Limits.{NAME_BYTES, MEDIA_BYTES, FORMAT_BYTES, URI_BASE_BYTES}

-- the text has 1 to `most` bytes
abbrev pub has_length : ℕ → List ℕ → Bool
has_length most text = nat_le 1 (length text) && nat_le (length text) most

-- a letter, a digit, `_` or `-`
abbrev pub is_name_byte : ℕ → Bool
is_name_byte byte = (is_ascii_alphanumeric byte || (byte == 95)) || (byte == 45)

-- a small letter, a digit, `.`, `_` or `-`
abbrev pub is_media_byte : ℕ → Bool
is_media_byte byte = (((is_ascii_lowercase byte || is_ascii_digit byte) || (byte == 46)) || (byte == 95)) || (byte == 45)

-- a byte that prints and is no space, comma or capital letter
abbrev pub is_format_byte : ℕ → Bool
is_format_byte byte = (is_ascii_graphic byte && not (byte == 44)) && not (is_ascii_uppercase byte)

-- the name of a device or a printer
unfoldable pub is_name : List ℕ → Bool
is_name text = if has_length NAME_BYTES text then list_all is_name_byte text else false

-- the name of a medium
unfoldable pub is_media : List ℕ → Bool
is_media text = if has_length MEDIA_BYTES text then list_all is_media_byte text else false

-- a document format
unfoldable pub is_format : List ℕ → Bool
is_format text = if has_length FORMAT_BYTES text then list_all is_format_byte text else false

-- the base of the server's URIs: bytes that print, and no space
unfoldable pub is_uri_base : List ℕ → Bool
is_uri_base text = if has_length URI_BASE_BYTES text then list_all is_ascii_graphic text else false

-- the text has 1 to `most` bytes, and each passes the test
pub record HasForm (passes : ℕ → Bool) (most : ℕ) (text : List ℕ) : Type 0 where
  pub some : 1 ≤ length text
  pub few : length text ≤ most
  pub each : AllPass passes text

-- the propositions of the four tests
abbrev pub IsName : List ℕ → Type 0
IsName text = HasForm is_name_byte NAME_BYTES text

abbrev pub IsMedia : List ℕ → Type 0
IsMedia text = HasForm is_media_byte MEDIA_BYTES text

abbrev pub IsFormat : List ℕ → Type 0
IsFormat text = HasForm is_format_byte FORMAT_BYTES text

abbrev pub IsUriBase : List ℕ → Type 0
IsUriBase text = HasForm is_ascii_graphic URI_BASE_BYTES text
