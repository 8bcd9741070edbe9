-- The port of a URI (RFC 3986, section 3.2), 631 where it names none (RFC 3510, section 3.2).
use Rattle.std.specs.Prelude.{ℕ, ◌==◌, if◌then◌else◌, List, [], ◌∷◌, length, take, drop, position, Option, Some, None, unwrap_or, codes}
use Rattle.std.specs.List.{before_first}
use Rattle.std.specs.Option.{option_map_or, option_and_then, option_or}
use Rattle.std.specs.Str.{bytes_eq}
use Rattle.text.specs.Digits.{number_up_to}

-- the octets after a prefix of a text; `None` where the text has another prefix
abbrev pub tail : List ℕ → List ℕ → Option (List ℕ)
tail prefix text = if bytes_eq (take (length prefix) text) prefix then Some (drop (length prefix) text) else None

-- the octets after the scheme and `://`; the scheme ends at the first colon
abbrev pub after_scheme : List ℕ → Option (List ℕ)
after_scheme uri = option_and_then (λ colon. tail (codes "://") (drop colon uri)) (position (λ byte. byte == 58) uri)

-- the authority: the host with its port, up to the first `/`
abbrev pub authority_of : List ℕ → List ℕ
authority_of uri = option_map_or (before_first (λ byte. byte == 47)) (after_scheme uri) []

-- the octets after the last colon, if there is a colon
abbrev pub after_colon : List ℕ → Option (List ℕ)
after_colon [] = None
after_colon (byte ∷ bytes) = option_or (after_colon bytes) (if byte == 58 then Some bytes else None)

-- the port of an authority, if the authority has a valid port
abbrev pub port_named : List ℕ → Option ℕ
port_named authority = option_and_then (number_up_to 65535) (after_colon authority)

-- the port of IPP clients
abbrev pub ipp_port : List ℕ → ℕ
ipp_port uri = unwrap_or (port_named (authority_of uri)) 631
