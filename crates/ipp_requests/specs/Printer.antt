-- The state of a printer in its reply (RFC 8011, sections 5.4.11 and 5.4.12).
use Rattle.std.specs.Prelude.{ℕ, ◌-◌, ◌==◌, ◌||◌, Bool, true, false, if◌then◌else◌, List, [], ◌∷◌, length, take, drop, Option, Some, codes, ℤ, pos}
use Rattle.std.specs.List.{list_any}
use Rattle.std.specs.Option.{option_map_or}
use Rattle.std.specs.Int.{w32, from_be_bytes}
use Rattle.std.specs.Str.{bytes_eq}
use Rattle.ipp_codec.specs.Message.{IppAttribute, IppMessage, bytes_in}
use Rattle.ipp_codec.specs.Tag.{printer_attributes}
use Rattle.ipp_requests.specs.Reply.{first_in, number_in}

-- the reason needs a person at the printer
unfoldable pub is_stop_reason : List ℕ → Bool
is_stop_reason reason =
    bytes_eq reason (codes "media-empty")
    || bytes_eq reason (codes "media-needed")
    || bytes_eq reason (codes "media-jam")
    || bytes_eq reason (codes "door-open")
    || bytes_eq reason (codes "cover-open")
    || bytes_eq reason (codes "marker-supply-empty")
    || bytes_eq reason (codes "toner-empty")
    || bytes_eq reason (codes "offline")
    || bytes_eq reason (codes "paused")

unfoldable pub without_error : List ℕ → List ℕ
without_error reason = if bytes_eq (drop (length reason - 6) reason) (codes "-error") then take (length reason - 6) reason else reason

-- a reason without a suffix is an error; a warning or a report doesn't stop the printer
abbrev pub stops_by : List ℕ → Bool
stops_by reason = is_stop_reason (without_error reason)

abbrev pub has_stop_reason : IppAttribute → Bool
has_stop_reason reasons = list_any (λ reason. stops_by (bytes_in reason)) (reasons.first ∷ reasons.others)

abbrev pub is_state_stopped : Option ℤ → Bool
is_state_stopped (Some (pos number)) = number == 5
is_state_stopped state = false

abbrev pub is_stopped : IppMessage → Bool
is_stopped reply =
    if is_state_stopped (number_in printer_attributes (codes "printer-state") reply) then true
    else option_map_or has_stop_reason (first_in printer_attributes (codes "printer-state-reasons") reply) false

abbrev pub upper_of : List ℕ → ℕ
upper_of (a ∷ b ∷ c ∷ d ∷ first ∷ second ∷ third ∷ fourth ∷ []) = from_be_bytes w32 (first ∷ second ∷ third ∷ fourth ∷ [])
upper_of range = 1

abbrev pub copies_up_to : IppMessage → ℕ
copies_up_to reply = option_map_or (λ range. upper_of (bytes_in range.first)) (first_in printer_attributes (codes "copies-supported") reply) 1
