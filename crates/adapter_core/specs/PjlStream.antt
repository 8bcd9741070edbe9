-- The statuses in a printer's PJL stream, byte by byte: messages, each up to a form feed.
use Rattle.std.specs.Prelude.{ℕ, ◌≡◌, ◌==◌, ◌||◌, nat_le, Bool, true, false, if◌then◌else◌, List, [], ◌∷◌, ◌++◌, length, Option, Some, None}
use Rattle.adapter_core.specs.declared.pjl_status.PjlStatus.{PjlStatus}
use Rattle.adapter_core.specs.PjlMessage.{status_in}

-- the place in a stream: the bytes of a message so far, or that the message is too long
pub record PjlPlace : Type 0 where
  pub message : List ℕ
  pub skips : Bool

abbrev pub start : PjlPlace
start = record { message = []; skips = false }

-- a message of more than 4,096 bytes is skipped
abbrev pub grown : PjlPlace → ℕ → PjlPlace
grown place byte =
    if place.skips || nat_le 4096 (length place.message) then record { message = []; skips = true }
    else record { message = place.message ++ byte ∷ []; skips = false }

abbrev pub place_after : PjlPlace → ℕ → PjlPlace
place_after place byte = if byte == 12 then start else grown place byte

abbrev pub message_status : PjlPlace → Option PjlStatus
message_status place = if place.skips then None else Some (status_in place.message)

-- the status that ends with a byte
abbrev pub status_at : PjlPlace → ℕ → Option PjlStatus
status_at place byte = if byte == 12 then message_status place else None

abbrev pub with_first : Option PjlStatus → List PjlStatus → List PjlStatus
with_first None later = later
with_first (Some status) later = status ∷ later

-- the statuses of bytes from a place on
abbrev pub statuses : PjlPlace → List ℕ → List PjlStatus
statuses place [] = []
statuses place (byte ∷ bytes) = with_first (status_at place byte) (statuses (place_after place byte) bytes)

abbrev pub place_later : PjlPlace → List ℕ → PjlPlace
place_later place [] = place
place_later place (byte ∷ bytes) = place_later (place_after place byte) bytes

abbrev pub SegmentationKeepsStatuses : Type 0
SegmentationKeepsStatuses = (place : PjlPlace) (bytes more : List ℕ) → statuses place (bytes ++ more) ≡ statuses place bytes ++ statuses (place_later place bytes) more
