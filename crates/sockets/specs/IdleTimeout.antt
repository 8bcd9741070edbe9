-- The time for which a silent peer is awaited.
use Rattle.std.specs.Prelude.{ℕ, Bool, Option, None, Some, ◌+◌, ◌-◌, ◌==◌, ◌||◌, ◌&&◌, nat_le, nat_lt, if◌then◌else◌}

pub record IdleTimeoutRecord : Type 0 where
  -- the moment from which the peer's time counts
  pub from : ℕ
  -- the number of bytes that came from the peer in that time
  pub came : ℕ
  -- whether the peer is a device
  pub device : Bool
  -- whether a byte of the peer came
  pub spoke : Bool

-- `count` bytes come: the time begins anew with the first of 4,096 bytes, and after the last
abbrev pub after_coming : ℕ → ℕ → IdleTimeoutRecord → IdleTimeoutRecord
after_coming count moment p =
    if nat_le 4096 (p.came + count) then record { from = moment; came = 0; device = p.device; spoke = (p.spoke || nat_lt 0 count) }
    else (if p.came == 0 then record { from = moment; came = count; device = p.device; spoke = (p.spoke || nat_lt 0 count) }
    else record { from = p.from; came = p.came + count; device = p.device; spoke = (p.spoke || nat_lt 0 count) })

-- the ms that a peer has left of its 60,000; none are counted for a device from which a byte came
abbrev pub left_at : ℕ → IdleTimeoutRecord → Option ℕ
left_at moment p = if p.device && p.spoke then None else Some (60000 - (moment - p.from))
