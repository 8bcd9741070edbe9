-- The time and the bytes for which a connection that was given up is still read.
use Rattle.std.specs.Prelude.{ℕ, Bool, ◌-◌, ◌||◌, ◌==◌, nat_le}

pub record LingerLimitRecord : Type 0 where
  -- the moment at which the connection was given up
  pub from : ℕ
  -- the number of bytes that may still come
  pub bytes : ℕ

-- the connection is to be closed: after 2 s or 1 MiB
abbrev pub is_used_up : ℕ → LingerLimitRecord → Bool
is_used_up moment a = (a.bytes == 0) || nat_le 2000 (moment - a.from)
