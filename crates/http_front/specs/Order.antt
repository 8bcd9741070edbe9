-- The order in a stream: exchange by exchange, each with its head, the invitation where it is due, the body and its end. A refusal is the last, and so is an exchange that closes the connection or whose body is too short.
use Rattle.std.specs.Prelude.{ℕ, ◌≡◌, ◌+◌, Bool, true, false, if◌then◌else◌, List, [], ◌∷◌}
use Rattle.http_front.specs.Stream.{HttpElement, HasHead, Invites, HasByte, EndsBody, IsRefused, Exchanges, is_last}

-- the place between exchanges; after a head; or after an invitation or this many bytes of the body. The head states whether the exchange closes the connection
pub data Place : Type 0 where
  Between : Place
  Headed : (closes : Bool) → Place
  Within : (closes : Bool) (count : ℕ) → Place

abbrev pub is_none : List HttpElement → Bool
is_none [] = true
is_none (parsed ∷ later) = false

abbrev pub in_order : Place → List HttpElement → Bool
in_order place [] = true
in_order Between (HasHead closes ∷ later) = in_order (Headed closes) later
in_order (Headed closes) (Invites ∷ later) = in_order (Within closes 0) later
in_order (Headed closes) (HasByte byte ∷ later) = in_order (Within closes 1) later
in_order (Headed closes) (EndsBody ∷ later) = if is_last closes 0 then is_none later else in_order Between later
in_order (Within closes count) (HasByte byte ∷ later) = in_order (Within closes (count + 1)) later
in_order (Within closes count) (EndsBody ∷ later) = if is_last closes count then is_none later else in_order Between later
in_order place (IsRefused refusal ∷ later) = is_none later
in_order place (parsed ∷ later) = false

-- each stream contains its exchanges in this order
abbrev pub ElementsInOrder : Type 0
ElementsInOrder = (stream : List ℕ) (parsed : List HttpElement) → Exchanges stream parsed → in_order Between parsed ≡ true
