-- The state of a peer of a wire in memory: the bytes that it sends, and those that it has got.
use Rattle.std.specs.Prelude.{ℕ, Bool, List}
use Rattle.wires.specs.declared.wire.Door.{Door}

pub record PeerState : Type 0 where
  pub door : Door
  pub accepted : Bool
  pub closed : Bool
  pub input : List ℕ
  pub segment : ℕ
  pub ended : Bool
  pub taken : List ℕ
  pub most : ℕ
