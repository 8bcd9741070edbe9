-- Peers as plain data.
use Rattle.std.specs.Prelude.{ℕ, Bool, Option}
use Rattle.http_front.specs.Stream.{HttpState}
use Rattle.lpd.specs.Stream.{LpdState}
use Rattle.lpd.specs.Session.{SessionState}
use Rattle.device_link.specs.Stream.{LinkState}
use Rattle.ipp_operations.specs.Reader.{ReaderState}

pub record IppClientState : Type 0 where
  pub reader : HttpState
  -- whether the connection closes after the reply to the current request
  pub closes : Bool
  pub body : ReaderState
  -- whether the body was fed bytes that no step has reported yet
  pub unreported : Bool

pub record LpdClientState : Type 0 where
  pub reader : LpdState
  -- the files of a queue, while jobs are received
  pub session : Option SessionState

pub record DeviceState : Type 0 where
  pub reader : LinkState
  -- the device that gave its name
  pub device : Option ℕ
