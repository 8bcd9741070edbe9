-- A connection since it was accepted, as whole lists: all bytes that were read, the part of them that was acted on, all bytes that were due and all bytes that were taken. The lists aren't stored.
use Rattle.std.specs.Prelude.{ℕ, nat_lt, Bool, true, false, List, [], ◌++◌, length, drop, Option, None}
use Rattle.base_types.specs.Report.{ReportRecord}
use Rattle.http_front.specs.Stream.{HttpElement}
use Rattle.lpd.specs.Items.{ItemRecord}
use Rattle.lpd.specs.Session.{SessionState}
use Rattle.connections.specs.declared.queue.TheConstants.{RESERVED_BYTES}
use Rattle.wires.specs.declared.wire.Door.{Door}
use Rattle.wires.specs.declared.wire.Door.TheVariants.{Ipp, Lpd, Devices}

-- the part of a connection's bytes that was acted on, and the state that the server keeps for the rest
pub data PeerRecord : Type 0 where
  -- the items; whether the connection closes after the reply to the current request; the current request's body so far
  Http : (parsed : List HttpElement) (closes : Bool) (body : List ℕ) → PeerRecord
  -- the items, and the files of a queue while jobs are received
  Queue : (items : List ItemRecord) (session : Option SessionState) → PeerRecord
  -- the reports, and the device that gave its name
  Link : (reports : List ReportRecord) (device : Option ℕ) → PeerRecord

abbrev pub opening_peer : Door → PeerRecord
opening_peer Ipp = Http [] false []
opening_peer Lpd = Queue [] None
opening_peer Devices = Link [] None

abbrev pub device_of : PeerRecord → Option ℕ
device_of (Http parsed closes body) = None
device_of (Queue items session) = None
device_of (Link reports device) = device

-- whether the connection closes after the reply to the request that came last
abbrev pub closes_of : PeerRecord → Bool
closes_of (Http parsed closes body) = closes
closes_of (Queue items session) = false
closes_of (Link reports device) = false

-- a connection since it was accepted
pub record Entry : Type 0 where
  -- the number of the connection at the wire
  pub id : ℕ
  -- all bytes that were read and weren't discarded
  pub read : List ℕ
  pub progress : PeerRecord
  -- the input of the connection has ended
  pub ended : Bool
  -- bytes that are read from now on are discarded; the connection closes once all due bytes were taken
  pub draining : Bool
  -- the connection is to be closed as by a fault: nothing becomes due on it any more
  pub broken : Bool
  pub taken : List ℕ
  pub due : List ℕ

abbrev pub opening_entry : Door → ℕ → Entry
opening_entry door id = record { id = id; read = []; progress = opening_peer door; ended = false; draining = false; broken = false; taken = []; due = [] }

-- the bytes that are due and weren't taken
abbrev pub waiting : Entry → List ℕ
waiting e = drop (length e.taken) e.due

-- ---- changes

-- items were acted on
abbrev pub with_progress : PeerRecord → Entry → Entry
with_progress progress e = record e { progress = progress }

-- a segment was read
abbrev pub reading : List ℕ → Entry → Entry
reading segment e = record e { read = e.read ++ segment }

-- the input of the connection has ended
abbrev pub ending : Entry → Entry
ending e = record e { ended = true }

-- sets whether the connection drains
abbrev pub finishing : Bool → Entry → Entry
finishing last e = record e { draining = last }

-- nothing becomes due on the connection from now on, and it is to be closed as by a fault
abbrev pub broken : Entry → Entry
broken e = record e { broken = true }

-- bytes become due on the connection
abbrev pub owing : List ℕ → Entry → Entry
owing bytes e = record e { due = e.due ++ bytes }

abbrev pub unnamed : PeerRecord → PeerRecord
unnamed (Http parsed closes body) = Http parsed closes body
unnamed (Queue items session) = Queue items session
unnamed (Link reports device) = Link reports None

-- the device that gave its name on the connection has another connection: the old connection is to be closed as by a fault
abbrev pub superseded_entry : Entry → Entry
superseded_entry e = record e { progress = unnamed e.progress; broken = true }

-- the waiting bytes and the new bytes together exceed what a connection reserves when it is accepted
abbrev pub needs_memory : List ℕ → Entry → Bool
needs_memory bytes e = nat_lt RESERVED_BYTES (length (waiting e ++ bytes))
