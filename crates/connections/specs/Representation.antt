-- The entries that a connection represents: the bytes that its reader was fed are the bytes read, and its queue is the bytes that are due and weren't taken.
use Rattle.std.specs.Prelude.{ℕ, ◌≡◌, Bool, false, List, [], ◌++◌, map, None}
use Rattle.base_types.specs.Report.{ReportRecord}
use Rattle.device_link.specs.Stream as Link
use Rattle.http_front.specs.Stream.{HttpElement, HasByte}
use Rattle.http_front.specs.Stream as Http
use Rattle.lpd.specs.Items.{ItemRecord}
use Rattle.lpd.specs.Stream as Lpd
use Rattle.ipp_operations.specs.Reader as Body
use Rattle.connections.specs.States.{IppClientState, LpdClientState, DeviceState}
use Rattle.connections.specs.Entry.{PeerRecord, Entry}
use Rattle.connections.specs.Entry as entry
use Rattle.connections.specs.Connections.{ConnectionState}
use Rattle.connections.specs.declared.peer.Peer.{Peer}
use Rattle.connections.specs.declared.peer.Peer.TheVariants as of

-- the reader of an IPP client has been fed all bytes read, and the parser of its body the body so far
pub record FitsIpp (read : List ℕ) (progress : PeerRecord) (t : IppClientState) : Type 0 where
  pub parsed : List HttpElement
  pub body : List ℕ
  -- bytes that the body was fed, and that no step has reported yet
  pub unreported : List ℕ
  pub is : progress ≡ entry.Http parsed t.closes body
  pub all_reported : t.unreported ≡ false → unreported ≡ []
  pub reaches : Http.HasRead read (parsed ++ map HasByte unreported) t.reader
  pub body_read : Body.HasRead (body ++ unreported) t.body

-- the reader of an LPD client has been fed all bytes read
pub record FitsLpd (read : List ℕ) (progress : PeerRecord) (t : LpdClientState) : Type 0 where
  pub items : List ItemRecord
  pub is : progress ≡ entry.Queue items t.session
  pub reaches : Lpd.HasRead read items t.reader

-- the reader of a device has been fed all bytes read; a device without a name gave no reports
pub record IsLinked (read : List ℕ) (reports : List ReportRecord) (t : DeviceState) : Type 0 where
  pub reaches : Link.HasRead read reports t.reader
  pub unnamed : t.device ≡ None → reports ≡ []

-- a device's record fits its entry; on a broken connection the reader is free
pub record FitsDevice (read : List ℕ) (progress : PeerRecord) (broken : Bool) (t : DeviceState) : Type 0 where
  pub reports : List ReportRecord
  pub is : progress ≡ entry.Link reports t.device
  pub linked : broken ≡ false → IsLinked read reports t

abbrev pub FitsPeer : List ℕ → PeerRecord → Bool → Peer → Type 0
FitsPeer read progress broken (of.Ipp t) = FitsIpp read progress t
FitsPeer read progress broken (of.Lpd t) = FitsLpd read progress t
FitsPeer read progress broken (of.Device t) = FitsDevice read progress broken t

pub record RepresentsConnection (e : Entry) (c : ConnectionState) : Type 0 where
  pub id : c.id ≡ e.id
  pub peer : FitsPeer e.read e.progress e.broken c.peer
  pub ended : c.ended ≡ e.ended
  pub draining : c.draining ≡ e.draining
  pub broken : c.broken ≡ e.broken
  pub due : e.taken ++ c.output ≡ e.due

-- for each entry that the connection represented before, it represents an entry related to that entry by R
abbrev pub Becomes : (Entry → Entry → Type 0) → ConnectionState → ConnectionState → Type 0
Becomes R c d = (e : Entry) → RepresentsConnection e c → (new : Entry) × R e new × RepresentsConnection new d
