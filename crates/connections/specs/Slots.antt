-- Connections under their keys, and the change that each call makes of them.
use Rattle.std.specs.Prelude.{ℕ, ◌≡◌, ◌≢◌, ◌⊎◌, ◌==◌, ◌+◌, ◌<◌, Bool, true, false, List, [], ◌++◌, length, count_by, is_some, Option, Some, None, slice_index_or, slice_set}
use Rattle.std.specs.Option.{option_map_or}
use Rattle.settings_file.specs.Settings.{ServerSettings}
use Rattle.wires.specs.Poll.{Poll, Closes}
use Rattle.wires.specs.declared.wire.Door.{Door}
use Rattle.connections.specs.SendQueue.{OffersPrefix}
use Rattle.connections.specs.declared.queue.TheConstants.{RESERVED_BYTES}
use Rattle.connections.specs.declared.queue.Offered.{Offered}
use Rattle.connections.specs.declared.queue.Offered.TheVariants as offer
use Rattle.connections.specs.declared.table.ConnectionAsk.{ConnectionAsk}
use Rattle.connections.specs.declared.connection.Fed.{Fed}
use Rattle.connections.specs.Entry.{opening_entry}
use Rattle.connections.specs.Peers.{closes_of, device_of}
use Rattle.connections.specs.Asking.{Asking, Feeds}
use Rattle.connections.specs.Connections.{ConnectionState, load, is_read, EnqueuesAs}
use Rattle.connections.specs.Representation.{RepresentsConnection, Becomes}

abbrev pub Slots : Type 0
Slots = List (Option ConnectionState)

-- ---- changes of one connection among all

-- the connection under a key is changed, and no other connection
pub record OnSlot (key : ℕ) (change : ConnectionState → ConnectionState → Type 0) (old new : List (Option ConnectionState)) : Type 0 where
  pub before : ConnectionState
  pub after : ConnectionState
  pub there : slice_index_or old key None ≡ Some before
  pub changes : change before after
  pub slots : new ≡ slice_set old key (Some after)

-- no connection is under the key, and nothing is changed
pub record NoSlot (key : ℕ) (old new : List (Option ConnectionState)) : Type 0 where
  pub there : slice_index_or old key None ≡ None
  pub same : new ≡ old

-- the change of the connection under a key, if there is one
abbrev pub changed_at : ℕ → (ConnectionState → ConnectionState) → List (Option ConnectionState) → List (Option ConnectionState)
changed_at key change slots = option_map_or (λ c. slice_set slots key (Some (change c))) (slice_index_or slots key None) slots

-- the result of enqueueing bytes under a key: no connection is there; or the bytes were taken; or the connection of this number broke
abbrev pub EnqueuesAt : ℕ → List ℕ → Option ℕ → List (Option ConnectionState) → List (Option ConnectionState) → Type 0
EnqueuesAt key bytes None old new = NoSlot key old new ⊎ OnSlot key (EnqueuesAs bytes false) old new
EnqueuesAt key bytes (Some id) old new = OnSlot key (λ c d. (c.id ≡ id) × EnqueuesAs bytes true c d) old new

-- the bytes that wait on the connection under a key
abbrev pub output_at : ℕ → List (Option ConnectionState) → List ℕ
output_at key slots = option_map_or (λ c. c.output) (slice_index_or slots key None) []

-- whether the connection under a key closes after the reply to its last request
abbrev pub closes_at : ℕ → List (Option ConnectionState) → Bool
closes_at key slots = option_map_or (λ c. closes_of c.peer) (slice_index_or slots key None) false

-- memory for bytes is refused only where they exceed, with the waiting bytes, what a connection reserves
abbrev pub IsGrowth : ℕ → List ℕ → Option ℕ → List (Option ConnectionState) → Type 0
IsGrowth key bytes None old = Unit {0}
IsGrowth key bytes (Some id) old = RESERVED_BYTES < length (output_at key old ++ bytes)

-- what the connection under a key asks next
abbrev pub AsksAt : ServerSettings → ℕ → Option ConnectionAsk → List (Option ConnectionState) → List (Option ConnectionState) → Type 0
AsksAt settings key None old new = NoSlot key old new ⊎ OnSlot key (Becomes (Asking settings None)) old new
AsksAt settings key (Some asked) old new = OnSlot key (λ c d. (asked.id ≡ c.id) × Becomes (Asking settings (Some asked.ask)) c d × (load d < load c)) old new

-- the result of feeding a segment under a key
abbrev pub FeedsAt : ℕ → List ℕ → Option Fed → List (Option ConnectionState) → List (Option ConnectionState) → Type 0
FeedsAt key segment None old new = NoSlot key old new
FeedsAt key segment (Some how) old new = OnSlot key (Becomes (Feeds segment how)) old new

-- an upper bound on the steps that the connection under a key can still bring
abbrev pub work_at : List (Option ConnectionState) → ℕ → ℕ
work_at slots key = option_map_or load (slice_index_or slots key None) 0

abbrev pub broken_at : List (Option ConnectionState) → ℕ → Bool
broken_at slots key = option_map_or (λ c. c.broken) (slice_index_or slots key None) false

abbrev pub ended_at : List (Option ConnectionState) → ℕ → Bool
ended_at slots key = option_map_or (λ c. c.ended) (slice_index_or slots key None) false

-- the connection under a key has this number, and is to be read
abbrev pub IsReadAt : ℕ → List (Option ConnectionState) → ℕ → Type 0
IsReadAt key slots id = (c : ConnectionState) × (slice_index_or slots key None ≡ Some c) × (is_read c ≡ true) × (c.id ≡ id)

-- the connection under this key is broken, and none under a lesser key is
pub record IsFirstBroken (slots : List (Option ConnectionState)) (key : ℕ) : Type 0 where
  pub here : broken_at slots key ≡ true
  pub below : (other : ℕ) → other < key → broken_at slots other ≡ false

-- the device that gave its name on the connection under a key
abbrev pub device_at : List (Option ConnectionState) → ℕ → Option ℕ
device_at slots key = option_map_or (λ c. device_of c.peer) (slice_index_or slots key None) None

abbrev pub is_of : List (Option ConnectionState) → ℕ → ℕ → Bool
is_of slots device key = option_map_or (λ place. place == device) (device_at slots key) false

-- the connection under a key is removed, and the wire is asked to close it
abbrev pub LeavesAs : {W : Type 0} → (W → Poll → W → Type 0) → ℕ → W → List (Option ConnectionState) → Option ℕ → W → List (Option ConnectionState) → Type 0
LeavesAs polled key wire old device wire' new =
    ((c : ConnectionState) × (slice_index_or old key None ≡ Some c) × (new ≡ slice_set old key None) × (device ≡ device_of c.peer) × polled wire (Closes c.id) wire')
    ⊎ ((slice_index_or old key None ≡ None) × (new ≡ old) × (device ≡ None) × (wire' ≡ wire))

-- a new connection was inserted under a free key
pub record IsIn (door : Door) (id : ℕ) (old new : List (Option ConnectionState)) : Type 0 where
  pub key : ℕ
  pub connection : ConnectionState
  pub is_new : RepresentsConnection (opening_entry door id) connection
  pub free : slice_index_or old key None ≡ None
  pub there : slice_index_or new key None ≡ Some connection
  pub others : (other : ℕ) → other ≢ key → slice_index_or new other None ≡ slice_index_or old other None
  pub count : count_by is_some new ≡ count_by is_some old + 1

-- a prefix of the waiting bytes is offered to the wire, if any bytes wait
pub record Offers {W : Type 0} (polled : W → Poll → W → Type 0) (key : ℕ) (old : List (Option ConnectionState)) (wire : W) (answer : Offered) (new : List (Option ConnectionState)) (wire' : W) : Type 0 where
  pub before : ConnectionState
  pub left : List ℕ
  pub there : slice_index_or old key None ≡ Some before
  pub offers : OffersPrefix polled before.id before.output wire answer left wire'
  pub slots : new ≡ slice_set old key (Some (record before { output = left }))

abbrev pub OffersAt : {W : Type 0} → (W → Poll → W → Type 0) → ℕ → List (Option ConnectionState) → W → Offered → List (Option ConnectionState) → W → Type 0
OffersAt polled key old wire answer new wire' =
    (NoSlot key old new × (answer ≡ offer.Nothing) × (wire' ≡ wire)) ⊎ Offers polled key old wire answer new wire'
