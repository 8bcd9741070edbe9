-- The entry of a connection determines what the connection asks next, but for two choices: the length of the part that is taken of a body, and where memory is refused.
use Rattle.std.specs.Prelude.{ℕ, ◌≡◌, List, length, Option, Some, None}
use Rattle.base_types.specs.Report.{report_of}
use Rattle.settings_file.specs.Settings.{ServerSettings}
use Rattle.http_front.specs.declared.item.HttpItem.{HttpItem}
use Rattle.http_front.specs.declared.item.HttpItem.TheVariants as item
use Rattle.events.specs.SameEvent.{SameEvent}
use Rattle.connections.specs.declared.ask.Ask.{Ask}
use Rattle.connections.specs.declared.ask.Ask.TheVariants as ask
use Rattle.connections.specs.declared.ask.AllocFailure.{AllocFailure}
use Rattle.connections.specs.declared.ask.Part.{Part}
use Rattle.connections.specs.declared.step.Step.{Step}
use Rattle.connections.specs.Entry.{PeerRecord, Http as OfIpp, Queue as OfLpd, Link as OfDevice, Entry}
use Rattle.connections.specs.Asking.{ItemComes, AsksNext}

-- ---- the choices

-- the length of the part of a body that an item brings, for an item that brings a part
abbrev pub part_taken : HttpItem → List ℕ → Option ℕ
part_taken (item.Head closes) part = None
part_taken item.Continue part = None
part_taken item.BodyPart part = Some (length part)
part_taken item.BodyEnd part = None
part_taken (item.Refuse refusal) part = None

abbrev pub part_acted_on : (settings : ServerSettings) (progress : PeerRecord) (e : Entry) (comes : Step) (mid : Entry) → ItemComes settings progress e comes mid → Option ℕ
part_acted_on settings (OfIpp parsed closes body) e comes mid next = part_taken next.item next.part
part_acted_on settings (OfLpd items session) e comes mid next = None
part_acted_on settings (OfDevice reports device) e comes mid next = None

-- the length of the part of a body that is taken with an ask, where a part is taken
abbrev pub part_of : {settings : ServerSettings} {what : Ask} {e new : Entry} → AsksNext settings what e new → Option ℕ
part_of {settings} {e} asks = part_acted_on settings e.progress e asks.comes asks.mid asks.takes_item

-- the purpose of the memory that was refused, as an ask is made
pub data Loss : Type 0 where
  OfGrowth : AllocFailure → Loss
  OfPart : Part → Loss
  -- reading a whole body
  OfBody : Loss

abbrev pub lost_of : Ask → Option Loss
lost_of ask.Nothing = None
lost_of (ask.Broke growth) = Some (OfGrowth growth)
lost_of (ask.Event client event) = None
lost_of (ask.Unread request) = Some OfBody
lost_of (ask.Lost part) = Some (OfPart part)
lost_of (ask.Hello device name) = None
lost_of (ask.Report device report) = None
lost_of (ask.UnknownDevice name) = None
lost_of (ask.Fault device) = None

-- ---- asks

-- two asks are the same, with equal events and equal reports
abbrev pub SameAsk : Ask → Ask → Type 0
SameAsk (ask.Event client event) (ask.Event other parsed) = (client ≡ other) × SameEvent event parsed
SameAsk (ask.Report device report) (ask.Report other parsed) = (device ≡ other) × (report_of report ≡ report_of parsed)
SameAsk one other = one ≡ other

-- ---- laws

-- two asks of one entry with the same choices are the same, and lead to the same entry
abbrev pub AsksOne : Type 0
AsksOne =
    (settings : ServerSettings) (e : Entry) (what parsed : Ask) (new after : Entry) (one : AsksNext settings what e new) (other : AsksNext settings parsed e after)
    → part_of one ≡ part_of other → lost_of what ≡ lost_of parsed → SameAsk what parsed × (new ≡ after)
