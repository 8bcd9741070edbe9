-- The bytes that the server sends, and their meaning.
use Rattle.std.specs.Prelude.{ℕ, ◌≡◌, ◌≤◌, IsTrue, List, [], ◌∷◌, ◌++◌, map, length}
use Rattle.base_types.specs.declared.limits.TheConstants.Limits.{JOB_OCTETS}
use Rattle.base_types.specs.Needs.{JobNeeds}
use Rattle.base_types.specs.Forms.{is_media}
use Rattle.base_types.specs.Ranges.{IsJobId, IsCopies}
use Rattle.device_link.specs.Orders.{job_line, cancel_line}
use Rattle.adapter_core.specs.declared.order.Order.TheVariants.{Job, Cancel}
use Rattle.adapter_core.specs.OrderStream.{OrderElement, Orders, HasOctet, InLine, orders_in}

-- an order of the server to a device
pub data Wanted : Type 0 where
  ToPrint : (job : ℕ) (octets : List ℕ) (needs : JobNeeds) → Wanted
  ToCancel : (job : ℕ) → Wanted

-- the bytes of an order: the line of a job and its octets, or the line of a cancel
abbrev pub sent : Wanted → List ℕ
sent (ToPrint job octets needs) = job_line job (length octets) needs ++ octets
sent (ToCancel job) = cancel_line job

-- the items that a device has to read
abbrev pub meant : Wanted → List OrderElement
meant (ToPrint job octets needs) =
    Orders (Job (record { job = job; octets = length octets; copies = needs.copies; sides = needs.sides; finishings = needs.finishings; media = needs.media })) ∷ map HasOctet octets
meant (ToCancel job) = Orders (Cancel job) ∷ []

-- ids, octets and copies are within the server's limits, and the medium's name is valid
abbrev pub IsWithin : Wanted → Type 0
IsWithin (ToPrint job octets needs) = IsJobId job × (length octets ≤ JOB_OCTETS) × IsCopies needs.copies × IsTrue (is_media needs.media)
IsWithin (ToCancel job) = IsJobId job

abbrev pub AreWithin : List Wanted → Type 0
AreWithin [] = Unit {0}
AreWithin (first ∷ later) = IsWithin first × AreWithin later

abbrev pub all_sent : List Wanted → List ℕ
all_sent [] = []
all_sent (first ∷ later) = sent first ++ all_sent later

abbrev pub all_meant : List Wanted → List OrderElement
all_meant [] = []
all_meant (first ∷ later) = meant first ++ all_meant later

-- the bytes of orders are read as their items, and the next line may follow
abbrev pub ParsedAsMeant : Type 0
ParsedAsMeant = (wanted : List Wanted) → AreWithin wanted → orders_in (all_sent wanted) ≡ record { parsed = all_meant wanted; place = InLine [] }
