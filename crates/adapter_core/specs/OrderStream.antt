-- The items of the server's stream, byte by byte. The segmentation of the bytes makes no difference.
use Rattle.std.specs.Prelude.{ℕ, ◌≡◌, ◌==◌, ◌+◌, ◌-◌, nat_lt, if◌then◌else◌, List, [], ◌∷◌, ◌++◌, map, length, Option, Some, None, Result, Ok, Err}
use Rattle.base_types.specs.declared.limits.TheConstants.Limits.{DEVICE_LINE_BYTES}
use Rattle.adapter_core.specs.declared.order.Order.{Order}
use Rattle.adapter_core.specs.declared.order.Order.TheVariants.{Job, Cancel}
use Rattle.adapter_core.specs.declared.order.OrderItem.{OrderItem}
use Rattle.adapter_core.specs.declared.order.OrderItem.TheVariants as item
use Rattle.adapter_core.specs.declared.order_fault.OrderFault.{OrderFault}
use Rattle.adapter_core.specs.declared.order_fault.OrderFault.TheVariants.{BadLine, LineTooLong}
use Rattle.adapter_core.specs.declared.order_fault.OrderError.{OrderError}
use Rattle.adapter_core.specs.declared.order_fault.OrderError.TheVariants.{Fault, OutOfMemory}
use Rattle.adapter_core.specs.OrderLine.{order_in}

-- an element of the stream: an order, or an octet of a job
pub data OrderElement : Type 0 where
  Orders : Order → OrderElement
  HasOctet : ℕ → OrderElement

-- the place in a stream: in a line, of which these bytes have come; in a job, of which this many octets are still to come; or at the first fault
pub data OrderPlace : Type 0 where
  InLine : List ℕ → OrderPlace
  InJob : ℕ → OrderPlace
  AtFault : OrderFault → OrderPlace

pub record ParsedOrders : Type 0 where
  pub parsed : List OrderElement
  pub place : OrderPlace

abbrev pub with_prefix : List OrderElement → ParsedOrders → ParsedOrders
with_prefix prefix later = record { parsed = prefix ++ later.parsed; place = later.place }

abbrev pub silent : OrderPlace → ParsedOrders
silent place = record { parsed = []; place = place }

abbrev pub octets_left : ℕ → OrderPlace
octets_left count = if count == 0 then InLine [] else InJob count

-- the number of octets that follow an order's line
abbrev pub octets_after : Order → ℕ
octets_after (Job job) = job.octets
octets_after (Cancel id) = 0

abbrev pub line_parsed : Option Order → ParsedOrders
line_parsed None = silent (AtFault BadLine)
line_parsed (Some order) = record { parsed = Orders order ∷ []; place = octets_left (octets_after order) }

-- a line and its line feed together have at most DEVICE_LINE_BYTES bytes
abbrev pub line_grown : List ℕ → ℕ → ParsedOrders
line_grown line byte = if nat_lt (length line + 1) DEVICE_LINE_BYTES then silent (InLine (line ++ byte ∷ [])) else silent (AtFault LineTooLong)

-- the parse of the next byte
unfoldable pub byte_parsed : OrderPlace → ℕ → ParsedOrders
byte_parsed (InLine line) byte = if byte == 10 then line_parsed (order_in line) else line_grown line byte
byte_parsed (InJob count) byte = record { parsed = HasOctet byte ∷ []; place = octets_left (count - 1) }
byte_parsed (AtFault fault) byte = silent (AtFault fault)

-- the parse of bytes from a place on
abbrev pub parsed_from : OrderPlace → List ℕ → ParsedOrders
parsed_from place [] = silent place
parsed_from place (byte ∷ bytes) = with_prefix (byte_parsed place byte).parsed (parsed_from (byte_parsed place byte).place bytes)

-- the parse of a whole stream of bytes
abbrev pub orders_in : List ℕ → ParsedOrders
orders_in stream = parsed_from (InLine []) stream

-- the state of a reader: the octets of a job that it lends, the bytes that aren't read, how many octets of a job are among these and those to come, and the fault, if there was one
pub record OrderReaderState : Type 0 where
  pub part : List ℕ
  pub rest : List ℕ
  pub octets : ℕ
  pub fault : Option OrderFault

abbrev pub place_by : Option OrderFault → ℕ → OrderPlace
place_by None octets = octets_left octets
place_by (Some fault) octets = AtFault fault

abbrev pub place_of : OrderReaderState → OrderPlace
place_of reader = place_by reader.fault reader.octets

-- The reader was fed this stream and has given these elements. They are the first of the stream, and the parse of the bytes that the reader hasn't read follows.
abbrev pub HasRead : List ℕ → List OrderElement → OrderReaderState → Type 0
HasRead stream given reader = orders_in stream ≡ with_prefix given (parsed_from (place_of reader) reader.rest)

-- the reader went from one state to another and gave this from its stream
abbrev pub Advances : OrderReaderState → List OrderElement → OrderReaderState → Type 0
Advances old parsed new = (stream : List ℕ) (given : List OrderElement) → HasRead stream given old → HasRead stream (given ++ parsed) new

-- the elements of an item, with the part that the reader lends
abbrev pub elements_of : OrderItem → List ℕ → List OrderElement
elements_of (item.Order order) part = Orders order ∷ []
elements_of item.Octets part = map HasOctet part

-- an upper bound on the items that a reader can still give
abbrev pub work : OrderReaderState → ℕ
work reader = length reader.rest

-- the answer of a reader, and its state then: the next item of the stream; or none, and then the stream contains no more; or a fault; or refused memory
abbrev pub Answers : OrderReaderState → Result (Option OrderItem) OrderError → OrderReaderState → Type 0
Answers old (Ok (Some parsed)) new = Advances old (elements_of parsed new.part) new
Answers old (Ok None) new = (new ≡ old) × ((stream : List ℕ) (given : List OrderElement) → HasRead stream given old → (orders_in stream).parsed ≡ given)
Answers old (Err (Fault fault)) new =
    (new ≡ record old { fault = Some fault })
    × ((stream : List ℕ) (given : List OrderElement) → HasRead stream given old → (orders_in stream ≡ record { parsed = given; place = AtFault fault }) × HasRead stream given new)
Answers old (Err OutOfMemory) new = new ≡ old
