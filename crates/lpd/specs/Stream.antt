-- The items of an LPD client's stream of bytes, in order, and then a fault, an unfinished item, or bytes that are dropped.
use Rattle.std.specs.Prelude.{ℕ, ◌≡◌, ◌==◌, ◌+◌, ◌⊎◌, ◌||◌, nat_le, is_some, Bool, true, false, if◌then◌else◌, List, [], ◌∷◌, ◌++◌, length, take, drop, slice_index_or, Option, Some, None, Result, Ok, Err}
use Rattle.text.specs.FirstLine.{first_line_of}
use Rattle.text.specs.declared.line.FirstLine.{FirstLine}
use Rattle.text.specs.declared.line.FirstLine.TheVariants.{Whole, TooLong, Unfinished}
use Rattle.base_types.specs.declared.limits.TheConstants.Limits.{LPD_LINE_BYTES}
use Rattle.lpd.specs.declared.fault.LpdFault.{LpdFault}
use Rattle.lpd.specs.declared.fault.LpdFault.TheVariants.{LineTooLong, MissingZero}
use Rattle.lpd.specs.declared.fault.LpdError.{LpdError}
use Rattle.lpd.specs.declared.fault.LpdError.TheVariants.{Fault, OutOfMemory}
use Rattle.lpd.specs.declared.item.LpdItem.{LpdItem}
use Rattle.lpd.specs.declared.reader.Awaited.{Awaited}
use Rattle.lpd.specs.declared.reader.Awaited.TheVariants.{Command, Subcommand, File, Nothing}
use Rattle.lpd.specs.Items.{ItemRecord, HasFile, item_record, awaited_after}
use Rattle.lpd.specs.Command.{command_line, subcommand_line, awaits_line}

-- the beginning of the bytes: an item and the bytes after it, a fault, or a wait for more bytes
pub data Prefix : Type 0 where
  Gives : (parsed : ItemRecord) (rest : List ℕ) → Prefix
  Fails : LpdFault → Prefix
  Waits : Prefix

abbrev pub line_parses : Result ItemRecord LpdFault → List ℕ → Prefix
line_parses (Ok parsed) rest = Gives parsed rest
line_parses (Err fault) rest = Fails fault

-- the prefix at a line whose content is known
abbrev pub by_line : (List ℕ → Result ItemRecord LpdFault) → List ℕ → FirstLine → Prefix
by_line meaning bytes (Whole count) = line_parses (meaning (take count bytes)) (drop (count + 1) bytes)
by_line meaning bytes TooLong = Fails LineTooLong
by_line meaning bytes Unfinished = Waits

-- the prefix at a file of `count` bytes and its zero byte (RFC 1179, sections 6.2 and 6.3)
abbrev pub by_file : ℕ → List ℕ → Prefix
by_file count bytes =
    if nat_le (length bytes) count then Waits
    else if slice_index_or bytes count 0 == 0 then Gives (HasFile (take count bytes)) (drop (count + 1) bytes)
    else Fails MissingZero

abbrev pub prefix_of : Awaited → List ℕ → Prefix
prefix_of Command bytes = by_line command_line bytes (first_line_of LPD_LINE_BYTES bytes)
prefix_of Subcommand bytes = by_line subcommand_line bytes (first_line_of LPD_LINE_BYTES bytes)
prefix_of (File count) bytes = by_file count bytes
prefix_of Nothing bytes = Waits

-- the end of a stream
pub data Ending : Type 0 where
  Open : Ending
  Faulty : LpdFault → Ending

abbrev pub EndsAs : Prefix → Ending → Type 0
EndsAs prefix Open = prefix ≡ Waits
EndsAs prefix (Faulty fault) = prefix ≡ Fails fault

-- the bytes parse as these items, one after the other, and then end with `ending`
abbrev pub Parses : Awaited → List ℕ → List ItemRecord → Ending → Type 0
Parses awaited bytes [] ending = EndsAs (prefix_of awaited bytes) ending
Parses awaited bytes (parsed ∷ items) ending = (rest : List ℕ) × (prefix_of awaited bytes ≡ Gives parsed rest) × Parses (awaited_after parsed) rest items ending

-- the items of a whole stream of bytes, and its end
abbrev pub LpdItems : List ℕ → List ItemRecord → Ending → Type 0
LpdItems stream items ending = Parses Command stream items ending

-- the bytes parse as these items, and lead to this state with these bytes left
abbrev pub Leads : Awaited → List ℕ → List ItemRecord → Awaited → List ℕ → Type 0
Leads awaited bytes [] next left = (next ≡ awaited) × (left ≡ bytes)
Leads awaited bytes (parsed ∷ items) next left = (rest : List ℕ) × (prefix_of awaited bytes ≡ Gives parsed rest) × Leads (awaited_after parsed) rest items next left

-- these are the first items of the stream, whatever bytes follow
pub record ParsesFirst (stream : List ℕ) (items : List ItemRecord) : Type 0 where
  pub next : Awaited
  pub left : List ℕ
  pub leads : Leads Command stream items next left

-- the state of a reader: the file that it lends, the bytes that aren't read, the part that is awaited, and the fault, if there was a fault
pub record LpdState : Type 0 where
  pub file : List ℕ
  pub rest : List ℕ
  pub awaited : Awaited
  pub fault : Option LpdFault

abbrev pub is_nothing : Awaited → Bool
is_nothing Command = false
is_nothing Subcommand = false
is_nothing (File count) = false
is_nothing Nothing = true

-- the reader gives no more items, and drops the bytes that it is fed
abbrev pub is_over : LpdState → Bool
is_over reader = is_some reader.fault || is_nothing reader.awaited

-- the bytes that are left of a stream: those that the reader hasn't read. After a fault they begin with that fault; a reader that awaits nothing may have dropped them
abbrev pub IsLeft : Option LpdFault → Awaited → List ℕ → List ℕ → Type 0
IsLeft (Some fault) awaited rest left = prefix_of awaited left ≡ Fails fault
IsLeft None awaited rest left = (awaited ≡ Nothing) ⊎ (left ≡ rest)

-- The reader was fed this stream and has given these items. They are the first of the stream, and lead to the part that the reader awaits, with the bytes that are left.
pub record HasRead (stream : List ℕ) (given : List ItemRecord) (reader : LpdState) : Type 0 where
  pub left : List ℕ
  pub leads : Leads Command stream given reader.awaited left
  pub kept : IsLeft reader.fault reader.awaited reader.rest left

-- the items that a reader's state parses from these bytes, and their ending
abbrev pub ParsesOn : Option LpdFault → Awaited → List ℕ → List ItemRecord → Ending → Type 0
ParsesOn (Some fault) awaited bytes items ending = (items ≡ []) × (ending ≡ Faulty fault)
ParsesOn None awaited bytes items ending = Parses awaited bytes items ending

-- an upper bound on the items that a reader can still give
abbrev pub work : LpdState → ℕ
work reader = length reader.rest

-- the answer of a reader, and its state then: the next item of the stream; or no item, and then the stream contains no more; or a fault; or refused memory, which comes only where a line is awaited
abbrev pub Answers : LpdState → Result (Option LpdItem) LpdError → LpdState → Type 0
Answers old (Ok (Some parsed)) new =
    (stream : List ℕ) (given : List ItemRecord) → HasRead stream given old → HasRead stream (given ++ item_record parsed new.file ∷ []) new
Answers old (Ok None) new =
    (new ≡ old) × ((stream : List ℕ) (given : List ItemRecord) → HasRead stream given old → LpdItems stream given Open)
Answers old (Err (Fault fault)) new =
    (new ≡ record old { fault = Some fault })
    × ((stream : List ℕ) (given : List ItemRecord) → HasRead stream given old → LpdItems stream given (Faulty fault) × HasRead stream given new)
Answers old (Err OutOfMemory) new = (new ≡ old) × (awaits_line old.awaited ≡ true)

-- ---- laws

-- two readings of one stream give the same items and the same end
abbrev pub OneParse : Type 0
OneParse = (stream : List ℕ) (given items : List ItemRecord) (end ending : Ending) → LpdItems stream given end → LpdItems stream items ending → (given ≡ items) × (end ≡ ending)

-- each stream has a reading
abbrev pub SomeParse : Type 0
SomeParse = (stream : List ℕ) → (items : List ItemRecord) × (ending : Ending) × LpdItems stream items ending

-- the items of a stream are a prefix of the items of the stream with more bytes after it; a fault stays the last
abbrev pub StaysInPrefix : Type 0
StaysInPrefix = (stream more : List ℕ) (given items : List ItemRecord) (end ending : Ending) → LpdItems stream given end → LpdItems (stream ++ more) items ending → (later : List ItemRecord) × (items ≡ given ++ later)

abbrev pub FaultStays : Type 0
FaultStays = (stream more : List ℕ) (given : List ItemRecord) (fault : LpdFault) → LpdItems stream given (Faulty fault) → LpdItems (stream ++ more) given (Faulty fault)

-- the first items of a stream are a prefix of the items of the stream with more bytes after it
abbrev pub FirstStays : Type 0
FirstStays = (stream more : List ℕ) (first items : List ItemRecord) (ending : Ending) → ParsesFirst stream first → LpdItems (stream ++ more) items ending → (later : List ItemRecord) × (items ≡ first ++ later)

-- two prefixes of the items of a stream are equal if their lengths are equal
abbrev pub FirstIsOne : Type 0
FirstIsOne = (stream : List ℕ) (one other : List ItemRecord) → ParsesFirst stream one → ParsesFirst stream other → length one ≡ length other → one ≡ other

-- a stream contains no item after all of its items
abbrev pub NoneFollows : Type 0
NoneFollows = (stream : List ℕ) (items : List ItemRecord) (parsed : ItemRecord) (ending : Ending) → ParsesFirst stream (items ++ parsed ∷ []) → LpdItems stream items ending → ⊥

-- the items of a whole stream are those that a reader has given, and then those that the reader's state parses from its bytes and the bytes that follow
abbrev pub ParsesTheRest : Type 0
ParsesTheRest =
    (stream coming : List ℕ) (given items : List ItemRecord) (ending : Ending) (reader : LpdState)
    → HasRead stream given reader → ParsesOn reader.fault reader.awaited (reader.rest ++ coming) items ending → LpdItems (stream ++ coming) (given ++ items) ending
