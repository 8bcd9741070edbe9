-- The state of a reader after a segment, an item, or a fault.
use Rattle.std.specs.Prelude.{ℕ, ◌≡◌, ◌≢◌, ◌||◌, ◌++◌, ◌+◌, ◌<◌, ◌≤◌, is_some, true, false, List, [], ◌∷◌, length, take, drop, slice_index_or, Option, Some, None, Result, Ok, Err, OnOk}
use Rattle.std.proofs.Common.{rules, refl, subst, sym, ap, ◌∙◌, inl, inr}
use Rattle.std.proofs.lemmas.List.{append-nil}
use Rattle.std.specs.declared.alloc.AllocError.{AllocError}
use Rattle.text.specs.FirstLine.{first_line_of}
use Rattle.text.specs.declared.line.FirstLine.TheVariants as line
use Rattle.base_types.specs.declared.limits.TheConstants.Limits.{LPD_LINE_BYTES}
use Rattle.lpd.specs.declared.fault.LpdFault.{LpdFault}
use Rattle.lpd.specs.declared.fault.LpdFault.TheVariants.{LineTooLong, MissingZero}
use Rattle.lpd.specs.declared.fault.LpdError.TheVariants.{Fault}
use Rattle.lpd.specs.declared.item.LpdItem.{LpdItem}
use Rattle.lpd.specs.declared.item.LpdItem.TheVariants as item
use Rattle.lpd.specs.declared.reader.Awaited.{Awaited}
use Rattle.lpd.specs.declared.reader.Awaited.TheVariants.{Command, Subcommand, File, Nothing}
use Rattle.lpd.specs.Items.{ItemRecord, HasFile, item_record, awaited_after}
use Rattle.lpd.specs.Command.{meaning_of, awaits_line}
use Rattle.lpd.specs.Stream.{Prefix, Gives, Fails, Waits, by_line, prefix_of, Ending, Open, Faulty, Parses, ParsesOn, Leads, ParsesFirst, LpdItems, LpdState, is_over, is_nothing, IsLeft, HasRead, Answers}
use Rattle.lpd.proofs.Streams.{fails_more, leads_then, reads_then, leads_more, reads_first, stays_in}

-- ---- segments

left_fed : (fault : Option LpdFault) (awaited : Awaited) (rest left segment : List ℕ) → IsLeft fault awaited rest left → IsLeft fault awaited (rest ++ segment) (left ++ segment)
left_fed (Some fault) awaited rest left segment is = fails_more awaited left segment fault is
left_fed None awaited rest left segment (inl over) = inl over
left_fed None awaited rest left segment (inr same) = inr (ap (λ l. l ++ segment) same)

-- a segment of which nothing is read yet
reaches_fed : (stream : List ℕ) (given : List ItemRecord) (segment : List ℕ) (reader : LpdState) → HasRead stream given reader → HasRead (stream ++ segment) given (record reader { file = []; rest = reader.rest ++ segment })
reaches_fed stream given segment reader reaches = record {
  left = reaches.left ++ segment;
  leads = leads_more Command stream segment given reader.awaited reaches.left reaches.leads;
  kept = left_fed reader.fault reader.awaited reader.rest reaches.left segment reaches.kept;
}

pub fed_by : (old new : LpdState) (segment : List ℕ) (answer : Result (Unit {0}) AllocError) → OnOk answer (new ≡ record old { file = []; rest = old.rest ++ segment }) → OnOk answer ((stream : List ℕ) (given : List ItemRecord) → HasRead stream given old → HasRead (stream ++ segment) given new)
fed_by old new segment (Ok done) is = λ stream given reaches. subst (λ n. HasRead (stream ++ segment) given n) (sym is) (reaches_fed stream given segment old reaches)
fed_by old new segment (Err error) is = tt

is_nothing_is : (awaited : Awaited) → is_nothing awaited ≡ true → awaited ≡ Nothing
is_nothing_is Command is = absurd (let no : false ≡ true = is in (cc))
is_nothing_is Subcommand is = absurd (let no : false ≡ true = is in (cc))
is_nothing_is (File count) is = absurd (let no : false ≡ true = is in (cc))
is_nothing_is Nothing is = refl

left_still : (fault : Option LpdFault) (awaited : Awaited) (rest left segment : List ℕ) → (is_some fault || is_nothing awaited) ≡ true → IsLeft fault awaited rest left → IsLeft fault awaited rest (left ++ segment)
left_still (Some fault) awaited rest left segment over is = fails_more awaited left segment fault is
left_still None awaited rest left segment over is = inl (is_nothing_is awaited over)

-- a reader that gives no more items
pub reaches_still : (stream : List ℕ) (given : List ItemRecord) (segment : List ℕ) (reader : LpdState) → is_over reader ≡ true → HasRead stream given reader → HasRead (stream ++ segment) given reader
reaches_still stream given segment reader over reaches = record {
  left = reaches.left ++ segment;
  leads = leads_more Command stream segment given reader.awaited reaches.left reaches.leads;
  kept = left_still reader.fault reader.awaited reader.rest reaches.left segment over reaches.kept;
}

-- ---- the beginning of the bytes

-- the prefix by the meaning of a line, where a line is awaited
prefix_by_line : (awaited : Awaited) (bytes : List ℕ) → awaits_line awaited ≡ true → prefix_of awaited bytes ≡ by_line (meaning_of awaited) bytes (first_line_of LPD_LINE_BYTES bytes)
prefix_by_line Command bytes is = refl
prefix_by_line Subcommand bytes is = refl
prefix_by_line (File length) bytes is = absurd (search (rules, is))
prefix_by_line Nothing bytes is = absurd (search (rules, is))

-- a reader without a fault that still awaits a part is at its unread bytes
at_prefix : (awaited : Awaited) (rest left : List ℕ) (prefix : Prefix) → IsLeft None awaited rest left → prefix_of awaited rest ≡ prefix → (prefix ≡ Waits → ⊥) → left ≡ rest
at_prefix awaited rest left prefix (inl over) is some = absurd (some (sym is ∙ ap (λ (a : Awaited). prefix_of a rest) over))
at_prefix awaited rest left prefix (inr same) is some = same

waits_left : (awaited : Awaited) (rest left : List ℕ) → IsLeft None awaited rest left → prefix_of awaited rest ≡ Waits → prefix_of awaited left ≡ Waits
waits_left awaited rest left (inl over) is = ap (λ (a : Awaited). prefix_of a left) over
waits_left awaited rest left (inr same) is = ap (λ (l : List ℕ). prefix_of awaited l) same ∙ is

gives_some : (parsed : ItemRecord) (rest : List ℕ) → Gives parsed rest ≡ Waits → ⊥
gives_some parsed rest is = (cc)

fails_some : (fault : LpdFault) → Fails fault ≡ Waits → ⊥
fails_some fault is = (cc)

-- the answer for an item at the beginning
answers_item : (old : LpdState) (parsed : LpdItem) (file rest : List ℕ) → old.fault ≡ None → prefix_of old.awaited old.rest ≡ Gives (item_record parsed file) rest → Answers old (Ok (Some parsed)) (record { file = file; rest = rest; awaited = awaited_after (item_record parsed file); fault = None })
answers_item old parsed file rest faultless gives stream given reaches =
    let element = item_record parsed file in
    let kept : IsLeft None old.awaited old.rest reaches.left = subst (λ (f : Option LpdFault). IsLeft f old.awaited old.rest reaches.left) faultless reaches.kept in
    let same : reaches.left ≡ old.rest = at_prefix old.awaited old.rest reaches.left (Gives element rest) kept gives (gives_some element rest) in
    let here : Leads Command stream given old.awaited old.rest = subst (λ (l : List ℕ). Leads Command stream given old.awaited l) same reaches.leads in
    let on : Leads old.awaited old.rest (element ∷ []) (awaited_after element) rest = (rest, gives, (refl, refl)) in
    record { left = rest; leads = leads_then Command stream given old.awaited old.rest (element ∷ []) (awaited_after element) rest here on; kept = inr refl }

-- the answer for a fault at the beginning
fault_reaches : (old : LpdState) (fault : LpdFault) → ((left : List ℕ) → IsLeft old.fault old.awaited old.rest left → prefix_of old.awaited left ≡ Fails fault) → Answers old (Err (Fault fault)) (record old { fault = Some fault })
fault_reaches old fault fails = (
  refl,
  λ stream given reaches.
      let here = fails reaches.left reaches.kept in
      let reads : Parses Command stream (given ++ []) (Faulty fault) = reads_then Command stream given old.awaited reaches.left [] (Faulty fault) reaches.leads here in (
        subst (λ (items : List ItemRecord). Parses Command stream items (Faulty fault)) (append-nil given) reads,
        record { left = reaches.left; leads = reaches.leads; kept = here },
      ),
)

answers_fault : (old : LpdState) (fault : LpdFault) → old.fault ≡ None → prefix_of old.awaited old.rest ≡ Fails fault → Answers old (Err (Fault fault)) (record old { fault = Some fault })
answers_fault old fault faultless fails =
    fault_reaches old fault
    (λ left kept.
    let left_is : IsLeft None old.awaited old.rest left = subst (λ (f : Option LpdFault). IsLeft f old.awaited old.rest left) faultless kept in
    ap (λ (l : List ℕ). prefix_of old.awaited l) (at_prefix old.awaited old.rest left (Fails fault) left_is fails (fails_some fault)) ∙ fails)

pub answers_again : (old : LpdState) (fault : LpdFault) → old.fault ≡ Some fault → Answers old (Err (Fault fault)) old
answers_again old fault faulty =
    let same : record old { fault = Some fault } ≡ old = search (rules, faulty) in
    subst (λ new. Answers old (Err (Fault fault)) new) same
    (fault_reaches old fault (λ left kept. subst (λ (f : Option LpdFault). IsLeft f old.awaited old.rest left) faulty kept))

-- the answer while more bytes are awaited
answers_nothing : (old : LpdState) → old.fault ≡ None → prefix_of old.awaited old.rest ≡ Waits → Answers old (Ok None) old
answers_nothing old faultless waits = (
  refl,
  λ stream given reaches.
      let kept : IsLeft None old.awaited old.rest reaches.left = subst (λ (f : Option LpdFault). IsLeft f old.awaited old.rest reaches.left) faultless reaches.kept in
      let reads : Parses Command stream (given ++ []) Open = reads_then Command stream given old.awaited reaches.left [] Open reaches.leads (waits_left old.awaited old.rest reaches.left kept waits) in
      subst (λ (items : List ItemRecord). Parses Command stream items Open) (append-nil given) reads,
)

pub answers_over : (old : LpdState) → old.fault ≡ None → old.awaited ≡ Nothing → Answers old (Ok None) old
answers_over old faultless over = answers_nothing old faultless (ap (λ (a : Awaited). prefix_of a old.rest) over)

-- ---- lines

pub answers_line : (old : LpdState) (count : ℕ) (parsed : LpdItem) → old.fault ≡ None → awaits_line old.awaited ≡ true → first_line_of LPD_LINE_BYTES old.rest ≡ line.Whole count → meaning_of old.awaited (take count old.rest) ≡ Ok (item_record parsed []) → Answers old (Ok (Some parsed)) (record { file = []; rest = drop (count + 1) old.rest; awaited = awaited_after (item_record parsed []); fault = None })
answers_line old count parsed faultless is whole parses =
    answers_item old parsed [] (drop (count + 1) old.rest) faultless (rw (prefix_by_line old.awaited old.rest is, whole, parses) refl)

pub answers_bad_line : (old : LpdState) (count : ℕ) (fault : LpdFault) → old.fault ≡ None → awaits_line old.awaited ≡ true → first_line_of LPD_LINE_BYTES old.rest ≡ line.Whole count → meaning_of old.awaited (take count old.rest) ≡ Err fault → Answers old (Err (Fault fault)) (record old { fault = Some fault })
answers_bad_line old count fault faultless is whole parses = answers_fault old fault faultless (rw (prefix_by_line old.awaited old.rest is, whole, parses) refl)

pub answers_too_long : (old : LpdState) → old.fault ≡ None → awaits_line old.awaited ≡ true → first_line_of LPD_LINE_BYTES old.rest ≡ line.TooLong → Answers old (Err (Fault LineTooLong)) (record old { fault = Some LineTooLong })
answers_too_long old faultless is long = answers_fault old LineTooLong faultless (rw (prefix_by_line old.awaited old.rest is, long) refl)

pub answers_no_line : (old : LpdState) → old.fault ≡ None → awaits_line old.awaited ≡ true → first_line_of LPD_LINE_BYTES old.rest ≡ line.Unfinished → Answers old (Ok None) old
answers_no_line old faultless is begun = answers_nothing old faultless (rw (prefix_by_line old.awaited old.rest is, begun) refl)

-- ---- files

file_unread : (bytes : List ℕ) (count : ℕ) → length bytes ≤ count → prefix_of (File count) bytes ≡ Waits
file_unread bytes count short = search (rules, short)

pub answers_no_file : (old : LpdState) (count : ℕ) → old.fault ≡ None → old.awaited ≡ File count → length old.rest ≤ count → Answers old (Ok None) old
answers_no_file old count faultless is short = answers_nothing old faultless (rw is (file_unread old.rest count short))

file_gives : (bytes : List ℕ) (count : ℕ) → count < length bytes → slice_index_or bytes count 0 ≡ 0 → prefix_of (File count) bytes ≡ Gives (HasFile (take count bytes)) (drop (count + 1) bytes)
file_gives bytes count within zero = search (rules, within, zero)

file_fails : (bytes : List ℕ) (count : ℕ) → count < length bytes → slice_index_or bytes count 0 ≢ 0 → prefix_of (File count) bytes ≡ Fails MissingZero
file_fails bytes count within other = search (rules, within, other)

pub answers_file : (old : LpdState) (count : ℕ) → old.fault ≡ None → old.awaited ≡ File count → count < length old.rest → slice_index_or old.rest count 0 ≡ 0 → Answers old (Ok (Some item.File)) (record { file = take count old.rest; rest = drop (count + 1) old.rest; awaited = Subcommand; fault = None })
answers_file old count faultless is within zero =
    answers_item old item.File (take count old.rest) (drop (count + 1) old.rest) faultless (rw is (file_gives old.rest count within zero))

pub answers_no_zero : (old : LpdState) (count : ℕ) → old.fault ≡ None → old.awaited ≡ File count → count < length old.rest → slice_index_or old.rest count 0 ≢ 0 → Answers old (Err (Fault MissingZero)) (record old { fault = Some MissingZero })
answers_no_zero old count faultless is within other = answers_fault old MissingZero faultless (rw is (file_fails old.rest count within other))

-- ---- laws

pub fault_stays : (stream more : List ℕ) (given : List ItemRecord) (fault : LpdFault) → LpdItems stream given (Faulty fault) → LpdItems (stream ++ more) given (Faulty fault)
fault_stays stream more given fault x =
    let first = reads_first Command stream given (Faulty fault) x in
    let reads : Parses Command (stream ++ more) (given ++ []) (Faulty fault) =
    reads_then Command (stream ++ more) given first.0 (first.1 ++ more) [] (Faulty fault) (leads_more Command stream more given first.0 first.1 first.2) (fails_more first.0 first.1 more fault first.3) in
    subst (λ (items : List ItemRecord). Parses Command (stream ++ more) items (Faulty fault)) (append-nil given) reads

pub all_stays : (stream more : List ℕ) (given items : List ItemRecord) (end ending : Ending) → LpdItems stream given end → LpdItems (stream ++ more) items ending → (later : List ItemRecord) × (items ≡ given ++ later)
all_stays stream more given items end ending x y =
    let first = reads_first Command stream given end x in
    stays_in Command stream more given first.0 first.1 items ending first.2 y

pub first_stays : (stream more : List ℕ) (first items : List ItemRecord) (ending : Ending) → ParsesFirst stream first → LpdItems (stream ++ more) items ending → (later : List ItemRecord) × (items ≡ first ++ later)
first_stays stream more first items ending x y = stays_in Command stream more first x.next x.left items ending x.leads y

-- if nothing is awaited, other bytes say no item either
nothing_read : (bytes other : List ℕ) (items : List ItemRecord) (ending : Ending) → Parses Nothing bytes items ending → Parses Nothing other items ending
nothing_read bytes other [] Open x = refl
nothing_read bytes other [] (Faulty fault) x = absurd (let no : Waits ≡ Fails fault = x in (cc))
nothing_read bytes other (parsed ∷ items) ending x = absurd (let no : Waits ≡ Gives parsed x.0 = x.1 in (cc))

reads_left : (fault : Option LpdFault) (awaited : Awaited) (rest left coming : List ℕ) (items : List ItemRecord) (ending : Ending) → IsLeft fault awaited rest left → ParsesOn fault awaited (rest ++ coming) items ending → Parses awaited (left ++ coming) items ending
reads_left (Some fault) awaited rest left coming items ending kept reads =
    let here : Parses awaited (left ++ coming) [] (Faulty fault) = fails_more awaited left coming fault kept in
    subst (λ (i : List ItemRecord). Parses awaited (left ++ coming) i ending) (sym reads.0) (subst (λ (e : Ending). Parses awaited (left ++ coming) [] e) (sym reads.1) here)
reads_left None awaited rest left coming items ending (inl over) reads =
    let here : Parses Nothing (rest ++ coming) items ending = subst (λ (a : Awaited). Parses a (rest ++ coming) items ending) over reads in
    subst (λ (a : Awaited). Parses a (left ++ coming) items ending) (sym over) (nothing_read (rest ++ coming) (left ++ coming) items ending here)
reads_left None awaited rest left coming items ending (inr same) reads = subst (λ (l : List ℕ). Parses awaited (l ++ coming) items ending) (sym same) reads

pub reads_rest : (stream coming : List ℕ) (given items : List ItemRecord) (ending : Ending) (reader : LpdState) → HasRead stream given reader → ParsesOn reader.fault reader.awaited (reader.rest ++ coming) items ending → LpdItems (stream ++ coming) (given ++ items) ending
reads_rest stream coming given items ending reader reaches reads =
    reads_then Command (stream ++ coming) given reader.awaited (reaches.left ++ coming) items ending (leads_more Command stream coming given reader.awaited reaches.left reaches.leads)
    (reads_left reader.fault reader.awaited reader.rest reaches.left coming items ending reaches.kept reads)
