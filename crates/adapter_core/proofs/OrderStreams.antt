-- The state of a reader after a segment, a line, octets or a fault.
use Rattle.std.specs.Prelude.{ℕ, suc, ◌≡◌, ◌==◌, ◌+◌, ◌-◌, ◌<◌, ◌≤◌, nat_lt, Bool, true, false, List, [], ◌∷◌, ◌++◌, map, length, take, drop, slice_index_or, Option, Some, None, IsSome, Result, Ok, Err, OnOk}
use Rattle.std.proofs.Common.{rules, arith, refl, subst, sym, ap, ◌∙◌, zero-add, lit<}
use Rattle.std.proofs.lemmas.Bool.{lt-ltb}
use Rattle.std.proofs.lemmas.List.{append_assoc, append-nil, length-append, take-append-drop, length-take-le}
use Rattle.std.proofs.lemmas.List.Elements.{All-head, All-tail}
use Rattle.std.proofs.lemmas.List.Quantifiers.{position-Some}
use Rattle.std.specs.declared.alloc.AllocError.{AllocError}
use Rattle.base_types.specs.declared.limits.TheConstants.Limits.{DEVICE_LINE_BYTES}
use Rattle.text.specs.FirstLine.{first_line_of}
use Rattle.text.specs.declared.line.FirstLine.TheVariants as prefix
use Rattle.text.specs.Parts.{Lacks}
use Rattle.text.proofs.FirstLines.{whole_line, unfinished_line, endless_line}
use Rattle.text.proofs.Cuts.{cut_found, found_nowhere}
use Rattle.adapter_core.specs.declared.order.Order.{Order}
use Rattle.adapter_core.specs.declared.order_fault.OrderFault.{OrderFault}
use Rattle.adapter_core.specs.declared.order_fault.OrderFault.TheVariants.{BadLine, LineTooLong}
use Rattle.adapter_core.specs.declared.order_fault.OrderError.TheVariants.{Fault}
use Rattle.adapter_core.specs.OrderLine.{order_in}
use Rattle.adapter_core.specs.OrderStream.{OrderElement, Orders, HasOctet, OrderPlace, InLine, AtFault, ParsedOrders, with_prefix, silent, octets_left, octets_after, line_parsed, byte_parsed, parsed_from, orders_in, OrderReaderState, place_by, place_of, HasRead, Advances, Answers}

-- ---- one after the other

prefix_twice : (first later : List OrderElement) (outcome : ParsedOrders) → with_prefix (first ++ later) outcome ≡ with_prefix first (with_prefix later outcome)
prefix_twice first later outcome = ap (λ s. record { parsed = s; place = outcome.place }) (append_assoc first later outcome.parsed)

pub parsed_append : (place : OrderPlace) (bytes more : List ℕ) → parsed_from place (bytes ++ more) ≡ with_prefix (parsed_from place bytes).parsed (parsed_from (parsed_from place bytes).place more)
parsed_append place [] more = refl
parsed_append place (byte ∷ bytes) more =
    let next = byte_parsed place byte in
    let here = parsed_from next.place bytes in
    ap (λ (h : ParsedOrders). with_prefix next.parsed h) (parsed_append next.place bytes more) ∙ sym (prefix_twice next.parsed here.parsed (parsed_from here.place more))

-- from a place on, the items of further bytes follow the items of the bytes before
pub parsed_then : (place : OrderPlace) (bytes more : List ℕ) (outcome : ParsedOrders) → parsed_from place bytes ≡ outcome → parsed_from place (bytes ++ more) ≡ with_prefix outcome.parsed (parsed_from outcome.place more)
parsed_then place bytes more outcome is = subst (λ (h : ParsedOrders). parsed_from place (bytes ++ more) ≡ with_prefix h.parsed (parsed_from h.place more)) is (parsed_append place bytes more)

-- ---- a fault stays

pub parsed_over : (fault : OrderFault) (bytes : List ℕ) → parsed_from (AtFault fault) bytes ≡ silent (AtFault fault)
unfolding byte_parsed
parsed_over fault [] = refl
parsed_over fault (byte ∷ bytes) = ap (λ (h : ParsedOrders). with_prefix [] h) (parsed_over fault bytes)

-- ---- segments

reaches_fed : (stream : List ℕ) (given : List OrderElement) (segment : List ℕ) (reader : OrderReaderState) → HasRead stream given reader → HasRead (stream ++ segment) given (record reader { part = []; rest = reader.rest ++ segment })
reaches_fed stream given segment reader reaches =
    let here = parsed_from (place_of reader) reader.rest in
    parsed_then (InLine []) stream segment (with_prefix given here) reaches
    ∙ prefix_twice given here.parsed (parsed_from here.place segment)
    ∙ ap (λ (h : ParsedOrders). with_prefix given h) (sym (parsed_append (place_of reader) reader.rest segment))

-- a segment of which nothing is read yet
pub fed_by : (old new : OrderReaderState) (segment : List ℕ) (answer : Result (Unit {0}) AllocError) → OnOk answer (new ≡ record old { part = []; rest = old.rest ++ segment }) → OnOk answer ((stream : List ℕ) (given : List OrderElement) → HasRead stream given old → HasRead (stream ++ segment) given new)
fed_by old new segment (Ok done) is = λ stream given reaches. subst (λ n. HasRead (stream ++ segment) given n) (sym is) (reaches_fed stream given segment old reaches)
fed_by old new segment (Err error) is = tt

over_alike : (fault : Option OrderFault) (octets : ℕ) (bytes more : List ℕ) → IsSome fault → parsed_from (place_by fault octets) bytes ≡ parsed_from (place_by fault octets) more
over_alike (Some fault) octets bytes more some = parsed_over fault bytes ∙ sym (parsed_over fault more)
over_alike None octets bytes more some = absurd (let no : false ≡ true = some in (cc))

-- after a fault nothing counts
pub reaches_still : (stream : List ℕ) (given : List OrderElement) (segment : List ℕ) (reader : OrderReaderState) → IsSome reader.fault → HasRead stream given reader → HasRead (stream ++ segment) given reader
reaches_still stream given segment reader faulty reaches =
    reaches_fed stream given segment reader reaches ∙ ap (λ (h : ParsedOrders). with_prefix given h) (over_alike reader.fault reader.octets (reader.rest ++ segment) reader.rest faulty)

-- ---- lines

line_ended : (line after : List ℕ) → parsed_from (InLine line) (10 ∷ after) ≡ with_prefix (line_parsed (order_in line)).parsed (parsed_from (line_parsed (order_in line)).place after)
unfolding byte_parsed
line_ended line after = refl

line_goes_on : (line : List ℕ) (byte : ℕ) (bytes : List ℕ) → (byte == 10) ≡ false → length line + 1 < DEVICE_LINE_BYTES → parsed_from (InLine line) (byte ∷ bytes) ≡ parsed_from (InLine (line ++ byte ∷ [])) bytes
unfolding byte_parsed
line_goes_on line byte bytes other short = rw (other, lt-ltb (length line + 1) DEVICE_LINE_BYTES short) refl

pub line_whole : (line before after : List ℕ) → Lacks 10 before → length line + length before < DEVICE_LINE_BYTES → parsed_from (InLine line) (before ++ (10 ∷ after)) ≡ with_prefix (line_parsed (order_in (line ++ before))).parsed (parsed_from (line_parsed (order_in (line ++ before))).place after)
line_whole line [] after lacks short =
    subst (λ (l : List ℕ). parsed_from (InLine line) (10 ∷ after) ≡ with_prefix (line_parsed (order_in l)).parsed (parsed_from (line_parsed (order_in l)).place after)) (sym (append-nil line)) (line_ended line after)
line_whole line (byte ∷ before) after lacks short =
    let P : ℕ → Type 0 = λ b. (b == 10) ≡ false in
    let on = line_goes_on line byte (before ++ (10 ∷ after)) (All-head P byte before lacks) (omega (arith, short)) in
    let rest = line_whole (line ++ byte ∷ []) before after (All-tail P byte before lacks) (omega (arith, short, length-append line (byte ∷ []))) in
    subst (λ (l : List ℕ). parsed_from (InLine line) (byte ∷ (before ++ (10 ∷ after))) ≡ with_prefix (line_parsed (order_in l)).parsed (parsed_from (line_parsed (order_in l)).place after)) (append_assoc line (byte ∷ []) before) (on ∙ rest)

line_begun : (line bytes : List ℕ) → Lacks 10 bytes → length line + length bytes < DEVICE_LINE_BYTES → parsed_from (InLine line) bytes ≡ silent (InLine (line ++ bytes))
line_begun line [] lacks short = ap (λ l. silent (InLine l)) (sym (append-nil line))
line_begun line (byte ∷ bytes) lacks short =
    let P : ℕ → Type 0 = λ b. (b == 10) ≡ false in
    let rest = line_begun (line ++ byte ∷ []) bytes (All-tail P byte bytes lacks) (omega (arith, short, length-append line (byte ∷ []))) in
    line_goes_on line byte bytes (All-head P byte bytes lacks) (omega (arith, short)) ∙ rest ∙ ap (λ l. silent (InLine l)) (append_assoc line (byte ∷ []) bytes)

line_full : (line : List ℕ) (byte : ℕ) (bytes : List ℕ) → (byte == 10) ≡ false → nat_lt (length line + 1) DEVICE_LINE_BYTES ≡ false → parsed_from (InLine line) (byte ∷ bytes) ≡ parsed_from (AtFault LineTooLong) bytes
unfolding byte_parsed
line_full line byte bytes other long = rw (other, long) refl

line_endless : (line bytes : List ℕ) → length line < DEVICE_LINE_BYTES → DEVICE_LINE_BYTES ≤ length line + length bytes → ((k : ℕ) → length line + k < DEVICE_LINE_BYTES → (slice_index_or bytes k 0 == 10) ≡ false) → parsed_from (InLine line) bytes ≡ silent (AtFault LineTooLong)
line_endless line [] short long none = absurd (omega (arith, short, long))
line_endless line (byte ∷ bytes) short long none =
    let other : (byte == 10) ≡ false = none 0 (omega (arith, short)) in
    let by : (t : Bool) → nat_lt (length line + 1) DEVICE_LINE_BYTES ≡ t → parsed_from (InLine line) (byte ∷ bytes) ≡ silent (AtFault LineTooLong) = λ t.
    elim t as (λ v. nat_lt (length line + 1) DEVICE_LINE_BYTES ≡ v → parsed_from (InLine line) (byte ∷ bytes) ≡ silent (AtFault LineTooLong)) [
      | true ↦ λ is.
          let room : length line + 1 < DEVICE_LINE_BYTES = grind (arith, is) in
          let one = length-append line (byte ∷ []) in
          line_goes_on line byte bytes other room
          ∙ line_endless (line ++ byte ∷ []) bytes (omega (arith, room, one)) (omega (arith, long, one)) (λ k low. none (suc k) (omega (arith, low, one)))
      | false ↦ λ is. line_full line byte bytes other is ∙ parsed_over LineTooLong bytes
    ] in
    by (nat_lt (length line + 1) DEVICE_LINE_BYTES) refl

-- ---- octets

octet_first : (byte : ℕ) (bytes : List ℕ) (count more : ℕ) → count ≡ more + 1 → parsed_from (octets_left count) (byte ∷ bytes) ≡ with_prefix (HasOctet byte ∷ []) (parsed_from (octets_left more) bytes)
unfolding byte_parsed
octet_first byte bytes count more is =
    let some : (count == 0) ≡ false = grind (arith, is) in
    let one : count - 1 ≡ more = omega (arith, is) in
    rw (some, one) refl

pub octets_first : (part more : List ℕ) (count : ℕ) → parsed_from (octets_left (length part + count)) (part ++ more) ≡ with_prefix (map HasOctet part) (parsed_from (octets_left count) more)
octets_first [] more count = ap (λ n. parsed_from (octets_left n) more) (zero-add count)
octets_first (byte ∷ part) more count =
    octet_first byte (part ++ more) (length (byte ∷ part) + count) (length part + count) (omega arith)
    ∙ ap (λ (h : ParsedOrders). with_prefix (HasOctet byte ∷ []) h) (octets_first part more count)

-- ---- answers

advance : (old : OrderReaderState) (parsed : List OrderElement) (new : OrderReaderState) → parsed_from (place_of old) old.rest ≡ with_prefix parsed (parsed_from (place_of new) new.rest) → Advances old parsed new
advance old parsed new is stream given reaches =
    reaches ∙ ap (λ (h : ParsedOrders). with_prefix given h) is ∙ sym (prefix_twice given parsed (parsed_from (place_of new) new.rest))

pub answers_octets : (old : OrderReaderState) (size : ℕ) → old.fault ≡ None → size ≤ length old.rest → size ≤ old.octets → Advances old (map HasOctet (take size old.rest)) (record { part = take size old.rest; rest = drop size old.rest; octets = old.octets - size; fault = old.fault })
answers_octets old size faultless there few =
    let part = take size old.rest in
    let left = drop size old.rest in
    let first = octets_first part left (old.octets - size) in
    let whole : parsed_from (octets_left (length part + (old.octets - size))) old.rest ≡ with_prefix (map HasOctet part) (parsed_from (octets_left (old.octets - size)) left) = subst (λ (b : List ℕ). parsed_from (octets_left (length part + (old.octets - size))) b ≡ with_prefix (map HasOctet part) (parsed_from (octets_left (old.octets - size)) left)) (take-append-drop size old.rest) first in
    let all : length part + (old.octets - size) ≡ old.octets = rw (length-take-le size old.rest there) (omega (arith, few)) in
    let here : parsed_from (octets_left old.octets) old.rest ≡ with_prefix (map HasOctet part) (parsed_from (octets_left (old.octets - size)) left) = subst (λ (n : ℕ). parsed_from (octets_left n) old.rest ≡ with_prefix (map HasOctet part) (parsed_from (octets_left (old.octets - size)) left)) all whole in
    advance old (map HasOctet part) (record { part = part; rest = left; octets = old.octets - size; fault = old.fault })
    (subst (λ (f : Option OrderFault). parsed_from (place_by f old.octets) old.rest ≡ with_prefix (map HasOctet part) (parsed_from (place_by f (old.octets - size)) left)) (sym faultless) here)

-- between a job's octets and the next line
at_line : (old : OrderReaderState) → old.fault ≡ None → old.octets ≡ 0 → place_of old ≡ InLine []
at_line old faultless outside = subst (λ (f : Option OrderFault). place_by f old.octets ≡ InLine []) (sym faultless) (ap (λ n. octets_left n) outside)

line_at : (old : OrderReaderState) (count : ℕ) → old.fault ≡ None → old.octets ≡ 0 → first_line_of DEVICE_LINE_BYTES old.rest ≡ prefix.Whole count
    → parsed_from (place_of old) old.rest ≡ with_prefix (line_parsed (order_in (take count old.rest))).parsed (parsed_from (line_parsed (order_in (take count old.rest))).place (drop (count + 1) old.rest))
line_at old count faultless outside line =
    let whole = whole_line DEVICE_LINE_BYTES old.rest count line in
    let cut = cut_found 10 old.rest count whole.0 in
    let before = take count old.rest in
    let after = drop (count + 1) old.rest in
    let within : count < length old.rest = search (rules, position-Some (λ byte. byte == 10) old.rest count 0 whole.0) in
    let short : length (before) < DEVICE_LINE_BYTES = omega (arith, whole.1, within, length-take-le count old.rest (omega (arith, within))) in
    let here = line_whole [] before after cut.lacks (omega (arith, short)) in
    ap (λ (p : OrderPlace). parsed_from p old.rest) (at_line old faultless outside)
    ∙ ap (λ (b : List ℕ). parsed_from (InLine []) b) cut.joined
    ∙ here

pub answers_order : (old : OrderReaderState) (count : ℕ) (order : Order) → old.fault ≡ None → old.octets ≡ 0 → first_line_of DEVICE_LINE_BYTES old.rest ≡ prefix.Whole count → order_in (take count old.rest) ≡ Some order
    → Advances old (Orders order ∷ []) (record { part = []; rest = drop (count + 1) old.rest; octets = octets_after order; fault = old.fault })
answers_order old count order faultless outside line parses =
    let outcome = line_at old count faultless outside line in
    let here : parsed_from (place_of old) old.rest ≡ with_prefix (Orders order ∷ []) (parsed_from (octets_left (octets_after order)) (drop (count + 1) old.rest)) = subst (λ (o : Option Order). parsed_from (place_of old) old.rest ≡ with_prefix (line_parsed o).parsed (parsed_from (line_parsed o).place (drop (count + 1) old.rest))) parses outcome in
    advance old (Orders order ∷ []) (record { part = []; rest = drop (count + 1) old.rest; octets = octets_after order; fault = old.fault })
    (subst (λ (f : Option OrderFault). parsed_from (place_of old) old.rest ≡ with_prefix (Orders order ∷ []) (parsed_from (place_by f (octets_after order)) (drop (count + 1) old.rest))) (sym faultless) here)

fault_reaches : (old : OrderReaderState) (fault : OrderFault) → parsed_from (place_of old) old.rest ≡ silent (AtFault fault) → Answers old (Err (Fault fault)) (record old { fault = Some fault })
fault_reaches old fault is = (
  refl,
  λ stream given reaches.
      let all : orders_in stream ≡ with_prefix given (silent (AtFault fault)) = reaches ∙ ap (λ (h : ParsedOrders). with_prefix given h) is in (
        all ∙ ap (λ (s : List OrderElement). record { parsed = s; place = AtFault fault }) (append-nil given),
        all ∙ ap (λ (h : ParsedOrders). with_prefix given h) (sym (parsed_over fault old.rest)),
      ),
)

pub answers_bad_line : (old : OrderReaderState) (count : ℕ) → old.fault ≡ None → old.octets ≡ 0 → first_line_of DEVICE_LINE_BYTES old.rest ≡ prefix.Whole count → order_in (take count old.rest) ≡ None → Answers old (Err (Fault BadLine)) (record old { fault = Some BadLine })
answers_bad_line old count faultless outside line parses =
    let outcome = line_at old count faultless outside line in
    let here : parsed_from (place_of old) old.rest ≡ with_prefix [] (parsed_from (AtFault BadLine) (drop (count + 1) old.rest)) = subst (λ (o : Option Order). parsed_from (place_of old) old.rest ≡ with_prefix (line_parsed o).parsed (parsed_from (line_parsed o).place (drop (count + 1) old.rest))) parses outcome in
    fault_reaches old BadLine (here ∙ ap (λ (h : ParsedOrders). with_prefix [] h) (parsed_over BadLine (drop (count + 1) old.rest)))

pub answers_too_long : (old : OrderReaderState) → old.fault ≡ None → old.octets ≡ 0 → first_line_of DEVICE_LINE_BYTES old.rest ≡ prefix.TooLong → Answers old (Err (Fault LineTooLong)) (record old { fault = Some LineTooLong })
answers_too_long old faultless outside long =
    let endless = endless_line DEVICE_LINE_BYTES old.rest long in
    let here = line_endless [] old.rest (lit< tt) (omega (arith, endless.many)) (λ k low. endless.none k (omega (arith, low))) in
    fault_reaches old LineTooLong (ap (λ (p : OrderPlace). parsed_from p old.rest) (at_line old faultless outside) ∙ here)

pub answers_again : (old : OrderReaderState) (fault : OrderFault) → old.fault ≡ Some fault → Answers old (Err (Fault fault)) old
answers_again old fault faulty =
    let same : record old { fault = Some fault } ≡ old = search (rules, faulty) in
    let over : parsed_from (place_of old) old.rest ≡ silent (AtFault fault) = ap (λ (f : Option OrderFault). parsed_from (place_by f old.octets) old.rest) faulty ∙ parsed_over fault old.rest in
    subst (λ new. Answers old (Err (Fault fault)) new) same (fault_reaches old fault over)

waits : (old : OrderReaderState) → (parsed_from (place_of old) old.rest).parsed ≡ [] → Answers old (Ok None) old
waits old is = (refl, λ stream given reaches. ap (λ (h : ParsedOrders). h.parsed) reaches ∙ ap (λ (s : List OrderElement). given ++ s) is ∙ append-nil given)

-- the answer while no line is whole
pub answers_nothing : (old : OrderReaderState) → old.fault ≡ None → old.octets ≡ 0 → first_line_of DEVICE_LINE_BYTES old.rest ≡ prefix.Unfinished → Answers old (Ok None) old
answers_nothing old faultless outside begun =
    let parts = unfinished_line DEVICE_LINE_BYTES old.rest begun in
    let here = line_begun [] old.rest (found_nowhere 10 old.rest parts.0) (omega (arith, parts.1)) in
    waits old (ap (λ (h : ParsedOrders). h.parsed) (ap (λ (p : OrderPlace). parsed_from p old.rest) (at_line old faultless outside) ∙ here))
