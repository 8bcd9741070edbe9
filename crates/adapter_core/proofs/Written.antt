-- Each side reads back the lines of the other side.
use Rattle.std.specs.Prelude.{ℕ, ◌≡◌, ◌==◌, ◌+◌, ◌^◌, ◌<◌, ◌≤◌, nat_lt, nat_le, Bool, true, false, not, if◌then◌else◌, List, [], ◌∷◌, ◌++◌, map, length, Option, Some, option_map, codes}
use Rattle.std.specs.List.{list_all}
use Rattle.std.specs.Str.{all_ascii_digits}
use Rattle.std.specs.Str.Parse.{digits_value, digits_value_after}
use Rattle.std.specs.Char.{is_ascii_digit}
use Rattle.std.specs.Fmt.{decimal}
use Rattle.std.proofs.Common.{rules, arith, refl, subst, sym, ap, ◌∙◌, lit<, lit≤, add-zero}
use Rattle.std.proofs.lemmas.Bool.{and_from, and_parts, lt-ltb, le-leb, ne_eqb, both_ways}
use Rattle.std.proofs.lemmas.Fmt.{digits_value-decimal, digits_decimal, decimal_nonempty, length-decimal-le}
use Rattle.std.proofs.lemmas.Str.Parse.{IsNumeralModel, numerals_by_fold, tells_all_ascii_digits}
use Rattle.std.proofs.lemmas.List.{append_assoc, append-nil, length-append}
use Rattle.std.proofs.lemmas.List.Elements.{All-nil, All-cons, All-append}
use Rattle.base_types.specs.declared.limits.TheConstants.Limits.{LAST_JOB_ID, JOB_OCTETS, COPIES, MEDIA_BYTES}
use Rattle.base_types.specs.declared.needs.Sides.{Sides}
use Rattle.base_types.specs.declared.needs.Sides.TheVariants.{One, LongEdge, ShortEdge}
use Rattle.base_types.specs.declared.finishings.Finishings.{Finishings}
use Rattle.base_types.specs.Finishings.{no_finishings}
use Rattle.base_types.specs.Forms.{is_media, is_media_byte, has_length}
use Rattle.base_types.specs.Needs.{JobNeeds}
use Rattle.base_types.specs.Ranges.{IsJobId, IsCopies}
use Rattle.text.specs.Digits.{number_up_to}
use Rattle.text.specs.Parts.{words_of, Lacks}
use Rattle.text.proofs.Cuts.{parts_cut, parts_uncut}
use Rattle.device_link.specs.Orders.{sides_word, finishings_word, job_line, cancel_line}
use Rattle.adapter_core.specs.declared.order.JobNumbers.{JobNumbers}
use Rattle.adapter_core.specs.declared.order.Order.{Order}
use Rattle.adapter_core.specs.declared.order.Order.TheVariants.{Job, Cancel}
use Rattle.adapter_core.specs.OrderLine.{id_in, octets_in, copies_in, numbers_in, sides_in, finishings_in, job_order, cancel_order, described, parsed, order_in, above_zero}
use Rattle.adapter_core.specs.OrderStream.{OrderElement, Orders, HasOctet, InLine, ParsedOrders, with_prefix, octets_left, octets_after, line_parsed, parsed_from, orders_in}
use Rattle.adapter_core.specs.SentOrders.{Wanted, ToPrint, ToCancel, sent, meant, IsWithin, AreWithin, all_sent, all_meant}
use Rattle.adapter_core.proofs.OrderStreams.{parsed_then, line_whole, octets_first}

-- ---- bytes that are nowhere

pub lacks_by : (p : ℕ → Bool) (byte : ℕ) → p byte ≡ false → (bytes : List ℕ) → list_all p bytes ≡ true → Lacks byte bytes
lacks_by p byte fails [] all = All-nil (λ b. (b == byte) ≡ false)
lacks_by p byte fails (first ∷ bytes) all =
    let parts : (p first ≡ true) × (list_all p bytes ≡ true) = and_parts (p first) (list_all p bytes) all in
    All-cons (λ b. (b == byte) ≡ false) first bytes
    (ne_eqb first byte (λ e. both_ways (p byte) fails (subst (λ b. p b ≡ true) e parts.0)))
    (lacks_by p byte fails bytes parts.1)

digits_all : (word : List ℕ) → all_ascii_digits word ≡ true → list_all is_ascii_digit word ≡ true
digits_all [] all = refl
digits_all (first ∷ word) all =
    let parts : (is_ascii_digit first ≡ true) × (all_ascii_digits word ≡ true) = and_parts (is_ascii_digit first) (all_ascii_digits word) all in
    and_from (is_ascii_digit first) (list_all is_ascii_digit word) parts.0 (digits_all word parts.1)

pub joined_lacks : (byte : ℕ) (xs ys : List ℕ) → Lacks byte xs → Lacks byte ys → Lacks byte (xs ++ ys)
joined_lacks byte xs ys x y = All-append (λ b. (b == byte) ≡ false) xs ys x y

-- a byte is another than this
abbrev pub isnt : ℕ → ℕ → Bool
isnt other byte = not (byte == other)

pub if_true : (test value : Bool) → (if test then value else false) ≡ true → value ≡ true
if_true true value is = is
if_true false value is = absurd (cc is)

if_test : (test value : Bool) → (if test then value else false) ≡ true → test ≡ true
if_test true value is = refl
if_test false value is = absurd (cc is)

-- ---- numbers

own : IsNumeralModel (λ ds. all_ascii_digits ds ≡ true) (digits_value 10)
own = numerals_by_fold _ tells_all_ascii_digits (digits_value_after 10) (search rules)

pub decimal_lacks : (byte number : ℕ) → is_ascii_digit byte ≡ false → number < 2 ^ 64 → Lacks byte (decimal number)
decimal_lacks byte number other fits = lacks_by is_ascii_digit byte other (decimal number) (digits_all (decimal number) (digits_decimal own number fits))

pub number_back : (most number : ℕ) → number ≤ most → number < 2 ^ 64 → number_up_to most (decimal number) ≡ Some number
unfolding number_up_to
number_back most number few fits =
    let value : digits_value 10 (decimal number) ≡ number = digits_value-decimal own number fits in
    let some : nat_lt 0 (length (decimal number)) ≡ true = lt-ltb 0 (length (decimal number)) (decimal_nonempty number fits) in
    let digits : all_ascii_digits (decimal number) ≡ true = digits_decimal own number fits in
    let within : nat_le number most ≡ true = le-leb number most few in
    rw (some, digits, value, within) refl

above : (number : ℕ) → 1 ≤ number → above_zero (Some number) ≡ Some number
above number some = let is : (number == 0) ≡ false = grind (arith, some) in rw is refl

id_back : (id : ℕ) → IsJobId id → id_in (decimal id) ≡ Some id
unfolding id_in
id_back id is =
    let few : id ≤ LAST_JOB_ID = search rules in
    let some : 1 ≤ id = search rules in
    ap above_zero (number_back LAST_JOB_ID id few (omega (arith, few))) ∙ above id some

copies_back : (copies : ℕ) → IsCopies copies → copies_in (decimal copies) ≡ Some copies
unfolding copies_in
copies_back copies is =
    let few : copies ≤ COPIES = search rules in
    let some : 1 ≤ copies = search rules in
    ap above_zero (number_back COPIES copies few (omega (arith, few))) ∙ above copies some

-- ---- words

pub word_then : (word rest : List ℕ) → Lacks 32 word → words_of (word ++ (32 ∷ rest)) ≡ word ∷ words_of rest
word_then word rest lacks = parts_cut 32 (word ++ (32 ∷ rest)) word rest (record { lacks = lacks; joined = refl })

pub word_alone : (word : List ℕ) → Lacks 32 word → words_of word ≡ word ∷ []
word_alone word lacks = parts_uncut 32 word lacks

-- ---- the line of a cancel

cancel_back : (id : ℕ) → IsJobId id → order_in (codes "CANCEL " ++ decimal id) ≡ Some (Cancel id)
unfolding cancel_order
cancel_back id is =
    let fits : id < 2 ^ 64 = omega (arith, is.1) in
    let words : words_of (codes "CANCEL" ++ (32 ∷ decimal id)) ≡ codes "CANCEL" ∷ decimal id ∷ [] = word_then (codes "CANCEL") (decimal id) (lacks_by (isnt 32) 32 refl (codes "CANCEL") refl) ∙ ap (λ (w : List (List ℕ)). codes "CANCEL" ∷ w) (word_alone (decimal id) (decimal_lacks 32 id refl fits)) in
    ap parsed words ∙ ap (λ (o : Option ℕ). option_map Cancel o) (id_back id is)

-- a line that is one of the server's
line_ordered : (line : List ℕ) (order : Order) (rest : List ℕ) → Lacks 10 line → length line ≤ 1000 → order_in line ≡ Some order → orders_in (line ++ (10 ∷ rest)) ≡ with_prefix (Orders order ∷ []) (parsed_from (octets_left (octets_after order)) rest)
line_ordered line order rest lacks short parses =
    line_whole [] line rest lacks (omega (arith, short)) ∙ ap (λ (o : Option Order). with_prefix (line_parsed o).parsed (parsed_from (line_parsed o).place rest)) parses

cancel_parsed : (id : ℕ) → IsJobId id → orders_in (cancel_line id) ≡ record { parsed = Orders (Cancel id) ∷ []; place = InLine [] }
cancel_parsed id is =
    let fits : id < 2 ^ 64 = omega (arith, is.1) in
    let line = codes "CANCEL " ++ decimal id in
    let lacks : Lacks 10 line = joined_lacks 10 (codes "CANCEL ") (decimal id) (lacks_by (isnt 10) 10 refl (codes "CANCEL ") refl) (decimal_lacks 10 id refl fits) in
    let digits : length (decimal id) ≤ 10 = length-decimal-le 10 id (lit< tt) (omega (arith, is.1)) fits in
    let short : length line ≤ 1000 = omega (arith, digits, length-append (codes "CANCEL ") (decimal id)) in
    ap (λ (b : List ℕ). orders_in b) (sym (append_assoc (codes "CANCEL ") (decimal id) (10 ∷ [])))
    ∙ line_ordered line (Cancel id) [] lacks short (cancel_back id is)

-- ---- the line of a job

sides_back : (sides : Sides) → sides_in (sides_word sides) ≡ Some sides
unfolding sides_in
sides_back One = refl
sides_back LongEdge = refl
sides_back ShortEdge = refl

numbers_back : (id octets copies : ℕ) → IsJobId id → octets ≤ JOB_OCTETS → IsCopies copies → numbers_in (codes "JOB") (decimal id) (decimal octets) (decimal copies) ≡ Some (record { job = id; octets = octets; copies = copies })
unfolding numbers_in
numbers_back id octets copies is few some =
    let count : octets_in (decimal octets) ≡ Some octets = number_back JOB_OCTETS octets few (omega (arith, few)) in
    rw (id_back id is, count, copies_back copies some) refl

-- a medium's name has no space, comma or line feed, and 64 bytes at most
pub media_all : (media : List ℕ) → is_media media ≡ true → list_all is_media_byte media ≡ true
unfolding is_media
media_all media is = if_true (has_length MEDIA_BYTES media) (list_all is_media_byte media) is

media_short : (media : List ℕ) → is_media media ≡ true → length media ≤ 64
unfolding is_media
media_short media is =
    let parts : (nat_le 1 (length media) ≡ true) × (nat_le (length media) 64 ≡ true) = and_parts (nat_le 1 (length media)) (nat_le (length media) 64) (if_test (has_length MEDIA_BYTES media) (list_all is_media_byte media) is) in
    grind (arith, parts.1)

-- the sides, the medium and the letters of finishings
some_letters : (numbers : Option JobNumbers) (sides media letters : List ℕ) (finishings : Finishings) → Lacks 32 media → Lacks 32 letters → finishings_in letters ≡ Some finishings → described numbers (sides ∷ words_of (media ++ (32 ∷ letters))) ≡ job_order numbers (sides_in sides) media (Some finishings)
some_letters numbers sides media letters finishings m l is =
    ap (λ (w : List (List ℕ)). described numbers (sides ∷ w)) (word_then media letters m ∙ ap (λ (w : List (List ℕ)). media ∷ w) (word_alone letters l))
    ∙ ap (λ (f : Option Finishings). job_order numbers (sides_in sides) media f) is

no_letters : (numbers : Option JobNumbers) (sides media : List ℕ) → Lacks 32 media → described numbers (sides ∷ words_of (media ++ [])) ≡ job_order numbers (sides_in sides) media (Some no_finishings)
no_letters numbers sides media m =
    ap (λ (w : List (List ℕ)). described numbers (sides ∷ w)) (ap words_of (append-nil media) ∙ word_alone media m)

abbrev has : Bool → Bool → Bool → Finishings
has staple punch bind = record { staple = staple; punch = punch; bind = bind }

sheets_back : (numbers : Option JobNumbers) (sides media : List ℕ) (staple punch bind : Bool) → Lacks 32 media → described numbers (sides ∷ words_of (media ++ finishings_word (has staple punch bind))) ≡ job_order numbers (sides_in sides) media (Some (has staple punch bind))
unfolding finishings_in
sheets_back numbers sides media false false false m = no_letters numbers sides media m
sheets_back numbers sides media false false true m = some_letters numbers sides media (codes "B") (has false false true) m (lacks_by (isnt 32) 32 refl (codes "B") refl) refl
sheets_back numbers sides media false true false m = some_letters numbers sides media (codes "P") (has false true false) m (lacks_by (isnt 32) 32 refl (codes "P") refl) refl
sheets_back numbers sides media false true true m = some_letters numbers sides media (codes "PB") (has false true true) m (lacks_by (isnt 32) 32 refl (codes "PB") refl) refl
sheets_back numbers sides media true false false m = some_letters numbers sides media (codes "S") (has true false false) m (lacks_by (isnt 32) 32 refl (codes "S") refl) refl
sheets_back numbers sides media true false true m = some_letters numbers sides media (codes "SB") (has true false true) m (lacks_by (isnt 32) 32 refl (codes "SB") refl) refl
sheets_back numbers sides media true true false m = some_letters numbers sides media (codes "SP") (has true true false) m (lacks_by (isnt 32) 32 refl (codes "SP") refl) refl
sheets_back numbers sides media true true true m = some_letters numbers sides media (codes "SPB") (has true true true) m (lacks_by (isnt 32) 32 refl (codes "SPB") refl) refl

letters_lack : (staple punch bind : Bool) → Lacks 10 (finishings_word (has staple punch bind)) × (length (finishings_word (has staple punch bind)) ≤ 4)
letters_lack false false false = (lacks_by (isnt 10) 10 refl [] refl, lit≤ tt)
letters_lack false false true = (lacks_by (isnt 10) 10 refl (codes " B") refl, lit≤ tt)
letters_lack false true false = (lacks_by (isnt 10) 10 refl (codes " P") refl, lit≤ tt)
letters_lack false true true = (lacks_by (isnt 10) 10 refl (codes " PB") refl, lit≤ tt)
letters_lack true false false = (lacks_by (isnt 10) 10 refl (codes " S") refl, lit≤ tt)
letters_lack true false true = (lacks_by (isnt 10) 10 refl (codes " SB") refl, lit≤ tt)
letters_lack true true false = (lacks_by (isnt 10) 10 refl (codes " SP") refl, lit≤ tt)
letters_lack true true true = (lacks_by (isnt 10) 10 refl (codes " SPB") refl, lit≤ tt)

-- a line of words: the first word, and the text after its space
abbrev tail : List ℕ → List ℕ → List ℕ
tail word rest = word ++ (32 ∷ rest)

-- texts without a line feed, of at most `most` bytes
record IsShort (most : ℕ) (text : List ℕ) : Type 0 where
  lacks : Lacks 10 text
  few : length text ≤ most

short_after : (n m : ℕ) (word rest : List ℕ) → IsShort n word → IsShort m rest → IsShort (n + (1 + m)) (tail word rest)
short_after n m word rest w r = record {
  lacks = joined_lacks 10 word (32 ∷ rest) w.lacks (All-cons (λ b. (b == 10) ≡ false) 32 rest refl r.lacks);
  few = omega (arith, w.few, r.few, length-append word (32 ∷ rest));
}

short_joined : (n m : ℕ) (first rest : List ℕ) → IsShort n first → IsShort m rest → IsShort (n + m) (first ++ rest)
short_joined n m first rest f r = record { lacks = joined_lacks 10 first rest f.lacks r.lacks; few = omega (arith, f.few, r.few, length-append first rest) }

short_number : (number : ℕ) → number ≤ LAST_JOB_ID → IsShort 10 (decimal number)
short_number number few =
    let fits : number < 2 ^ 64 = omega (arith, few) in
    record { lacks = decimal_lacks 10 number refl fits; few = length-decimal-le 10 number (lit< tt) (omega (arith, few)) fits }

short_sides : (sides : Sides) → IsShort 1 (sides_word sides)
short_sides One = record { lacks = lacks_by (isnt 10) 10 refl (codes "1") refl; few = lit≤ tt }
short_sides LongEdge = record { lacks = lacks_by (isnt 10) 10 refl (codes "L") refl; few = lit≤ tt }
short_sides ShortEdge = record { lacks = lacks_by (isnt 10) 10 refl (codes "S") refl; few = lit≤ tt }

sides_no_space : (sides : Sides) → Lacks 32 (sides_word sides)
sides_no_space One = lacks_by (isnt 32) 32 refl (codes "1") refl
sides_no_space LongEdge = lacks_by (isnt 32) 32 refl (codes "L") refl
sides_no_space ShortEdge = lacks_by (isnt 32) 32 refl (codes "S") refl

-- the part of a job's line about its sheets
abbrev sheets : JobNeeds → List ℕ
sheets needs = tail (sides_word needs.sides) (needs.media ++ finishings_word needs.finishings)

abbrev on_line : ℕ → ℕ → JobNeeds → List ℕ
on_line id octets needs = tail (codes "JOB") (tail (decimal id) (tail (decimal octets) (tail (decimal needs.copies) (sheets needs))))

job_words : (id octets : ℕ) (needs : JobNeeds) → IsJobId id → octets ≤ JOB_OCTETS → IsCopies needs.copies → words_of (on_line id octets needs) ≡ codes "JOB" ∷ decimal id ∷ decimal octets ∷ decimal needs.copies ∷ sides_word needs.sides ∷ words_of (needs.media ++ finishings_word needs.finishings)
job_words id octets needs is few some =
    let a = decimal id in
    let b = decimal octets in
    let c = decimal needs.copies in
    let s = sides_word needs.sides in
    let m = needs.media ++ finishings_word needs.finishings in
    let last : words_of (tail s m) ≡ s ∷ words_of m = word_then s m (sides_no_space needs.sides) in
    let third : words_of (tail c (tail s m)) ≡ c ∷ s ∷ words_of m = word_then c (tail s m) (decimal_lacks 32 needs.copies refl (omega (arith, some.1))) ∙ ap (λ (w : List (List ℕ)). c ∷ w) last in
    let second : words_of (tail b (tail c (tail s m))) ≡ b ∷ c ∷ s ∷ words_of m = word_then b (tail c (tail s m)) (decimal_lacks 32 octets refl (omega (arith, few))) ∙ ap (λ (w : List (List ℕ)). b ∷ w) third in
    let first : words_of (tail a (tail b (tail c (tail s m)))) ≡ a ∷ b ∷ c ∷ s ∷ words_of m = word_then a (tail b (tail c (tail s m))) (decimal_lacks 32 id refl (omega (arith, is.1))) ∙ ap (λ (w : List (List ℕ)). a ∷ w) second in
    word_then (codes "JOB") (tail a (tail b (tail c (tail s m)))) (lacks_by (isnt 32) 32 refl (codes "JOB") refl) ∙ ap (λ (w : List (List ℕ)). codes "JOB" ∷ w) first

abbrev job_of : ℕ → ℕ → JobNeeds → Order
job_of id octets needs = Job (record { job = id; octets = octets; copies = needs.copies; sides = needs.sides; finishings = needs.finishings; media = needs.media })

parsed_back : (id octets : ℕ) (needs : JobNeeds) → is_media needs.media ≡ true → job_order (Some (record { job = id; octets = octets; copies = needs.copies })) (Some needs.sides) needs.media (Some needs.finishings) ≡ Some (job_of id octets needs)
unfolding job_order
parsed_back id octets needs is = rw is refl

job_back : (id octets : ℕ) (needs : JobNeeds) → IsJobId id → octets ≤ JOB_OCTETS → IsCopies needs.copies → is_media needs.media ≡ true → order_in (on_line id octets needs) ≡ Some (job_of id octets needs)
job_back id octets needs is few some media =
    let numbers : Option JobNumbers = Some (record { job = id; octets = octets; copies = needs.copies }) in
    let space : Lacks 32 needs.media = lacks_by is_media_byte 32 refl needs.media (media_all needs.media media) in
    ap parsed (job_words id octets needs is few some)
    ∙ ap (λ (n : Option JobNumbers). described n (sides_word needs.sides ∷ words_of (needs.media ++ finishings_word needs.finishings))) (numbers_back id octets needs.copies is few some)
    ∙ sheets_back numbers (sides_word needs.sides) needs.media needs.finishings.staple needs.finishings.punch needs.finishings.bind space
    ∙ ap (λ (s : Option Sides). job_order numbers s needs.media (Some needs.finishings)) (sides_back needs.sides)
    ∙ parsed_back id octets needs media

job_short : (id octets : ℕ) (needs : JobNeeds) → IsJobId id → octets ≤ JOB_OCTETS → IsCopies needs.copies → is_media needs.media ≡ true → IsShort 107 (on_line id octets needs)
job_short id octets needs is few some media =
    let name : IsShort 64 needs.media = record { lacks = lacks_by is_media_byte 10 refl needs.media (media_all needs.media media); few = media_short needs.media media } in
    let letters = letters_lack needs.finishings.staple needs.finishings.punch needs.finishings.bind in
    let last : IsShort 4 (finishings_word needs.finishings) = record { lacks = letters.0; few = letters.1 } in
    let m = needs.media ++ finishings_word needs.finishings in
    let five = short_after 1 68 (sides_word needs.sides) m (short_sides needs.sides) (short_joined 64 4 needs.media (finishings_word needs.finishings) name last) in
    let four = short_after 10 70 (decimal needs.copies) (sheets needs) (short_number needs.copies (omega (arith, some.1))) five in
    let three = short_after 10 81 (decimal octets) (tail (decimal needs.copies) (sheets needs)) (short_number octets (omega (arith, few))) four in
    let two = short_after 10 92 (decimal id) (tail (decimal octets) (tail (decimal needs.copies) (sheets needs))) (short_number id is.1) three in
    short_after 3 103 (codes "JOB") (tail (decimal id) (tail (decimal octets) (tail (decimal needs.copies) (sheets needs)))) (record { lacks = lacks_by (isnt 10) 10 refl (codes "JOB") refl; few = lit≤ tt }) two

after_then : (word rest more : List ℕ) → tail word rest ++ more ≡ tail word (rest ++ more)
after_then word rest more = append_assoc word (32 ∷ rest) more

job_line_is : (id octets : ℕ) (needs : JobNeeds) (more : List ℕ) → job_line id octets needs ++ more ≡ on_line id octets needs ++ (10 ∷ more)
job_line_is id octets needs more =
    let a = decimal id in
    let b = decimal octets in
    let c = decimal needs.copies in
    let s = sides_word needs.sides in
    let f = finishings_word needs.finishings in
    let m = needs.media ++ f in
    let end : List ℕ = 10 ∷ [] in
    let medium : needs.media ++ (f ++ end) ≡ m ++ end = sym (append_assoc needs.media f end) in
    let sheet : tail s (needs.media ++ (f ++ end)) ≡ tail s m ++ end = ap (tail s) medium ∙ sym (after_then s m end) in
    let third : tail c (tail s (needs.media ++ (f ++ end))) ≡ tail c (tail s m) ++ end = ap (tail c) sheet ∙ sym (after_then c (tail s m) end) in
    let second : tail b (tail c (tail s (needs.media ++ (f ++ end)))) ≡ tail b (tail c (tail s m)) ++ end = ap (tail b) third ∙ sym (after_then b (tail c (tail s m)) end) in
    let first : tail a (tail b (tail c (tail s (needs.media ++ (f ++ end))))) ≡ tail a (tail b (tail c (tail s m))) ++ end = ap (tail a) second ∙ sym (after_then a (tail b (tail c (tail s m))) end) in
    let all : job_line id octets needs ≡ on_line id octets needs ++ end = ap (tail (codes "JOB")) first ∙ sym (after_then (codes "JOB") (tail a (tail b (tail c (tail s m)))) end) in
    ap (λ (t : List ℕ). t ++ more) all ∙ append_assoc (on_line id octets needs) end more

octets_all : (octets : List ℕ) → parsed_from (octets_left (length octets)) octets ≡ record { parsed = map HasOctet octets; place = InLine [] }
octets_all octets =
    let first = octets_first octets [] 0 in
    let count : parsed_from (octets_left (length octets)) (octets ++ []) ≡ with_prefix (map HasOctet octets) (parsed_from (octets_left 0) []) = subst (λ (n : ℕ). parsed_from (octets_left n) (octets ++ []) ≡ with_prefix (map HasOctet octets) (parsed_from (octets_left 0) [])) (add-zero (length octets)) first in
    ap (λ (b : List ℕ). parsed_from (octets_left (length octets)) b) (sym (append-nil octets)) ∙ count
    ∙ ap (λ (s : List OrderElement). record { parsed = s; place = InLine [] }) (append-nil (map HasOctet octets))

job_parsed : (id : ℕ) (octets : List ℕ) (needs : JobNeeds) → IsWithin (ToPrint id octets needs) → orders_in (sent (ToPrint id octets needs)) ≡ record { parsed = meant (ToPrint id octets needs); place = InLine [] }
job_parsed id octets needs within =
    let is = within.0 in
    let few = within.1 in
    let some = within.2 in
    let media = within.3 in
    let short = job_short id (length octets) needs is few some media in
    ap (λ (b : List ℕ). orders_in b) (job_line_is id (length octets) needs octets)
    ∙ line_ordered (on_line id (length octets) needs) (job_of id (length octets) needs) octets short.lacks (omega (arith, short.few)) (job_back id (length octets) needs is few some media)
    ∙ ap (λ (h : ParsedOrders). with_prefix (Orders (job_of id (length octets) needs) ∷ []) h) (octets_all octets)

-- ---- one after the other

parsed_one : (wanted : Wanted) → IsWithin wanted → orders_in (sent wanted) ≡ record { parsed = meant wanted; place = InLine [] }
parsed_one (ToPrint id octets needs) within = job_parsed id octets needs within
parsed_one (ToCancel id) within = cancel_parsed id within

pub parsed_all : (wanted : List Wanted) → AreWithin wanted → orders_in (all_sent wanted) ≡ record { parsed = all_meant wanted; place = InLine [] }
parsed_all [] within = refl
parsed_all (first ∷ later) within =
    parsed_then (InLine []) (sent first) (all_sent later) (record { parsed = meant first; place = InLine [] }) (parsed_one first within.0)
    ∙ ap (λ (h : ParsedOrders). with_prefix (meant first) h) (parsed_all later within.1)
