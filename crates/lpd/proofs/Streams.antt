-- The beginning of bytes stays the same if more bytes come, and so do their items.
use Rattle.std.specs.Prelude.{ℕ, suc, zero, ◌==◌, ◌≡◌, ◌⊎◌, ◌++◌, ◌+◌, ◌<◌, ◌≤◌, nat_le, if◌then◌else◌, Bool, true, false, List, [], ◌∷◌, length, take, drop, slice_index_or, Result, Ok, Err}
use Rattle.std.proofs.Common.{rules, arith, refl, subst, sym, ap, ◌∙◌, inl, inr}
use Rattle.std.proofs.lemmas.List.{drop-append-le, take-append-le, length-append, length-drop, get_or_append_left}
use Rattle.std.proofs.lemmas.List.Quantifiers.{position-Some}
use Rattle.text.specs.FirstLine.{first_line_of}
use Rattle.text.specs.declared.line.FirstLine.{FirstLine}
use Rattle.text.specs.declared.line.FirstLine.TheVariants as line
use Rattle.base_types.specs.declared.limits.TheConstants.Limits.{LPD_LINE_BYTES}
use Rattle.text.proofs.FirstLines.{whole_line, line_grown, too_long_grown}
use Rattle.lpd.specs.declared.fault.LpdFault.{LpdFault}
use Rattle.lpd.specs.declared.fault.LpdFault.TheVariants.{MissingZero}
use Rattle.lpd.specs.declared.reader.Awaited.{Awaited}
use Rattle.lpd.specs.declared.reader.Awaited.TheVariants.{Command, Subcommand, File, Nothing}
use Rattle.lpd.specs.Items.{ItemRecord, HasFile, awaited_after}
use Rattle.lpd.specs.Command.{command_line, subcommand_line}
use Rattle.lpd.specs.Stream.{Prefix, Gives, Fails, Waits, line_parses, by_line, by_file, prefix_of, Ending, Open, Faulty, EndsAs, Parses, Leads}

-- ---- a prefix

-- a line at the beginning is within the bytes
pub line_within : (bytes : List ℕ) (count : ℕ) → first_line_of LPD_LINE_BYTES bytes ≡ line.Whole count → count < length bytes
line_within bytes count whole =
    let at = whole_line LPD_LINE_BYTES bytes count whole in
    search (rules, position-Some (λ byte. byte == 10) bytes count 0 at.0)

-- a prefix with more after it
abbrev grow : List ℕ → Prefix → Prefix
grow more (Gives parsed rest) = Gives parsed (rest ++ more)
grow more (Fails fault) = Fails fault
grow more Waits = Waits

parses_grow : (parsed : Result ItemRecord LpdFault) (rest more : List ℕ) → line_parses parsed (rest ++ more) ≡ grow more (line_parses parsed rest)
parses_grow (Ok parsed) rest more = refl
parses_grow (Err fault) rest more = refl

line_grows : (meaning : List ℕ → Result ItemRecord LpdFault) (bytes more : List ℕ) (prefix : FirstLine) → first_line_of LPD_LINE_BYTES bytes ≡ prefix
    → (by_line meaning bytes prefix ≡ Waits) ⊎ (by_line meaning (bytes ++ more) (first_line_of LPD_LINE_BYTES (bytes ++ more)) ≡ grow more (by_line meaning bytes prefix))
line_grows meaning bytes more (line.Whole count) is =
    let within = line_within bytes count is in
    let first : take count (bytes ++ more) ≡ take count bytes = take-append-le count bytes more (omega (arith, within)) in
    let rest : drop (count + 1) (bytes ++ more) ≡ drop (count + 1) bytes ++ more = drop-append-le (count + 1) bytes more (omega (arith, within)) in
    let whole : by_line meaning (bytes ++ more) (first_line_of LPD_LINE_BYTES (bytes ++ more)) ≡ line_parses (meaning (take count bytes)) (drop (count + 1) bytes ++ more) =
    rw (line_grown LPD_LINE_BYTES bytes more count is, first, rest) refl in
    inr (whole ∙ parses_grow (meaning (take count bytes)) (drop (count + 1) bytes) more)
line_grows meaning bytes more line.TooLong is = inr (rw (too_long_grown LPD_LINE_BYTES bytes more is) refl)
line_grows meaning bytes more line.Unfinished is = inl refl

if_grow : (t : Bool) (parsed : ItemRecord) (rest more : List ℕ) (fault : LpdFault) → (if t then Gives parsed (rest ++ more) else Fails fault) ≡ grow more (if t then Gives parsed rest else Fails fault)
if_grow true parsed rest more fault = refl
if_grow false parsed rest more fault = refl

file_is : (count : ℕ) (bytes : List ℕ) → count < length bytes → by_file count bytes ≡ (if slice_index_or bytes count 0 == 0 then Gives (HasFile (take count bytes)) (drop (count + 1) bytes) else Fails MissingZero)
file_is count bytes within =
    let long : nat_le (length bytes) count ≡ false = grind (arith, within) in
    rw long refl

file_waits : (count : ℕ) (bytes : List ℕ) → length bytes ≤ count → by_file count bytes ≡ Waits
file_waits count bytes short =
    let all : nat_le (length bytes) count ≡ true = grind (arith, short) in
    rw all refl

file_by : (count : ℕ) (bytes more : List ℕ) (short : Bool) → nat_le (length bytes) count ≡ short → (by_file count bytes ≡ Waits) ⊎ (by_file count (bytes ++ more) ≡ grow more (by_file count bytes))
file_by count bytes more true is = inl (file_waits count bytes (grind (arith, is)))
file_by count bytes more false is =
    let within : count < length bytes = grind (arith, is) in
    let long : count < length (bytes ++ more) = rw (length-append bytes more) (omega (arith, within)) in
    let here = file_is count bytes within in
    let byte : slice_index_or (bytes ++ more) count 0 ≡ slice_index_or bytes count 0 = get_or_append_left bytes more 0 count within in
    let first : take count (bytes ++ more) ≡ take count bytes = take-append-le count bytes more (omega (arith, within)) in
    let rest : drop (count + 1) (bytes ++ more) ≡ drop (count + 1) bytes ++ more = drop-append-le (count + 1) bytes more (omega (arith, within)) in
    let grown : by_file count (bytes ++ more) ≡ (if slice_index_or bytes count 0 == 0 then Gives (HasFile (take count bytes)) (drop (count + 1) bytes ++ more) else Fails MissingZero) =
    file_is count (bytes ++ more) long ∙ rw (byte, first, rest) refl in
    inr (grown ∙ if_grow (slice_index_or bytes count 0 == 0) (HasFile (take count bytes)) (drop (count + 1) bytes) more MissingZero ∙ ap (λ prefix. grow more prefix) (sym here))

grows : (awaited : Awaited) (bytes more : List ℕ) → (prefix_of awaited bytes ≡ Waits) ⊎ (prefix_of awaited (bytes ++ more) ≡ grow more (prefix_of awaited bytes))
grows Command bytes more = line_grows command_line bytes more (first_line_of LPD_LINE_BYTES bytes) refl
grows Subcommand bytes more = line_grows subcommand_line bytes more (first_line_of LPD_LINE_BYTES bytes) refl
grows (File count) bytes more = file_by count bytes more (nat_le (length bytes) count) refl
grows Nothing bytes more = inl refl

gives_by : (prefix grown : Prefix) (more : List ℕ) (parsed : ItemRecord) (rest : List ℕ) → (prefix ≡ Waits) ⊎ (grown ≡ grow more prefix) → prefix ≡ Gives parsed rest → grown ≡ Gives parsed (rest ++ more)
gives_by prefix grown more parsed rest (inl waits) is = absurd (let no : Waits ≡ Gives parsed rest = sym waits ∙ is in (cc))
gives_by prefix grown more parsed rest (inr grows) is = grows ∙ ap (λ prefix. grow more prefix) is

fails_by : (prefix grown : Prefix) (more : List ℕ) (fault : LpdFault) → (prefix ≡ Waits) ⊎ (grown ≡ grow more prefix) → prefix ≡ Fails fault → grown ≡ Fails fault
fails_by prefix grown more fault (inl waits) is = absurd (let no : Waits ≡ Fails fault = sym waits ∙ is in (cc))
fails_by prefix grown more fault (inr grows) is = grows ∙ ap (λ prefix. grow more prefix) is

gives_more : (awaited : Awaited) (bytes more : List ℕ) (parsed : ItemRecord) (rest : List ℕ) → prefix_of awaited bytes ≡ Gives parsed rest → prefix_of awaited (bytes ++ more) ≡ Gives parsed (rest ++ more)
gives_more awaited bytes more parsed rest is = gives_by (prefix_of awaited bytes) (prefix_of awaited (bytes ++ more)) more parsed rest (grows awaited bytes more) is

pub fails_more : (awaited : Awaited) (bytes more : List ℕ) (fault : LpdFault) → prefix_of awaited bytes ≡ Fails fault → prefix_of awaited (bytes ++ more) ≡ Fails fault
fails_more awaited bytes more fault is = fails_by (prefix_of awaited bytes) (prefix_of awaited (bytes ++ more)) more fault (grows awaited bytes more) is

-- ---- an item takes a byte at least

gives_rest : (parsed reparsed : ItemRecord) (rest left : List ℕ) → Gives parsed rest ≡ Gives reparsed left → (parsed ≡ reparsed) × (rest ≡ left)
gives_rest parsed reparsed rest left same = ((cc), (cc))

parses_rest : (meant : Result ItemRecord LpdFault) (left : List ℕ) (parsed : ItemRecord) (rest : List ℕ) → line_parses meant left ≡ Gives parsed rest → left ≡ rest
parses_rest (Ok reparsed) left parsed rest is = (gives_rest reparsed parsed left rest is).1
parses_rest (Err fault) left parsed rest is = absurd (let no : Fails fault ≡ Gives parsed rest = is in (cc))

shorter : (bytes rest : List ℕ) (count : ℕ) → count < length bytes → drop (count + 1) bytes ≡ rest → length rest < length bytes
shorter bytes rest count within is = rw (sym is) (omega (arith, within, length-drop (count + 1) bytes))

line_shorter : (meaning : List ℕ → Result ItemRecord LpdFault) (bytes : List ℕ) (prefix : FirstLine) (parsed : ItemRecord) (rest : List ℕ) → first_line_of LPD_LINE_BYTES bytes ≡ prefix → by_line meaning bytes prefix ≡ Gives parsed rest → length rest < length bytes
line_shorter meaning bytes (line.Whole count) parsed rest line is =
    shorter bytes rest count (line_within bytes count line) (parses_rest (meaning (take count bytes)) (drop (count + 1) bytes) parsed rest is)
line_shorter meaning bytes line.TooLong parsed rest line is = absurd (cc is)
line_shorter meaning bytes line.Unfinished parsed rest line is = absurd (cc is)

if_rest : (t : Bool) (reparsed parsed : ItemRecord) (left rest : List ℕ) (fault : LpdFault) → (if t then Gives reparsed left else Fails fault) ≡ Gives parsed rest → left ≡ rest
if_rest true reparsed parsed left rest fault is = (gives_rest reparsed parsed left rest is).1
if_rest false reparsed parsed left rest fault is = absurd (let no : Fails fault ≡ Gives parsed rest = is in (cc))

file_shorter : (count : ℕ) (bytes : List ℕ) (parsed : ItemRecord) (rest : List ℕ) (short : Bool) → nat_le (length bytes) count ≡ short → by_file count bytes ≡ Gives parsed rest → length rest < length bytes
file_shorter count bytes parsed rest true test is =
    let no : Waits ≡ Gives parsed rest = sym (file_waits count bytes (grind (arith, test))) ∙ is in
    absurd (cc no)
file_shorter count bytes parsed rest false test is =
    let within : count < length bytes = grind (arith, test) in
    shorter bytes rest count within (if_rest (slice_index_or bytes count 0 == 0) (HasFile (take count bytes)) parsed (drop (count + 1) bytes) rest MissingZero (sym (file_is count bytes within) ∙ is))

pub less : (awaited : Awaited) (bytes : List ℕ) (parsed : ItemRecord) (rest : List ℕ) → prefix_of awaited bytes ≡ Gives parsed rest → length rest < length bytes
less Command bytes parsed rest is = line_shorter command_line bytes (first_line_of LPD_LINE_BYTES bytes) parsed rest refl is
less Subcommand bytes parsed rest is = line_shorter subcommand_line bytes (first_line_of LPD_LINE_BYTES bytes) parsed rest refl is
less (File count) bytes parsed rest is = file_shorter count bytes parsed rest (nat_le (length bytes) count) refl is
less Nothing bytes parsed rest is = absurd (let no : Waits ≡ Gives parsed rest = is in (cc))

-- ---- items, one after the other

pub leads_then : (a : Awaited) (bytes : List ℕ) (first : List ItemRecord) (b : Awaited) (mid : List ℕ) (later : List ItemRecord) (c : Awaited) (left : List ℕ) → Leads a bytes first b mid → Leads b mid later c left → Leads a bytes (first ++ later) c left
leads_then a bytes [] b mid later c left x y = subst (λ (q : Awaited). Leads q bytes later c left) x.0 (subst (λ (r : List ℕ). Leads b r later c left) x.1 y)
leads_then a bytes (parsed ∷ first) b mid later c left x y = (x.0, x.1, leads_then (awaited_after parsed) x.0 first b mid later c left x.2 y)

pub reads_then : (a : Awaited) (bytes : List ℕ) (first : List ItemRecord) (b : Awaited) (mid : List ℕ) (items : List ItemRecord) (ending : Ending) → Leads a bytes first b mid → Parses b mid items ending → Parses a bytes (first ++ items) ending
reads_then a bytes [] b mid items ending x y = subst (λ (q : Awaited). Parses q bytes items ending) x.0 (subst (λ (r : List ℕ). Parses b r items ending) x.1 y)
reads_then a bytes (parsed ∷ first) b mid items ending x y = (x.0, x.1, reads_then (awaited_after parsed) x.0 first b mid items ending x.2 y)

pub leads_more : (a : Awaited) (bytes more : List ℕ) (items : List ItemRecord) (b : Awaited) (left : List ℕ) → Leads a bytes items b left → Leads a (bytes ++ more) items b (left ++ more)
leads_more a bytes more [] b left x = (x.0, ap (λ l. l ++ more) x.1)
leads_more a bytes more (parsed ∷ items) b left x = (x.0 ++ more, gives_more a bytes more parsed x.0 x.1, leads_more (awaited_after parsed) x.0 more items b left x.2)

-- the items of all of the bytes are parsed first
pub reads_first : (a : Awaited) (bytes : List ℕ) (items : List ItemRecord) (ending : Ending) → Parses a bytes items ending → (next : Awaited) × (left : List ℕ) × Leads a bytes items next left × EndsAs (prefix_of next left) ending
reads_first a bytes [] ending x = (a, bytes, (refl, refl), x)
reads_first a bytes (parsed ∷ items) ending x =
    let tail = reads_first (awaited_after parsed) x.0 items ending x.2 in
    (tail.0, tail.1, (x.0, x.1, tail.2), tail.3)

-- bytes that end have no item at the beginning
ends_no : (prefix : Prefix) (ending : Ending) (parsed : ItemRecord) (rest : List ℕ) → EndsAs prefix ending → prefix ≡ Gives parsed rest → ⊥
ends_no prefix Open parsed rest x is = let no : Waits ≡ Gives parsed rest = sym x ∙ is in (cc)
ends_no prefix (Faulty fault) parsed rest x is = let no : Fails fault ≡ Gives parsed rest = sym x ∙ is in (cc)

ends_one : (prefix : Prefix) (end ending : Ending) → EndsAs prefix end → EndsAs prefix ending → end ≡ ending
ends_one prefix Open Open x y = refl
ends_one prefix Open (Faulty fault) x y = absurd (let no : Waits ≡ Fails fault = sym x ∙ y in (cc))
ends_one prefix (Faulty fault) Open x y = absurd (let no : Fails fault ≡ Waits = sym x ∙ y in (cc))
ends_one prefix (Faulty fault) (Faulty other) x y =
    let same : Fails fault ≡ Fails other = sym x ∙ y in
    let faults : fault ≡ other = (cc) in
    ap (λ (f : LpdFault). Faulty f) faults

pub parses_one : (a : Awaited) (bytes : List ℕ) (given items : List ItemRecord) (end ending : Ending) → Parses a bytes given end → Parses a bytes items ending → (given ≡ items) × (end ≡ ending)
parses_one a bytes [] [] end ending x y = (refl, ends_one (prefix_of a bytes) end ending x y)
parses_one a bytes [] (parsed ∷ items) end ending x y = absurd (ends_no (prefix_of a bytes) end parsed y.0 x y.1)
parses_one a bytes (parsed ∷ given) [] end ending x y = absurd (ends_no (prefix_of a bytes) ending parsed x.0 y x.1)
parses_one a bytes (parsed ∷ given) (reparsed ∷ items) end ending x y =
    let same = gives_rest reparsed parsed y.0 x.0 (sym y.1 ∙ x.1) in
    let tail : Parses (awaited_after parsed) x.0 items ending = subst (λ (s : ItemRecord). Parses (awaited_after s) x.0 items ending) same.0 (subst (λ (r : List ℕ). Parses (awaited_after reparsed) r items ending) same.1 y.2) in
    let later = parses_one (awaited_after parsed) x.0 given items end ending x.2 tail in
    (ap (λ s. s ∷ given) (sym same.0) ∙ ap (λ i. reparsed ∷ i) later.0, later.1)

pub stays_in : (a : Awaited) (bytes more : List ℕ) (first : List ItemRecord) (b : Awaited) (left : List ℕ) (items : List ItemRecord) (ending : Ending) → Leads a bytes first b left → Parses a (bytes ++ more) items ending → (later : List ItemRecord) × (items ≡ first ++ later)
stays_in a bytes more [] b left items ending x y = (items, refl)
stays_in a bytes more (parsed ∷ first) b left [] ending x y = absurd (ends_no (prefix_of a (bytes ++ more)) ending parsed (x.0 ++ more) y (gives_more a bytes more parsed x.0 x.1))
stays_in a bytes more (parsed ∷ first) b left (reparsed ∷ items) ending x y =
    let same = gives_rest reparsed parsed y.0 (x.0 ++ more) (sym y.1 ∙ gives_more a bytes more parsed x.0 x.1) in
    let tail : Parses (awaited_after parsed) (x.0 ++ more) items ending = subst (λ (s : ItemRecord). Parses (awaited_after s) (x.0 ++ more) items ending) same.0 (subst (λ (r : List ℕ). Parses (awaited_after reparsed) r items ending) same.1 y.2) in
    let later = stays_in (awaited_after parsed) x.0 more first b left items ending x.2 tail in
    (later.0, ap (λ s. s ∷ items) same.0 ∙ ap (λ i. parsed ∷ i) later.1)

-- of one length bytes say one list of items first
pub leads_one : (a : Awaited) (bytes : List ℕ) (one other : List ItemRecord) (b c : Awaited) (left remainder : List ℕ) → Leads a bytes one b left → Leads a bytes other c remainder → length one ≡ length other → one ≡ other
leads_one a bytes [] [] b c left remainder x y long = refl
leads_one a bytes [] (reparsed ∷ other) b c left remainder x y long = absurd (omega (arith, long))
leads_one a bytes (parsed ∷ one) [] b c left remainder x y long = absurd (omega (arith, long))
leads_one a bytes (parsed ∷ one) (reparsed ∷ other) b c left remainder x y long =
    let same = gives_rest reparsed parsed y.0 x.0 (sym y.1 ∙ x.1) in
    let tail : Leads (awaited_after parsed) x.0 other c remainder = subst (λ (s : ItemRecord). Leads (awaited_after s) x.0 other c remainder) same.0 (subst (λ (r : List ℕ). Leads (awaited_after reparsed) r other c remainder) same.1 y.2) in
    let later = leads_one (awaited_after parsed) x.0 one other b c left remainder x.2 tail (omega (arith, long)) in
    ap (λ s. s ∷ one) (sym same.0) ∙ ap (λ i. reparsed ∷ i) later

-- no item is after all items of a stream
pub none_follows : (a : Awaited) (bytes : List ℕ) (items : List ItemRecord) (parsed : ItemRecord) (b : Awaited) (left : List ℕ) (ending : Ending) → Leads a bytes (items ++ parsed ∷ []) b left → Parses a bytes items ending → ⊥
none_follows a bytes [] parsed b left ending x y = ends_no (prefix_of a bytes) ending parsed x.0 y x.1
none_follows a bytes (reparsed ∷ items) parsed b left ending x y =
    let same = gives_rest reparsed reparsed y.0 x.0 (sym y.1 ∙ x.1) in
    none_follows (awaited_after reparsed) x.0 items parsed b left ending x.2 (subst (λ (r : List ℕ). Parses (awaited_after reparsed) r items ending) same.1 y.2)

-- ---- every stream has its items

abbrev HasItems : Awaited → List ℕ → Type 0
HasItems a bytes = (items : List ItemRecord) × (ending : Ending) × Parses a bytes items ending

some_by : (a : Awaited) (bytes : List ℕ) (prefix : Prefix) → prefix_of a bytes ≡ prefix → ((b : Awaited) (rest : List ℕ) → length rest < length bytes → HasItems b rest) → HasItems a bytes
some_by a bytes (Gives parsed rest) is later =
    let tail = later (awaited_after parsed) rest (less a bytes parsed rest is) in
    (parsed ∷ tail.0, tail.1, (rest, is, tail.2))
some_by a bytes (Fails fault) is later = ([], Faulty fault, is)
some_by a bytes Waits is later = ([], Open, is)

some_in : (most : ℕ) (a : Awaited) (bytes : List ℕ) → length bytes < most → HasItems a bytes
some_in zero a bytes fits = absurd (omega (arith, fits))
some_in (suc most) a bytes fits = some_by a bytes (prefix_of a bytes) refl (λ b rest short. some_in most b rest (omega (arith, fits, short)))

pub parses_some : (a : Awaited) (bytes : List ℕ) → HasItems a bytes
parses_some a bytes = some_in (length bytes + 1) a bytes (omega arith)
