-- The lines of a written text are read as their contents.
use Rattle.std.proofs.Common.{◌≡◌, ◌==◌, ◌&&◌, ℕ, ℤ, ◌-◌, ◌≤◌, Bool, true, false, List, [], ◌∷◌, ◌++◌, length, map, take, slice_index_or, All, IfSome, Option, Result, Ok, Err, if◌then◌else◌, refl, sym, ap, ◌∙◌, arith, codes, append_assoc, append-nil, length-append}
use Rattle.std.specs.List.{list_all}
use Rattle.std.specs.Fmt.{decimal, signed_decimal}
use Rattle.std.proofs.lemmas.Bool.{and_from}
use Rattle.std.proofs.lemmas.List.Splits.{slice_split_at}
use Rattle.base_types.specs.declared.limits.TheConstants.Limits.{HIGHEST_PRIORITY, LAST_JOB_ID, WAIT, AMOUNT, DEFAULT_PRIORITY}
use Rattle.base_types.specs.declared.needs.Cause.{Cause}
use Rattle.base_types.specs.declared.needs.Cause.TheVariants as causes
use Rattle.base_types.specs.Forms.{is_name}
use Rattle.base_types.specs.Ranges.{IsJobId, IsPriority}
use Rattle.plan_problem.specs.Time.{IsTime}
use Rattle.plan_text.specs.declared.fault.TextFault.{TextFault}
use Rattle.plan_text.specs.declared.fault.TextFault.TheVariants.{BadLine}
use Rattle.plan_text.specs.declared.stage.Stage.TheVariants as stages
use Rattle.text.specs.Steps.{◌>>=◌}
use Rattle.plan_text.specs.Word.{cause_at}
use Rattle.plan_text.specs.Line.{PlanLine, HeadLine, DeviceLine, ClassLine, JobLine, WaitLine, WayLine, TotalLine, JobPricesLine, PlacePricesLine, StrandedLine, EndLine, device_at, class_at, job_at, wait_at, way_at, total_at, job_prices_at, place_prices_at, stranded_at, line_of, line_at}
use Rattle.plan_text.specs.Steps.{DraftRecord, is_at, next}
use Rattle.plan_text.specs.Whole.{line_next, lines_next, empty_draft, ended, plan_from, plan_in, plan_at}
use Rattle.text.specs.Parts.{words_of, texts_of}
use Rattle.plan_text.specs.Writing.{cause_word, entry_word, entries_text, numbers_text, prices_text, line_text, lines_text}
use Rattle.plan_text.specs.Ranges.{IsPrice}
use Rattle.plan_text.proofs.Sound.{ok}
use Rattle.plan_text.proofs.Again.{lacks, spaced, split_words, lacks-spaced, lacks-append, lacks-map, number_again, numbers_again, all_numbers, decimal_is_number, decimal_lacks, entries_again, all_entries, entry_lacks, prices_again, all_prices, price_lacks, name_lacks, none_in}

-- the contents that a line may have
abbrev pub ParsedInRange : PlanLine → Type 0
ParsedInRange HeadLine = Unit {0}
ParsedInRange (DeviceLine name) = is_name name ≡ true
ParsedInRange (ClassLine priority) = IsPriority priority
ParsedInRange (JobLine id times) = IsJobId id × All (λ entry. IfSome entry IsTime) times
ParsedInRange (WaitLine waits) = All (λ wait. wait ≤ WAIT) waits
ParsedInRange (WayLine device jobs) = (is_name device ≡ true) × All IsJobId jobs
ParsedInRange (TotalLine total) = total ≤ AMOUNT
ParsedInRange (JobPricesLine prices) = All IsPrice prices
ParsedInRange (PlacePricesLine device prices) = (is_name device ≡ true) × All IsPrice prices
ParsedInRange (StrandedLine stranded) = IsJobId stranded.job
ParsedInRange EndLine = Unit {0}

-- the first word of a line, and the words after it
abbrev pub first_of : PlanLine → List ℕ
first_of HeadLine = codes "plan"
first_of (DeviceLine name) = codes "device"
first_of (ClassLine priority) = codes "class"
first_of (JobLine id times) = codes "job"
first_of (WaitLine waits) = codes "wait"
first_of (WayLine device jobs) = codes "way"
first_of (TotalLine total) = codes "total"
first_of (JobPricesLine prices) = codes "jobprices"
first_of (PlacePricesLine device prices) = codes "placeprices"
first_of (StrandedLine stranded) = codes "stranded"
first_of EndLine = codes "end"

abbrev pub rest_of : PlanLine → List (List ℕ)
rest_of HeadLine = []
rest_of (DeviceLine name) = name ∷ []
rest_of (ClassLine priority) = decimal priority ∷ []
rest_of (JobLine id times) = decimal id ∷ map entry_word times
rest_of (WaitLine waits) = map decimal waits
rest_of (WayLine device jobs) = device ∷ map decimal jobs
rest_of (TotalLine total) = decimal total ∷ []
rest_of (JobPricesLine prices) = map signed_decimal prices
rest_of (PlacePricesLine device prices) = device ∷ map signed_decimal prices
rest_of (StrandedLine stranded) = decimal stranded.job ∷ cause_word stranded.cause ∷ []
rest_of EndLine = []

-- the line without its line feed
abbrev pub body_of : PlanLine → List ℕ
body_of parsed = first_of parsed ++ spaced (rest_of parsed)

entries_spaced : (times : List (Option ℕ)) → entries_text times ≡ spaced (map entry_word times)
entries_spaced [] = refl
entries_spaced (entry ∷ times) = ap (λ rest. 32 ∷ (entry_word entry ++ rest)) (entries_spaced times)

numbers_spaced : (ns : List ℕ) → numbers_text ns ≡ spaced (map decimal ns)
numbers_spaced [] = refl
numbers_spaced (n ∷ ns) = ap (λ rest. 32 ∷ (decimal n ++ rest)) (numbers_spaced ns)

prices_spaced : (prices : List ℤ) → prices_text prices ≡ spaced (map signed_decimal prices)
prices_spaced [] = refl
prices_spaced (price ∷ prices) = ap (λ rest. 32 ∷ (signed_decimal price ++ rest)) (prices_spaced prices)

abbrev pub feed : List ℕ
feed = 10 ∷ []

-- a word, and then words after spaces
word_and : (word text : List ℕ) (words : List (List ℕ)) → text ≡ spaced words → word ++ (text ++ feed) ≡ (word ++ spaced words) ++ feed
word_and word text words e = ap (λ t. word ++ (t ++ feed)) e ∙ sym (append_assoc word (spaced words) feed)

only_and : (word : List ℕ) → word ++ feed ≡ (word ++ []) ++ feed
only_and word = ap (λ w. w ++ feed) (sym (append-nil word))

pub line_is : (parsed : PlanLine) → line_text parsed ≡ body_of parsed ++ feed
unfolding line_text
line_is HeadLine = refl
line_is (DeviceLine name) = ap (λ rest. codes "device " ++ rest) (only_and name)
line_is (ClassLine priority) = ap (λ rest. codes "class " ++ rest) (only_and (decimal priority))
line_is (JobLine id times) = ap (λ rest. codes "job " ++ rest) (word_and (decimal id) (entries_text times) (map entry_word times) (entries_spaced times))
line_is (WaitLine waits) = ap (λ rest. codes "wait" ++ (rest ++ feed)) (numbers_spaced waits)
line_is (WayLine device jobs) = ap (λ rest. codes "way " ++ rest) (word_and device (numbers_text jobs) (map decimal jobs) (numbers_spaced jobs))
line_is (TotalLine total) = ap (λ rest. codes "total " ++ rest) (only_and (decimal total))
line_is (JobPricesLine prices) = ap (λ rest. codes "jobprices" ++ (rest ++ feed)) (prices_spaced prices)
line_is (PlacePricesLine device prices) = ap (λ rest. codes "placeprices " ++ rest) (word_and device (prices_text prices) (map signed_decimal prices) (prices_spaced prices))
line_is (StrandedLine stranded) =
    ap (λ rest. codes "stranded " ++ (decimal stranded.job ++ (32 ∷ rest))) (only_and (cause_word stranded.cause))
    ∙ ap (λ rest. codes "stranded " ++ rest) (sym (append_assoc (decimal stranded.job) (32 ∷ (cause_word stranded.cause ++ [])) feed))
line_is EndLine = refl

-- ---- the words of a line have no space and no line feed

cause_lacks : (cause : Cause) → (lacks 32 (cause_word cause) ≡ true) × (lacks 10 (cause_word cause) ≡ true)
cause_lacks causes.NoDevice = (refl, refl)
cause_lacks causes.Format = (refl, refl)
cause_lacks causes.Sides = (refl, refl)
cause_lacks causes.Finishings = (refl, refl)
cause_lacks causes.Media = (refl, refl)
cause_lacks causes.Running = (refl, refl)

first_lacks : (parsed : PlanLine) → (lacks 32 (first_of parsed) ≡ true) × (lacks 10 (first_of parsed) ≡ true)
first_lacks HeadLine = (refl, refl)
first_lacks (DeviceLine name) = (refl, refl)
first_lacks (ClassLine priority) = (refl, refl)
first_lacks (JobLine id times) = (refl, refl)
first_lacks (WaitLine waits) = (refl, refl)
first_lacks (WayLine device jobs) = (refl, refl)
first_lacks (TotalLine total) = (refl, refl)
first_lacks (JobPricesLine prices) = (refl, refl)
first_lacks (PlacePricesLine device prices) = (refl, refl)
first_lacks (StrandedLine stranded) = (refl, refl)
first_lacks EndLine = (refl, refl)

all_of_two : (a b : Bool) → a ≡ true → b ≡ true → (a && (b && true)) ≡ true
all_of_two a b ha hb = rw (ha, hb) refl

one_lacks : (byte : ℕ) (word : List ℕ) → lacks byte word ≡ true → list_all (lacks byte) (word ∷ []) ≡ true
one_lacks byte word h = and_from (lacks byte word) true h refl

rest_lacks_space : (parsed : PlanLine) → ParsedInRange parsed → list_all (lacks 32) (rest_of parsed) ≡ true
rest_lacks_space HeadLine h = refl
rest_lacks_space (DeviceLine name) h = one_lacks 32 name (name_lacks 32 name refl h)
rest_lacks_space (ClassLine priority) h = one_lacks 32 (decimal priority) (decimal_lacks 32 priority refl (omega (arith, h.1)))
rest_lacks_space (JobLine id times) h = and_from (lacks 32 (decimal id)) (list_all (lacks 32) (map entry_word times)) (decimal_lacks 32 id refl (omega (arith, h.0.1))) (lacks-map 32 (λ entry. IfSome entry IsTime) entry_word times (entry_lacks 32 refl refl) h.1)
rest_lacks_space (WaitLine waits) h = lacks-map 32 (λ wait. wait ≤ WAIT) decimal waits (λ n l. decimal_lacks 32 n refl (omega (arith, l))) h
rest_lacks_space (WayLine device jobs) h = and_from (lacks 32 device) (list_all (lacks 32) (map decimal jobs)) (name_lacks 32 device refl h.0) (lacks-map 32 IsJobId decimal jobs (λ n l. decimal_lacks 32 n refl (omega (arith, l.1))) h.1)
rest_lacks_space (TotalLine total) h = one_lacks 32 (decimal total) (decimal_lacks 32 total refl (omega (arith, h)))
rest_lacks_space (JobPricesLine prices) h = lacks-map 32 IsPrice signed_decimal prices (price_lacks 32 refl refl) h
rest_lacks_space (PlacePricesLine device prices) h = and_from (lacks 32 device) (list_all (lacks 32) (map signed_decimal prices)) (name_lacks 32 device refl h.0) (lacks-map 32 IsPrice signed_decimal prices (price_lacks 32 refl refl) h.1)
rest_lacks_space (StrandedLine stranded) h = all_of_two (lacks 32 (decimal stranded.job)) (lacks 32 (cause_word stranded.cause)) (decimal_lacks 32 stranded.job refl (omega (arith, h.1))) (cause_lacks stranded.cause).0
rest_lacks_space EndLine h = refl

rest_lacks_feed : (parsed : PlanLine) → ParsedInRange parsed → list_all (lacks 10) (rest_of parsed) ≡ true
rest_lacks_feed HeadLine h = refl
rest_lacks_feed (DeviceLine name) h = one_lacks 10 name (name_lacks 10 name refl h)
rest_lacks_feed (ClassLine priority) h = one_lacks 10 (decimal priority) (decimal_lacks 10 priority refl (omega (arith, h.1)))
rest_lacks_feed (JobLine id times) h = and_from (lacks 10 (decimal id)) (list_all (lacks 10) (map entry_word times)) (decimal_lacks 10 id refl (omega (arith, h.0.1))) (lacks-map 10 (λ entry. IfSome entry IsTime) entry_word times (entry_lacks 10 refl refl) h.1)
rest_lacks_feed (WaitLine waits) h = lacks-map 10 (λ wait. wait ≤ WAIT) decimal waits (λ n l. decimal_lacks 10 n refl (omega (arith, l))) h
rest_lacks_feed (WayLine device jobs) h = and_from (lacks 10 device) (list_all (lacks 10) (map decimal jobs)) (name_lacks 10 device refl h.0) (lacks-map 10 IsJobId decimal jobs (λ n l. decimal_lacks 10 n refl (omega (arith, l.1))) h.1)
rest_lacks_feed (TotalLine total) h = one_lacks 10 (decimal total) (decimal_lacks 10 total refl (omega (arith, h)))
rest_lacks_feed (JobPricesLine prices) h = lacks-map 10 IsPrice signed_decimal prices (price_lacks 10 refl refl) h
rest_lacks_feed (PlacePricesLine device prices) h = and_from (lacks 10 device) (list_all (lacks 10) (map signed_decimal prices)) (name_lacks 10 device refl h.0) (lacks-map 10 IsPrice signed_decimal prices (price_lacks 10 refl refl) h.1)
rest_lacks_feed (StrandedLine stranded) h = all_of_two (lacks 10 (decimal stranded.job)) (lacks 10 (cause_word stranded.cause)) (decimal_lacks 10 stranded.job refl (omega (arith, h.1))) (cause_lacks stranded.cause).1
rest_lacks_feed EndLine h = refl

body_lacks : (parsed : PlanLine) → ParsedInRange parsed → lacks 10 (body_of parsed) ≡ true
body_lacks parsed h = lacks-append 10 (first_of parsed) (spaced (rest_of parsed)) (first_lacks parsed).1 (lacks-spaced (rest_of parsed) (rest_lacks_feed parsed h))

-- ---- the words of a line are read as its content

cause_again : (cause : Cause) → cause_at (cause_word cause) ≡ ok cause
unfolding cause_at
cause_again causes.NoDevice = refl
cause_again causes.Format = refl
cause_again causes.Sides = refl
cause_again causes.Finishings = refl
cause_again causes.Media = refl
cause_again causes.Running = refl

parsed_again : (parsed : PlanLine) → ParsedInRange parsed → line_at (first_of parsed ∷ rest_of parsed) ≡ ok parsed
unfolding line_of device_at class_at job_at wait_at way_at total_at job_prices_at place_prices_at stranded_at
parsed_again HeadLine h = refl
parsed_again (DeviceLine name) h = rw h refl
parsed_again (ClassLine priority) h = rw (number_again 1 HIGHEST_PRIORITY priority h.0 h.1 (omega (arith, h.1))) refl
parsed_again (JobLine id times) h = rw (decimal_is_number id (omega (arith, h.0.1)), all_entries times h.1, number_again 1 LAST_JOB_ID id h.0.0 h.0.1 (omega (arith, h.0.1)), entries_again times h.1) refl
parsed_again (WaitLine waits) h = rw (all_numbers WAIT waits (omega arith) h, numbers_again 0 WAIT waits (omega arith) (λ k d l. (omega arith, h k d l))) refl
parsed_again (WayLine device jobs) h = rw (h.0, all_numbers LAST_JOB_ID jobs (omega arith) (λ k d l. (h.1 k d l).1), numbers_again 1 LAST_JOB_ID jobs (omega arith) h.1) refl
parsed_again (TotalLine total) h = rw (number_again 0 AMOUNT total (omega arith) h (omega (arith, h))) refl
parsed_again (JobPricesLine prices) h = rw (all_prices prices h, prices_again prices h) refl
parsed_again (PlacePricesLine device prices) h = rw (h.0, all_prices prices h.1, prices_again prices h.1) refl
parsed_again (StrandedLine stranded) h = rw (cause_again stranded.cause, number_again 1 LAST_JOB_ID stranded.job h.0 h.1 (omega (arith, h.1))) refl
parsed_again EndLine h = refl

pub line_again : (parsed : PlanLine) → ParsedInRange parsed → line_at (words_of (body_of parsed)) ≡ ok parsed
line_again parsed h = ap line_at (split_words (first_of parsed) (rest_of parsed) (first_lacks parsed).0 (rest_lacks_space parsed h)) ∙ parsed_again parsed h

-- ---- the lines of a text

abbrev pub AllInRange : List PlanLine → Type 0
AllInRange [] = Unit {0}
AllInRange (parsed ∷ lines) = ParsedInRange parsed × AllInRange lines

pub AllInRange-append : (xs ys : List PlanLine) → AllInRange xs → AllInRange ys → AllInRange (xs ++ ys)
AllInRange-append [] ys hx hy = hy
AllInRange-append (x ∷ xs) ys hx hy = (hx.0, AllInRange-append xs ys hx.1 hy)

none_breaks : (word : List ℕ) → lacks 10 word ≡ true → All (λ x. (x == 10) ≡ false) word
none_breaks word h = none_in 10 word h

parts_are : (lines : List PlanLine) → AllInRange lines → texts_of (lines_text lines) ≡ map body_of lines ++ [] ∷ []
parts_are [] h = refl
parts_are (parsed ∷ lines) h =
    ap (λ text. texts_of (text ++ lines_text lines)) (line_is parsed)
    ∙ ap texts_of (append_assoc (body_of parsed) feed (lines_text lines))
    ∙ slice_split_at (λ byte. byte == 10) (body_of parsed) 10 (lines_text lines) (none_breaks (body_of parsed) (body_lacks parsed h.0)) refl
    ∙ ap (λ parts. body_of parsed ∷ parts) (parts_are lines h.1)

-- the state of the reader after lines with these contents, each in turn
abbrev pub plan_line_next : DraftRecord → PlanLine → Result DraftRecord TextFault
plan_line_next draft parsed = if is_at draft stages.Ended then Err BadLine else next draft parsed

abbrev pub plan_lines_next : DraftRecord → List PlanLine → Result DraftRecord TextFault
plan_lines_next draft [] = Ok draft
plan_lines_next draft (parsed ∷ lines) = plan_line_next draft parsed >>= λ then'. plan_lines_next then' lines

line_parsed : (draft : DraftRecord) (parsed : PlanLine) → ParsedInRange parsed → line_next draft (body_of parsed) ≡ plan_line_next draft parsed
unfolding line_next
line_parsed draft parsed h = ap (λ (r : Result PlanLine TextFault). if is_at draft stages.Ended then Err BadLine else (r >>= λ parsed. next draft parsed)) (line_again parsed h)

each_then : (r : Result DraftRecord TextFault) (f g : DraftRecord → Result DraftRecord TextFault) → ((draft : DraftRecord) → f draft ≡ g draft) → (r >>= f) ≡ (r >>= g)
each_then (Ok draft) f g same = same draft
each_then (Err fault) f g same = refl

lines_parsed : (draft : DraftRecord) (lines : List PlanLine) → AllInRange lines → lines_next draft (map body_of lines) ≡ plan_lines_next draft lines
lines_parsed draft [] h = refl
lines_parsed draft (parsed ∷ lines) h =
    ap (λ (r : Result DraftRecord TextFault). r >>= λ then'. lines_next then' (map body_of lines)) (line_parsed draft parsed h.0)
    ∙ each_then (plan_line_next draft parsed) (λ then'. lines_next then' (map body_of lines)) (λ then'. plan_lines_next then' lines) (λ then'. lines_parsed then' lines h.1)

prefix_is : (xs ys : List (List ℕ)) → take (length xs) (xs ++ ys) ≡ xs
prefix_is [] ys = refl
prefix_is (x ∷ xs) ys = ap (λ rest. x ∷ rest) (prefix_is xs ys)

last_is : (xs : List (List ℕ)) (x : List ℕ) → slice_index_or (xs ++ x ∷ []) (length xs) [] ≡ x
last_is [] x = refl
last_is (y ∷ xs) x = last_is xs x

-- the result of reading a text of these lines
pub text_parsed : (lines : List PlanLine) → AllInRange lines → plan_at (lines_text lines) ≡ (plan_lines_next (empty_draft DEFAULT_PRIORITY) lines >>= λ draft. ended draft [])
unfolding plan_in plan_from
text_parsed lines h =
    let whole : List (List ℕ) = map body_of lines in
    let all : List (List ℕ) = whole ++ [] ∷ [] in
    let count : length all - 1 ≡ length whole = omega (arith, length-append whole ([] ∷ [])) in
    ap plan_in (parts_are lines h)
    ∙ ap (λ n. plan_from (take n all) (slice_index_or all n [])) count
    ∙ ap (λ ls. plan_from ls (slice_index_or all (length whole) [])) (prefix_is whole ([] ∷ []))
    ∙ ap (λ rest. plan_from whole rest) (last_is whole [])
    ∙ ap (λ (r : Result DraftRecord TextFault). r >>= λ draft. ended draft []) (lines_parsed (empty_draft DEFAULT_PRIORITY) lines h)
