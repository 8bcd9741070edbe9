-- The words of a line that is read are the words with which its content is written.
use Rattle.std.proofs.Common.{◌≡◌, ◌==◌, ◌&&◌, ◌||◌, ℕ, ℤ, pos, neg_ℤ, zero, suc, ◌^◌, ◌<◌, ◌≤◌, Bool, true, false, not, List, [], ◌∷◌, ◌++◌, length, map, drop, All, IfSome, Option, Some, None, Result, Err, if◌then◌else◌, nat_lt, refl, sym, ap, ◌∙◌, subst, inl, inr, arith, codes, append-nil, slice_index}
use Rattle.std.specs.List.{list_all, join_with_byte}
use Rattle.std.specs.Str.{all_ascii_digits, bytes_eq}
use Rattle.std.specs.Str.Parse.{digits_value}
use Rattle.std.specs.Fmt.{decimal, signed_decimal}
use Rattle.std.proofs.lemmas.Bool.{and_parts, eqb-true}
use Rattle.std.proofs.lemmas.Bool.Decides.{nat_tests}
use Rattle.std.proofs.lemmas.List.Elements.{All-cons, All-nil}
use Rattle.std.proofs.lemmas.List.Splits.{join_with_byte-slice_split}
use Rattle.std.proofs.lemmas.Fmt.{decimal-digits_value}
use Rattle.std.proofs.lemmas.Int.{ints}
use Rattle.base_types.specs.declared.limits.TheConstants.Limits.{AMOUNT, JOB_TIME, HIGHEST_PRIORITY, LAST_JOB_ID, WAIT}
use Rattle.base_types.specs.declared.needs.Cause.{Cause}
use Rattle.base_types.specs.declared.needs.Cause.TheVariants as causes
use Rattle.base_types.specs.Forms.{is_name}
use Rattle.plan_problem.specs.Time.{IsTime}
use Rattle.text.specs.Digits.{is_number}
use Rattle.text.specs.Parts.{words_of}
use Rattle.text.specs.Steps.{◌>>=◌}
use Rattle.text.proofs.Chains.{went_on}
use Rattle.plan_text.specs.declared.fault.TextFault.{TextFault}
use Rattle.plan_text.specs.declared.fault.TextFault.TheVariants.{BadLine, OutOfRange}
use Rattle.plan_text.specs.Word.{number_at, numbers_at, is_dash, entry_at, entries_at, is_entry, has_minus, is_price, price_at, prices_at, cause_at}
use Rattle.plan_text.specs.Line.{PlanLine, HeadLine, DeviceLine, ClassLine, JobLine, WaitLine, WayLine, TotalLine, JobPricesLine, PlacePricesLine, StrandedLine, EndLine, only_word, first_word, alone_at, device_at, class_at, job_at, wait_at, way_at, total_at, job_prices_at, place_prices_at, stranded_at, line_of, line_at}
use Rattle.plan_text.specs.Writing.{entry_word, cause_word, line_text}
use Rattle.plan_text.specs.Ranges.{IsPrice}
use Rattle.plan_text.proofs.Sound.{ok, ok_is, taken, passed, either}
use Rattle.plan_text.proofs.Again.{own, spaced}
use Rattle.plan_text.proofs.LinesReadBack.{ParsedInRange, first_of, rest_of, body_of, feed, line_is}

-- ---- texts that are cut

pub same_bytes : (xs ys : List ℕ) → bytes_eq xs ys ≡ true → xs ≡ ys
same_bytes [] [] h = refl
same_bytes [] (y ∷ ys) h = absurd (cc)
same_bytes (x ∷ xs) [] h = absurd (cc)
same_bytes (x ∷ xs) (y ∷ ys) h =
    let p : ((x == y) ≡ true) × (bytes_eq xs ys ≡ true) = and_parts (x == y) (bytes_eq xs ys) h in
    ap (λ b. b ∷ xs) (eqb-true x y p.0) ∙ ap (λ rest. y ∷ rest) (same_bytes xs ys p.1)

joined_words : (first : List ℕ) (words : List (List ℕ)) → join_with_byte 32 (first ∷ words) ≡ first ++ spaced words
joined_words first [] = sym (append-nil first)
joined_words first (word ∷ words) = ap (λ rest. first ++ (32 ∷ rest)) (joined_words word words)

-- a line is its words, each after a space
pub words_joined : (line first : List ℕ) (words : List (List ℕ)) → words_of line ≡ first ∷ words → line ≡ first ++ spaced words
words_joined line first words is = sym (join_with_byte-slice_split 32 line) ∙ ap (join_with_byte 32) is ∙ joined_words first words

-- ---- numbers

pub number_spelt : (least most : ℕ) (word : List ℕ) (n : ℕ) → most < 2 ^ 64 → number_at least most word ≡ ok n → (word ≡ decimal n) × (least ≤ n) × (n ≤ most)
unfolding number_at is_number
number_spelt least most word n small h =
    let v : ℕ = digits_value 10 word in
    let out : Bool = nat_lt v least || nat_lt most v in
    let t = taken (is_number word) (if out then Err OutOfRange else ok v) BadLine n h in
    let p = passed out (ok v) OutOfRange n t.1 in
    let is : v ≡ n = ok_is v n p.1 in
    let within : (nat_lt v least ≡ false) × (nat_lt most v ≡ false) = neither (nat_lt v least) (nat_lt most v) p.0 in
    let above : least ≤ v = not_below v least within.0 in
    let below : v ≤ most = not_below most v within.1 in
    let w : ((nat_lt 0 (length word) && all_ascii_digits word) ≡ true) × ((not (slice_index word 0 == 48) || (length word == 1)) ≡ true) = and_parts (nat_lt 0 (length word) && all_ascii_digits word) (not (slice_index word 0 == 48) || (length word == 1)) t.0 in
    let d : (nat_lt 0 (length word) ≡ true) × (all_ascii_digits word ≡ true) = and_parts (nat_lt 0 (length word)) (all_ascii_digits word) w.0 in
    let spelt : decimal v ≡ word = decimal-digits_value own word d.1 (is_below 0 (length word) d.0) (λ zero'. alone (slice_index word 0) (length word) zero' w.1) (omega (arith, below, small)) in
    (sym spelt ∙ ap decimal is, subst (λ m. least ≤ m) is above, subst (λ m. m ≤ most) is below)
  where
    neither : (a b : Bool) → (a || b) ≡ false → (a ≡ false) × (b ≡ false)
    neither false false e = (refl, refl)
    neither false true e = absurd (cc)
    neither true b e = absurd (cc)

    is_below : (a b : ℕ) → nat_lt a b ≡ true → a < b
    is_below a b e = grind (arith, nat_tests)

    not_below : (a b : ℕ) → nat_lt a b ≡ false → b ≤ a
    not_below a b e = grind (arith, nat_tests)

    alone : (byte count : ℕ) → byte ≡ 48 → (not (byte == 48) || (count == 1)) ≡ true → count ≡ 1
    alone byte count e h = grind (arith, nat_tests)

pub numbers_spelt : (least most : ℕ) (words : List (List ℕ)) (ns : List ℕ) → most < 2 ^ 64 → numbers_at least most words ≡ ok ns → (words ≡ map decimal ns) × All (λ n. (least ≤ n) × (n ≤ most)) ns
numbers_spelt least most [] ns small h =
    let P : ℕ → Type 0 = λ n. (least ≤ n) × (n ≤ most) in
    let none : [] ≡ ns = ok_is [] ns h in
    (ap (map decimal) none, subst (All P) none (All-nil P))
numbers_spelt least most (word ∷ words) ns small h =
    let P : ℕ → Type 0 = λ n. (least ≤ n) × (n ≤ most) in
    let w = went_on (number_at least most word) (λ n. numbers_at least most words >>= λ more. ok (n ∷ more)) ns h in
    let r = went_on (numbers_at least most words) (λ more. ok (w.0 ∷ more)) ns w.2 in
    let first = number_spelt least most word w.0 small w.1 in
    let later = numbers_spelt least most words r.0 small r.1 in
    let is : w.0 ∷ r.0 ≡ ns = ok_is (w.0 ∷ r.0) ns r.2 in (
      ap (λ x. x ∷ words) first.0 ∙ ap (λ xs. decimal w.0 ∷ xs) later.0 ∙ ap (map decimal) is,
      subst (All P) is (All-cons P w.0 r.0 (first.1, first.2) later.1),
    )

-- ---- times

entry_spelt : (word : List ℕ) (entry : Option ℕ) → entry_at word ≡ ok entry → (word ≡ entry_word entry) × IfSome entry IsTime
unfolding entry_at is_dash
entry_spelt word entry h = elim (either (is_dash word) (ok None) (number_at 1 JOB_TIME word >>= λ n. ok (Some n)) entry h) [
  | inl dash ↦
      let E : Option ℕ → Type 0 = λ e. (word ≡ entry_word e) × IfSome e IsTime in
      subst E (ok_is None entry dash.1) (same_bytes word (codes "-") dash.0, tt)
  | inr time ↦
      let E : Option ℕ → Type 0 = λ e. (word ≡ entry_word e) × IfSome e IsTime in
      let w = went_on (number_at 1 JOB_TIME word) (λ n. ok (Some n)) entry time.1 in
      let s = number_spelt 1 JOB_TIME word w.0 (omega arith) w.1 in
      subst E (ok_is (Some w.0) entry w.2) (s.0, (s.1, s.2))
]

pub entries_spelt : (words : List (List ℕ)) (times : List (Option ℕ)) → entries_at words ≡ ok times → (words ≡ map entry_word times) × All (λ entry. IfSome entry IsTime) times
entries_spelt [] times h =
    let P : Option ℕ → Type 0 = λ entry. IfSome entry IsTime in
    let none : [] ≡ times = ok_is [] times h in
    (ap (map entry_word) none, subst (All P) none (All-nil P))
entries_spelt (word ∷ words) times h =
    let P : Option ℕ → Type 0 = λ entry. IfSome entry IsTime in
    let w = went_on (entry_at word) (λ entry. entries_at words >>= λ more. ok (entry ∷ more)) times h in
    let r = went_on (entries_at words) (λ more. ok (w.0 ∷ more)) times w.2 in
    let first = entry_spelt word w.0 w.1 in
    let later = entries_spelt words r.0 r.1 in
    let is : w.0 ∷ r.0 ≡ times = ok_is (w.0 ∷ r.0) times r.2 in (
      ap (λ x. x ∷ words) first.0 ∙ ap (λ xs. entry_word w.0 ∷ xs) later.0 ∙ ap (map entry_word) is,
      subst (All P) is (All-cons P w.0 r.0 first.1 later.1),
    )

-- ---- prices

minus_first : (word : List ℕ) → has_minus word ≡ true → word ≡ 45 ∷ drop 1 word
unfolding has_minus
minus_first [] h = absurd (cc)
minus_first (c ∷ word) h =
    let p : (nat_lt 0 (length (c ∷ word)) ≡ true) × ((c == 45) ≡ true) = and_parts (nat_lt 0 (length (c ∷ word))) (c == 45) h in
    ap (λ x. x ∷ word) (eqb-true c 45 p.1)

below_zero : (n : ℕ) → 1 ≤ n → n ≤ AMOUNT → (45 ∷ decimal n ≡ signed_decimal (neg_ℤ (pos n))) × IsPrice (neg_ℤ (pos n))
below_zero zero some few = absurd (omega (arith, some))
below_zero (suc n) some few = (refl, (omega (arith, ints, few), omega (arith, ints)))

price_spelt : (word : List ℕ) (price : ℤ) → price_at word ≡ ok price → (word ≡ signed_decimal price) × IsPrice price
unfolding price_at
price_spelt word price h = elim (either (has_minus word) (number_at 1 AMOUNT (drop 1 word) >>= λ n. ok (neg_ℤ (pos n))) (number_at 0 AMOUNT word >>= λ n. ok (pos n)) price h) [
  | inl minus ↦
      let E : ℤ → Type 0 = λ p. (word ≡ signed_decimal p) × IsPrice p in
      let w = went_on (number_at 1 AMOUNT (drop 1 word)) (λ n. ok (neg_ℤ (pos n))) price minus.1 in
      let s = number_spelt 1 AMOUNT (drop 1 word) w.0 (omega arith) w.1 in
      let b = below_zero w.0 s.1 s.2 in
      subst E (ok_is (neg_ℤ (pos w.0)) price w.2) (minus_first word minus.0 ∙ ap (λ rest. 45 ∷ rest) s.0 ∙ b.0, b.1)
  | inr plain ↦
      let E : ℤ → Type 0 = λ p. (word ≡ signed_decimal p) × IsPrice p in
      let w = went_on (number_at 0 AMOUNT word) (λ n. ok (pos n)) price plain.1 in
      let s = number_spelt 0 AMOUNT word w.0 (omega arith) w.1 in
      subst E (ok_is (pos w.0) price w.2) (s.0, (omega (arith, ints), omega (arith, ints, s.2)))
]

pub prices_spelt : (words : List (List ℕ)) (prices : List ℤ) → prices_at words ≡ ok prices → (words ≡ map signed_decimal prices) × All IsPrice prices
prices_spelt [] prices h =
    let none : [] ≡ prices = ok_is [] prices h in
    (ap (map signed_decimal) none, subst (All IsPrice) none (All-nil IsPrice))
prices_spelt (word ∷ words) prices h =
    let w = went_on (price_at word) (λ price. prices_at words >>= λ more. ok (price ∷ more)) prices h in
    let r = went_on (prices_at words) (λ more. ok (w.0 ∷ more)) prices w.2 in
    let first = price_spelt word w.0 w.1 in
    let later = prices_spelt words r.0 r.1 in
    let is : w.0 ∷ r.0 ≡ prices = ok_is (w.0 ∷ r.0) prices r.2 in (
      ap (λ x. x ∷ words) first.0 ∙ ap (λ xs. signed_decimal w.0 ∷ xs) later.0 ∙ ap (map signed_decimal) is,
      subst (All IsPrice) is (All-cons IsPrice w.0 r.0 first.1 later.1),
    )

-- ---- lines

-- one of the words of a cause
cause_named : (word name : List ℕ) (cause found : Cause) (r : Result Cause TextFault) → name ≡ cause_word cause → (if bytes_eq word name then ok cause else r) ≡ ok found → (r ≡ ok found → word ≡ cause_word found) → word ≡ cause_word found
cause_named word name cause found r is h later = elim (either (bytes_eq word name) (ok cause) r found h) [
  | inl here ↦ same_bytes word name here.0 ∙ is ∙ ap cause_word (ok_is cause found here.1)
  | inr other ↦ later other.1
]

cause_spelt : (word : List ℕ) (cause : Cause) → cause_at word ≡ ok cause → word ≡ cause_word cause
unfolding cause_at
cause_spelt word cause h =
    cause_named word (codes "NoDevice") causes.NoDevice cause _ refl h
    (λ h1. cause_named word (codes "Format") causes.Format cause _ refl h1
    (λ h2. cause_named word (codes "Sides") causes.Sides cause _ refl h2
    (λ h3. cause_named word (codes "Finishings") causes.Finishings cause _ refl h3
    (λ h4. cause_named word (codes "Media") causes.Media cause _ refl h4
    (λ h5. cause_named word (codes "Running") causes.Running cause (Err BadLine) refl h5 (λ h6. absurd (cc)))))))

-- these words are the rest of a line with this content
abbrev IsRest : List (List ℕ) → PlanLine → Type 0
IsRest words parsed = (words ≡ rest_of parsed) × ParsedInRange parsed

one : (words : List (List ℕ)) (word : List ℕ) → only_word words ≡ ok word → words ≡ word ∷ []
one [] word h = absurd (cc)
one (first ∷ []) word h = ap (λ x. x ∷ []) (ok_is first word h)
one (first ∷ next ∷ words) word h = absurd (cc)

split : (words : List (List ℕ)) (w : List ℕ × List (List ℕ)) → first_word words ≡ ok w → words ≡ w.0 ∷ w.1
split [] w h = absurd (cc)
split (first ∷ words) w h = ap (λ (x : List ℕ × List (List ℕ)). x.0 ∷ x.1) (ok_is (first, words) w h)

none : (line parsed : PlanLine) (words : List (List ℕ)) → alone_at line words ≡ ok parsed → (words ≡ []) × (line ≡ parsed)
none line parsed [] h = (refl, ok_is line parsed h)
none line parsed (word ∷ words) h = absurd (cc)

device_spelt : (words : List (List ℕ)) (parsed : PlanLine) → device_at words ≡ ok parsed → IsRest words parsed × (first_of parsed ≡ codes "device")
unfolding device_at
device_spelt words parsed h =
    let E : PlanLine → Type 0 = λ s. IsRest words s × (first_of s ≡ codes "device") in
    let w = went_on (only_word words) (λ name. if is_name name then ok (DeviceLine name) else Err BadLine) parsed h in
    let t = taken (is_name w.0) (ok (DeviceLine w.0)) BadLine parsed w.2 in
    subst E (ok_is (DeviceLine w.0) parsed t.1) ((one words w.0 w.1, t.0), refl)

class_spelt : (words : List (List ℕ)) (parsed : PlanLine) → class_at words ≡ ok parsed → IsRest words parsed × (first_of parsed ≡ codes "class")
unfolding class_at
class_spelt words parsed h =
    let E : PlanLine → Type 0 = λ s. IsRest words s × (first_of s ≡ codes "class") in
    let w = went_on (only_word words) (λ priority. number_at 1 HIGHEST_PRIORITY priority >>= λ p. ok (ClassLine p)) parsed h in
    let p = went_on (number_at 1 HIGHEST_PRIORITY w.0) (λ p. ok (ClassLine p)) parsed w.2 in
    let s = number_spelt 1 HIGHEST_PRIORITY w.0 p.0 (omega arith) p.1 in
    subst E (ok_is (ClassLine p.0) parsed p.2) ((one words w.0 w.1 ∙ ap (λ x. x ∷ []) s.0, (s.1, s.2)), refl)

job_spelt : (words : List (List ℕ)) (parsed : PlanLine) → job_at words ≡ ok parsed → IsRest words parsed × (first_of parsed ≡ codes "job")
unfolding job_at
job_spelt words parsed h =
    let E : PlanLine → Type 0 = λ s. IsRest words s × (first_of s ≡ codes "job") in
    let w = went_on (first_word words) (λ w. if is_number w.0 && list_all is_entry w.1 then (number_at 1 LAST_JOB_ID w.0 >>= λ id. (entries_at w.1 >>= λ times. ok (JobLine id times))) else Err BadLine) parsed h in
    let t = taken (is_number w.0.0 && list_all is_entry w.0.1) (number_at 1 LAST_JOB_ID w.0.0 >>= λ id. (entries_at w.0.1 >>= λ times. ok (JobLine id times))) BadLine parsed w.2 in
    let i = went_on (number_at 1 LAST_JOB_ID w.0.0) (λ id. entries_at w.0.1 >>= λ times. ok (JobLine id times)) parsed t.1 in
    let e = went_on (entries_at w.0.1) (λ times. ok (JobLine i.0 times)) parsed i.2 in
    let s = number_spelt 1 LAST_JOB_ID w.0.0 i.0 (omega arith) i.1 in
    let all = entries_spelt w.0.1 e.0 e.1 in
    subst E (ok_is (JobLine i.0 e.0) parsed e.2) ((split words w.0 w.1 ∙ ap (λ x. x ∷ w.0.1) s.0 ∙ ap (λ xs. decimal i.0 ∷ xs) all.0, ((s.1, s.2), all.1)), refl)

wait_spelt : (words : List (List ℕ)) (parsed : PlanLine) → wait_at words ≡ ok parsed → IsRest words parsed × (first_of parsed ≡ codes "wait")
unfolding wait_at
wait_spelt words parsed h =
    let E : PlanLine → Type 0 = λ s. IsRest words s × (first_of s ≡ codes "wait") in
    let t = taken (list_all is_number words) (numbers_at 0 WAIT words >>= λ waits. ok (WaitLine waits)) BadLine parsed h in
    let n = went_on (numbers_at 0 WAIT words) (λ waits. ok (WaitLine waits)) parsed t.1 in
    let all = numbers_spelt 0 WAIT words n.0 (omega arith) n.1 in
    subst E (ok_is (WaitLine n.0) parsed n.2) ((all.0, λ k d l. (all.1 k d l).1), refl)

way_spelt : (words : List (List ℕ)) (parsed : PlanLine) → way_at words ≡ ok parsed → IsRest words parsed × (first_of parsed ≡ codes "way")
unfolding way_at
way_spelt words parsed h =
    let E : PlanLine → Type 0 = λ s. IsRest words s × (first_of s ≡ codes "way") in
    let w = went_on (first_word words) (λ w. if is_name w.0 && list_all is_number w.1 then (numbers_at 1 LAST_JOB_ID w.1 >>= λ jobs. ok (WayLine w.0 jobs)) else Err BadLine) parsed h in
    let t = taken (is_name w.0.0 && list_all is_number w.0.1) (numbers_at 1 LAST_JOB_ID w.0.1 >>= λ jobs. ok (WayLine w.0.0 jobs)) BadLine parsed w.2 in
    let b : (is_name w.0.0 ≡ true) × (list_all is_number w.0.1 ≡ true) = and_parts (is_name w.0.0) (list_all is_number w.0.1) t.0 in
    let n = went_on (numbers_at 1 LAST_JOB_ID w.0.1) (λ jobs. ok (WayLine w.0.0 jobs)) parsed t.1 in
    let all = numbers_spelt 1 LAST_JOB_ID w.0.1 n.0 (omega arith) n.1 in
    subst E (ok_is (WayLine w.0.0 n.0) parsed n.2) ((split words w.0 w.1 ∙ ap (λ xs. w.0.0 ∷ xs) all.0, (b.0, all.1)), refl)

total_spelt : (words : List (List ℕ)) (parsed : PlanLine) → total_at words ≡ ok parsed → IsRest words parsed × (first_of parsed ≡ codes "total")
unfolding total_at
total_spelt words parsed h =
    let E : PlanLine → Type 0 = λ s. IsRest words s × (first_of s ≡ codes "total") in
    let w = went_on (only_word words) (λ total. number_at 0 AMOUNT total >>= λ n. ok (TotalLine n)) parsed h in
    let n = went_on (number_at 0 AMOUNT w.0) (λ n. ok (TotalLine n)) parsed w.2 in
    let s = number_spelt 0 AMOUNT w.0 n.0 (omega arith) n.1 in
    subst E (ok_is (TotalLine n.0) parsed n.2) ((one words w.0 w.1 ∙ ap (λ x. x ∷ []) s.0, s.2), refl)

job_prices_spelt : (words : List (List ℕ)) (parsed : PlanLine) → job_prices_at words ≡ ok parsed → IsRest words parsed × (first_of parsed ≡ codes "jobprices")
unfolding job_prices_at
job_prices_spelt words parsed h =
    let E : PlanLine → Type 0 = λ s. IsRest words s × (first_of s ≡ codes "jobprices") in
    let t = taken (list_all is_price words) (prices_at words >>= λ prices. ok (JobPricesLine prices)) BadLine parsed h in
    let n = went_on (prices_at words) (λ prices. ok (JobPricesLine prices)) parsed t.1 in
    let all = prices_spelt words n.0 n.1 in
    subst E (ok_is (JobPricesLine n.0) parsed n.2) ((all.0, all.1), refl)

place_prices_spelt : (words : List (List ℕ)) (parsed : PlanLine) → place_prices_at words ≡ ok parsed → IsRest words parsed × (first_of parsed ≡ codes "placeprices")
unfolding place_prices_at
place_prices_spelt words parsed h =
    let E : PlanLine → Type 0 = λ s. IsRest words s × (first_of s ≡ codes "placeprices") in
    let w = went_on (first_word words) (λ w. if is_name w.0 && list_all is_price w.1 then (prices_at w.1 >>= λ prices. ok (PlacePricesLine w.0 prices)) else Err BadLine) parsed h in
    let t = taken (is_name w.0.0 && list_all is_price w.0.1) (prices_at w.0.1 >>= λ prices. ok (PlacePricesLine w.0.0 prices)) BadLine parsed w.2 in
    let b : (is_name w.0.0 ≡ true) × (list_all is_price w.0.1 ≡ true) = and_parts (is_name w.0.0) (list_all is_price w.0.1) t.0 in
    let n = went_on (prices_at w.0.1) (λ prices. ok (PlacePricesLine w.0.0 prices)) parsed t.1 in
    let all = prices_spelt w.0.1 n.0 n.1 in
    subst E (ok_is (PlacePricesLine w.0.0 n.0) parsed n.2) ((split words w.0 w.1 ∙ ap (λ xs. w.0.0 ∷ xs) all.0, (b.0, all.1)), refl)

stranded_spelt : (words : List (List ℕ)) (parsed : PlanLine) → stranded_at words ≡ ok parsed → IsRest words parsed × (first_of parsed ≡ codes "stranded")
unfolding stranded_at
stranded_spelt words parsed h =
    let E : PlanLine → Type 0 = λ s. IsRest words s × (first_of s ≡ codes "stranded") in
    let w = went_on (first_word words) (λ w. only_word w.1 >>= λ word. (cause_at word >>= λ cause. (number_at 1 LAST_JOB_ID w.0 >>= λ id. ok (StrandedLine (record { job = id; cause = cause }))))) parsed h in
    let o = went_on (only_word w.0.1) (λ word. cause_at word >>= λ cause. (number_at 1 LAST_JOB_ID w.0.0 >>= λ id. ok (StrandedLine (record { job = id; cause = cause })))) parsed w.2 in
    let c = went_on (cause_at o.0) (λ cause. number_at 1 LAST_JOB_ID w.0.0 >>= λ id. ok (StrandedLine (record { job = id; cause = cause }))) parsed o.2 in
    let i = went_on (number_at 1 LAST_JOB_ID w.0.0) (λ id. ok (StrandedLine (record { job = id; cause = c.0 }))) parsed c.2 in
    let s = number_spelt 1 LAST_JOB_ID w.0.0 i.0 (omega arith) i.1 in
    let rest : w.0.1 ≡ cause_word c.0 ∷ [] = one w.0.1 o.0 o.1 ∙ ap (λ x. x ∷ []) (cause_spelt o.0 c.0 c.1) in
    subst E (ok_is (StrandedLine (record { job = i.0; cause = c.0 })) parsed i.2) ((split words w.0 w.1 ∙ ap (λ x. x ∷ w.0.1) s.0 ∙ ap (λ xs. decimal i.0 ∷ xs) rest, (s.1, s.2)), refl)

-- a line that begins with this word
begun : (first name : List ℕ) (words : List (List ℕ)) (parsed : PlanLine) (r q : Result PlanLine TextFault) → (if bytes_eq first name then r else q) ≡ ok parsed
    → (r ≡ ok parsed → IsRest words parsed × (first_of parsed ≡ name)) → (q ≡ ok parsed → IsRest words parsed × (first_of parsed ≡ first)) → IsRest words parsed × (first_of parsed ≡ first)
begun first name words parsed r q h here later = elim (either (bytes_eq first name) r q parsed h) [
  | inl named ↦ let s = here named.1 in (s.0, s.1 ∙ sym (same_bytes first name named.0))
  | inr other ↦ later other.1
]

alone_spelt : (line parsed : PlanLine) (words : List (List ℕ)) → rest_of line ≡ [] → ParsedInRange line → alone_at line words ≡ ok parsed → IsRest words parsed × (first_of parsed ≡ first_of line)
alone_spelt line parsed words empty range h =
    let n = none line parsed words h in
    subst (λ s. IsRest words s × (first_of s ≡ first_of line)) n.1 ((n.0 ∙ sym empty, range), refl)

line_of_spelt : (first : List ℕ) (words : List (List ℕ)) (parsed : PlanLine) → line_of first words ≡ ok parsed → IsRest words parsed × (first_of parsed ≡ first)
unfolding line_of
line_of_spelt first words parsed h =
    begun first (codes "plan") words parsed (alone_at HeadLine words) _ h (alone_spelt HeadLine parsed words refl tt)
    (λ h1. begun first (codes "device") words parsed (device_at words) _ h1 (device_spelt words parsed)
    (λ h2. begun first (codes "class") words parsed (class_at words) _ h2 (class_spelt words parsed)
    (λ h3. begun first (codes "job") words parsed (job_at words) _ h3 (job_spelt words parsed)
    (λ h4. begun first (codes "wait") words parsed (wait_at words) _ h4 (wait_spelt words parsed)
    (λ h5. begun first (codes "way") words parsed (way_at words) _ h5 (way_spelt words parsed)
    (λ h6. begun first (codes "total") words parsed (total_at words) _ h6 (total_spelt words parsed)
    (λ h7. begun first (codes "jobprices") words parsed (job_prices_at words) _ h7 (job_prices_spelt words parsed)
    (λ h8. begun first (codes "placeprices") words parsed (place_prices_at words) _ h8 (place_prices_spelt words parsed)
    (λ h9. begun first (codes "stranded") words parsed (stranded_at words) _ h9 (stranded_spelt words parsed)
    (λ h10. begun first (codes "end") words parsed (alone_at EndLine words) (Err BadLine) h10 (alone_spelt EndLine parsed words refl tt)
    (λ h11. absurd (cc))))))))))))

-- A line that is read is the line of its content, which is in range.
pub line_spelt : (line : List ℕ) (parsed : PlanLine) → line_at (words_of line) ≡ ok parsed → (line ++ feed ≡ line_text parsed) × ParsedInRange parsed
line_spelt line parsed h =
    let w = went_on (first_word (words_of line)) (λ w. line_of w.0 w.1) parsed h in
    let s = line_of_spelt w.0.0 w.0.1 parsed w.2 in
    let whole : line ≡ body_of parsed = words_joined line w.0.0 w.0.1 (split (words_of line) w.0 w.1) ∙ ap (λ first. first ++ spaced w.0.1) (sym s.1) ∙ ap (λ words. first_of parsed ++ spaced words) s.0.0 in
    (ap (λ l. l ++ feed) whole ∙ sym (line_is parsed), s.0.1)
