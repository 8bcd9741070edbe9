-- Whether bytes begin with a part of the grammar of heads, or of the line before a chunk, is decided: they do, or they don't.
use Rattle.std.specs.Prelude.{ℕ, suc, zero, ◌≡◌, ◌+◌, ◌==◌, ◌<◌, ◌≤◌, ◌⊎◌, nat_lt, nat_le, Bool, true, false, List, [], ◌∷◌, ◌++◌, length, Option, Some, None, IsUtf8, ⊤}
use Rattle.std.proofs.Common.{arith, refl, subst, sym, ap, ◌∙◌, inl, inr, length-append}
use Rattle.std.specs.Char.{is_ascii_hexdigit}
use Rattle.std.specs.List.{flat_map}
use Rattle.std.proofs.lemmas.Bool.{both_ways}
use Rattle.std.proofs.lemmas.List.{append_assoc}
use Rattle.std.proofs.lemmas.List.Elements.{All-nil, All-cons, All-head, All-tail}
use Rattle.std.specs.Str.{is_utf8}
use Rattle.std.proofs.lemmas.Str.{IsUtf8-from_is_utf8, is_utf8-from_IsUtf8}
use Rattle.httparse.specs.Grammar.{AllPass, is_token_byte, is_uri_byte, is_value_byte, is_ows, is_extension_byte, LineEnd, crlf, lf, print_end, print_blank, print_version, Field, print_field, IsField}
use Rattle.httparse.specs.Pieces.{Piece, Begins, Then, Stops, is_newline, Bytes, Newline, Blank, Word, Method, Target, Version, Text, FieldLine, Section, RequestStart, Run, HexDigits, Extension, Chunk}
use Rattle.httparse.proofs.PieceLemmas.{IsDeterministic, Newline_deterministic, Blank_deterministic, Word_deterministic, Method_deterministic, Target_deterministic, Version_deterministic, Name_deterministic, FieldLine_deterministic, RequestStart_deterministic, Bytes_deterministic, newline_not_stopped, FieldLine_parts, print_field-append}
use Rattle.httparse.proofs.ChunkLemmas.{Run_deterministic, HexDigits_deterministic}

-- a proposition holds, or it doesn't
abbrev pub Decided : Type 0 → Type 0
Decided P = P ⊎ (P → ⊥)

decided_as : {P Q : Type 0} → Decided P → (P → Q) → (Q → P) → Decided Q
decided_as (inl is) to from = inl (to is)
decided_as (inr none) to from = inr (λ x. none (from x))

-- whether bytes begin with this part
abbrev Decides : {A : Type 0} → Piece A → Type 0
Decides G = (text : List ℕ) → Decided (Begins G text)

-- ---- one part after another

then_next : {A B : Type 0} (G : Piece A) (H : Piece B) → IsDeterministic G → (text : List ℕ) (first : Begins G text) → Decided (Begins H first.1) → Decided (Begins (Then G H) text)
then_next G H one text first (inl second) = inl ((first.0, second.0), second.1, (first.1, first.2, second.2))
then_next G H one text first (inr none) = inr (
    λ x.
    let same = one.unique x.0.0 first.0 text x.2.0 first.1 x.2.1 first.2 in
    none (x.0.1, x.1, subst (λ (m : List ℕ). H x.0.1 m x.1) same.1 x.2.2)
    )

then_by : {A B : Type 0} (G : Piece A) (H : Piece B) → IsDeterministic G → Decides H → (text : List ℕ) → Decided (Begins G text) → Decided (Begins (Then G H) text)
then_by G H one h text (inl first) = then_next G H one text first (h first.1)
then_by G H one h text (inr none) = inr (λ x. none (x.0.0, x.2.0, x.2.1))

then_decides : {A B : Type 0} (G : Piece A) (H : Piece B) → IsDeterministic G → Decides G → Decides H → Decides (Then G H)
then_decides G H one g h text = then_by G H one h text (g text)

-- ---- these bytes

one_byte : (byte first : ℕ) (bytes text : List ℕ) (t : Bool) → (first == byte) ≡ t → Decided (Begins (Bytes bytes) text) → Decided (Begins (Bytes (byte ∷ bytes)) (first ∷ text))
one_byte byte first bytes text true is (inl x) =
    let same : first ≡ byte = grind (arith, is) in
    inl (tt, x.1, cc (same, x.2))
one_byte byte first bytes text true is (inr none) = inr (λ x. none (tt, x.1, cc (x.2)))
one_byte byte first bytes text false is parsed = inr (
    λ x.
    let same : first ≡ byte = cc (x.2) in
    let test : (first == byte) ≡ true = grind (arith, same) in
    both_ways _ is test
    )

bytes_decides : (bytes : List ℕ) → Decides (Bytes bytes)
bytes_decides [] text = inl (tt, text, refl)
bytes_decides (byte ∷ bytes) [] = inr (λ x. let none : [] ≡ byte ∷ (bytes ++ x.1) = x.2 in cc)
bytes_decides (byte ∷ bytes) (first ∷ text) = one_byte byte first bytes text (first == byte) refl (bytes_decides bytes text)

no_newline : (text : List ℕ) → (Begins (Bytes (13 ∷ 10 ∷ [])) text → ⊥) → (Begins (Bytes (10 ∷ [])) text → ⊥) → (end : LineEnd) (rest : List ℕ) → Newline end text rest → ⊥
no_newline text two one crlf rest x = two (tt, rest, x)
no_newline text two one lf rest x = one (tt, rest, x)

newline_by : (text : List ℕ) → Decided (Begins (Bytes (13 ∷ 10 ∷ [])) text) → Decided (Begins (Bytes (10 ∷ [])) text) → Decided (Begins Newline text)
newline_by text (inl x) one = inl (crlf, x.1, x.2)
newline_by text (inr two) (inl x) = inl (lf, x.1, x.2)
newline_by text (inr two) (inr one) = inr (λ x. no_newline text two one x.0 x.1 x.2)

newline_decides : Decides Newline
newline_decides text = newline_by text (bytes_decides (13 ∷ 10 ∷ []) text) (bytes_decides (10 ∷ []) text)

-- ---- bytes that pass a test, up to a part

abbrev Upto : {A : Type 0} → (ℕ → Bool) → Piece A → Piece (List ℕ × A)
Upto test H it text rest = (middle : List ℕ) × AllPass test it.0 × (text ≡ it.0 ++ middle) × H it.1 middle rest

upto_none : {A : Type 0} (test : ℕ → Bool) (H : Piece A) (first : ℕ) (text : List ℕ) → (Begins H (first ∷ text) → ⊥) → (test first ≡ true → Begins (Upto test H) text → ⊥)
    → (word : List ℕ) (a : A) (rest middle : List ℕ) → AllPass test word → first ∷ text ≡ word ++ middle → H a middle rest → ⊥
upto_none test H first text none later [] a rest middle all is reads = none (a, rest, subst (λ (m : List ℕ). H a m rest) (sym is) reads)
upto_none test H first text none later (byte ∷ word) a rest middle all is reads =
    let same : first ≡ byte = cc is in
    let more : text ≡ word ++ middle = cc is in
    later (ap test same ∙ All-head (λ v. test v ≡ true) byte word all) ((word, a), rest, (middle, All-tail (λ v. test v ≡ true) byte word all, more, reads))

upto_step : {A : Type 0} (test : ℕ → Bool) (H : Piece A) (first : ℕ) (text : List ℕ) → (Begins H (first ∷ text) → ⊥) → (t : Bool) → test first ≡ t → Decided (Begins (Upto test H) text) → Decided (Begins (Upto test H) (first ∷ text))
upto_step test H first text none true is (inl x) = inl ((first ∷ x.0.0, x.0.1), x.1, (x.2.0, All-cons (λ v. test v ≡ true) first x.0.0 is x.2.1, ap (λ (l : List ℕ). first ∷ l) x.2.2, x.2.3))
upto_step test H first text none true is (inr nowhere) = inr (λ x. upto_none test H first text none (λ passes. nowhere) x.0.0 x.0.1 x.1 x.2.0 x.2.1 x.2.2 x.2.3)
upto_step test H first text none false is parsed = inr (λ x. upto_none test H first text none (λ passes y. both_ways _ is passes) x.0.0 x.0.1 x.1 x.2.0 x.2.1 x.2.2 x.2.3)

upto_by : {A : Type 0} (test : ℕ → Bool) (H : Piece A) (first : ℕ) (text : List ℕ) → Decided (Begins H (first ∷ text)) → Decided (Begins (Upto test H) text) → Decided (Begins (Upto test H) (first ∷ text))
upto_by test H first text (inl x) parsed = inl (([], x.0), x.1, (first ∷ text, All-nil (λ v. test v ≡ true), refl, x.2))
upto_by test H first text (inr none) parsed = upto_step test H first text none (test first) refl parsed

upto_end : {A : Type 0} (H : Piece A) → (Begins H [] → ⊥) → (word : List ℕ) (a : A) (rest middle : List ℕ) → [] ≡ word ++ middle → H a middle rest → ⊥
upto_end H none [] a rest middle is reads = none (a, rest, subst (λ (m : List ℕ). H a m rest) (sym is) reads)
upto_end H none (byte ∷ word) a rest middle is reads = let no : [] ≡ byte ∷ (word ++ middle) = is in cc

upto_empty : {A : Type 0} (test : ℕ → Bool) (H : Piece A) → Decided (Begins H []) → Decided (Begins (Upto test H) [])
upto_empty test H (inl x) = inl (([], x.0), x.1, ([], All-nil (λ v. test v ≡ true), refl, x.2))
upto_empty test H (inr none) = inr (λ x. upto_end H none x.0.0 x.0.1 x.1 x.2.0 x.2.2 x.2.3)

upto_decides : {A : Type 0} (test : ℕ → Bool) (H : Piece A) → Decides H → Decides (Upto test H)
upto_decides test H h [] = upto_empty test H (h [])
upto_decides test H h (first ∷ text) = upto_by test H first text (h (first ∷ text)) (upto_decides test H h text)

-- ---- the parts of a request's first line

no_word : (test : ℕ → Bool) (stop first : ℕ) (text : List ℕ) → (test first ≡ true → Begins (Upto test (Bytes (stop ∷ []))) text → ⊥) → (word rest : List ℕ) → Word test stop word (first ∷ text) rest → ⊥
no_word test stop first text later [] rest x = omega (arith, x.0)
no_word test stop first text later (byte ∷ word) rest x =
    let same : first ≡ byte = cc (x.2) in
    let more : text ≡ word ++ stop ∷ rest = cc (x.2) in
    later (ap test same ∙ All-head (λ v. test v ≡ true) byte word x.1) ((word, tt), rest, (stop ∷ rest, All-tail (λ v. test v ≡ true) byte word x.1, more, refl))

word_by : (test : ℕ → Bool) (stop first : ℕ) (text : List ℕ) (t : Bool) → test first ≡ t → Decided (Begins (Upto test (Bytes (stop ∷ []))) text) → Decided (Begins (Word test stop) (first ∷ text))
word_by test stop first text true is (inl x) =
    let whole : first ∷ text ≡ first ∷ (x.0.0 ++ stop ∷ x.1) = ap (λ (l : List ℕ). first ∷ l) (x.2.2 ∙ ap (λ (m : List ℕ). x.0.0 ++ m) x.2.3) in
    inl (first ∷ x.0.0, x.1, (omega arith, All-cons (λ v. test v ≡ true) first x.0.0 is x.2.1, whole))
word_by test stop first text true is (inr none) = inr (λ x. no_word test stop first text (λ passes. none) x.0 x.1 x.2)
word_by test stop first text false is parsed = inr (λ x. no_word test stop first text (λ passes y. both_ways _ is passes) x.0 x.1 x.2)

no_word_of_nothing : (test : ℕ → Bool) (stop : ℕ) (word rest : List ℕ) → Word test stop word [] rest → ⊥
no_word_of_nothing test stop [] rest x = omega (arith, x.0)
no_word_of_nothing test stop (byte ∷ word) rest x = let no : [] ≡ byte ∷ (word ++ stop ∷ rest) = x.2 in cc

word_decides : (test : ℕ → Bool) (stop : ℕ) → Decides (Word test stop)
word_decides test stop [] = inr (λ x. no_word_of_nothing test stop x.0 x.1 x.2)
word_decides test stop (first ∷ text) = word_by test stop first text (test first) refl (upto_decides test (Bytes (stop ∷ [])) (bytes_decides (stop ∷ [])) text)

target_if : (text target rest : List ℕ) → Word is_uri_byte 32 target text rest → (t : Bool) → is_utf8 target ≡ t → Decided (Begins Target text)
target_if text target rest reads true is = inl (target, rest, (reads, IsUtf8-from_is_utf8 target is))
target_if text target rest reads false is = inr (
    λ x.
    let same = (Word_deterministic is_uri_byte 32 refl).unique x.0 target text x.1 rest x.2.0 reads in
    both_ways _ is (is_utf8-from_IsUtf8 target (subst (λ (t : List ℕ). IsUtf8 t) same.0 x.2.1))
    )

target_by : (text : List ℕ) → Decided (Begins (Word is_uri_byte 32) text) → Decided (Begins Target text)
target_by text (inl x) = target_if text x.0 x.1 x.2 (is_utf8 x.0) refl
target_by text (inr none) = inr (λ x. none (x.0, x.1, x.2.0))

no_version : (text : List ℕ) → (Begins (Bytes (print_version 0)) text → ⊥) → (Begins (Bytes (print_version 1)) text → ⊥) → (minor : ℕ) (rest : List ℕ) → Version minor text rest → ⊥
no_version text none one zero rest x = none (tt, rest, x.1)
no_version text none one (suc zero) rest x = one (tt, rest, x.1)
no_version text none one (suc (suc minor)) rest x = omega (arith, x.0)

version_by : (text : List ℕ) → Decided (Begins (Bytes (print_version 0)) text) → Decided (Begins (Bytes (print_version 1)) text) → Decided (Begins Version text)
version_by text (inl x) one = inl (0, x.1, (omega arith, x.2))
version_by text (inr none) (inl x) = inl (1, x.1, (omega arith, x.2))
version_by text (inr none) (inr one) = inr (λ x. no_version text none one x.0 x.1 x.2)

-- ---- the empty lines before it

-- a blank text begins with a line end, or with an octet that stops it
no_blank : (text : List ℕ) → (Stops is_newline text → ⊥) → ((end : LineEnd) (middle : List ℕ) → Newline end text middle → Begins Blank middle → ⊥) → (ends : List LineEnd) (rest : List ℕ) → Blank ends text rest → ⊥
no_blank text none later [] rest x = none (subst (λ (t : List ℕ). Stops is_newline t) (sym x.0) x.1)
no_blank text none later (end ∷ ends) rest x = later end (print_blank ends ++ rest) (x.0 ∙ append_assoc (print_end end) (print_blank ends) rest) (ends, rest, (refl, x.1))

stops_decides : (test : ℕ → Bool) (text : List ℕ) → Decided (Stops test text)
stops_decides test [] = inr (λ x. x)
stops_decides test (first ∷ text) = by (test first) refl
  where
    by : (t : Bool) → test first ≡ t → Decided (test first ≡ false)
    by true is = inr (λ x. both_ways _ x is)
    by false is = inl is

ends_shorter : (end : LineEnd) (text middle : List ℕ) → Newline end text middle → length middle < length text
ends_shorter crlf text middle x = omega (arith, ap (λ (t : List ℕ). length t) x)
ends_shorter lf text middle x = omega (arith, ap (λ (t : List ℕ). length t) x)

-- after a line end
blank_later : (text : List ℕ) (end : LineEnd) (middle : List ℕ) → Newline end text middle → Decided (Begins Blank middle) → Decided (Begins Blank text)
blank_later text end middle reads (inl x) = inl (end ∷ x.0, x.1, (reads ∙ ap (λ (m : List ℕ). print_end end ++ m) x.2.0 ∙ sym (append_assoc (print_end end) (print_blank x.0) x.1), x.2.1))
blank_later text end middle reads (inr none) = inr (
    λ x. no_blank text (newline_not_stopped end middle text (sym reads))
    (λ e m here more. none (subst (λ (t : List ℕ). Begins Blank t) (Newline_deterministic.unique e end text m middle here reads).1 more)) x.0 x.1 x.2
    )

-- the decision for a text that doesn't begin with a line end
blank_here : (text : List ℕ) → (Begins Newline text → ⊥) → Decided (Stops is_newline text) → Decided (Begins Blank text)
blank_here text none (inl stops) = inl ([], text, (refl, stops))
blank_here text none (inr ends) = inr (λ x. no_blank text ends (λ e m here more. none (e, m, here)) x.0 x.1 x.2)

blank_by : (text : List ℕ) → Decided (Begins Newline text) → ((middle : List ℕ) → length middle < length text → Decided (Begins Blank middle)) → Decided (Begins Blank text)
blank_by text (inl x) later = blank_later text x.0 x.1 x.2 (later x.1 (ends_shorter x.0 text x.1 x.2))
blank_by text (inr none) later = blank_here text none (stops_decides is_newline text)

blank_in : (bound : ℕ) (text : List ℕ) → length text < bound → Decided (Begins Blank text)
blank_in zero text less = absurd (omega (arith, less))
blank_in (suc bound) text less = blank_by text (newline_decides text) (λ middle shorter. blank_in bound middle (omega (arith, less, shorter)))

blank_decides : Decides Blank
blank_decides text = blank_in (length text + 1) text (omega arith)

start_decides : Decides RequestStart
start_decides =
    then_decides Blank (Then Method (Then Target (Then Version Newline))) Blank_deterministic blank_decides
    (then_decides Method (Then Target (Then Version Newline)) Method_deterministic (word_decides is_token_byte 32)
    (then_decides Target (Then Version Newline) Target_deterministic (λ text. target_by text (word_decides is_uri_byte 32 text))
    (then_decides Version Newline Version_deterministic (λ text. version_by text (bytes_decides (print_version 0) text) (bytes_decides (print_version 1) text)) newline_decides)))

-- ---- field lines

text_decides : Decides Text
text_decides text =
    decided_as (upto_decides is_value_byte Newline newline_decides text)
    (λ x. (x.0, x.1, (x.2.1, x.2.2 ∙ ap (λ (m : List ℕ). x.0.0 ++ m) x.2.3)))
    (λ x. (x.0, x.1, (print_end x.0.1 ++ x.1, x.2.0, x.2.1, refl)))

field_decides : Decides FieldLine
field_decides text =
    decided_as (then_decides (Word is_token_byte 58) Text Name_deterministic (word_decides is_token_byte 58) text_decides text)
    (λ x.
    let f : Field = record { name = x.0.0; raw = x.0.1.0; end = x.0.1.1 } in
    (f, x.1, (record { name = (x.2.1.0, x.2.1.1); raw = x.2.2.0 }, x.2.1.2 ∙ ap (λ (m : List ℕ). x.0.0 ++ 58 ∷ m) x.2.2.1 ∙ sym (print_field-append f x.1))))
    (λ x. ((x.0.name, (x.0.raw, x.0.end)), x.1, FieldLine_parts x.0 text x.1 x.2))

field_shorter : (f : Field) (text middle : List ℕ) → FieldLine f text middle → length middle < length text
field_shorter f text middle x =
    let long : length text ≡ length f.name + length (58 ∷ (f.raw ++ (print_end f.end ++ middle))) = ap (λ (t : List ℕ). length t) (x.1 ∙ print_field-append f middle) ∙ length-append f.name (58 ∷ (f.raw ++ (print_end f.end ++ middle))) in
    omega (arith, long, length-append f.raw (print_end f.end ++ middle), length-append (print_end f.end) middle)

section_head : (g : Field) (gs : List Field) (last : LineEnd) (text rest : List ℕ) → Section (g ∷ gs, last) text rest → FieldLine g text ((flat_map print_field gs ++ print_end last) ++ rest)
section_head g gs last text rest x = (
  All-head IsField g gs x.0,
  x.1 ∙ ap (λ (t : List ℕ). t ++ rest) (append_assoc (print_field g) (flat_map print_field gs) (print_end last))
      ∙ append_assoc (print_field g) (flat_map print_field gs ++ print_end last) rest,
)

-- the cases in which a text begins with a section
no_section : (text : List ℕ) → (Begins Newline text → ⊥) → ((f : Field) (middle : List ℕ) → FieldLine f text middle → Begins Section middle → ⊥) → (fields : List Field) (last : LineEnd) (rest : List ℕ) → Section (fields, last) text rest → ⊥
no_section text none later [] last rest x = none (last, rest, x.1)
no_section text none later (f ∷ fields) last rest x =
    later f ((flat_map print_field fields ++ print_end last) ++ rest) (section_head f fields last text rest x) ((fields, last), rest, (All-tail IsField f fields x.0, refl))

section_later : (text : List ℕ) (f : Field) (middle : List ℕ) → (Begins Newline text → ⊥) → FieldLine f text middle → Decided (Begins Section middle) → Decided (Begins Section text)
section_later text f middle none reads (inl x) = inl (
  (f ∷ x.0.0, x.0.1),
  x.1,
  (
    All-cons IsField f x.0.0 reads.0 x.2.0,
    reads.1 ∙ ap (λ (m : List ℕ). print_field f ++ m) x.2.1 ∙ sym (append_assoc (print_field f) (flat_map print_field x.0.0 ++ print_end x.0.1) x.1)
        ∙ ap (λ (t : List ℕ). t ++ x.1) (sym (append_assoc (print_field f) (flat_map print_field x.0.0) (print_end x.0.1))),
  ),
)
section_later text f middle none reads (inr nowhere) = inr (
    λ x. no_section text none
    (λ g m line more. nowhere (subst (λ (t : List ℕ). Begins Section t) (FieldLine_deterministic.unique g f text m middle line reads).1 more))
    x.0.0 x.0.1 x.1 x.2
    )

section_here : (text : List ℕ) → (Begins Newline text → ⊥) → Decided (Begins FieldLine text) → ((middle : List ℕ) → length middle < length text → Decided (Begins Section middle)) → Decided (Begins Section text)
section_here text none (inl x) later = section_later text x.0 x.1 none x.2 (later x.1 (field_shorter x.0 text x.1 x.2))
section_here text none (inr nothing) later = inr (λ x. no_section text none (λ g m line more. nothing (g, m, line)) x.0.0 x.0.1 x.1 x.2)

section_by : (text : List ℕ) → Decided (Begins Newline text) → ((middle : List ℕ) → length middle < length text → Decided (Begins Section middle)) → Decided (Begins Section text)
section_by text (inl x) later = inl (([], x.0), x.1, (All-nil IsField, x.2))
section_by text (inr none) later = section_here text none (field_decides text) later

section_in : (bound : ℕ) (text : List ℕ) → length text < bound → Decided (Begins Section text)
section_in zero text less = absurd (omega (arith, less))
section_in (suc bound) text less = section_by text (newline_decides text) (λ middle shorter. section_in bound middle (omega (arith, less, shorter)))

section_decides : Decides Section
section_decides text = section_in (length text + 1) text (omega arith)

pub request_decides : (text : List ℕ) → Decided (Begins (Then RequestStart Section) text)
request_decides = then_decides RequestStart Section RequestStart_deterministic start_decides section_decides

-- ---- the line before a chunk

abbrev Halt : (ℕ → Bool) → Piece ⊤
Halt test it text rest = (text ≡ rest) × Stops test rest

halt_decides : (test : ℕ → Bool) → Decides (Halt test)
halt_decides test text = decided_as (stops_decides test text) (λ stops. (tt, text, (refl, stops))) (λ x. subst (λ (t : List ℕ). Stops test t) (sym x.2.0) x.2.1)

run_decides : (test : ℕ → Bool) → Decides (Run test)
run_decides test text =
    decided_as (upto_decides test (Halt test) (halt_decides test) text)
    (λ x. (x.0.0, x.1, (x.2.1, x.2.2 ∙ ap (λ (m : List ℕ). x.0.0 ++ m) x.2.3.0, x.2.3.1)))
    (λ x. ((x.0, tt), x.1, (x.1, x.2.0, x.2.1, (refl, x.2.2))))

digits_if : (text digits rest : List ℕ) → Run is_ascii_hexdigit digits text rest → (some few : Bool) → nat_lt 0 (length digits) ≡ some → nat_le (length digits) 16 ≡ few → Decided (Begins HexDigits text)
digits_if text digits rest reads true true some few = inl (digits, rest, (reads, grind (arith, some), grind (arith, few)))
digits_if text digits rest reads false few some is = inr (
    λ x.
    let same : length x.0 ≡ length digits = ap (λ (d : List ℕ). length d) ((Run_deterministic is_ascii_hexdigit).unique x.0 digits text x.1 rest x.2.0 reads).0 in
    let none : length digits ≤ 0 = grind (arith, some) in
    omega (arith, same, none, x.2.1)
    )
digits_if text digits rest reads true false some few = inr (
    λ x.
    let same : length x.0 ≡ length digits = ap (λ (d : List ℕ). length d) ((Run_deterministic is_ascii_hexdigit).unique x.0 digits text x.1 rest x.2.0 reads).0 in
    let many : 16 < length digits = grind (arith, few) in
    omega (arith, same, many, x.2.2)
    )

digits_by : (text : List ℕ) → Decided (Begins (Run is_ascii_hexdigit) text) → Decided (Begins HexDigits text)
digits_by text (inl x) = digits_if text x.0 x.1 x.2 (nat_lt 0 (length x.0)) (nat_le (length x.0) 16) refl refl
digits_by text (inr none) = inr (λ x. none (x.0, x.1, x.2.0))

no_extension : (text : List ℕ) → (Begins (Bytes (13 ∷ 10 ∷ [])) text → ⊥) → (Begins (Then (Bytes (59 ∷ [])) (Upto is_extension_byte (Bytes (13 ∷ 10 ∷ [])))) text → ⊥) → (extension : Option (List ℕ)) (rest : List ℕ) → Extension extension text rest → ⊥
no_extension text none some None rest x = none (tt, rest, x.1)
no_extension text none some (Some it) rest x = some ((tt, (it, tt)), rest, (it ++ 13 ∷ 10 ∷ rest, x.1, (13 ∷ 10 ∷ rest, x.0, refl, refl)))

extension_by : (text : List ℕ) → Decided (Begins (Bytes (13 ∷ 10 ∷ [])) text) → Decided (Begins (Then (Bytes (59 ∷ [])) (Upto is_extension_byte (Bytes (13 ∷ 10 ∷ [])))) text) → Decided (Begins Extension text)
extension_by text (inl x) some = inl (None, x.1, (tt, x.2))
extension_by text (inr none) (inl x) =
    let whole : text ≡ 59 ∷ (x.0.1.0 ++ 13 ∷ 10 ∷ x.1) = x.2.1 ∙ ap (λ (m : List ℕ). 59 ∷ m) (x.2.2.2 ∙ ap (λ (m : List ℕ). x.0.1.0 ++ m) x.2.2.3) in
    inl (Some x.0.1.0, x.1, (x.2.2.1, whole))
extension_by text (inr none) (inr some) = inr (λ x. no_extension text none some x.0 x.1 x.2)

extension_decides : Decides Extension
extension_decides text =
    extension_by text (bytes_decides (13 ∷ 10 ∷ []) text)
    (then_decides (Bytes (59 ∷ [])) (Upto is_extension_byte (Bytes (13 ∷ 10 ∷ []))) (Bytes_deterministic (59 ∷ [])) (bytes_decides (59 ∷ [])) (upto_decides is_extension_byte (Bytes (13 ∷ 10 ∷ [])) (bytes_decides (13 ∷ 10 ∷ []))) text)

pub chunk_decides : (text : List ℕ) → Decided (Begins Chunk text)
chunk_decides =
    then_decides HexDigits (Then (Run is_ows) Extension) HexDigits_deterministic (λ text. digits_by text (run_decides is_ascii_hexdigit text))
    (then_decides (Run is_ows) Extension (Run_deterministic is_ows) (run_decides is_ows) extension_decides)
