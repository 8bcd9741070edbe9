-- The lines of bytes that are cut at a line feed.
use Rattle.std.specs.Prelude.{ℕ, ◌≡◌, ◌≢◌, ◌==◌, ◌+◌, Bool, true, false, List, [], ◌∷◌, ◌++◌, length, take, drop, Option, Some, None, position}
use Rattle.std.specs.List.{onto_first}
use Rattle.std.proofs.Common.{arith, refl, sym, ap, ◌∙◌, inl, inr}
use Rattle.std.proofs.lemmas.List.{append_assoc, append-nil}
use Rattle.std.proofs.lemmas.List.Splits.{slice_split_none, slice_split_at, slice_split-cons_yes, slice_split-cons_no}
use Rattle.text.specs.Parts.{texts_of, Lacks}
use Rattle.text.proofs.Cuts.{cut_found, found_nowhere}
use Rattle.text.proofs.Splits.{parts}
use Rattle.traces.specs.Lines.{without_end, lines_of, IsEnded}

pub nothing_in : (bytes : List ℕ) → length bytes ≡ 0 → bytes ≡ []
nothing_in [] none = refl
nothing_in (byte ∷ bytes) none = absurd (omega (arith, none))

-- the texts before the last text are kept, also the empty texts
end_after : (prefix : List (List ℕ)) (text : List ℕ) (more : List (List ℕ)) → without_end (prefix ++ (text ∷ more)) ≡ prefix ++ without_end (text ∷ more)
unfolding without_end
end_after [] text more = refl
end_after ([] ∷ []) text more = refl
end_after ((x ∷ xs) ∷ []) text more = refl
end_after ([] ∷ next ∷ prefix) text more = ap (λ l. [] ∷ l) (end_after (next ∷ prefix) text more)
end_after ((x ∷ xs) ∷ next ∷ prefix) text more = ap (λ l. (x ∷ xs) ∷ l) (end_after (next ∷ prefix) text more)

-- a line and its line feed
pub first_line : (line rest : List ℕ) → Lacks 10 line → lines_of (line ++ (10 ∷ rest)) ≡ line ∷ lines_of rest
first_line line rest lacks =
    let it = parts (λ byte. byte == 10) rest in
    rw (slice_split_at (λ byte. byte == 10) line 10 rest lacks refl, it.cut) (end_after (line ∷ []) it.first it.later)

alone : (line : List ℕ) → line ≢ [] → without_end (line ∷ []) ≡ line ∷ []
unfolding without_end
alone [] some = absurd (some refl)
alone (byte ∷ line) some = refl

-- a last line without one
pub last_line : (line : List ℕ) → Lacks 10 line → line ≢ [] → lines_of line ≡ line ∷ []
last_line line lacks some = rw (slice_split_none (λ byte. byte == 10) line lacks) (alone line some)

pub no_line : lines_of [] ≡ []
unfolding without_end
no_line = refl

-- cut after a line feed, the lines are those of both parts
texts_joined : (xs ys : List ℕ) → texts_of (xs ++ (10 ∷ ys)) ≡ texts_of xs ++ texts_of ys
texts_joined [] ys = slice_split-cons_yes (λ byte. byte == 10) 10 ys refl
texts_joined (x ∷ xs) ys = by_byte (texts_joined xs ys) (x == 10) refl
  where
    onto : (texts more : List (List ℕ)) (first : List ℕ) (later : List (List ℕ)) → texts ≡ first ∷ later → onto_first x (texts ++ more) ≡ onto_first x texts ++ more
    onto texts more first later cut = rw cut refl

    by_byte : texts_of (xs ++ (10 ∷ ys)) ≡ texts_of xs ++ texts_of ys → (b : Bool) → (x == 10) ≡ b → texts_of (x ∷ (xs ++ (10 ∷ ys))) ≡ texts_of (x ∷ xs) ++ texts_of ys
    by_byte more true is =
        rw (slice_split-cons_yes (λ byte. byte == 10) x (xs ++ (10 ∷ ys)) is, slice_split-cons_yes (λ byte. byte == 10) x xs is) (ap (λ l. [] ∷ l) more)
    by_byte more false is =
        let it = parts (λ byte. byte == 10) xs in
        rw (slice_split-cons_no (λ byte. byte == 10) x (xs ++ (10 ∷ ys)) is, slice_split-cons_no (λ byte. byte == 10) x xs is, more) (onto (texts_of xs) (texts_of ys) it.first it.later it.cut)

lines_after : (prefix rest : List ℕ) → lines_of (prefix ++ (10 ∷ rest)) ≡ texts_of prefix ++ lines_of rest
lines_after prefix rest =
    let it = parts (λ byte. byte == 10) rest in
    rw (texts_joined prefix rest, it.cut) (end_after (texts_of prefix) it.first it.later)

pub lines_joined : (bytes rest : List ℕ) → IsEnded bytes → lines_of (bytes ++ rest) ≡ lines_of bytes ++ lines_of rest
lines_joined bytes rest (inl empty) = rw (empty, no_line) refl
lines_joined bytes rest (inr whole) =
    let prefix = whole.0 in
    let ended : lines_of (prefix ++ (10 ∷ [])) ≡ texts_of prefix = lines_after prefix [] ∙ rw no_line (append-nil (texts_of prefix)) in
    rw (whole.1, append_assoc prefix (10 ∷ []) rest, ended) (lines_after prefix rest)

pub no_lines : (bytes : List ℕ) → lines_of bytes ≡ [] → bytes ≡ []
no_lines [] none = refl
no_lines (byte ∷ bytes) none = by_place (position (λ byte. byte == 10) (byte ∷ bytes)) refl
  where
    by_place : (place : Option ℕ) → position (λ byte. byte == 10) (byte ∷ bytes) ≡ place → byte ∷ bytes ≡ []
    by_place None absent =
        let one = last_line (byte ∷ bytes) (found_nowhere 10 (byte ∷ bytes) absent) (λ empty. absurd (omega (arith, ap length empty))) in
        cc (sym one ∙ none)
    by_place (Some place) found =
        let it = cut_found 10 (byte ∷ bytes) place found in
        let first = ap lines_of it.joined ∙ first_line (take place (byte ∷ bytes)) (drop (place + 1) (byte ∷ bytes)) it.lacks in
        cc (sym first ∙ none)
