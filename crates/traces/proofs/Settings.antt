-- The lines of a trace that are passed on the way to the stop.
use Rattle.std.specs.Prelude.{ℕ, ◌≡◌, ◌≢◌, ◌⊎◌, ◌+◌, ◌-◌, ◌<◌, not, true, false, List, [], ◌∷◌, ◌++◌, length, take, codes}
use Rattle.std.specs.List.{list_all}
use Rattle.std.proofs.Common.{arith, refl, sym, ap, ◌∙◌, inl, inr}
use Rattle.std.proofs.lemmas.List.{append_assoc, append-nil, length-append}
use Rattle.std.proofs.Math.Seq.{take-append_seam}
use Rattle.std.proofs.lemmas.List.Folds.{list_all-append}
use Rattle.traces.specs.Lines.{lines_of, is_stop, HasNoStop, IsFirst, IsOneLine, IsEnded, IsSplit}
use Rattle.traces.proofs.Texts.{first_line, last_line, no_line, lines_joined}

-- these bytes of the trace are left after `count` lines, none of which is the stop
pub record Passed (trace rest : List ℕ) (count : ℕ) : Type 0 where
  pub settings : List ℕ
  pub joined : trace ≡ settings ++ rest
  pub none : HasNoStop settings
  pub number : count ≡ length (lines_of settings)
  pub whole : IsEnded settings ⊎ (rest ≡ [])

pub passed_nothing : (trace : List ℕ) → Passed trace trace 0
passed_nothing trace = record { settings = []; joined = refl; none = rw no_line refl; number = rw no_line refl; whole = inl (inl refl) }

-- if bytes are left, the passed lines are whole
whole_before : (settings rest : List ℕ) → IsEnded settings ⊎ (rest ≡ []) → 0 < length rest → IsEnded settings
whole_before settings rest (inl whole) some = whole
whole_before settings rest (inr empty) some = absurd (omega (arith, ap length empty, some))

-- one more line of the settings
pub record Grown (settings line rest after : List ℕ) : Type 0 where
  pub more : List ℕ
  pub joined : settings ++ rest ≡ more ++ after
  pub lines : lines_of more ≡ lines_of settings ++ (line ∷ [])
  pub whole : IsEnded more ⊎ (after ≡ [])

grown : (settings line rest after : List ℕ) → IsEnded settings → IsOneLine line → 0 < length rest → IsFirst rest line after → Grown settings line rest after
grown settings line rest after whole one some (inl cut) =
    let own : lines_of (line ++ (10 ∷ [])) ≡ line ∷ [] = first_line line [] one ∙ ap (λ l. line ∷ l) no_line in
    record {
      more = settings ++ (line ++ codes "\n");
      joined = rw (cut, append_assoc settings (line ++ codes "\n") after, append_assoc line (codes "\n") after) refl;
      lines = lines_joined settings (line ++ codes "\n") whole ∙ ap (λ l. lines_of settings ++ l) own;
      whole = inl (inr (settings ++ line, sym (append_assoc settings line (codes "\n"))));
    }
grown settings line rest after whole one some (inr cut) =
    let filled : line ≢ [] = λ empty. absurd (omega (arith, ap length (cut.0 ∙ empty), some)) in
    record {
      more = settings ++ line;
      joined = rw (cut.0, cut.1, append-nil (settings ++ line)) refl;
      lines = lines_joined settings line whole ∙ ap (λ l. lines_of settings ++ l) (last_line line one filled);
      whole = inr cut.1;
    }

pub passed_line : (trace rest line after : List ℕ) (count : ℕ) → Passed trace rest count → IsOneLine line → 0 < length rest → IsFirst rest line after → is_stop line ≡ false → Passed trace after (count + 1)
passed_line trace rest line after count passed one some cut other =
    let more = grown passed.settings line rest after (whole_before passed.settings rest passed.whole some) one some cut in
    let none : list_all (λ line. not (is_stop line)) (lines_of passed.settings ++ (line ∷ [])) ≡ true =
    list_all-append (λ line. not (is_stop line)) (lines_of passed.settings) (line ∷ []) ∙ rw (passed.none, other) refl in
    let number : length (lines_of passed.settings ++ (line ∷ [])) ≡ count + 1 = rw (length-append (lines_of passed.settings) (line ∷ []), passed.number) refl in
    record {
      settings = more.more;
      joined = passed.joined ∙ more.joined;
      none = rw more.lines none;
      number = rw more.lines (sym number);
      whole = more.whole;
    }

-- the whole trace is passed
pub passed_all : (trace rest : List ℕ) (count : ℕ) → Passed trace rest count → rest ≡ [] → HasNoStop trace
passed_all trace rest count passed empty =
    let same : trace ≡ passed.settings = passed.joined ∙ rw empty (append-nil passed.settings) in
    rw same passed.none

-- the stop is the next line
pub stopped : (trace rest line after : List ℕ) (count : ℕ) → Passed trace rest count → 0 < length rest → lines_of rest ≡ line ∷ lines_of after → line ≡ codes "." → IsSplit trace (take (length trace - length rest) trace) after (count + 1)
stopped trace rest line after count passed some lines stop =
    let whole = whole_before passed.settings rest passed.whole some in
    let long : length trace ≡ length passed.settings + length rest = ap length passed.joined ∙ length-append passed.settings rest in
    let place : length trace - length rest ≡ length passed.settings = omega (arith, long) in
    let prefix : take (length trace - length rest) trace ≡ passed.settings =
    ap (λ n. take n trace) place ∙ ap (take (length passed.settings)) passed.joined ∙ take-append_seam passed.settings rest in
    let all : lines_of trace ≡ lines_of passed.settings ++ (codes "." ∷ lines_of after) =
    ap lines_of passed.joined ∙ lines_joined passed.settings rest whole ∙ ap (λ l. lines_of passed.settings ++ l) (lines ∙ ap (λ l. l ∷ lines_of after) stop) in
    rw prefix (record { lines = all; none = passed.none; number = rw passed.number (omega arith); prefix = (rest, passed.joined); whole = whole })
