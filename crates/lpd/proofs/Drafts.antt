-- Lines of a control file, one more at a time.
use Rattle.std.specs.Prelude.{ℕ, ◌≡◌, ◌+◌, ◌<◌, List, ◌∷◌, length, map, drop, slice_index_or, Option, Some, None, Result, Ok, Err}
use Rattle.std.specs.Option.{option_or}
use Rattle.std.proofs.Common.{refl, sym, ◌∙◌}
use Rattle.std.proofs.lemmas.List.{append_assoc, at_drop_more}
use denote.Ref.{Bor}
use Rattle.lpd.specs.declared.control.ControlFault.{ControlFault}
use Rattle.lpd.specs.Control.{LineRecord, Draft, before, alone, together, line_in, lines_in, joined}
use Rattle.text.specs.Steps.{◌>>=◌}

or_assoc : (one two three : Option (List ℕ)) → option_or (option_or one two) three ≡ option_or one (option_or two three)
or_assoc None two three = refl
or_assoc (Some name) two three = refl

before_assoc : (one two three : Draft) → before (before one two) three ≡ before one (before two three)
before_assoc one two three =
    rw (
      or_assoc one.host two.host three.host,
      or_assoc one.owner two.owner three.owner,
      or_assoc one.job_name two.job_name three.job_name,
      or_assoc one.source_name two.source_name three.source_name,
      append_assoc one.prints two.prints three.prints,
    ) refl

joined_by : (draft : Draft) (line : LineRecord) (read : Result (List LineRecord) ControlFault)
    → (read >>= λ lines. Ok (before (before draft (alone line)) (together lines))) ≡ ((read >>= λ lines. Ok (line ∷ lines)) >>= λ lines. Ok (before draft (together lines)))
joined_by draft line (Ok lines) = rw (before_assoc draft (alone line) (together lines)) refl
joined_by draft line (Err fault) = refl

pub joined_step : (draft : Draft) (text : List ℕ) (texts : List (List ℕ)) (line : LineRecord) → line_in text ≡ Ok line → joined (before draft (alone line)) texts ≡ joined draft (text ∷ texts)
joined_step draft text texts line parses = rw parses (joined_by draft line (lines_in texts))

-- the same at a place of a list of texts
pub lines_step : (old new : Draft) (texts : List (Bor (List ℕ))) (place : ℕ) (default : Bor (List ℕ)) (line : LineRecord) → place < length texts → line_in (slice_index_or texts place default).now ≡ Ok line → new ≡ before old (alone line)
    → joined new (map (λ text. text.now) (drop (place + 1) texts)) ≡ joined old (map (λ text. text.now) (drop place texts))
lines_step old new texts place default line within parses is =
    rw is (joined_step old (slice_index_or texts place default).now (map (λ text. text.now) (drop (place + 1) texts)) line parses
    ∙ sym (at_drop_more (λ rest. joined old (map (λ text. text.now) rest)) texts place default within))
