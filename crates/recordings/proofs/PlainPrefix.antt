-- Bytes as they are written in a line, up to the first that is escaped.
use Rattle.std.specs.Prelude.{ℕ, ◌≡◌, ◌==◌, ◌<◌, Bool, true, false, List, [], ◌∷◌, ◌++◌, length, take, drop, slice_index, suc, Some, None}
use Rattle.std.proofs.Common.{arith, refl, sym, ap, ◌∙◌}
use Rattle.std.proofs.lemmas.Bool.{or_parts}
use Rattle.std.proofs.lemmas.List.{get_or-take, length-take-le, take-append-drop}
use Rattle.std.proofs.lemmas.List.Concat.{flat_map-append}
use Rattle.memchr.specs.Find.{IsFirstByte, is_byte2}
use Rattle.recordings.specs.Data.{escape, escaped}

not_true : (b : Bool) → (b ≡ true → ⊥) → b ≡ false
not_true true never = absurd (never refl)
not_true false never = refl

-- bytes of which none is escaped are written as they are
plain : (bytes : List ℕ) → ((k : ℕ) → k < length bytes → is_byte2 10 92 (slice_index bytes k) ≡ false) → escaped bytes ≡ bytes
plain [] fails = refl
plain (byte ∷ bytes) fails =
    let parts = or_parts (byte == 10) (byte == 92) (fails 0 (omega arith)) in
    rw (parts.0, parts.1) (ap (λ l. byte ∷ l) (plain bytes (λ k low. fails (suc k) (omega (arith, low)))))

pub all_plain : (bytes : List ℕ) → IsFirstByte (is_byte2 10 92) bytes None → escaped bytes ≡ bytes
all_plain bytes nowhere = plain bytes (λ k low. not_true (is_byte2 10 92 (slice_index bytes k)) (nowhere k (omega arith) low))

pub prefix_plain : (bytes : List ℕ) (place : ℕ) → IsFirstByte (is_byte2 10 92) bytes (Some place) → escaped (take place bytes) ≡ take place bytes
prefix_plain bytes place found =
    let within : place < length bytes = found.0.high in
    plain (take place bytes) (λ k low.
    let short : k < place = omega (arith, low, length-take-le place bytes (omega (arith, within))) in
    rw (get_or-take place bytes k 0 short) (not_true (is_byte2 10 92 (slice_index bytes k)) (found.0.before k (omega arith) short)))

pub cut : (bytes : List ℕ) (place byte : ℕ) (prefix back more : List ℕ) → IsFirstByte (is_byte2 10 92) bytes (Some place) → prefix ≡ take place bytes → back ≡ drop place bytes → back ≡ byte ∷ more → escaped bytes ≡ prefix ++ (escape byte ++ escaped more)
cut bytes place byte prefix back more found first second later =
    ap escaped (sym (take-append-drop place bytes) ∙ ap (λ l. take place bytes ++ l) (sym second ∙ later))
    ∙ flat_map-append escape (take place bytes) (byte ∷ more)
    ∙ ap (λ l. l ++ escaped (byte ∷ more)) (prefix_plain bytes place found ∙ sym first)
