-- Prefixes of a text: that of no bytes has no faulty line, and the whole text is one.
use Rattle.std.proofs.Common.{◌≡◌, ℕ, ◌<◌, ◌≤◌, true, false, List, [], ◌∷◌, length, take, arith, refl, ap, ◌∙◌}
use Rattle.std.proofs.lemmas.Bool.{both_ways}
use Rattle.std.proofs.Math.Seq.{take-length}
use Rattle.plan_text.specs.Whole.{plan_in, plan_from, ended}
use Rattle.plan_audit.specs.Place.{has_faulty_line}

nothing_is_sound : has_faulty_line [] ≡ false
unfolding has_faulty_line plan_in plan_from ended
nothing_is_sound = refl

-- before the first halving
pub begins : (text : List ℕ) → has_faulty_line text ≡ true →
    (0 < length text) × (length text ≤ length text) × (has_faulty_line (take 0 text) ≡ false) × (has_faulty_line (take (length text) text) ≡ true)
begins [] h = absurd (both_ways (has_faulty_line []) nothing_is_sound h)
begins (byte ∷ bytes) h = (omega arith, omega arith, nothing_is_sound, ap has_faulty_line (take-length (byte ∷ bytes)) ∙ h)
