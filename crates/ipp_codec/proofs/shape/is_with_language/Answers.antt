use Rattle.std.proofs.Common.{arith}
use Rattle.ipp_codec.proofs.Parts.{no_language, no_text, language_iff}
use Rattle.ipp_codec.proofs.shape.is_with_language.Goals as goal

pub returns-in_default : goal.returns-in_default
returns-in_default c = (λ h. absurd cc, λ w. absurd (no_language _ _ c.in_default.ensures w))

pub returns-in_default-counted_of : goal.returns-in_default-counted_of
returns-in_default-counted_of c = (λ h. absurd cc, λ w. absurd (no_text _ _ _ _ c.in-Ok.ensures c.in_default-counted_of.ensures w))

pub returns : goal.returns
returns c = language_iff _ _ _ _ _ _ (λ i. omega (arith, c.type_inv.bytes i)) c.in-Ok.ensures c.in-Ok-counted_of.ensures c.is_empty.ensures
