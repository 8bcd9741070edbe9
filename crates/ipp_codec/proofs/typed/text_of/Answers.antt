use Rattle.std.proofs.Common.{arith, sym}
use Rattle.ipp_codec.proofs.Texts.{has_text, lacks_language, lacks_text, goes_past}
use Rattle.ipp_codec.proofs.typed.text_of.Goals as goal

pub returns-in_default-clause-none : goal.returns-in_default-clause-none
returns-in_default-clause-none c none = lacks_language _ _ c.in_default.ensures

pub returns-in_default-counted_of-clause-none : goal.returns-in_default-counted_of-clause-none
returns-in_default-counted_of-clause-none c none = lacks_text _ _ _ _ c.in-Ok.ensures c.in_default-counted_of.ensures

pub returns-then-is_empty-clause-some : goal.returns-then-is_empty-clause-some
returns-then-is_empty-clause-some c = has_text _ _ _ _ _ (λ i. omega (arith, c.type_inv.bytes i)) c.in-Ok.ensures c.in-Ok-counted_of.ensures (sym c.if-is_empty.ensures)

pub returns-else-is_empty-clause-none : goal.returns-else-is_empty-clause-none
returns-else-is_empty-clause-none c none = goes_past _ _ _ _ _ c.in-Ok.ensures c.in-Ok-counted_of.ensures (sym c.if-is_empty.ensures)
