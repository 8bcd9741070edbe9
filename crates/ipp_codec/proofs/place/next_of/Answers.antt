use Rattle.std.proofs.Common.{◌≡◌, arith, Bool, IsTrue, ◌↔◌, true, false}
use Rattle.std.proofs.lemmas.Result.{err_from_is_err_and}
use Rattle.ipp_codec.proofs.Steps.{AtTagOf, opened_steps, field_fails, value_breaks, value_reaches}
use Rattle.ipp_codec.proofs.place.next_of.Goals as goal

refused : (b : Bool) (P : Type 0) → IsTrue b ↔ P → b ≡ false → ¬ P
refused b P iff h p = let holds : b ≡ true = iff.1 p in absurd cc

pub returns-then-tag-lt-FIRST_VALUE_TAG : goal.returns-then-tag-lt-FIRST_VALUE_TAG
returns-then-tag-lt-FIRST_VALUE_TAG c = opened_steps c.args.place c.args.bytes.now c.in-len1-up.len_at_least c.if-tag-eq0.false c.if-tag-lt-FIRST_VALUE_TAG.true c.if-tag-eq-END.false (omega arith)

pub returns-in_err-name : goal.returns-in_err-name
returns-in_err-name c =
    let p = err_from_is_err_and c.from_residual.result c.from_residual.ensures.1 in
    let at : AtTagOf c.args.place c.args.bytes.now = (c.in-len1-up.len_at_least, c.if-tag-lt-FIRST_VALUE_TAG.false, refused _ _ c.is_outside.ensures c.if-is_outside.false, λ i. omega (arith, c.type_inv.bytes i)) in
    rw (p.1, p.2) (field_fails c.args.place c.args.bytes.now _ at c.in_err-name.ensures)

pub returns-in_err-next_place : goal.returns-in_err-next_place
returns-in_err-next_place c =
    let p = err_from_is_err_and c.from_residual-in_err-next_place.result c.from_residual-in_err-next_place.ensures.1 in
    let at : AtTagOf c.args.place c.args.bytes.now = (c.in-len1-up.len_at_least, c.if-tag-lt-FIRST_VALUE_TAG.false, refused _ _ c.is_outside.ensures c.if-is_outside.false, λ i. omega (arith, c.type_inv.bytes i)) in
    rw (p.1, p.2) (value_breaks c.args.place c.args.bytes.now (c.in_ok-name.name.now, c.in_ok-name.value.now, c.in_ok-name.rest.now) _ at c.in_ok-name.ensures c.in_err-next_place.ensures)

pub returns : goal.returns
returns c =
    let at : AtTagOf c.args.place c.args.bytes.now = (c.in-len1-up.len_at_least, c.if-tag-lt-FIRST_VALUE_TAG.false, refused _ _ c.is_outside.ensures c.if-is_outside.false, λ i. omega (arith, c.type_inv.bytes i)) in
    value_reaches c.args.place c.args.bytes.now (c.in_ok-name.name.now, c.in_ok-name.value.now, c.in_ok-name.rest.now) c.in_ok-next_place.next_place at c.in_ok-name.ensures c.in_ok-next_place.ensures
