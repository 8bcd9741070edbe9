use Rattle.std.proofs.Common.{◌≡◌, ◌+◌, ◌-◌, ◌∙◌, List, ℕ, length, take, drop, arith, sym, ap, subst, Ok}
use Rattle.std.proofs.lemmas.Result.{err_from_is_err_and}
use Rattle.ipp_codec.specs.Decoding.{Lengths}
use Rattle.ipp_codec.specs.Reading.{Walks}
use Rattle.ipp_codec.proofs.Fields.{IsBytes}
use Rattle.ipp_codec.proofs.Heads.{tail, failed, lengths, walked}
use Rattle.ipp_codec.proofs.head.any_length.Goals as goal

pub returns-in_err-groups : goal.returns-in_err-groups
returns-in_err-groups c =
    let p = err_from_is_err_and c.from_residual.result c.from_residual.ensures.1 in
    rw (p.1, p.2) (failed c.args.bytes.now _ (λ i. omega (arith, c.type_inv.bytes i)) c.in-len8-up.len_at_least (rw tail at c.in_err-groups.ensures))

pub returns : goal.returns
returns c =
    let fits : IsBytes c.args.bytes.now = λ i. omega (arith, c.type_inv.bytes i) in
    let len = c.in_ok-groups.field-0 in
    let walks : Walks (drop 8 c.args.bytes.now) (Ok len) = rw tail at (c.in_ok-groups.ensures {u = tt}) in
    let same : length (take len (take (length c.args.bytes.now - 8) (drop 8 c.args.bytes.now))) ≡ len = ap (λ (b : List ℕ). length (take len b)) (tail c.args.bytes.now) ∙ walked (drop 8 c.args.bytes.now) len walks in
    subst (λ (n : ℕ). Lengths c.args.bytes.now (Ok (8 + n + 1))) (sym same) (lengths c.args.bytes.now len fits c.in-len8-up.len_at_least walks)
