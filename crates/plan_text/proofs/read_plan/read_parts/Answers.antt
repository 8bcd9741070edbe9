use Rattle.std.proofs.Common.{ℕ, ◌<◌, length, List, [], Bor, arith, sym}
use Rattle.std.proofs.lemmas.Bool.{eqb-false}
use Rattle.plan_text.proofs.Parts.{some_parts}
use Rattle.plan_text.proofs.read_plan.read_parts.Goals as goal

pub returns : goal.returns
returns c =
    let many : 0 < length c.args.parts.now = omega (arith, eqb-false (length c.args.parts.now) 0 (sym c.if-is_empty.ensures)) in
    rw (some_parts (λ (part : Bor (List ℕ)). part.now) c.args.parts.now (record { ref_ptr = (0, 0); now = [] }) many) c.read_from.ensures
