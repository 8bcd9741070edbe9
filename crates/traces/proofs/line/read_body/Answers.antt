use Rattle.std.proofs.Common.{rules, arith, ap, length, ◌<◌, ◌≢◌, [], inl, inr}
use Rattle.traces.proofs.Texts.{nothing_in}
use Rattle.traces.proofs.Digits.{no_body, no_capital_body, not_hex, body_in}
use Rattle.traces.proofs.line.read_body.Goals.{then-is_empty-via-then-is_empty, then-is_empty-via-else-is_empty+then-has_capital}
use Rattle.traces.proofs.line.read_body.Goals as goal

pub returns-then-is_empty : goal.returns-then-is_empty
returns-then-is_empty c =
    elim c.then-is_empty.branch [
      | then-is_empty-via-then-is_empty w ↦ λ it. no_body c.args.digits.now it.items (nothing_in c.args.digits.now (search rules))
      | then-is_empty-via-else-is_empty+then-has_capital w ↦ λ it. no_capital_body c.args.digits.now it.items (search rules)
    ]

pub returns-in-Ok : goal.returns-in-Ok
returns-in-Ok c =
    let filled : 0 < length c.args.digits.now = search rules in
    let some : c.args.digits.now ≢ [] = λ empty. omega (arith, ap length empty, filled) in
    body_in c.args.digits.now _ some (search rules) c.in-Ok.ensures.ok

pub returns-in_default : goal.returns-in_default
returns-in_default c =
    elim c.in-Err.ensures.err [
      | inl memory ↦ absurd (c.in_default.not-OutOfMemory memory)
      | inr refused ↦ λ it. not_hex c.args.digits.now it.items c.in-Err.error refused
    ]
