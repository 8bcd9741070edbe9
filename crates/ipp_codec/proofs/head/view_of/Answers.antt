use Rattle.std.proofs.Common.{◌≡◌, ◌-◌, ℕ, length, take, drop, ap, arith}
use Rattle.ipp_codec.proofs.ViewedMessage.{view_shown}
use Rattle.ipp_codec.proofs.head.view_of.Goals as goal

pub returns : goal.returns
returns c = λ m spells.
    let head = c.args.head.now in
    let nine : (length head - 1) - 8 ≡ length head - 9 = omega arith in
    view_shown head c.from_be_bytes.result c.from_be_bytes-2.result (take ((length head - 1) - 8) (drop 8 head)) c.from_be_bytes.ensures c.from_be_bytes-2.ensures (ap (λ (n : ℕ). take n (drop 8 head)) nine) m spells
