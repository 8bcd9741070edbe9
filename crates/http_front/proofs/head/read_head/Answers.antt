use Rattle.std.proofs.Common.{rules, inl, inr}
use Rattle.httparse.specs.Grammar.{RequestHead}
use Rattle.httparse.specs.Borrowed.{HoldsRequest}
use Rattle.http_front.proofs.Heads.{asks_other}
use Rattle.http_front.proofs.head.read_head.Goals as goal
use Rattle.http_front.proofs.head.read_head.Goals.{then-length-head-via-then-length-head, then-length-head-via-else-length-head+then-request-gt-FIELDS}

pub returns-then-length-head : goal.returns-then-length-head
returns-then-length-head c =
    let found : (h : RequestHead) × HoldsRequest c.args.head.now c.in-Ok-Complete.length c.parse.new.self h = search rules in
    elim c.then-length-head.branch [
      | then-length-head-via-then-length-head w ↦ asks_other c.args.head.now c.in-Ok-Complete.length c.parse.new.self found.0 found.1 (inl w.if-length-head.true)
      | then-length-head-via-else-length-head+then-request-gt-FIELDS w ↦ asks_other c.args.head.now c.in-Ok-Complete.length c.parse.new.self found.0 found.1 (inr w.if-request-gt-FIELDS.true)
    ]
