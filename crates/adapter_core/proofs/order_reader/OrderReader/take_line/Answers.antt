use Rattle.std.proofs.Common.{rules, ◌≡◌, None, Some, take, subst}
use Rattle.std.specs.Prelude.{◌+◌, [], ◌∷◌, drop}
use Rattle.adapter_core.specs.OrderLine.{order_in}
use Rattle.adapter_core.specs.OrderStream.{Orders, Advances, OrderReaderState, octets_after}
use Rattle.adapter_core.proofs.OrderStreams.{answers_bad_line, answers_order}
use Rattle.adapter_core.proofs.order_reader.OrderReader.take_line.Goals as goal

pub returns-in-None-clause-answer : goal.returns-in-None-clause-answer
returns-in-None-clause-answer c =
    let old = c.args.self.now in
    let parses : order_in (take c.args.length old.rest) ≡ None = search (rules, c.in_ok-read_prefix.ensures, c.in-None.is) in
    rw (c.fail.ensures.kept, c.fail.ensures.answer) (answers_bad_line old c.args.length c.requires.faultless c.requires.outside c.requires.line parses)

pub returns-in-Some-clause-answer : goal.returns-in-Some-clause-answer
returns-in-Some-clause-answer c =
    let old = c.args.self.now in
    let order = c.in-Some.order in
    let parses : order_in (take c.args.length old.rest) ≡ Some order = search (rules, c.in_ok-read_prefix.ensures, c.in-Some.is) in
    let there : OrderReaderState = record { part = []; rest = drop (c.args.length + 1) old.rest; octets = octets_after order; fault = old.fault } in
    let is : there ≡ c.pass_line.new.self = search (rules, c.pass_line.ensures, c.octets_after.ensures) in
    subst (λ (n : OrderReaderState). Advances old (Orders order ∷ []) n) is (answers_order old c.args.length order c.requires.faultless c.requires.outside c.requires.line parses)
