use Rattle.std.proofs.Common.{rules, ◌≤◌, length, sym, subst}
use Rattle.adapter_core.specs.OrderStream.{HasOctet, Advances, OrderReaderState}
use Rattle.std.specs.Prelude.{map}
use Rattle.adapter_core.proofs.OrderStreams.{answers_octets}
use Rattle.adapter_core.proofs.order_reader.OrderReader.next_octets.Goals as goal

pub returns-clause-answer : goal.returns-clause-answer
returns-clause-answer c =
    let old = c.args.self.now in
    let size = c.min-length.result in
    let there : size ≤ length old.rest = search rules in
    let few : size ≤ old.octets = search rules in
    subst (λ (n : OrderReaderState). Advances old (map HasOctet n.part) n) (sym c.lend.ensures) (answers_octets old size c.requires.faultless there few)
