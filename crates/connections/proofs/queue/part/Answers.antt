use Rattle.std.proofs.Common.{ap, length, arith}
use Rattle.connections.proofs.Prefixes.{prefix_within}
use Rattle.connections.proofs.queue.part.Goals as goal

pub overflow_sub-left-2 : goal.overflow_sub-left-2
overflow_sub-left-2 c =
    let within = prefix_within c.segment-segment.result.now c.args.octets.now c.args.start c.requires c.segment-segment.ensures in
    omega (arith, within, c.len.ensures)

pub returns-clause-tail : goal.returns-clause-tail
returns-clause-tail c =
    let within = prefix_within c.segment-segment.result.now c.args.octets.now c.args.start c.requires c.segment-segment.ensures in
    omega (arith, within, c.len.ensures, c.len-2.ensures, ap length c.new.ensures)
