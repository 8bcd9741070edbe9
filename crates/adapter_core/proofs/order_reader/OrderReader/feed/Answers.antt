use Rattle.std.proofs.Common.{rules}
use Rattle.std.specs.Prelude.{IsSome}
use Rattle.adapter_core.proofs.OrderStreams.{fed_by, reaches_still}
use Rattle.adapter_core.proofs.order_reader.OrderReader.feed.Goals as goal

pub returns-then-is_some-clause-fed : goal.returns-then-is_some-clause-fed
returns-then-is_some-clause-fed c =
    let faulty : IsSome c.args.self.now.fault = search rules in
    λ stream given reaches. reaches_still stream given c.args.segment.now c.args.self.now faulty reaches

pub returns-clause-fed : goal.returns-clause-fed
returns-clause-fed c = fed_by c.args.self.now _ c.args.segment.now c.append.result c.append.ensures.ok
