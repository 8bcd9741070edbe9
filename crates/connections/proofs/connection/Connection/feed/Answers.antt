use Rattle.std.proofs.Common.{rules, subst}
use Rattle.connections.specs.Asking.{Feeds}
use Rattle.connections.specs.Connections.{ConnectionState}
use Rattle.connections.specs.Representation.{Becomes}
use Rattle.connections.specs.declared.connection.Fed.TheVariants as how
use Rattle.connections.proofs.Entries.{fed}
use Rattle.connections.proofs.connection.Connection.feed.Goals as goal

pub returns-in-Ok : goal.returns-in-Ok
returns-in-Ok c =
    let k : ConnectionState = record {
      id = c.self.inside.id;
      peer = c.feed.new.self;
      ended = c.self.inside.ended;
      draining = c.self.inside.draining;
      broken = c.self.inside.broken;
      output = c.self.inside.output;
    } in
    subst (λ (s : ConnectionState). Becomes (Feeds c.args.segment.now how.Fed) s k) c.self.view_is
    (fed c.args.segment.now _ k c.feed.new.self (search rules) (search rules) (search rules))
