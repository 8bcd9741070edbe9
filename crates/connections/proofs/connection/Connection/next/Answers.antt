use Rattle.std.proofs.Common.{◌<◌, rules, subst, Some, None}
use Rattle.connections.specs.Asking.{Asking}
use Rattle.connections.specs.Connections.{ConnectionState, load}
use Rattle.connections.specs.Representation.{Becomes}
use Rattle.connections.proofs.Entries.{asks, rests}
use Rattle.connections.proofs.Loads.{falls}
use Rattle.connections.proofs.connection.Connection.next.Goals as goal

pub returns-in-Some-clause-asks : goal.returns-in-Some-clause-asks
returns-in-Some-clause-asks c =
    subst (λ (s : ConnectionState). Becomes (Asking c.args.settings.now (Some c.take.result)) s c.take.new.self) c.self.view_is
    (asks c.args.settings.now c.in-Some.step c.take.result _ c.take.new.self c.next.new.self (search rules) c.in-Some.ensures (search rules))

pub returns-in-Some-clause-falls : goal.returns-in-Some-clause-falls
returns-in-Some-clause-falls c =
    let old : ConnectionState = record {
      id = c.self.inside.id;
      peer = c.self.inside.peer;
      ended = c.self.inside.ended;
      draining = c.self.inside.draining;
      broken = c.self.inside.broken;
      output = c.self.inside.output;
    } in
    subst (λ (s : ConnectionState). load c.take.new.self < load s) c.self.view_is
    (falls c.args.settings.now c.in-Some.step c.take.result old c.take.new.self c.next.new.self (search rules) c.in-Some.ensures (search rules))

pub returns-in-None-clause-asks : goal.returns-in-None-clause-asks
returns-in-None-clause-asks c =
    let k : ConnectionState = record {
      id = c.self.inside.id;
      peer = c.next.new.self;
      ended = c.self.inside.ended;
      draining = c.self.inside.draining;
      broken = c.self.inside.broken;
      output = c.self.inside.output;
    } in
    subst (λ (s : ConnectionState). Becomes (Asking c.args.settings.now None) s k) c.self.view_is
    (rests c.args.settings.now _ k c.next.new.self (search rules) c.in-None.ensures (search rules))
