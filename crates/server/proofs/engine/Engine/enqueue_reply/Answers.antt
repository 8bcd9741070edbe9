use Rattle.std.proofs.Common.{ap, ◌∙◌}
use Rattle.connections.specs.Slots.{closes_at}
use Rattle.server.specs.State.{EngineState}
use Rattle.server.proofs.DueBytes.{enqueues_reply}
use Rattle.server.proofs.engine.Engine.enqueue_reply.Goals as goal

pub returns : goal.returns
returns g c = enqueues_reply c.args.body.now c.closes-closes.result (c.closes-closes.ensures ∙ ap (λ (e : EngineState). closes_at c.args.key e.slots) c.self.view_is) c.enqueue.ensures
