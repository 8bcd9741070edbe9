use Rattle.server.proofs.Joins.{notifies_then}
use Rattle.server.proofs.DueBytes.{enqueues_status}
use Rattle.server.proofs.engine.Engine.drop_request.Goals as goal

pub returns : goal.returns
returns g c = notifies_then c.refused.ensures (enqueues_status _ _ _ c.ipp_refusal-body.ensures c.enqueue_reply.ensures)
