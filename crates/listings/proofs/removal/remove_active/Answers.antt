use Rattle.std.proofs.Common.{sym}
use Rattle.listings.proofs.RemovalCancels.{active_free}
use Rattle.listings.proofs.removal.remove_active.Goals as goal

pub cancel-requires-clause-free : goal.cancel-requires-clause-free
cancel-requires-clause-free c = active_free c.args.printer c.args.agent.now c.args.room.now c.in-Some.id c.in-Some.ensures.kept (sym c.in-Some.ensures.value)
