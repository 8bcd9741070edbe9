use Rattle.promises.proofs.NotedEvents.{notifies_dropped}
use Rattle.promises.proofs.run.dropped_events_are_notified.Goals as goal

pub returns : goal.returns
returns c trace old new runs = notifies_dropped trace old new runs
