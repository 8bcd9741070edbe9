use Rattle.std.proofs.Common.{map, take}
use Rattle.dispatcher.specs.Notes.{Canceled, Notifies}
use Rattle.dispatcher.proofs.run.notify_cancels.Given as goal

abbrev pub invariant-loop-cancel : goal.invariant-loop-cancel
invariant-loop-cancel g l = Notifies g.L.Observer.notified l.initial.observer (map Canceled (take l.cancel-index l.cancels)) l.observer
