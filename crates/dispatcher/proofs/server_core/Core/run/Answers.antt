use Rattle.std.proofs.Common.{◌≡◌, ◌≤◌, ◌+◌, ◌++◌, ◌∷◌, [], List, length, sym, ap, subst, arith, rules, length-append}
use Rattle.std.specs.Vec.Iter.{into_iter_items}
use Rattle.dispatcher.specs.declared.run.Timed.{Timed}
use Rattle.dispatcher.specs.Run.{Outcome, Run}
use Rattle.dispatcher.proofs.Runs.{run_more}
use Rattle.dispatcher.proofs.server_core.Core.run.Goals as goal

pub loop-timed-preserved : goal.loop-timed-preserved
loop-timed-preserved g c =
    let pushed : c.push_reserved.new.self.items ≡ c.loop-timed.handled.items ++ c.handle.result ∷ [] = c.push_reserved.ensures.items in
    let rest : into_iter_items c.loop-timed.timed-iterator ≡ c.in-Some.timed ∷ into_iter_items c.next.new.self = search rules in
    let room : length c.push_reserved.new.self.items + length (into_iter_items c.next.new.self) ≤ c.push_reserved.new.self.cap = omega (arith, ap (λ (os : List Outcome). length os) pushed, length-append c.loop-timed.handled.items (c.handle.result ∷ []), ap (λ (ts : List Timed). length ts) rest, c.loop-timed.invariant.3, c.push_reserved.ensures.capacity) in (
      tt,
      tt,
      subst (λ (os : List Outcome). Run g.L.Observer.notified c.args.self.now c.args.observer.now (c.loop-timed.yielded ++ c.in-Some.timed ∷ []) os c.handle.new.self c.handle.new.observer) (sym pushed) (run_more g.L.Observer.notified c.args.self.now c.args.observer.now c.loop-timed.yielded c.loop-timed.handled.items c.loop-timed.self c.loop-timed.observer c.in-Some.timed c.handle.result c.handle.new.self c.handle.new.observer c.loop-timed.invariant.2 c.handle.ensures),
      room,
    )
