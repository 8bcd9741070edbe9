use Rattle.std.proofs.Common.{◌≡◌, ◌∷◌, ◌+◌, List, [], Bool, false, drop, sym, subst, refl, add-one}
use Rattle.std.specs.Prelude.{◌||◌}
use Rattle.std.proofs.Math.Seq.{drop-cons}
use Rattle.print_room.specs.declared.started.Started.{Started}
use Rattle.server.specs.Polls.{alone}
use Rattle.server.specs.Rel.{EachOf}
use Rattle.server.specs.Happening.{Starts}
use Rattle.server.specs.State.{EngineState, with_slots}
use Rattle.server.specs.Refinement.{RefinesReporting}
use Rattle.server.proofs.Steps.{reporting_then, reporting_nothing, reporting_at, or_assoc, or_false, drop_past}
use Rattle.server.proofs.DeviceOrders.{starts_all}
use Rattle.server.proofs.starting.start_all.Goals as goal

pub loop-started-init : goal.loop-started-init
loop-started-init g c = λ a core same o b later it. reporting_at _ (EachOf c.begun-started-items.result.now Starts) _ o a b c.args.connections.now.slots later same it

pub loop-started-preserved : goal.loop-started-preserved
loop-started-preserved g c = λ a core same o b lost later.
    let items = c.begun-started-items.result.now in
    let next : drop c.loop-started.started-index c.begun-started-items.result.now ≡ c.started-item.result ∷ drop (c.loop-started.started-index + 1) c.begun-started-items.result.now = rw (add-one, drop-cons c.begun-started-items.result.now c.loop-started.started-index c.started-item.result c.loop-started-test.true, ← c.started-item.is) refl in
    let all = c.loop-started.invariant a core same o b (c.start-refused.result || lost) (subst (λ (xs : List Started). RefinesReporting (alone g.N.Observer.notified) (EachOf xs Starts) c.loop-started.notes (with_slots c.loop-started.connections.slots a) o b (c.start-refused.result || lost)) (sym next)
    (reporting_then _ (Starts c.started-item.result) (EachOf (drop (c.loop-started.started-index + 1) c.begun-started-items.result.now) Starts) _ _ _ _ _ _ _ _ (c.start-refused.ensures (with_slots c.loop-started.connections.slots a) core refl) later)) in
    subst (λ (t : Bool). RefinesReporting (alone g.N.Observer.notified) (EachOf c.begun-started-items.result.now Starts) c.args.notes.now a o b t) (or_assoc c.loop-started.refused c.start-refused.result lost) all

pub returns : goal.returns
returns g c = λ a core same.
    let none : drop c.loop-started.started-index c.begun-started-items.result.now ≡ [] = drop_past c.begun-started-items.result.now c.loop-started.started-index c.loop-started-test.false in
    let b : EngineState = with_slots c.loop-started.connections.slots a in
    let done = c.loop-started.invariant a core same c.loop-started.notes (with_slots c.loop-started.connections.slots a) false (subst (λ (xs : List Started). RefinesReporting (alone g.N.Observer.notified) (EachOf xs Starts) c.loop-started.notes (with_slots c.loop-started.connections.slots a) c.loop-started.notes (with_slots c.loop-started.connections.slots a) false) (sym none) (reporting_nothing _ c.loop-started.notes (with_slots c.loop-started.connections.slots a))) in
    let flagged = subst (λ (t : Bool). RefinesReporting (alone g.N.Observer.notified) (EachOf c.begun-started-items.result.now Starts) c.args.notes.now a c.loop-started.notes (with_slots c.loop-started.connections.slots a) t) (or_false c.loop-started.refused) done in
    starts_all _ _ _ a (with_slots c.loop-started.connections.slots a) c.args.core.now c.loop-started.refused core
    (subst (λ (xs : List Started). RefinesReporting (alone g.N.Observer.notified) (EachOf xs Starts) c.args.notes.now a c.loop-started.notes (with_slots c.loop-started.connections.slots a) c.loop-started.refused) c.begun-started-items.ensures flagged)
