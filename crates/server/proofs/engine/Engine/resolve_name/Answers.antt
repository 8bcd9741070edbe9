use Rattle.std.proofs.Common.{◌∙◌, sym, ap, refl, inl, inr, true, false}
use Rattle.connections.specs.Slots.{ended_at}
use Rattle.dispatcher.specs.declared.observer.DeviceRefusal.TheVariants as why
use Rattle.dispatcher.specs.Notes.{DeviceRefused}
use Rattle.server.specs.Hello.{IsSuperseded}
use Rattle.server.specs.Rel.{Rel, Notifies, Then}
use Rattle.server.specs.State.{EngineState}
use Rattle.server.proofs.Steps.{quietly_as, quietly_then, quietly_from}
use Rattle.server.proofs.DeviceOrders.{other_there, gives_way_to, notifies}
use Rattle.server.proofs.engine.Engine.resolve_name.Goals as goal

pub returns-then-has_ended : goal.returns-then-has_ended
returns-then-has_ended g c =
    quietly_as _ _ _ _ _ _ _
    (λ l hs l' fits fits' it. inr (inl (c.args.other, other_there l c.args.self.now c.args.device c.args.origin.key c.args.other true fits c.requires (ap (λ (e : EngineState). ended_at e.slots c.args.other) (sym c.self.view_is) ∙ (sym c.has_ended.ensures ∙ c.if-has_ended.true)), it)))
    c.replace_connection.ensures

pub returns-else-has_ended : goal.returns-else-has_ended
returns-else-has_ended g c =
    let R : Rel = Then (IsSuperseded c.args.origin.key) (Notifies (DeviceRefused c.args.origin.id (why.Connected c.args.device))) in
    quietly_as _ R _ _ _ _ _
    (λ l hs l' fits fits' it. inr (inr (c.args.other, other_there l c.args.self.now c.args.device c.args.origin.key c.args.other false fits c.requires (ap (λ (e : EngineState). ended_at e.slots c.args.other) (sym c.self.view_is) ∙ (sym c.has_ended.ensures ∙ c.if-has_ended.false)), it)))
    (quietly_then _ (IsSuperseded c.args.origin.key) (Notifies (DeviceRefused c.args.origin.id (why.Connected c.args.device))) _ _ _ _ _ _
    (quietly_from _ _ _ _ _ _ _ _ c.self.view_is refl (gives_way_to _ _ _ c.supersede.new.connections.slots c.args.origin.key c.supersede.ensures))
    (notifies _ _ _ _ _ c.device_refused.ensures))
