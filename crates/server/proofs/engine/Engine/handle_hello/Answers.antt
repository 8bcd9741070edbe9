use Rattle.std.proofs.Common.{◌∙◌, sym, ap, inl}
use Rattle.connections.specs.Slots.{is_of}
use Rattle.server.specs.State.{EngineState}
use Rattle.server.proofs.Steps.{quietly_as}
use Rattle.server.proofs.DeviceOrders.{device_alone}
use Rattle.server.proofs.engine.Engine.handle_hello.Goals as goal

pub returns-in-None : goal.returns-in-None
returns-in-None g c =
    quietly_as _ _ _ _ _ _ _
    (λ l hs l' fits fits' it. inl (device_alone l c.args.self.now c.args.device c.args.origin.key fits (λ key apart. ap (λ (e : EngineState). is_of e.slots c.args.device key) (sym c.self.view_is) ∙ c.in-None.ensures.none key apart), it))
    c.report_now.ensures.refines
