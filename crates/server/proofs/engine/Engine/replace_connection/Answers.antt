use Rattle.std.proofs.Common.{◌∙◌, ap, subst}
use Rattle.base_types.specs.declared.report.Report.TheVariants as reported
use Rattle.connections.specs.Connections.{superseded}
use Rattle.connections.specs.Slots.{changed_at}
use Rattle.events.specs.declared.event.Event.TheVariants as Is
use Rattle.server.specs.Hello.{IsSuperseded}
use Rattle.server.specs.Happening.{Unanswered}
use Rattle.server.specs.Polls.{alone}
use Rattle.server.specs.Refinement.{RefinesReporting}
use Rattle.server.specs.State.{EngineState, with_slots}
use Rattle.server.proofs.DeviceOrders.{gives_way_to}
use Rattle.server.proofs.Steps.{quietly_then}
use Rattle.server.proofs.engine.Engine.replace_connection.Goals as goal

pub returns : goal.returns
returns g c =
    let slots = c.supersede.new.connections.slots in
    let gone : RefinesReporting (alone g.N.Observer.notified) (Unanswered c.args.moment (Is.Report c.args.device reported.Gone)) c.args.notes.now (with_slots slots c.args.self.now) c.report_now.new.notes c.report_now.new.self c.report_now.result =
    subst (λ (e : EngineState). RefinesReporting (alone g.N.Observer.notified) (Unanswered c.args.moment (Is.Report c.args.device reported.Gone)) c.args.notes.now (with_slots slots e) c.report_now.new.notes c.report_now.new.self c.report_now.result) c.self.view_is c.report_now.ensures in
    quietly_then _ (IsSuperseded c.args.old) _ _ _ _ _ _ _
    (gives_way_to _ _ c.args.self.now slots c.args.old (c.supersede.ensures ∙ ap (λ (e : EngineState). changed_at c.args.old superseded e.slots) c.self.view_is))
    (quietly_then _ (Unanswered c.args.moment (Is.Report c.args.device reported.Gone)) (Unanswered c.args.moment (Is.Report c.args.device (reported.Hello c.args.name))) _ _ _ _ _ _ gone.refines c.report_now-2.ensures.refines)
