use Rattle.std.proofs.Common.{Some, None, sym, subst}
use Rattle.base_types.specs.declared.report.Report.TheVariants.{Gone}
use Rattle.events.specs.declared.event.Event.TheVariants as Is
use Rattle.server.specs.Polls.{alone}
use Rattle.server.specs.World.{moved}
use Rattle.server.specs.Happening.{Unanswered}
use Rattle.connections.specs.Slots.{LeavesAs}
use Rattle.server.specs.State.{EngineState, with_slots}
use Rattle.server.specs.Refinement.{RefinesReporting, RefinesClosing}
use Rattle.server.proofs.ClosedConnections.{closed_alone, closed_device}
use Rattle.server.proofs.engine.Engine.close.Goals as goal

pub returns-in-Some : goal.returns-in-Some
returns-in-Some g c = λ fate d was empty.
    closed_device _ _ c.args.world.now c.close.new.wire c.report_now.new.notes c.args.self.now c.report_now.new.self c.close.new.connections.slots c.args.moment c.args.key c.in-Some.device fate d c.report_now.result
    (subst (λ (e : EngineState). LeavesAs g.W.Wire.polled c.args.key c.args.world.now e.slots (Some c.in-Some.device) c.close.new.wire c.close.new.connections.slots) c.self.view_is c.in-Some.ensures)
    (subst (λ (e : EngineState). RefinesReporting (alone g.W.Observer.notified) (Unanswered c.args.moment (Is.Report c.in-Some.device Gone)) c.close.new.wire (with_slots c.close.new.connections.slots e) c.report_now.new.notes c.report_now.new.self c.report_now.result) c.self.view_is c.report_now.ensures)
    was empty

pub returns-in_default : goal.returns-in_default
returns-in_default g c = λ fate d was empty.
    subst (λ (e : EngineState). RefinesClosing (moved g.W.Wire.polled g.W.Observer.notified) c.args.moment fate c.args.key c.args.world.now c.args.self.now c.close.new.wire (with_slots c.close.new.connections.slots e)) (sym c.self.view_is)
    (closed_alone _ _ c.args.world.now c.close.new.wire c.args.self.now c.close.new.connections.slots c.args.moment c.args.key fate d
    (subst (λ (e : EngineState). LeavesAs g.W.Wire.polled c.args.key c.args.world.now e.slots None c.close.new.wire c.close.new.connections.slots) c.self.view_is c.in_default.ensures) was empty)
