use Rattle.std.proofs.Common.{ℕ, List, Option, subst}
use Rattle.std.specs.Prelude.{max}
use Rattle.plan_prices.specs.Plan.{PlanRecord}
use Rattle.print_room.specs.declared.started.Started.{Started}
use Rattle.print_room.specs.State.{State}
use Rattle.print_room.specs.Dispatch.{Dispatches}
use Rattle.print_room.specs.DeviceJobs.{AllKeep}
use Rattle.events.specs.declared.event.Event.{Event}
use Rattle.events.specs.declared.effects.Effects.{Effects}
use Rattle.dispatcher.specs.Step.{Step}
use Rattle.dispatcher.specs.Keeping.{StepKeeps}
use Rattle.dispatcher.proofs.DocumentsStay.{RoomKeeps, step_keeps}
use Rattle.dispatcher.proofs.server_core.Core.documents_stay.Goals as goal

pub returns-clause-steps : goal.returns-clause-steps
returns-clause-steps g c =
    let s : State = c.self.inside.room in
    let law : RoomKeeps s = record {
      submits = c.documents_stay.ensures.submits;
      sends = c.documents_stay.ensures.sends;
      changes = c.documents_stay.ensures.changes;
      cancels = c.documents_stay.ensures.cancels;
      removes = c.documents_stay.ensures.removes;
      pauses = c.documents_stay.ensures.pauses;
      expires = c.documents_stay.ensures.expires;
      reports = c.documents_stay.ensures.reports;
    } in
    subst (λ (t : State). (event : Event) (moment : ℕ) (effects : Effects) (new : State) → Step t event moment effects new → StepKeeps event t effects.documents.items new) c.self.view_is
    (λ event moment effects new step. step_keeps s law event (max moment s.last) effects new step)

pub returns-clause-dispatches : goal.returns-clause-dispatches
returns-clause-dispatches g c =
    subst (λ (t : State). (now : ℕ) (plan : Option PlanRecord) (started : List Started) (new : State) → Dispatches now t plan started new → AllKeep t new) c.self.view_is c.documents_stay.ensures.dispatches
