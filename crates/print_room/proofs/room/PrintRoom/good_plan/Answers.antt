use Rattle.std.proofs.Common.{◌≡◌, ◌∙◌, List, filter_map, ap}
use Rattle.plan_prices.specs.Plan.{PlanRecord}
use Rattle.print_room.specs.State.{State}
use Rattle.print_room.specs.Ready.{ready_of, stranded_of}
use Rattle.print_room.specs.GoodPlan.{waits_of}
use Rattle.print_room.specs.Gathered.{Gathered, entry_of}
use Rattle.print_room.proofs.ReadyJobs.{stranded_gathered}
use Rattle.print_room.proofs.ClassProblems.{ready_rises}
use Rattle.print_room.proofs.Checked.{good_is_proved}
use Rattle.print_room.proofs.room.PrintRoom.good_plan.Goals as goal

pub proved_plan_is_yes-requires : goal.proved_plan_is_yes-requires
proved_plan_is_yes-requires g c =
    let s : State = c.args.self.now in
    let done = c.in_ok-classes.ensures in
    let plan : PlanRecord = record { classes = c.in_ok-classes.classes.items; stranded = c.in_ok-stranded.stranded.items } in
    let stranded : c.in_ok-stranded.stranded.items ≡ stranded_of s = c.in_ok-stranded.ensures {u = tt} ∙ (ap (λ (gs : List Gathered). filter_map entry_of gs) (c.deref-2.ensures.value ∙ c.in_ok-ready.ensures.ready) ∙ stranded_gathered s (ready_of s)) in
    good_is_proved s plan (waits_of c.args.now s) done.priorities done.best stranded (ready_rises s c.gather_ready.ensures.spool)

pub returns-clause-plan : goal.returns-clause-plan
returns-clause-plan g c =
    let s : State = c.args.self.now in
    let done = c.in_ok-classes.ensures in
    let stranded : c.in_ok-stranded.stranded.items ≡ stranded_of s = c.in_ok-stranded.ensures {u = tt} ∙ (ap (λ (gs : List Gathered). filter_map entry_of gs) (c.deref-2.ensures.value ∙ c.in_ok-ready.ensures.ready) ∙ stranded_gathered s (ready_of s)) in
    record {
      priorities = done.priorities;
      classes = done.best;
      stranded = stranded;
      checked = c.proved_plan_is_yes.ensures;
    }
