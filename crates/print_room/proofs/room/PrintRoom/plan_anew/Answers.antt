use Rattle.std.proofs.Common.{◌≡◌, ◌∙◌, List, [], Some, sym, ap, subst, arith, rules}
use Rattle.print_room.specs.declared.started.Started.{Started}
use Rattle.print_room.specs.State.{State}
use Rattle.print_room.specs.Ready.{ready_of}
use Rattle.print_room.specs.GoodPlan.{IsGoodPlan}
use Rattle.print_room.specs.Dispatch.{starts_of, starts_from, beginning_all, marked_state}
use Rattle.print_room.specs.StillGood.{IsStillGood}
use Rattle.print_room.proofs.Starts.{starts_inside, begins_plan, some_ready}
use Rattle.print_room.proofs.StillGood.{good_kept}
use Rattle.print_room.specs.DeviceJobs.{Agree, AllKeep}
use Rattle.print_room.specs.Beginning.{AllCanBegin}
use Rattle.print_room.proofs.JobsCanBegin.{plan_can_begin, dispatch_keeps}
use Rattle.print_room.proofs.room.PrintRoom.plan_anew.Goals as goal

pub start_all-requires-clause-inside : goal.start_all-requires-clause-inside
start_all-requires-clause-inside g c =
    let s : State = c.args.self.now in
    let same : c.keep.new.self.devices ≡ s.devices = ap (λ (t : State). t.devices) c.keep.ensures in
    let starts : c.in_ok-starts.starts.items ≡ starts_from c.args.now c.in_ok-plan.plan.classes 0 s.devices = search rules in
    rw (starts, same) (λ k d below. omega (arith, starts_inside c.args.now c.in_ok-plan.plan.classes 0 s.devices k d below))

pub start_all-requires-clause-can : goal.start_all-requires-clause-can
start_all-requires-clause-can g c =
    let s : State = c.args.self.now in
    let plan = c.in_ok-plan.plan in
    let starts : c.in_ok-starts.starts.items ≡ starts_of c.args.now s plan = search rules in
    subst (λ (t : State). AllCanBegin t.last c.in_ok-starts.starts.items t) (sym c.keep.ensures)
    (subst (λ (ss : List Started). AllCanBegin c.args.now ss (marked_state c.args.now plan s)) (sym starts) (plan_can_begin s plan c.args.now c.in_ok-plan.ensures.plan c.in_ok-plan.ensures.spool))

pub start_all-requires-clause-good : goal.start_all-requires-clause-good
start_all-requires-clause-good g c =
    let s : State = c.args.self.now in
    subst (λ (t : State). IsStillGood t.last (record t { begun = [] })) (sym c.keep.ensures) (good_kept c.args.now s c.in_ok-plan.plan c.in_ok-plan.ensures.plan)

pub returns-clause-ok : goal.returns-clause-ok
returns-clause-ok g c =
    let s : State = c.args.self.now in
    let plan = c.in_ok-plan.plan in
    let all : List Started = c.in_ok-starts.starts.items in
    let starts : all ≡ starts_of c.args.now s plan = search rules in
    let new : c.start_all.new.self ≡ record (beginning_all c.args.now all (marked_state c.args.now plan s)) { begun = all } = c.start_all.ensures ∙ ap (λ (t : State). record (beginning_all t.last all t) { begun = all }) c.keep.ensures in
    let begun : c.start_all.new.self.begun ≡ all = ap (λ (t : State). t.begun) new in
    let planned : c.start_all.new.self.plan ≡ Some plan = ap (λ (t : State). t.plan) new ∙ begins_plan c.args.now all (marked_state c.args.now plan s) in
    (plan, planned, subst (λ (ss : List Started). (ready_of s ≡ [] → ⊥) × IsGoodPlan c.args.now s plan × (ss ≡ starts_of c.args.now s plan) × (c.start_all.new.self ≡ record (beginning_all c.args.now ss (marked_state c.args.now plan s)) { begun = ss })) (sym begun) (some_ready (ready_of s) c.requires.ready, c.in_ok-plan.ensures.plan, starts, new))

pub returns-clause-keep : goal.returns-clause-keep
returns-clause-keep g c =
    let s : State = c.args.self.now in
    let plan = c.in_ok-plan.plan in
    let all : List Started = c.in_ok-starts.starts.items in
    let agree : Agree s.devices s.spool.jobs = subst (λ (t : State). Agree t.devices t.spool.jobs) c.self.view_is c.self.invariant.3 in
    let starts : all ≡ starts_of c.args.now s plan = search rules in
    let new : c.start_all.new.self ≡ record (beginning_all c.args.now all (marked_state c.args.now plan s)) { begun = all } = c.start_all.ensures ∙ ap (λ (t : State). record (beginning_all t.last all t) { begun = all }) c.keep.ensures in
    let began : c.start_all.new.self ≡ record (beginning_all c.args.now (starts_of c.args.now s plan) (marked_state c.args.now plan s)) { begun = all } = new ∙ ap (λ (ss : List Started). record (beginning_all c.args.now ss (marked_state c.args.now plan s)) { begun = all }) starts in
    subst (λ (t : State). AllKeep s t) (sym began) (dispatch_keeps s plan c.args.now c.in_ok-plan.ensures.plan c.in_ok-plan.ensures.spool agree)
