use Rattle.std.proofs.Common.{◌≡◌, ◌≤◌, ◌+◌, ◌*◌, All, ◌∙◌, ℕ, List, map, length, sym, ap, subst}
use Rattle.base_types.specs.declared.limits.TheConstants.Limits.{DEVICES, JOB_TIME, NOT_BEFORE, UNFINISHED_JOBS}
use Rattle.plan_problem.specs.ClassJob.{JobOfClass, IsClassOf}
use Rattle.print_room.specs.State.{State, sets_of}
use Rattle.print_room.specs.Ready.{class_of}
use Rattle.print_room.specs.GoodPlan.{job_of_class}
use Rattle.print_room.proofs.ClassProblems.{can_build, each_able, jobs_able, total_bounded}
use Rattle.print_room.proofs.room.PrintRoom.plan_jobs.Goals as goal

pub build-requires : goal.build-requires
build-requires g c =
    let s : State = c.args.self.now in
    let devices : c.deref.result.now ≡ s.devices = c.deref.ensures.value ∙ ap (λ (t : State). t.devices) c.self.view_is in
    let sets : c.deref-2.result.now ≡ sets_of s.settings = c.deref-2.ensures.value ∙ (c.self.invariant.2 ∙ ap (λ (t : State). sets_of t.settings) c.self.view_is) in
    let few : length s.devices ≤ DEVICES = subst (λ (t : State). length t.devices ≤ DEVICES) c.self.view_is c.self.invariant.1 in
    rw (devices, sets) (can_build s c.requires.spool c.args.priority c.args.waits.items c.args.jobs.now c.requires.jobs (jobs_able s c.args.priority c.args.jobs.now c.requires.jobs) c.requires.one_each c.requires.short few)

pub plan_class-requires : goal.plan_class-requires
plan_class-requires g c =
    let s : State = c.args.self.now in
    let devices : c.deref.result.now ≡ s.devices = c.deref.ensures.value ∙ ap (λ (t : State). t.devices) c.self.view_is in
    let sets : c.deref-2.result.now ≡ sets_of s.settings = c.deref-2.ensures.value ∙ (c.self.invariant.2 ∙ ap (λ (t : State). sets_of t.settings) c.self.view_is) in
    let built : IsClassOf c.args.jobs.now s.devices (sets_of s.settings) c.args.waits.items c.in_ok-problem.problem = rw (← devices, ← sets) (c.in_ok-problem.ensures {u = tt}) in
    each_able c.args.jobs.now s.devices (sets_of s.settings) c.args.waits.items c.in_ok-problem.problem built (jobs_able s c.args.priority c.args.jobs.now c.requires.jobs)

pub returns-clause-best : goal.returns-clause-best
returns-clause-best g c =
    let s : State = c.args.self.now in
    let devices : c.deref.result.now ≡ s.devices = c.deref.ensures.value ∙ ap (λ (t : State). t.devices) c.self.view_is in
    let sets : c.deref-2.result.now ≡ sets_of s.settings = c.deref-2.ensures.value ∙ (c.self.invariant.2 ∙ ap (λ (t : State). sets_of t.settings) c.self.view_is) in
    let built : IsClassOf c.args.jobs.now s.devices (sets_of s.settings) c.args.waits.items c.in_ok-problem.problem = rw (← devices, ← sets) (c.in_ok-problem.ensures {u = tt}) in
    let named : IsClassOf (map job_of_class (class_of s c.args.priority)) s.devices (sets_of s.settings) c.args.waits.items c.in_ok-problem.problem = subst (λ (js : List JobOfClass). IsClassOf js s.devices (sets_of s.settings) c.args.waits.items c.in_ok-problem.problem) c.requires.jobs built in
    let short : All (λ wait. wait ≤ NOT_BEFORE + UNFINISHED_JOBS * JOB_TIME) c.in_ok-problem.problem.waits = subst (λ (ws : List ℕ). All (λ wait. wait ≤ NOT_BEFORE + UNFINISHED_JOBS * JOB_TIME) ws) (sym named.waits_given) c.requires.short in
    let proved = c.in_ok-priced.ensures.proved in
    record {
      problem = named;
      best = c.in_ok-priced.ensures.best;
      timetables = c.best_at_most_timetables.ensures;
      proved = proved;
      in_range = c.ids-problem.ensures.class;
      bounded = total_bounded c.in_ok-problem.problem c.in_ok-priced.priced.way c.in_ok-priced.priced.total c.ids-problem.ensures.class short proved.is_way proved.stated;
      order = c.in_ok-priced.ensures.order;
    }

pub returns-clause-one_each : goal.returns-clause-one_each
returns-clause-one_each g c =
    let s : State = c.args.self.now in
    let built = c.in_ok-problem.ensures {u = tt} in
    c.in_ok-left.ensures.one_each ∙ ap (λ (ws : List ℕ). length ws) built.waits_given
