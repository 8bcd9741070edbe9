use Rattle.std.proofs.Common.{◌∙◌, List, map, filter, ap}
use Rattle.print_room.specs.Ready.{ready_of}
use Rattle.print_room.specs.Gathered.{Gathered, is_of_class, class_job_of}
use Rattle.print_room.proofs.ReadyJobs.{class_gathered}
use Rattle.print_room.proofs.room.PrintRoom.plan_class.Goals as goal

pub plan_jobs-requires-clause-jobs : goal.plan_jobs-requires-clause-jobs
plan_jobs-requires-clause-jobs g c =
    let s = c.args.self.now in
    c.deref.ensures.value ∙ (c.in_ok-jobs.ensures {u = tt} ∙ (ap (λ (gs : List Gathered). map class_job_of (filter (is_of_class c.args.priority) gs)) c.requires.ready ∙ class_gathered s c.args.priority (ready_of s)))
