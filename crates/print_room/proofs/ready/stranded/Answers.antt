use Rattle.std.proofs.Common.{◌≡◌, ◌∙◌, ◌++◌, List, Option, option_to_list, sym, ap, rules}
use Rattle.base_types.specs.declared.needs.Stranded.{Stranded}
use Rattle.print_room.specs.Gathered.{entry_of}
use Rattle.print_room.proofs.ReadyJobs.{stranded_more}
use Rattle.print_room.proofs.ready.stranded.Goals.{in-Some+in_ok-push, in_default}
use Rattle.print_room.proofs.ready.stranded.Goals as goal

pub loop-job-preserved : goal.loop-job-preserved
loop-job-preserved c =
    let so_far : List Stranded = c.loop-job.stranded.items in
    let pushed : c.match-entry.stranded.items ≡ so_far ++ option_to_list c.entry.result = elim c.match-entry.branch [
      | in-Some+in_ok-push w ↦ search rules
      | in_default w ↦ search rules
    ] in
    pushed ∙ (ap (λ (o : Option Stranded). so_far ++ option_to_list o) c.entry.ensures
    ∙ (ap (λ (es : List Stranded). es ++ option_to_list (entry_of c.job-item.result)) c.loop-job.invariant
    ∙ sym (stranded_more c.args.ready.now c.loop-job.job-index c.job-item.result c.loop-job-test.true c.job-item.is)))
