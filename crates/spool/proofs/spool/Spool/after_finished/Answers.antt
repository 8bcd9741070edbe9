use Rattle.std.proofs.Common.{◌≡◌, ◌∙◌, ◌-◌, List, ap, arith, drop, take, length}
use Rattle.std.proofs.lemmas.List.{take_all, length-drop}
use Rattle.spool.specs.Spooled.{SpooledRecord}
use Rattle.spool.specs.Calls.{unfinished_jobs}
use Rattle.spool.specs.Ready.{ready_jobs}
use Rattle.spool.proofs.FinishedFirst.{ready_after, unfinished_after}
use Rattle.spool.proofs.spool.Spool.after_finished.Goals as goal

pub returns-clause-unfinished : goal.returns-clause-unfinished
returns-clause-unfinished c =
    let jobs : List SpooledRecord = c.jobs.result.now in
    let leading = c.leading-leading.result in
    let all : take (length jobs - leading) (drop leading jobs) ≡ drop leading jobs = take_all (length jobs - leading) (drop leading jobs) (omega (arith, length-drop leading jobs)) in
    ap unfinished_jobs (all ∙ ap (λ (js : List SpooledRecord). drop leading js) c.jobs.ensures.value)
    ∙ unfinished_after leading c.args.self.now.jobs c.leading-leading.ensures.finished

pub returns-clause-ready : goal.returns-clause-ready
returns-clause-ready c paused =
    let jobs : List SpooledRecord = c.jobs.result.now in
    let leading = c.leading-leading.result in
    let all : take (length jobs - leading) (drop leading jobs) ≡ drop leading jobs = take_all (length jobs - leading) (drop leading jobs) (omega (arith, length-drop leading jobs)) in
    ap (λ (js : List SpooledRecord). ready_jobs paused js) (all ∙ ap (λ (js : List SpooledRecord). drop leading js) c.jobs.ensures.value)
    ∙ ready_after paused leading c.args.self.now.jobs c.leading-leading.ensures.finished
