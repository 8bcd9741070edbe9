use Rattle.std.proofs.Common.{rules, ◌∙◌, ap, filter}
use Rattle.std.proofs.lemmas.Fn.{filter_same}
use Rattle.server_log.specs.RunningJobs.{is_on}
use Rattle.server_log.proofs.running_jobs.RunningJobs.take_ended.Goals as goal

pub returns-clause-left : goal.returns-clause-left
returns-clause-left g c =
    filter_same _ (is_on c.args.engine.now) _ (λ x b f' k. search rules) _ _ c.retain.ensures.filtered
    ∙ ap (filter (is_on c.args.engine.now)) c.self.view_is
