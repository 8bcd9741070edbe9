use Rattle.std.proofs.Common.{◌≡◌, ◌∙◌, ap, subst, IfOk, filter, map, List}
use Rattle.std.specs.List.{enumerate_from}
use Rattle.settings_file.specs.Settings.{PrinterEntry, ServerSettings}
use Rattle.spool.specs.Calls.{paused_at}
use Rattle.journal.proofs.pausing.paused_printers.Goals as goal

pub returns : goal.returns
returns c =
    subst (λ (printers : List PrinterEntry). IfOk c.paused_among.result (λ names. names.items ≡ map (λ found. found.1.name) (filter (λ found. paused_at c.args.engine.now.core.paused found.0) (enumerate_from 0 printers)))) (c.deref.ensures.value ∙ ap (λ (s : ServerSettings). s.printers) (c.behind-engine.view_is ∙ c.settings.ensures)) c.paused_among.ensures
