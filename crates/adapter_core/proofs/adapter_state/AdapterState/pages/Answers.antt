use Rattle.std.proofs.Common.{rules, ◌≡◌}
use Rattle.std.specs.Prelude.{Some, option_map}
use Rattle.base_types.specs.Report.{report_of}
use Rattle.adapter_core.specs.AdapterState.{pages_report}
use Rattle.adapter_core.proofs.Lives.{lives_pages}
use Rattle.adapter_core.proofs.adapter_state.AdapterState.pages.Goals as goal

pub returns-in-Some-clause-life : goal.returns-in-Some-clause-life
returns-in-Some-clause-life c =
    let at = c.args.self.now in
    let is : option_map report_of (Some c.pages_report.result) ≡ option_map (pages_report c.args.printed) at.work = search rules in
    lives_pages at (Some c.pages_report.result) c.args.printed is
