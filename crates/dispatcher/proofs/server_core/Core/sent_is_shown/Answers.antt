use Rattle.std.proofs.Common.{◌∙◌, ap, subst}
use Rattle.std.specs.Prelude.{max}
use Rattle.spool.specs.Spool.{IsSpool}
use Rattle.print_room.specs.State.{State}
use Rattle.dispatcher.proofs.Shown.{sent_shown}
use Rattle.dispatcher.proofs.server_core.Core.sent_is_shown.Goals as goal

pub returns : goal.returns
returns g c request moment effects new sent step is =
    let old : State = c.args.self.now in
    let spool : IsSpool old.spool = subst IsSpool (c.spool.ensures ∙ ap (λ (s : State). s.spool) c.self.view_is) c.jobs-jobs.ensures.kept in
    sent_shown (max moment old.last) request old effects new sent spool step is
