use Rattle.std.proofs.Common.{refl, sym, subst, Some}
use Rattle.connections.specs.declared.step.Step.{Step}
use Rattle.connections.specs.Session.{is_queue}
use Rattle.connections.specs.States.{LpdClientState}
use Rattle.connections.specs.Peers.{NextLpd}
use Rattle.connections.proofs.Readers.{item_acted_on, next_failed}
use Rattle.connections.proofs.lpd_client.LpdClient.next.Goals as goal

pub returns-in-Ok : goal.returns-in-Ok
returns-in-Ok c =
    let t : LpdClientState = record { reader = c.self.inside.reader; session = c.self.inside.session } in
    subst (λ (s : LpdClientState). NextLpd (is_queue c.args.settings.now) c.handle_whole.result s c.handle_whole.new.self) c.self.view_is
    (item_acted_on (is_queue c.args.settings.now) t c.handle_whole.new.self c.next_item.new.self c.in-Ok.item c.handle_whole.result c.in-Ok.ensures.answer c.in-Ok.ensures.falls c.handle_whole.ensures)

pub returns-in-Err : goal.returns-in-Err
returns-in-Err c =
    let t : LpdClientState = record { reader = c.self.inside.reader; session = c.self.inside.session } in
    let u : LpdClientState = record { reader = c.next_item.new.self; session = c.self.inside.session } in
    subst (λ (s : LpdClientState). NextLpd (is_queue c.args.settings.now) (Some c.step_of.result) s u) c.self.view_is
    (subst (λ (what : Step). NextLpd (is_queue c.args.settings.now) (Some what) t u) (sym c.step_of.ensures) (next_failed (is_queue c.args.settings.now) t u c.in-Err.error c.in-Err.ensures.answer refl))
