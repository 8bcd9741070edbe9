use Rattle.std.proofs.Common.{refl}
use Rattle.daemon.proofs.Journal.{keeps_then, keeps_same}
use Rattle.daemon.proofs.journaled_run.store_all.Goals as goal

pub returns-then-store-clause-filed : goal.returns-then-store-clause-filed
returns-then-store-clause-filed g c = keeps_then c.args.server.now c.loop.server c.store.new.self _ _ _ c.loop.invariant c.store.ensures.filed

pub returns-in_err-check_kept-clause-filed : goal.returns-in_err-check_kept-clause-filed
returns-in_err-check_kept-clause-filed g c = keeps_then c.args.server.now c.loop.server c.store.new.self _ _ _ c.loop.invariant c.store.ensures.filed

pub returns-in_err-wait-clause-filed : goal.returns-in_err-wait-clause-filed
returns-in_err-wait-clause-filed g c =
    keeps_then c.args.server.now c.store.new.self c.wait.new.self _ _ _ (keeps_then c.args.server.now c.loop.server c.store.new.self _ _ _ c.loop.invariant c.store.ensures.filed)
    (keeps_same c.store.new.self c.wait.new.self _ _ c.wait.ensures refl)

pub loop-preserved : goal.loop-preserved
loop-preserved g c =
    keeps_then c.args.server.now c.store.new.self c.wait.new.self _ _ _ (keeps_then c.args.server.now c.loop.server c.store.new.self _ _ _ c.loop.invariant c.store.ensures.filed)
    (keeps_same c.store.new.self c.wait.new.self _ _ c.wait.ensures refl)
