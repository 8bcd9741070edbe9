use Rattle.std.proofs.Common.{refl}
use Rattle.daemon.proofs.Journal.{keeps_then, keeps_same}
use Rattle.daemon.proofs.journaled_run.serve_journaled.Goals as goal

pub returns-in_err-moment : goal.returns-in_err-moment
returns-in_err-moment g c = c.loop-taken.invariant

pub returns-in_err-take_round : goal.returns-in_err-take_round
returns-in_err-take_round g c = keeps_then c.args.server.now c.loop-taken.server c.take_round.new.server _ _ _ c.loop-taken.invariant c.take_round.ensures

pub returns-in_err-store_all : goal.returns-in_err-store_all
returns-in_err-store_all g c =
    keeps_then c.args.server.now c.take_round.new.server c.store_all.new.server _ _ _ (keeps_then c.args.server.now c.loop-taken.server c.take_round.new.server _ _ _ c.loop-taken.invariant c.take_round.ensures)
    c.store_all.ensures.filed

pub returns-then-is_quiet : goal.returns-then-is_quiet
returns-then-is_quiet g c =
    keeps_then c.args.server.now c.take_round.new.server c.store_all.new.server _ _ _ (keeps_then c.args.server.now c.loop-taken.server c.take_round.new.server _ _ _ c.loop-taken.invariant c.take_round.ensures)
    c.store_all.ensures.filed

pub returns-in_err-wait_for_work : goal.returns-in_err-wait_for_work
returns-in_err-wait_for_work g c =
    keeps_then c.args.server.now c.take_round.new.server c.wait_for_work.new.self _ _ _ (keeps_then c.args.server.now c.loop-taken.server c.take_round.new.server _ _ _ c.loop-taken.invariant c.take_round.ensures)
    (keeps_same c.take_round.new.server c.wait_for_work.new.self _ _ c.wait_for_work.ensures refl)

pub loop-taken-preserved : goal.loop-taken-preserved
loop-taken-preserved g c =
    keeps_then c.args.server.now c.take_round.new.server c.wait_for_work.new.self _ _ _ (keeps_then c.args.server.now c.loop-taken.server c.take_round.new.server _ _ _ c.loop-taken.invariant c.take_round.ensures)
    (keeps_same c.take_round.new.server c.wait_for_work.new.self _ _ c.wait_for_work.ensures refl)

pub returns-in_err-store_all-2 : goal.returns-in_err-store_all-2
returns-in_err-store_all-2 g c = keeps_then c.args.server.now c.loop-taken.server c.store_all-2.new.server _ _ _ c.loop-taken.invariant c.store_all-2.ensures.filed

pub returns : goal.returns
returns g c = keeps_then c.args.server.now c.loop-taken.server c.store_all-2.new.server _ _ _ c.loop-taken.invariant c.store_all-2.ensures.filed
