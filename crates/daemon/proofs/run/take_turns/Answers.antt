use Rattle.std.proofs.Common.{[], ◌∷◌, ◌++◌, refl, rules, arith, length-append}
use Rattle.daemon.proofs.Turns.{idles_then, idles_last, one_more}
use Rattle.daemon.proofs.run.take_turns.Goals as goal

pub returns-in_err-start : goal.returns-in_err-start
returns-in_err-start g c = ([], (refl, refl, refl), search rules)

pub loop-init : goal.loop-init
loop-init g c = ([], (refl, refl, refl), refl)

pub loop-preserved : goal.loop-preserved
loop-preserved g c =
    let (moments, served, count) = c.loop.invariant in
    let moment = c.in_ok-moment.moment in
    let idles = idles_then c.take_turn.new.server c.write_recording-pause.new.server c.wait_for_work.new.self c.write_recording-pause.ensures c.wait_for_work.ensures.0 in
    (moments ++ moment ∷ [], one_more moments moment c.args.server.now c.loop.server c.take_turn.new.server c.wait_for_work.new.self served c.take_turn.ensures idles, omega (arith, length-append moments (moment ∷ [])))

pub returns-in_err-moment : goal.returns-in_err-moment
returns-in_err-moment g c = let (moments, served, count) = c.loop.invariant in (moments, served, search rules)

pub returns-in_err-wait_for_work : goal.returns-in_err-wait_for_work
returns-in_err-wait_for_work g c =
    let (moments, served, count) = c.loop.invariant in
    let moment = c.in_ok-moment.moment in
    let idles = idles_then c.take_turn.new.server c.write_recording-pause.new.server c.wait_for_work.new.self c.write_recording-pause.ensures c.wait_for_work.ensures.0 in
    (moments ++ moment ∷ [], one_more moments moment c.args.server.now c.loop.server c.take_turn.new.server c.wait_for_work.new.self served c.take_turn.ensures idles, search rules)

pub returns : goal.returns
returns g c =
    let (moments, served, count) = c.loop.invariant in
    (moments, idles_last moments c.args.server.now c.loop.server c.finish.new.server served c.finish.ensures, search rules)
