use Rattle.std.proofs.Common.{arith, suc, ◌+◌, [], refl, sym, ◌∙◌, append-nil}
use Rattle.std.proofs.lemmas.Result.{IfOk-weaker, on_err_weaker}
use Rattle.replay.proofs.Reach.{reached_start, left_off, all_done, at_bad, went_on, stood_still, joined, on_err}
use Rattle.replay.proofs.run.play_lines.Goals as goal

pub returns-in_err-fault-clause-err : goal.returns-in_err-fault-clause-err
returns-in_err-fault-clause-err c =
    let inv = c.loop-cut.invariant in
    on_err c.from_residual.result (left_off c.args.play.now c.loop-cut.play _ _ _ _ _ _ _ inv.2 (c.in_err-fault.ensures.err ∙ inv.1))

pub returns-in-Some-2-clause-ok : goal.returns-in-Some-2-clause-ok
returns-in-Some-2-clause-ok c =
    let inv = c.loop-cut.invariant in
    let still = stood_still c.args.play.now c.loop-cut.play c.act.new.self _ _ _ _ _ c.in_ok-fault.ensures.ok c.in-Some-2.is inv.3 in
    IfOk-weaker c.refuse_line.result _ _ (λ status h. at_bad c.args.play.now c.loop-cut.play _ _ _ _ _ _ _ _ _ _ status inv.2 c.in-Some.ensures.lines still.0 (omega arith) (joined _ _ _ _ _ _ h.1 still.1 inv.1) h.0) c.refuse_line.ensures.ok

pub returns-in-Some-2-clause-err : goal.returns-in-Some-2-clause-err
returns-in-Some-2-clause-err c =
    let inv = c.loop-cut.invariant in
    let still = stood_still c.args.play.now c.loop-cut.play c.act.new.self _ _ _ _ _ c.in_ok-fault.ensures.ok c.in-Some-2.is inv.3 in
    on_err_weaker c.refuse_line.result (λ same. left_off c.args.play.now c.loop-cut.play _ _ _ _ _ _ _ inv.2 (same ∙ still.1 ∙ inv.1)) c.refuse_line.ensures.err

pub loop-cut-preserved : goal.loop-cut-preserved
loop-cut-preserved c =
    let inv = c.loop-cut.invariant in
    let next = went_on c.args.play.now c.loop-cut.play c.act.new.self _ _ (suc (c.loop-cut.number + 1)) _ _ _ _ _ _ _ _ _ c.in_ok-fault.ensures.ok c.in_default-2.is inv.3 inv.4 inv.2 c.in-Some.ensures.lines inv.1 (omega arith) in
    (next.0, next.1, next.2, next.3, next.4, omega (arith, inv.5, c.in-Some.ensures.shorter))

pub returns-clause-ok : goal.returns-clause-ok
returns-clause-ok c =
    let inv = c.loop-cut.invariant in
    all_done c.args.play.now c.loop-cut.play _ _ _ _ _ _ _ inv.2 c.in_default.ensures.lines inv.1

pub loop-cut-init : goal.loop-cut-init
loop-cut-init c = ([], sym (append-nil c.args.output.now.items), reached_start _ _ _ _ _ _, refl, c.requires.ready, omega (arith))
