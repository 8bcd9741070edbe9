use Rattle.std.proofs.Common.{arith}
use Rattle.std.proofs.Math.Seq.{take-add}
use Rattle.program.proofs.Known.{appends_more}
use Rattle.program.proofs.output.write_prefix.Goals as goal

pub loop-preserved : goal.loop-preserved
loop-preserved g c =
    (rw (take-add, ← c.split_at.ensures.back) (appends_more _ _ _ _ _ c.loop.invariant.0 c.in-Ok.ensures.bytes), omega (arith, c.in-Ok.ensures.bound, c.split_at.ensures.back_len))
