use Rattle.std.proofs.Common.{◌++◌, ℕ, List, arith, length-append, take}
use Rattle.program.proofs.Known.{consumes_more}
use Rattle.program.proofs.input.read_whole.Goals as goal

pub returns-then-count-most_bytes : goal.returns-then-count-most_bytes
returns-then-count-most_bytes g c =
    let old : List ℕ = c.loop.bytes.items in
    let new : List ℕ = take c.in-Ok.count c.read.new.buf in
    (old ++ new, consumes_more _ _ _ old new c.loop.invariant.0 c.in-Ok.ensures.bytes.0, omega (arith, length-append old new, c.in-Ok.ensures.bound.0, c.in-Ok.ensures.bound.1, c.len.ensures, c.loop.bytes.ok.0))

pub returns-then-is_err : goal.returns-then-is_err
returns-then-is_err g c =
    let old : List ℕ = c.loop.bytes.items in
    let new : List ℕ = take c.in-Ok.count c.read.new.buf in
    (old ++ new, consumes_more _ _ _ old new c.loop.invariant.0 c.in-Ok.ensures.bytes.0, omega (arith, length-append old new, c.in-Ok.ensures.bound.0, c.in-Ok.ensures.bound.1, c.len.ensures, c.loop.bytes.ok.0))
