use Rattle.std.proofs.Common.{arith}
use Rattle.plan_solver.specs.declared.begun.Begun.{Begun}
use Rattle.plan_solver.proofs.LaidOutJobs.{begun_none, laid_out_none}
use Rattle.plan_solver.proofs.begun.nothing_matched.Goals as goal

pub returns-clause-laid_out : goal.returns-clause-laid_out
returns-clause-laid_out c =
    let given = c.in_ok-free.ensures {u = tt} in
    let empty = c.in_ok-by_device.ensures {u = tt} in
    laid_out_none c.args.costs.now (record { matching = record { columns = c.new.result; duals = c.new-2.result; jobs = c.new-3.result; prices = c.new-4.result }; by_device = c.in_ok-by_device.by_device; free = c.in_ok-free.free; slacks = c.in_ok-slacks.slacks; left = c.args.left })
    c.new.ensures.items c.new.ensures.len c.new-3.ensures.len c.new-4.ensures.len c.new-2.ensures.len
    (omega (arith, given.len, c.in_ok-free.free.ok.0, c.len.ensures)) (λ d lt. given.places d (omega (arith, lt, c.len.ensures)))
    (omega (arith, empty.len, c.in_ok-by_device.by_device.ok.0, c.len-3.ensures)) (λ d lt. empty.empty d (omega (arith, lt, c.len-3.ensures)))
    (omega (arith, (c.in_ok-slacks.ensures {u = tt}).len, c.len-2.ensures))

pub returns-clause-begun : goal.returns-clause-begun
returns-clause-begun c = λ all.
    let given = c.in_ok-free.ensures {u = tt} in
    let empty = c.in_ok-by_device.ensures {u = tt} in
    let b : Begun = record { matching = record { columns = c.new.result; duals = c.new-2.result; jobs = c.new-3.result; prices = c.new-4.result }; by_device = c.in_ok-by_device.by_device; free = c.in_ok-free.free; slacks = c.in_ok-slacks.slacks; left = c.args.left } in
    begun_none c.args.costs.now b
    (laid_out_none c.args.costs.now b
    c.new.ensures.items c.new.ensures.len c.new-3.ensures.len c.new-4.ensures.len c.new-2.ensures.len
    (omega (arith, given.len, c.in_ok-free.free.ok.0, c.len.ensures)) (λ d lt. given.places d (omega (arith, lt, c.len.ensures)))
    (omega (arith, empty.len, c.in_ok-by_device.by_device.ok.0, c.len-3.ensures)) (λ d lt. empty.empty d (omega (arith, lt, c.len-3.ensures)))
    (omega (arith, (c.in_ok-slacks.ensures {u = tt}).len, c.len-2.ensures)))
    c.new-3.ensures.items all
