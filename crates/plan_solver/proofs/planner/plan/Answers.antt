use Rattle.std.proofs.Common.{◌≡◌, ◌<◌, length, vec_len, ap, subst, ◌∙◌, arith}
use Rattle.std.specs.List.{range_with_len}
use Rattle.std.specs.List.Sorted.{IsPermutation}
use Rattle.std.proofs.lemmas.List.FromFn.{length-range_with_len}
use Rattle.std.proofs.lemmas.List.Sorted.{length_permutation}
use Rattle.plan_prices.proofs.Bounds.{total_small}
use Rattle.plan_solver.specs.Answer.{way_of}
use Rattle.plan_solver.proofs.Filled.{Solves, charged_low, job_in}
use Rattle.plan_solver.proofs.Fill.{can_fill}
use Rattle.plan_solver.proofs.Marked.{are_marks}
use Rattle.plan_solver.proofs.FairWay.{IsCharged, is_way, proved_as, total_is}
use Rattle.plan_solver.proofs.planner.plan.Goals as goal

pub way-requires-clause-known : goal.way-requires-clause-known
way-requires-clause-known g c = λ q lt.
    let class = g.T.Times.class c.args.times.now in
    let e = c.in_ok-entries.entries in
    let s = c.in_ok-matching.matching in
    let read = c.in_ok-entries.ensures {u = tt} in
    let solved = c.in_ok-matching.ensures {u = tt} in
    let h : Solves class e s = record { ok = c.read.ensures.class; able = c.requires.able; read = read.read; filled = solved.filled; all = solved.all } in
    omega (arith, job_in class e s h q (omega (arith, lt, solved.filled.matched.jobs)), ap length read.read.ids, e.ids.ok.0)

pub prices-requires-clause-all : goal.prices-requires-clause-all
prices-requires-clause-all g c =
    let e = c.in_ok-entries.entries in
    let s = c.in_ok-matching.matching in
    let solved = c.in_ok-matching.ensures {u = tt} in
    let len = length_permutation _ _ solved.all in
    let n : vec_len e.costs.rows ≡ vec_len s.jobs = omega (arith, len, length-range_with_len 0 (vec_len e.costs.rows), s.jobs.ok.0) in
    subst (λ k. IsPermutation (range_with_len 0 k) s.jobs.items) n solved.all

pub prices-requires-clause-prices_low : goal.prices-requires-clause-prices_low
prices-requires-clause-prices_low g c = λ q lt.
    let class = g.T.Times.class c.args.times.now in
    let e = c.in_ok-entries.entries in
    let s = c.in_ok-matching.matching in
    let read = c.in_ok-entries.ensures {u = tt} in
    let solved = c.in_ok-matching.ensures {u = tt} in
    let h : Solves class e s = record { ok = c.read.ensures.class; able = c.requires.able; read = read.read; filled = solved.filled; all = solved.all } in
    omega (arith, charged_low class e s h q (omega (arith, lt, solved.filled.matched.prices)))

pub prices-requires-clause-duals_low : goal.prices-requires-clause-duals_low
prices-requires-clause-duals_low g c = λ k lt.
    let class = g.T.Times.class c.args.times.now in
    let e = c.in_ok-entries.entries in
    let s = c.in_ok-matching.matching in
    let read = c.in_ok-entries.ensures {u = tt} in
    let solved = c.in_ok-matching.ensures {u = tt} in
    let h : Solves class e s = record { ok = c.read.ensures.class; able = c.requires.able; read = read.read; filled = solved.filled; all = solved.all } in
    let below : k < vec_len s.columns = omega (arith, lt, solved.filled.matched.duals) in
    omega (arith, charged_low class e s h k below, solved.filled.matched.tight.at k (omega (arith, below, s.columns.ok.0)))

pub total-total-requires-clause-fits : goal.total-total-requires-clause-fits
total-total-requires-clause-fits g c =
    let class = g.T.Times.class c.args.times.now in
    let e = c.in_ok-entries.entries in
    let s = c.in_ok-matching.matching in
    let read = c.in_ok-entries.ensures {u = tt} in
    let solved = c.in_ok-matching.ensures {u = tt} in
    let h : Solves class e s = record { ok = c.read.ensures.class; able = c.requires.able; read = read.read; filled = solved.filled; all = solved.all } in
    omega (arith, total_small class c.read.ensures.class (way_of e s) (is_way class e s h), total_is class e s h)

pub returns-clause-proved : goal.returns-clause-proved
returns-clause-proved g c =
    let class = g.T.Times.class c.args.times.now in
    let e = c.in_ok-entries.entries in
    let s = c.in_ok-matching.matching in
    let read = c.in_ok-entries.ensures {u = tt} in
    let solved = c.in_ok-matching.ensures {u = tt} in
    let priced = c.in_ok-prices.ensures {u = tt} in
    let charged = priced.jobs in
    let h : Solves class e s = record { ok = c.read.ensures.class; able = c.requires.able; read = read.read; filled = solved.filled; all = solved.all } in
    let p : IsCharged s charged.0 = record {
      len = charged.1 ∙ solved.filled.matched.jobs;
      total = charged.3;
      at = λ q lt. charged.4 q (omega (arith, lt, solved.filled.matched.jobs));
    } in
    proved_as class e s charged.0 c.in_ok-way.way c.in_ok-prices.prices c.total-total.result h p (c.in_ok-way.ensures {u = tt}) charged.2 priced.places c.total-total.ensures

pub match_all-requires : goal.match_all-requires
match_all-requires g c =
    let read = c.in_ok-entries.ensures {u = tt} in
    can_fill (g.T.Times.class c.args.times.now) c.in_ok-entries.entries c.read.ensures.class c.requires.able read.read

pub returns-clause-marks : goal.returns-clause-marks
returns-clause-marks g c = are_marks (g.T.Times.class c.args.times.now) c.in_ok-entries.entries (c.in_ok-entries.ensures {u = tt}).read
