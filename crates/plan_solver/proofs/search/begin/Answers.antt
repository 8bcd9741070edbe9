use Rattle.std.proofs.Common.{◌≡◌, ℕ, length, vec_len, get_or, ap, subst, sym, inl, inr, ◌∙◌, arith}
use Rattle.std.specs.Global.{Vec}
use Rattle.plan_solver.specs.declared.search.Search.{Search}
use Rattle.plan_solver.specs.Costs.{cost_of, nowhere}
use Rattle.plan_solver.specs.Search.{IsBlank, IsListed}
use Rattle.plan_solver.proofs.BegunSearch.{Begins, begun, nears_begun}
use Rattle.plan_solver.proofs.Charges.{cost_of-low}
use Rattle.plan_solver.proofs.search.begin.Goals as goal

begins_here : (c : goal.After-relax) → Begins (cost_of c.args.costs.now) c.args.matching.now.jobs.items c.args.matching.now.prices.items c.args.matching.now.columns.items c.args.matching.now.duals.items c.args.free.now c.in_ok-search.search.lengths.items c.in_ok-search.search.froms.items c.relax.new.search.lengths.items c.relax.new.search.froms.items c.in_ok-search.search.ranks.items c.in_ok-search.search.exit c.relax.new.search.exit (vec_len c.args.matching.now.columns)
begins_here c =
    let s = c.args.matching.now in
    let x = c.in_ok-search.search in
    let y = c.leave.new.search in
    let z = c.relax.new.search in
    let r = c.requires in
    let n = vec_len s.columns in
    let en : c.len-new.result ≡ n = c.len-new.ensures in
    let b : IsBlank n (length c.args.free.now) x = subst (λ (k : ℕ). IsBlank k (length c.args.free.now) x) en (c.in_ok-search.ensures {u = tt}) in
    let el : y.lengths.items ≡ x.lengths.items = ap (λ (v : Search). v.lengths.items) c.leave.ensures.same in
    let ef : y.froms.items ≡ x.froms.items = ap (λ (v : Search). v.froms.items) c.leave.ensures.same in
    let ey : y.ranks.items ≡ x.ranks.items = ap (λ (v : Search). v.ranks.items) c.leave.ensures.same in
    let er : z.ranks.items ≡ x.ranks.items = ap (λ (v : Vec ℕ). v.items) c.relax.ensures.same.0 ∙ ey in
    let ex : z.exit ≡ y.exit = c.relax.ensures.same.1 in
    record {
      low = cost_of-low c.args.costs.now;
      duals_low = r.duals_low;
      uncharged = r.new_job.uncharged;
      some = r.some;
      far = b.far;
      root = b.root;
      from_root = b.from_root;
      unsettled = b.unsettled;
      root_rank = b.root_rank;
      far_exit = b.far_exit;
      relaxed = λ k lt. rw (ex, ← ey, ← el, ← ef, ← en) (c.relax.ensures.relaxed k lt);
      rest = rw (← el) c.relax.ensures.rest;
      exit_every = λ f lt. rw (ex, ← en) (c.leave.ensures.every f lt);
      exit_edge = elim c.leave.ensures.edge [ inl e ↦ inl (ex ∙ e) | inr k ↦ inr (rw (ex, ← en) (k.0, k.1, k.2)) ];
    }

pub returns-clause-searched : goal.returns-clause-searched
returns-clause-searched c =
    let es = c.relax.ensures.same.2 ∙ ap (λ (v : Search). v.settled) c.leave.ensures.same in
    let er = ap (λ (v : Vec ℕ). v.items) c.relax.ensures.same.0 ∙ ap (λ (v : Search). v.ranks.items) c.leave.ensures.same in
    let b = (c.in_ok-search.ensures {u = tt}).settled in
    rw (er, es, b) (begun (begins_here c))

pub returns-clause-nears : goal.returns-clause-nears
returns-clause-nears c =
    let n = vec_len c.args.matching.now.columns in
    let en : c.len-new.result ≡ n = c.len-new.ensures in
    let er = ap (λ (v : Vec ℕ). v.items) c.relax.ensures.same.0 ∙ ap (λ (v : Search). v.ranks.items) c.leave.ensures.same in
    let kept = ap (λ (v : Vec ℕ). v.items) c.relax.ensures.same.3 in
    let len = ap (λ (v : Vec ℕ). vec_len v) c.relax.ensures.same.3 in
    let z = c.relax.new.search.nears in
    rw er (nears_begun (begins_here c) z.items (omega (arith, len, z.ok.0, c.leave.ensures.one_each)) (λ f lt. rw (kept, ← en) (c.leave.ensures.taken f lt)))

pub returns-clause-counted : goal.returns-clause-counted
returns-clause-counted c =
    let n = vec_len c.args.matching.now.columns in
    let x = c.in_ok-search.search in
    let en : c.len-new.result ≡ n = c.len-new.ensures in
    let b : IsBlank n (length c.args.free.now) x = subst (λ (k : ℕ). IsBlank k (length c.args.free.now) x) en (c.in_ok-search.ensures {u = tt}) in
    let es = c.relax.ensures.same.2 ∙ ap (λ (v : Search). v.settled) c.leave.ensures.same in
    let ranks = c.relax.ensures.same.0 ∙ ap (λ (v : Search). v.ranks) c.leave.ensures.same in
    rw (es, ranks) (omega (arith, b.settled, b.counted, b.ranks))

pub relax-requires-clause-listed : goal.relax-requires-clause-listed
relax-requires-clause-listed c = subst IsListed (sym c.leave.ensures.same) (let b = c.in_ok-search.ensures {u = tt} in record { len = b.listed.len; columns = b.listed.columns })

pub relax-requires-clause-reach : goal.relax-requires-clause-reach
relax-requires-clause-reach c =
    let s = c.args.matching.now in
    let r = c.requires in
    let en : c.len-new.result ≡ vec_len s.columns = c.len-new.ensures in
    let price : get_or s.prices.items c.len-new.result 0 ≡ 0 = rw en r.new_job.uncharged in
    let lengths = ap (λ (v : Search). get_or v.lengths.items c.len-new.result 0) c.leave.ensures.same in
    omega (arith, price, lengths, c.leave.ensures.every 0 r.some, cost_of-low c.args.costs.now (get_or s.jobs.items c.len-new.result 0) (get_or c.args.free.now 0 nowhere))
