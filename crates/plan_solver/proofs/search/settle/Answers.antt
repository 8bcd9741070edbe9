use Rattle.std.proofs.Common.{◌≡◌, ◌≢◌, ℕ, ◌<◌, length, vec_len, get_or, set, ap, inl, inr, ◌∙◌, arith}
use Rattle.std.specs.Global.{Vec}
use Rattle.std.proofs.lemmas.List.{get_or-set_same, get_or-set_other}
use Rattle.plan_solver.specs.declared.search.Search.{Search}
use Rattle.plan_solver.specs.Costs.{cost_of, nowhere}
use Rattle.plan_solver.proofs.Charges.{cost_of-low}
use Rattle.plan_solver.proofs.Listed.{listed_settled}
use Rattle.plan_solver.proofs.Step.{Settles, nears_now, searched_now}
use Rattle.plan_solver.proofs.search.settle.Goals as goal

settles_here : (c : goal.After-relax) → Settles (cost_of c.args.costs.now) c.args.matching.now.jobs.items c.args.matching.now.prices.items c.args.matching.now.columns.items c.args.matching.now.duals.items c.args.free.now c.args.search.now.lengths.items c.args.search.now.froms.items c.args.search.now.ranks.items c.relax.new.search.lengths.items c.relax.new.search.froms.items c.relax.new.search.ranks.items c.args.search.now.exit c.relax.new.search.exit c.args.search.now.settled c.args.c (vec_len c.args.matching.now.columns)
settles_here c =
    let s = c.args.matching.now in
    let x = c.args.search.now in
    let y = c.leave.new.search in
    let z = c.relax.new.search in
    let r = c.requires in
    let el : y.lengths.items ≡ x.lengths.items = ap (λ (v : Search). v.lengths.items) c.leave.ensures.same in
    let ef : y.froms.items ≡ x.froms.items = ap (λ (v : Search). v.froms.items) c.leave.ensures.same in
    let ey : y.ranks.items ≡ set x.ranks.items c.args.c x.settled = ap (λ (v : Search). v.ranks.items) c.leave.ensures.same in
    let er : z.ranks.items ≡ set x.ranks.items c.args.c x.settled = ap (λ (v : Vec ℕ). v.items) c.relax.ensures.same.0 ∙ ey in
    let ex : z.exit ≡ y.exit = c.relax.ensures.same.1 in
    let in_ranks : c.args.c < length x.ranks.items = omega (arith, x.ranks.ok.0, r.sizes.ranks, r.here) in
    let top : get_or (set x.ranks.items c.args.c x.settled) c.args.c 0 ≡ x.settled = get_or-set_same _ _ _ _ in_ranks in
    record {
      fair = λ q k le lt. r.fair.at q k (omega (arith, s.jobs.ok.0, r.sizes.jobs)) (omega (arith, s.columns.ok.0));
      fair_free = λ q k le lt. omega (arith, r.fair_free.at q k (omega (arith, s.jobs.ok.0, r.sizes.jobs)) lt);
      old = r.searched;
      here = r.here;
      unsettled = r.unsettled;
      least = r.least;
      nearer = r.nearer;
      room = r.room;
      rank_same = rw er top;
      rank_other = λ q ne. rw er (get_or-set_other x.ranks.items c.args.c q x.settled 0 ne);
      relaxed = λ k lt. rw (er, ex, ← ey, ← el, ← ef) (c.relax.ensures.relaxed k lt);
      rest = rw (← el) c.relax.ensures.rest;
      exit_le = rw ex c.leave.ensures.nearer;
      exit_every = λ f lt. rw ex (c.leave.ensures.every f lt);
      exit_edge = elim c.leave.ensures.edge [ inl e ↦ inl (ex ∙ e) | inr k ↦ inr (rw ex (k.0, k.1, k.2)) ];
    }

pub returns-clause-searched : goal.returns-clause-searched
returns-clause-searched c =
    let s = c.args.matching.now in
    let x = c.args.search.now in
    let r = c.requires in
    let es = c.relax.ensures.same.2 ∙ ap (λ (v : Search). v.settled) c.leave.ensures.same in
    let er : c.relax.new.search.ranks.items ≡ set x.ranks.items c.args.c x.settled = ap (λ (v : Vec ℕ). v.items) c.relax.ensures.same.0 ∙ ap (λ (v : Search). v.ranks.items) c.leave.ensures.same in
    let apart : vec_len s.columns ≢ c.args.c = omega (arith, r.here) in
    rw es (searched_now (settles_here c) (rw er (get_or-set_other x.ranks.items c.args.c (vec_len s.columns) x.settled 0 apart ∙ r.searched.root_rank)))

pub returns-clause-nears : goal.returns-clause-nears
returns-clause-nears c =
    let kept = ap (λ (v : Vec ℕ). v.items) c.relax.ensures.same.3 in
    let len = ap (λ (v : Vec ℕ). vec_len v) c.relax.ensures.same.3 in
    let z = c.relax.new.search.nears in
    nears_now (settles_here c) c.args.search.now.nears.items z.items c.requires.nears (omega (arith, len, z.ok.0, c.leave.ensures.one_each)) (λ f lt. rw kept (c.leave.ensures.kept f lt)) (λ f lt. rw kept (c.leave.ensures.taken f lt))

pub relax-requires-clause-listed : goal.relax-requires-clause-listed
relax-requires-clause-listed c =
    let x = c.args.search.now in
    let y = c.leave.new.search in
    let r = c.requires in
    let el : y.lengths ≡ x.lengths = ap (λ (v : Search). v.lengths) c.leave.ensures.same in
    let ey : y.ranks.items ≡ set x.ranks.items c.args.c x.settled = ap (λ (v : Search). v.ranks.items) c.leave.ensures.same in
    let et : y.reached ≡ x.reached = ap (λ (v : Search). v.reached) c.leave.ensures.same in
    let ek : y.count ≡ x.count = ap (λ (v : Search). v.count) c.leave.ensures.same in
    record {
      len = rw (el, et) r.listed.len;
      columns = rw (el, ey, et, ek) (listed_settled x.lengths.items x.ranks.items x.reached.items x.count (vec_len x.reached) c.args.c x.settled r.listed.columns r.unsettled);
    }

pub relax-requires-clause-reach : goal.relax-requires-clause-reach
relax-requires-clause-reach c =
    let s = c.args.matching.now in
    let r = c.requires in
    let f = c.args.search.now.exit.place in
    let lengths = ap (λ (v : Search). get_or v.lengths.items c.args.c 0) c.leave.ensures.same in
    let fair = r.fair_free.at c.args.c f (omega (arith, r.here, s.jobs.ok.0, r.sizes.jobs)) r.searched.exit_place in
    omega (arith, fair, lengths, c.leave.ensures.every f r.searched.exit_place, cost_of-low c.args.costs.now (get_or s.jobs.items c.args.c 0) (get_or c.args.free.now f nowhere))
