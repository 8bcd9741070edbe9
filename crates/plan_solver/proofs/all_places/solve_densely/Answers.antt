use Rattle.std.proofs.Common.{◌≡◌, ◌+◌, ◌<◌, [], ◌∷◌, ◌++◌, length, vec_len, get_or, take, ap, ◌∙◌, arith}
use Rattle.std.proofs.Math.Seq.{take-length}
use Rattle.std.proofs.lemmas.List.{get_or_read, take_more}
use Rattle.std.proofs.lemmas.List.Elements.{All-nil}
use Rattle.std.proofs.lemmas.List.FromFn.{length-range_with_len}
use Rattle.std.proofs.lemmas.List.Sorted.{IsPermutation-refl, IsPermutation-trans, IsPermutation-append_left, length_permutation}
use Rattle.plan_solver.proofs.Apart.{jobs-below}
use Rattle.plan_solver.proofs.Gaps.{filled_all, shows_first}
use Rattle.plan_solver.proofs.Laid.{laid_none, lent_whole, matched_none}
use Rattle.plan_solver.proofs.ColumnGrowth.{by_device_none}
use Rattle.plan_solver.proofs.all_places.solve_densely.Goals as goal

pub loop-place-init : goal.loop-place-init
loop-place-init c =
    let given = c.in_ok-free.ensures {u = tt} in
    record {
      known = rw c.new-3.ensures.items (All-nil (λ j. j < vec_len c.args.costs.now.rows));
      count = c.new.ensures.len;
      matched = matched_none c.args.costs.now (record { columns = c.new.result; duals = c.new-2.result; jobs = c.new-3.result; prices = c.new-4.result }) c.in_ok-free.free.items c.new.ensures.items c.new-3.ensures.items c.new.ensures.len c.new-3.ensures.len c.new-4.ensures.len c.new-2.ensures.len;
      laid = laid_none (vec_len c.args.costs.now.waits) c.new.result.items c.new.ensures.items;
      by_device = by_device_none (vec_len c.args.costs.now.waits) c.new.result.items c.in_ok-by_device.by_device.items c.new.ensures.items (omega (arith, (c.in_ok-by_device.ensures {u = tt}).len, c.in_ok-by_device.by_device.ok.0, c.len-3.ensures)) (λ d lt. (c.in_ok-by_device.ensures {u = tt}).empty d (omega (arith, lt, c.len-3.ensures)));
      shows = shows_first c.args.costs.now c.new.result.items c.in_ok-free.free.items c.new.ensures.items (λ d k ld lk. given.there d k (omega (arith, ld, c.len.ensures)) (omega (arith, lk, c.len-2.ensures))) (λ p found. omega (arith, given.only p found, c.len.ensures));
      all = rw c.new-3.ensures.items (IsPermutation-refl []);
    }

pub match_among-requires-clause-job : goal.match_among-requires-clause-job
match_among-requires-clause-job c =
    let order = c.in_ok-order.order in
    let at = c.loop-place.place in
    let lt : at < length order.items = omega (arith, order.ok.0, c.loop-place-test.true) in
    let read : c.index.result.now ≡ get_or order.items at 0 = get_or_read order.items at _ lt c.index.ensures 0 in
    omega (arith, read, jobs-below (vec_len c.args.costs.now.rows) order.items c.in_ok-order.ensures at lt)

pub match_among-requires-clause-room : goal.match_among-requires-clause-room
match_among-requires-clause-room c =
    let order = c.in_ok-order.order in
    let len = length_permutation _ _ c.in_ok-order.ensures in
    omega (arith, len, length-range_with_len 0 (vec_len c.args.costs.now.rows), order.ok.0, c.loop-place-test.true, c.loop-place.invariant.count)

pub loop-place-preserved : goal.loop-place-preserved
loop-place-preserved c =
    let i = c.loop-place.invariant in
    let s = c.in_ok-free-2.ensures {u = tt} in
    let order = c.in_ok-order.order in
    let at = c.loop-place.place in
    let lt : at < length order.items = omega (arith, order.ok.0, c.loop-place-test.true) in
    let read : c.index.result.now ≡ get_or order.items at 0 = get_or_read order.items at _ lt c.index.ensures 0 in
    let by_device = c.loop-place.by_device in
    let wide = lent_whole by_device.len c.match_among.new.by_device by_device.items (omega (arith, s.by_device.one_each, i.by_device.one_each, by_device.ok.0)) in
    let more : take (at + 1) order.items ≡ take at order.items ++ get_or order.items at 0 ∷ [] = take_more order.items at 0 lt in
    record {
      known = s.known;
      count = omega (arith, s.count, i.count);
      matched = s.matched;
      laid = s.laid;
      by_device = rw wide s.by_device;
      shows = s.shows;
      all = rw (more, ← read) (IsPermutation-trans _ _ _ (IsPermutation-append_left (c.index.result.now ∷ []) _ _ i.all) s.jobs);
    }

pub returns-clause-filled : goal.returns-clause-filled
returns-clause-filled c =
    let i = c.loop-place.invariant in
    let order = c.in_ok-order.order in
    let len = length_permutation _ _ c.in_ok-order.ensures in
    filled_all c.args.costs.now c.loop-place.matching c.loop-place.free.items i.matched i.laid i.shows (omega (arith, i.count, c.loop-place.matching.columns.ok.0, c.loop-place.auto.place-end, c.len-place-end.ensures, len, length-range_with_len 0 (vec_len c.args.costs.now.rows), order.ok.0))

pub returns-clause-all : goal.returns-clause-all
returns-clause-all c =
    let order = c.in_ok-order.order in
    let whole : take c.loop-place.place order.items ≡ order.items = ap (λ n. take n order.items) (omega (arith, order.ok.0)) ∙ take-length order.items in
    IsPermutation-trans _ _ _ c.in_ok-order.ensures (rw whole at (c.loop-place.invariant.all))
