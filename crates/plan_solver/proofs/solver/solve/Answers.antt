use Rattle.std.proofs.Common.{◌≡◌, ◌+◌, [], ◌∷◌, ◌++◌, vec_len, get_or, take, ap, ◌∙◌, arith}
use Rattle.std.proofs.Math.Seq.{take-length}
use Rattle.std.proofs.lemmas.List.{append-nil, append_assoc, get_or_read, length-append, take_more}
use Rattle.std.proofs.lemmas.List.FromFn.{length-range_with_len}
use Rattle.std.proofs.lemmas.List.Sorted.{IsPermutation-refl, IsPermutation-trans, IsPermutation-append_left, length_permutation}
use Rattle.plan_solver.proofs.Laid.{filled_from, lent_whole}
use Rattle.plan_solver.proofs.solver.solve.Goals as goal

pub loop-place-init : goal.loop-place-init
loop-place-init c =
    let begun = c.in_ok-matching.ensures {u = tt} in
    record {
      matched = begun.matched;
      laid = begun.laid;
      by_device = begun.by_device;
      shows = begun.shows;
      one_each = begun.one_each;
      room = begun.room;
      all = rw (append-nil c.in_ok-matching.field-0.matching.jobs.items) (IsPermutation-refl c.in_ok-matching.field-0.matching.jobs.items);
    }

pub add_job-requires-clause-some : goal.add_job-requires-clause-some
add_job-requires-clause-some c =
    let begun = c.in_ok-matching.ensures {u = tt} in
    let first = c.in_ok-matching.field-0 in
    let len = length_permutation _ _ begun.all in
    c.requires (omega (arith, len, length-append first.matching.jobs.items first.left.items, length-range_with_len 0 (vec_len c.args.costs.now.rows), first.left.ok.0, c.loop-place-test.true))

pub loop-place-preserved : goal.loop-place-preserved
loop-place-preserved c =
    let s = c.in_ok-add_job.ensures {u = tt} in
    let i = c.loop-place.invariant in
    let free = c.loop-place.free in
    let first = c.in_ok-matching.field-0 in
    let left = first.left in
    let at = c.loop-place.place in
    let slacks = c.loop-place.slacks in
    let kept = lent_whole slacks.len c.add_job.new.slacks slacks.items (omega (arith, s.one_each, i.one_each, slacks.ok.0)) in
    let whole = lent_whole free.len c.add_job.new.free free.items (omega (arith, s.shows.one_each, i.shows.one_each, free.ok.0)) in
    let by_device = c.loop-place.by_device in
    let wide = lent_whole by_device.len c.add_job.new.by_device by_device.items (omega (arith, s.by_device.one_each, i.by_device.one_each, by_device.ok.0)) in
    let more : take (at + 1) left.items ≡ take at left.items ++ get_or left.items at 0 ∷ [] = take_more left.items at 0 (omega (arith, left.ok.0, c.loop-place-test.true)) in
    let read : c.index.result.now ≡ get_or left.items at 0 = get_or_read left.items at _ (omega (arith, left.ok.0, c.loop-place-test.true)) c.index.ensures 0 in
    record {
      matched = rw whole s.matched;
      laid = s.laid;
      by_device = rw wide s.by_device;
      shows = rw whole s.shows;
      one_each = omega (arith, i.one_each);
      room = rw (whole, kept) s.room;
      all = rw (more, ← read, ← append_assoc first.matching.jobs.items (take at left.items) (c.index.result.now ∷ [])) (IsPermutation-trans _ _ _ (IsPermutation-append_left (c.index.result.now ∷ []) _ _ i.all) s.jobs);
    }

pub returns-clause-filled : goal.returns-clause-filled
returns-clause-filled c = let i = c.loop-place.invariant in filled_from c.args.costs.now c.loop-place.matching c.loop-place.free.items i.matched i.laid i.shows

pub returns-clause-all : goal.returns-clause-all
returns-clause-all c =
    let begun = c.in_ok-matching.ensures {u = tt} in
    let left = c.in_ok-matching.field-0.left in
    let whole : take c.loop-place.place left.items ≡ left.items = ap (λ n. take n left.items) (omega (arith, left.ok.0, c.loop-place-test.false, c.loop-place.auto.place-end)) ∙ take-length left.items in
    IsPermutation-trans _ _ _ begun.all (rw whole at (c.loop-place.invariant.all))
