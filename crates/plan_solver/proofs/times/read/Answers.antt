use Rattle.std.proofs.Common.{◌≡◌, length, vec_len, get_or, ap, ◌∙◌, arith}
use Rattle.std.proofs.lemmas.List.{get_or_read}
use Rattle.std.proofs.lemmas.List.Elements.{All-push}
use Rattle.plan_solver.proofs.RowsRead.{looked_more, rows_more}
use Rattle.plan_solver.proofs.times.read.Goals as goal

pub loop-place-preserved : goal.loop-place-preserved
loop-place-preserved g c =
    let i = c.loop-place.invariant in
    let at = c.loop-place.place in
    let ids = c.in_ok-ids.ids in
    let waits = c.in_ok-waits.waits in
    let rows = c.loop-place.rows in
    let row = c.in_ok-read_row.ensures {u = tt} in
    let job : c.index.result.now ≡ get_or ids.items at 0 = get_or_read ids.items at _ (omega (arith, c.loop-place-test.true, c.len-place-end.ensures, ids.ok.0)) c.index.ensures 0 in
    record {
      len = omega (arith, (c.in_ok-push.ensures {u = tt}).len, i.len);
      read = rows_more (g.T.Times.class c.args.times.now) ids.items rows.items _ c.in_ok-read_row.field-0 at (vec_len waits) c.index.result.now (omega (arith, rows.ok.0, i.len)) (c.in_ok-push.ensures {u = tt}).items job (rw (← i.same, ← c.len-in-loop-place.ensures) row.read) i.read;
      widths = rw (c.in_ok-push.ensures {u = tt}).items (All-push (λ r. length r ≡ vec_len waits) rows.items c.in_ok-read_row.field-0 i.widths (row.read.one_each ∙ c.len-in-loop-place.ensures));
      same = row.same ∙ i.same;
      looked = looked_more (g.T.Times.looked c.args.times.now) at (vec_len waits) (g.T.Times.looked c.read_row.new.times) (g.T.Times.looked c.loop-place.times) i.looked (omega (arith, row.looked, c.len-in-loop-place.ensures));
    }

pub returns-clause-read : goal.returns-clause-read
returns-clause-read g c =
    let i = c.loop-place.invariant in
    let ids = c.in_ok-ids.ids in
    let waits = c.in_ok-waits.waits in
    let class = g.T.Times.class c.args.times.now in
    let all : c.loop-place.place ≡ vec_len ids = omega (arith, c.loop-place-test.false, c.loop-place.auto.place-end, c.len-place-end.ensures) in
    let marks = c.in_ok-marks.ensures {u = tt} in
    let same_ids : ids.items ≡ class.ids = (c.in_ok-ids.ensures {u = tt}).items ∙ c.ids.ensures.ids in
    let same_waits : waits.items ≡ class.waits = (c.in_ok-waits.ensures {u = tt}).items ∙ c.waits.ensures in
    record {
      ids = same_ids;
      waits = same_waits;
      rows = omega (arith, i.len, all, ids.ok.0, ap length same_ids);
      times = λ j d lj ld. rw same_ids at (i.read j d (omega (arith, lj, all, ids.ok.0, ap length same_ids)) (omega (arith, ld, waits.ok.0, ap length same_waits)));
      widths = λ k d l. i.widths k d l ∙ omega (arith, waits.ok.0, ap length same_waits);
      marks = marks.one_each ∙ omega (arith, i.len, all, ids.ok.0, ap length same_ids);
      marked = λ j l. marks.at j (omega (arith, l, i.len, all, ids.ok.0, ap length same_ids));
    }
