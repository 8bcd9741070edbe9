use Rattle.std.proofs.Common.{◌≡◌, ℕ, ap, arith, get_or, vec_len}
use Rattle.std.specs.Global.{Vec}
use Rattle.std.proofs.lemmas.List.{get_or_read}
use Rattle.plan_solver.specs.declared.search.TheConstants.{UNSETTLED}
use Rattle.plan_solver.specs.declared.search.Search.{Search}
use Rattle.plan_solver.proofs.Listed.{listed_more}
use Rattle.plan_solver.proofs.search.reach_column.Goals as goal

pub returns-then-length-index-clause-listed : goal.returns-then-length-index-clause-listed
returns-then-length-index-clause-listed c =
    let x = c.args.search.now in
    let y = c.note_column.new.search in
    let r = c.requires in
    let el : y.lengths ≡ x.lengths = ap (λ (v : Search). v.lengths) c.note_column.ensures.same in
    let ey : y.ranks ≡ x.ranks = ap (λ (v : Search). v.ranks) c.note_column.ensures.same in
    let rank : c.index.result.now ≡ get_or x.ranks.items c.args.c 0 = get_or_read x.ranks.items c.args.c _ (omega (arith, r.ranks_in, x.ranks.ok.0)) c.index.ensures 0 in
    let unsettled : get_or x.ranks.items c.args.c 0 ≡ UNSETTLED = omega (arith, rank, c.if-index.true) in
    let more = listed_more x.lengths.items x.ranks.items x.reached.items y.reached.items x.count y.count (vec_len x.reached) c.args.c c.args.length r.listed.columns (omega (arith, x.reached.ok.0)) (omega (arith, x.lengths.ok.0, r.listed.len)) (omega (arith, r.lengths_in, r.listed.len)) unsettled r.near c.note_column.ensures.noted in
    record {
      len = omega (arith, c.note_column.ensures.len, ap (λ (v : Vec ℕ). vec_len v) el, r.listed.len);
      columns = rw (el, ey, c.note_column.ensures.len) more;
    }
