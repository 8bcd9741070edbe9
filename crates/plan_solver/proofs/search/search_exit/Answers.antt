use Rattle.std.proofs.Common.{◌≡◌, ◌+◌, ◌<◌, Some, length, vec_len, get_or, set, ap, arith, rules}
use Rattle.plan_solver.specs.declared.search.TheConstants.{UNSETTLED}
use Rattle.plan_solver.specs.Search.{IsNearestOf, open_count}
use Rattle.plan_solver.proofs.Count.{open_count-set}
use Rattle.plan_solver.proofs.search.search_exit.Goals as goal

settled_one : (c : goal.After-settle) → open_count (set c.settling.search.ranks.items c.in-Some.c c.settling.search.settled) + 1 ≡ open_count c.settling.search.ranks.items
settled_one c =
    let was = c.settling.search in
    let found : IsNearestOf was.lengths.items was.ranks.items (vec_len c.args.matching.now.columns) was.exit.length (Some c.in-Some.c) = search rules in
    let lt : c.in-Some.c < length was.ranks.items = omega (arith, found.0, c.settling.invariant.sizes.ranks, was.ranks.ok.0) in
    let at : get_or was.ranks.items c.in-Some.c 0 ≡ UNSETTLED = found.1 in
    open_count-set was.ranks.items c.in-Some.c was.settled lt at (λ e. omega (arith, e, c.settling.invariant.counted, was.ranks.small, was.ranks.ok.0))

pub settling-smaller : goal.settling-smaller
settling-smaller c = omega (arith, settled_one c, ap open_count c.settle.ensures.ranks)

pub settling-preserved : goal.settling-preserved
settling-preserved c = record {
  sizes = c.settle.ensures.sizes;
  searched = c.settle.ensures.searched;
  nears = c.settle.ensures.nears;
  listed = c.settle.ensures.listed;
  counted = omega (arith, settled_one c, ap open_count c.settle.ensures.ranks, c.settle.ensures.settled, c.settling.invariant.counted, c.settle.ensures.sizes.ranks, c.settling.invariant.sizes.ranks);
}
