use Rattle.std.proofs.Common.{◌≡◌, ℕ, ◌+◌, ◌-◌, ◌<◌, ◌≤◌, vec_len, get_or}
use Rattle.plan_solver.specs.Costs.{cost_of, nowhere}
use Rattle.plan_solver.specs.Search.{IsListed, IsRelaxed, IsSized}
use Rattle.plan_solver.proofs.search.relax.Given as goal

abbrev pub invariant-loop-device : goal.invariant-loop-device
invariant-loop-device l = record {
  sizes : IsSized l.matching l.search;
  listed : IsListed l.search;
  ranks : l.search.ranks ≡ l.fn.search.ranks;
  exit : l.search.exit ≡ l.fn.search.exit;
  settled : l.search.settled ≡ l.fn.search.settled;
  nears : l.search.nears ≡ l.fn.search.nears;
  root : get_or l.search.lengths.items (vec_len l.matching.columns) 0 ≡ get_or l.fn.search.lengths.items (vec_len l.matching.columns) 0;
  own : get_or l.search.lengths.items l.q 0 ≡ get_or l.fn.search.lengths.items l.q 0;
  done : (c : ℕ) → c < vec_len l.matching.columns → (get_or l.matching.columns.items c nowhere).device < l.device
      → IsRelaxed l.fn.search.exit.length (get_or l.fn.search.ranks.items c 0) l.q (get_or l.fn.search.lengths.items l.q 0 + (cost_of l.costs (get_or l.matching.jobs.items l.q 0) (get_or l.matching.columns.items c nowhere) + get_or l.matching.duals.items c 0 - get_or l.matching.prices.items l.q 0)) (get_or l.fn.search.lengths.items c 0) (get_or l.search.lengths.items c 0) (get_or l.fn.search.froms.items c 0) (get_or l.search.froms.items c 0);
  rest : (c : ℕ) → c < vec_len l.matching.columns → l.device ≤ (get_or l.matching.columns.items c nowhere).device
      → (get_or l.search.lengths.items c 0 ≡ get_or l.fn.search.lengths.items c 0) × (get_or l.search.froms.items c 0 ≡ get_or l.fn.search.froms.items c 0);
}
