use Rattle.std.proofs.Common.{◌≡◌, ℕ, ◌+◌, ◌-◌, ◌*◌, ◌<◌, ◌≤◌, vec_len, get_or}
use Rattle.plan_solver.specs.declared.costs.TheConstants.{UNABLE}
use Rattle.plan_solver.specs.Costs.{cost_at, nowhere}
use Rattle.plan_solver.specs.Search.{IsListed, IsRelaxed, IsSized}
use Rattle.plan_solver.proofs.search.relax_device.Given as goal

abbrev pub invariant-loop-after : goal.invariant-loop-after
invariant-loop-after l = record {
  sizes : IsSized l.matching l.search;
  listed : IsListed l.search;
  ranks : l.search.ranks ≡ l.fn.search.ranks;
  exit : l.search.exit ≡ l.fn.search.exit;
  settled : l.search.settled ≡ l.fn.search.settled;
  nears : l.search.nears ≡ l.fn.search.nears;
  left : l.left ≡ l.ways.most - (get_or l.waits l.device UNABLE + l.after * get_or l.row l.device UNABLE);
  done : (c : ℕ) → c < vec_len l.matching.columns → (get_or l.matching.columns.items c nowhere).device ≡ l.device → (get_or l.matching.columns.items c nowhere).after < l.after
      → IsRelaxed l.fn.search.exit.length (get_or l.fn.search.ranks.items c 0) l.ways.origin (l.ways.base + (cost_at l.waits l.row (get_or l.matching.columns.items c nowhere) + get_or l.matching.duals.items c 0 - l.ways.price)) (get_or l.fn.search.lengths.items c 0) (get_or l.search.lengths.items c 0) (get_or l.fn.search.froms.items c 0) (get_or l.search.froms.items c 0);
  rest : (c : ℕ) → c ≤ vec_len l.matching.columns → (c < vec_len l.matching.columns → (get_or l.matching.columns.items c nowhere).device ≡ l.device → l.after ≤ (get_or l.matching.columns.items c nowhere).after)
      → (get_or l.search.lengths.items c 0 ≡ get_or l.fn.search.lengths.items c 0) × (get_or l.search.froms.items c 0 ≡ get_or l.fn.search.froms.items c 0);
}
