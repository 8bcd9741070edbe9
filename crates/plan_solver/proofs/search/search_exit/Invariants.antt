use Rattle.std.proofs.Common.{◌+◌, ◌≤◌, vec_len}
use Rattle.plan_solver.specs.Search.{IsListed, IsSized, KeepsNears, SearchedFrom, open_count}
use Rattle.plan_solver.proofs.search.search_exit.Given as goal

abbrev pub invariant-settling : goal.invariant-settling
invariant-settling l = record {
  sizes : IsSized l.matching l.search;
  searched : SearchedFrom l.costs l.matching l.free l.search;
  nears : KeepsNears l.costs l.matching l.free l.search;
  listed : IsListed l.search;
  counted : l.search.settled + open_count l.search.ranks.items ≤ vec_len l.search.ranks;
}

abbrev pub decreases-settling : goal.decreases-settling
decreases-settling l = open_count l.search.ranks.items
