use Rattle.std.proofs.Common.{List, ℕ, subst}
use Rattle.std.specs.List.Sorted.{IsBinarySearchResult}
use Rattle.std.specs.Ordering.{nat_cmp}
use Rattle.plan_problem.proofs.Places.{place_found}
use Rattle.plan_problem.proofs.class_problem.ClassProblem.place.Goals as goal

pub returns : goal.returns
returns c =
    let found = subst (λ (ids : List ℕ). IsBinarySearchResult (λ id. nat_cmp id c.args.job) ids c.binary_search.result) c.ids.ensures.ids c.binary_search.ensures.position in
    rw c.ok.ensures.value (place_found c.args.self.now.ids c.args.job c.binary_search.result c.ids.ensures.class.rising found)
