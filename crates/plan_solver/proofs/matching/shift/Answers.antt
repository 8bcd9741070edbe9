use Rattle.std.proofs.Common.{◌≡◌, ◌≢◌, ℕ, ◌<◌, ◌≤◌, List, get_or, ap, inl, inr, ◌∙◌, arith, rules}
use Rattle.std.specs.List.{SwappedAt}
use Rattle.std.proofs.lemmas.Bool.{cases_eq}
use Rattle.std.proofs.lemmas.List.Sorted.{IsPermutation-trans}
use Rattle.plan_solver.specs.Matching.{AreMoved}
use Rattle.plan_solver.proofs.matching.shift.Goals as goal

apart : (ranks : List ℕ) (q p : ℕ) → get_or ranks q 0 < get_or ranks p 0 → q ≢ p
apart ranks q p h e = omega (arith, ap (λ x. get_or ranks x 0) e)

falls : (froms ranks : List ℕ) (last e p : ℕ) → p ≡ get_or froms e 0 → p ≢ last → e ≤ last → ((c : ℕ) → c ≤ last → get_or froms c 0 ≢ last → get_or ranks (get_or froms c 0) 0 < get_or ranks c 0) → get_or ranks p 0 < get_or ranks e 0
falls froms ranks last e p is ne h f = rw is (f e h (λ x. ne (is ∙ x)))

moved_one : (jobs0 jobs jobs' prices0 prices prices' froms ranks : List ℕ) (last e p c : ℕ)
    → SwappedAt jobs jobs' e p → SwappedAt prices prices' e p → p ≡ get_or froms e 0 → p < last → c ≢ p
    → get_or ranks e 0 ≤ get_or ranks last 0
    → (get_or jobs p 0 ≡ get_or jobs0 p 0) × (get_or prices p 0 ≡ get_or prices0 p 0)
    → (c ≢ e → AreMoved jobs0 jobs prices0 prices froms ranks last c)
    → AreMoved jobs0 jobs' prices0 prices' froms ranks last c
moved_one jobs0 jobs jobs' prices0 prices prices' froms ranks last e p c sj sp is lt ne reached kept moved =
    elim (cases_eq c e) [
      | inl same ↦ inr (rw same (sj.0 0 ∙ kept.0 ∙ ap (λ x. get_or jobs0 x 0) is), rw same (sp.0 0 ∙ kept.1 ∙ ap (λ x. get_or prices0 x 0) is), rw same reached)
      | inr other ↦ elim (moved other) [
        | inl m ↦ inl (sj.2 c 0 other ne ∙ m.0, sp.2 c 0 other ne ∙ m.1, m.2)
        | inr m ↦ inr (sj.2 c 0 other ne ∙ m.0, sp.2 c 0 other ne ∙ m.1, m.2)
      ]
    ]

pub loop-from-preserved : goal.loop-from-preserved
loop-from-preserved c =
    let i = c.loop-from.invariant in
    let sj = c.swap.ensures.by_index in
    let sp = c.swap-in-loop-from.ensures.by_index in
    let from_in : c.loop-from.from ≤ c.args.last = rw i.from_is (c.requires.inside c.loop-from.empty i.empty_in) in
    let from_lt : c.loop-from.from < c.args.last = omega arith in
    let lower = falls c.args.froms.now c.args.ranks.now c.args.last c.loop-from.empty c.loop-from.from i.from_is c.loop-from-test.true i.empty_in c.requires.falling in
    record {
      empty_in = from_in;
      from_is = search rules;
      reached = omega arith;
      permutation = IsPermutation-trans _ _ _ i.permutation c.swap.ensures.permutation;
      kept = λ q h k.
          let np = apart c.args.ranks.now q c.loop-from.from k in
          let ne = apart c.args.ranks.now q c.loop-from.empty (omega arith) in
          let old = i.kept q h (omega arith) in
          (sj.2 q 0 ne np ∙ old.0, sp.2 q 0 ne np ∙ old.1);
      mover_job = sj.1 0 ∙ i.mover_job;
      mover_price = sp.1 0 ∙ i.mover_price;
      moved = λ k h ne. moved_one _ _ _ _ _ _ _ _ _ _ _ k sj sp i.from_is from_lt ne i.reached (i.kept _ from_lt lower) (i.moved k h);
    }
