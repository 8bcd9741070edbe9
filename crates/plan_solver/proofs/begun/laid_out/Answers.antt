use Rattle.std.proofs.Common.{◌≡◌, ◌+◌, [], ◌∷◌, ◌++◌, ℕ, get_or, take, ap, ◌∙◌, arith}
use Rattle.std.specs.Global.{Vec}
use Rattle.std.proofs.Math.Seq.{take-length}
use Rattle.std.proofs.lemmas.List.{take_more}
use Rattle.std.proofs.lemmas.List.Sorted.{IsPermutation-refl, IsPermutation-trans, IsPermutation-append_left}
use Rattle.plan_solver.proofs.begun.laid_out.Goals as goal

pub loop-place-init : goal.loop-place-init
loop-place-init c =
    let none = c.in_ok-begun.ensures {u = tt} in
    let left : c.in_ok-begun.begun.left.items ≡ [] = ap (λ (v : Vec ℕ). v.items) none.left ∙ c.new.ensures.items in
    record {
      laid_out = none.laid_out;
      jobs = rw (none.jobs, left) (IsPermutation-refl []);
    }

pub loop-place-preserved : goal.loop-place-preserved
loop-place-preserved c =
    let s = c.in_ok-match_or_leave.ensures {u = tt} in
    let order = c.args.order.now in
    let at = c.loop-place.place in
    let more : take (at + 1) order ≡ take at order ++ get_or order at 0 ∷ [] = take_more order at 0 c.loop-place-test.true in
    record {
      laid_out = s.laid_out;
      jobs = rw more (IsPermutation-trans _ _ _ (IsPermutation-append_left (get_or order at 0 ∷ []) _ _ c.loop-place.invariant.jobs) s.jobs);
    }

pub returns-clause-jobs : goal.returns-clause-jobs
returns-clause-jobs c =
    let order = c.args.order.now in
    let whole : take c.loop-place.place order ≡ order = ap (λ n. take n order) (omega (arith, c.loop-place-test.false, c.loop-place.auto.place-end)) ∙ take-length order in
    rw whole at (c.loop-place.invariant.jobs)
