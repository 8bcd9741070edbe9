use Rattle.std.proofs.Common.{◌≡◌, ◌*◌, ◌<◌, arith, inl, inr, length, ap}
use Rattle.std.proofs.lemmas.Int.{ints}
use Rattle.std.proofs.lemmas.Bool.{true_from_ne_false}
use Rattle.plan_prices.proofs.Each.{last_or_before}
use Rattle.plan_checker.proofs.fairness.is_fair_on.Goals as goal

pub loop-place-preserved : goal.loop-place-preserved
loop-place-preserved c = record {
  cost_is = omega (arith, ints);
  small = omega arith;
  fair = λ k h. elim (last_or_before k c.loop-place.place-index h) [
    | inl lt ↦ omega (arith, ints, c.loop-place.invariant.fair k lt)
    | inr e ↦ rw e (omega (arith, ints))
  ];
}

pub returns : goal.returns
returns c =
    let n : c.loop-place.place-index ≡ length c.args.places.now = omega arith in
    let m : c.loop-place.place-index * c.args.time ≡ length c.args.places.now * c.args.time = ap (λ x. x * c.args.time) n in
    (λ t. record { used = λ k h. let lt : k < c.loop-place.place-index = omega arith in omega (arith, ints, c.loop-place.invariant.fair k lt); next = omega (arith, ints, t) }, λ f. true_from_ne_false _ (λ e. omega (arith, ints, e, f.next)))
