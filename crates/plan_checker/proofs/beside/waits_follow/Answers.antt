use Rattle.std.proofs.Common.{◌≤◌, length, ap, ◌∙◌}
use Rattle.plan_prices.specs.declared.plan.PlannedClass.{PlannedClass}
use Rattle.plan_prices.specs.Waits.{waits_after}
use Rattle.plan_checker.proofs.Above.{filled, last_is, last_way, follow_last}
use Rattle.plan_checker.proofs.beside.waits_follow.Goals as goal

pub leaves-requires : goal.leaves-requires
leaves-requires c =
    let some : 1 ≤ length c.args.above.now = filled (length c.args.above.now) c.if-is_empty.ensures in
    last_way c.args.above.now c.index-above-above.result c.index-above-above.is some c.requires

pub returns : goal.returns
returns c =
    let some : 1 ≤ length c.args.above.now = filled (length c.args.above.now) c.if-is_empty.ensures in (
      (λ left place class end found. c.leaves.ensures.0 left
          ∙ ap (λ (k : PlannedClass). waits_after k.problem k.priced.way) (last_is c.args.above.now c.index-above-above.result c.index-above-above.is place class end found)),
      λ follow. c.leaves.ensures.1 (follow_last c.args.above.now c.index-above-above.result c.index-above-above.is some c.args.class.now follow),
    )
