use Rattle.plan_text.proofs.Lines.{classes_step}
use Rattle.plan_text.proofs.write_plan.put_classes.Goals as goal

pub loop-class-preserved : goal.loop-class-preserved
loop-class-preserved c =
    classes_step c.args.devices.now c.args.classes.now c.loop-class.class-index c.class-item.result _ _ _ c.loop-class-test.true c.class-item.is
    (c.in_ok-put_class.ensures {u = tt}) c.loop-class.invariant
