use Rattle.plan_text.proofs.Lines.{joined3, class_text_is}
use Rattle.plan_text.proofs.write_plan.put_class.Goals as goal

pub returns : goal.returns
returns c =
    joined3 _ _ _ _ _ _ _ _ (c.in_ok-put_class_jobs.ensures {u = tt}) (c.in_ok-put_class_ways.ensures {u = tt}) (c.in_ok-put_class_prices.ensures {u = tt})
    (class_text_is c.args.devices.now c.args.class.now)
