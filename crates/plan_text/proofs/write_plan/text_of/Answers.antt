use Rattle.plan_text.proofs.Lines.{joined5, plan_text_is}
use Rattle.plan_text.proofs.write_plan.text_of.Goals as goal

pub returns : goal.returns
returns c =
    joined5 _ _ _ _ _ _ _ _ _ _ _ (c.in_ok-text.ensures {u = tt}).items (c.in_ok-put_devices.ensures {u = tt}) (c.in_ok-put_classes.ensures {u = tt}) (c.in_ok-put_stranded.ensures {u = tt}) (c.in_ok-extend_from_slice.ensures {u = tt}).items
    (plan_text_is (record { devices = c.args.devices.now; plan = record { classes = c.args.classes.now; stranded = c.args.stranded.now } }))
