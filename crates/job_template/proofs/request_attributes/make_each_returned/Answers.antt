use Rattle.std.proofs.lemmas.List.Edits.{map_over_more}
use Rattle.job_template.specs.Unsupported.{returned}
use Rattle.job_template.proofs.request_attributes.make_each_returned.Goals as goal

pub loop-attribute-preserved : goal.loop-attribute-preserved
loop-attribute-preserved c =
    rw (c.make_returned.ensures, ← c.attribute-item.is)
    (map_over_more returned c.args.attributes.now c.loop-attribute.attributes c.loop-attribute.attribute-index c.attribute-item.result c.loop-attribute-test.true c.loop-attribute.invariant c.attribute-item.is)
