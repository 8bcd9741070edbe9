use Rattle.std.proofs.Common.{◌≡◌, ◌++◌, map, take, drop}
use Rattle.job_template.specs.Unsupported.{returned}
use Rattle.job_template.proofs.request_attributes.make_each_returned.Given as goal

abbrev pub invariant-loop-attribute : goal.invariant-loop-attribute
invariant-loop-attribute l = l.attributes ≡ map returned (take l.attribute-index l.initial.attributes) ++ drop l.attribute-index l.initial.attributes
