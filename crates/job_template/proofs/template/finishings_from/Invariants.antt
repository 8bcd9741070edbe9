use Rattle.std.proofs.Common.{◌≡◌, drop, map}
use Rattle.ipp_codec.specs.Owned.{value_owned}
use Rattle.job_template.specs.Template.{finishings_from}
use Rattle.job_template.proofs.template.finishings_from.Given as goal

abbrev pub invariant-loop-value : goal.invariant-loop-value
invariant-loop-value l =
    finishings_from l.offer l.found (map value_owned (drop l.value-index l.values)) ≡ finishings_from l.offer l.initial.found (map value_owned l.values)
