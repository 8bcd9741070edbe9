use Rattle.std.proofs.Common.{◌≡◌, filter, take}
use Rattle.printer_objects.specs.JobAttribute.{is_wanted}
use Rattle.printer_objects.proofs.job_attribute.JobAttribute.wanted.Given as goal

abbrev pub invariant-loop-which : goal.invariant-loop-which
invariant-loop-which l = l.wanted.items ≡ filter (is_wanted l.requested) (take l.which-index l.which-items)
