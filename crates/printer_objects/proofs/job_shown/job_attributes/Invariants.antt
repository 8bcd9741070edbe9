use Rattle.std.proofs.Common.{◌≡◌, map, take}
use Rattle.ipp_codec.specs.Tag as tags
use Rattle.printer_objects.specs.JobShown.{job_shown}
use Rattle.printer_objects.proofs.job_shown.job_attributes.Given as goal

abbrev pub invariant-loop-which : goal.invariant-loop-which
invariant-loop-which l = l.group ≡ record { tag = tags.job_attributes; attributes = map (job_shown l.shown) (take l.which-index l.attributes) }
