use Rattle.std.proofs.Common.{◌≡◌, map, take}
use Rattle.printer_objects.specs.JobShown.{job_attributes}
use Rattle.listings.specs.Groups.{shown_job}
use Rattle.listings.proofs.groups.groups_of.Given as goal

abbrev pub invariant-loop-entry : goal.invariant-loop-entry
invariant-loop-entry l = l.groups.items ≡ map (λ job. job_attributes (shown_job l.now l.room job) l.attributes) (map (λ e. e.job) (take l.entry-index l.listed))
