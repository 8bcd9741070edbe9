use Rattle.std.proofs.Common.{◌≡◌, ◌≤◌, take}
use Rattle.base_types.specs.declared.limits.TheConstants.Limits.{JOB_OCTETS}
use Rattle.octets.specs.Document.{octets_of}
use Rattle.spool.proofs.new_job.octets_within.Given as goal

abbrev pub invariant-loop-document : goal.invariant-loop-document
invariant-loop-document l = (l.octets ≡ octets_of (take l.document-index l.documents)) × (l.octets ≤ JOB_OCTETS)
