use Rattle.std.proofs.Common.{ap}
use Rattle.std.proofs.lemmas.List.{take_all}
use Rattle.ipp_codec.specs.Message.{plain}
use Rattle.printer_objects.specs.declared.attribute.TheConstants.{VALUE_BYTES}
use Rattle.printer_objects.specs.Attribute.{text}
use Rattle.printer_objects.proofs.Spelt.{job_spelt, created_spelt, printer_spelt}
use Rattle.printer_objects.proofs.law.groups_are_spelt.Goals as goal

pub returns-clause-job : goal.returns-clause-job
returns-clause-job c = job_spelt

pub returns-clause-created : goal.returns-clause-created
returns-clause-created c = created_spelt

pub returns-clause-printer : goal.returns-clause-printer
returns-clause-printer c = printer_spelt

pub returns-clause-whole : goal.returns-clause-whole
unfolding text
returns-clause-whole c = λ tag bytes fits. ap (plain tag) (take_all VALUE_BYTES bytes fits)
