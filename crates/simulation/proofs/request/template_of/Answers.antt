use Rattle.std.proofs.Common.{false, [], ◌∷◌, ◌∙◌, sym, subst}
use Rattle.std.specs.List.{AllByRecursion}
use Rattle.ipp_codec.specs.Grammar.{IsAttribute}
use Rattle.ipp_codec.specs.Message.{IppGroup}
use Rattle.printer_objects.specs.JobShown.{ShownJob}
use Rattle.printer_objects.specs.declared.job_attribute.JobAttribute.TheVariants as job
use Rattle.simulation.proofs.request.template_of.Goals as goal

pub from_vec-requires : goal.from_vec-requires
from_vec-requires c =
    let shown : ShownJob = record { job = c.args.job.now; uri_base = c.printer.inside.name; printer_name = c.printer.inside.name; printer_paused = false; moment = c.start.result } in
    let template = job.Copies ∷ job.Media ∷ job.Sides ∷ job.Priority ∷ job.Finishings ∷ [] in
    subst (λ (group : IppGroup). AllByRecursion IsAttribute group.attributes) (sym (c.group.view_is ∙ c.in_ok-group.ensures)) (c.groups_are_spelt.ensures.job shown template).attributes
