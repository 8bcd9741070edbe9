-- The attributes of the job template that this server knows (RFC 8011, section 5.2).
use Rattle.std.specs.Prelude.{ℕ, List, [], ◌∷◌, find, Option}
use Rattle.std.specs.Str.{bytes_eq}
use Rattle.printer_objects.specs.declared.job_attribute.JobAttribute.{JobAttribute}
use Rattle.printer_objects.specs.declared.job_attribute.JobAttribute.TheVariants as shown
use Rattle.printer_objects.specs.JobAttribute.{job_attribute_name}
use Rattle.job_template.specs.declared.template_name.TemplateName.{TemplateName}
use Rattle.job_template.specs.declared.template_name.TemplateName.TheVariants.{Copies, Media, Sides, Finishings, JobPriority, JobHoldUntil}

abbrev pub template_table : List TemplateName
template_table = Copies ∷ Media ∷ Sides ∷ Finishings ∷ JobPriority ∷ JobHoldUntil ∷ []

-- the attribute of a job that shows the template attribute
abbrev pub shown_as : TemplateName → JobAttribute
shown_as Copies = shown.Copies
shown_as Media = shown.Media
shown_as Sides = shown.Sides
shown_as Finishings = shown.Finishings
shown_as JobPriority = shown.Priority
shown_as JobHoldUntil = shown.HoldUntil

abbrev pub name_of : TemplateName → List ℕ
name_of which = job_attribute_name (shown_as which)

-- the template attribute of a name
abbrev pub template_name : List ℕ → Option TemplateName
template_name name = find (λ which. bytes_eq name (name_of which)) template_table
