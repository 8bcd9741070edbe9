-- The fields of a request for a new job: Print-Job, Validate-Job and Create-Job (RFC 8011, sections 4.2.1, 4.2.3 and 4.2.4).
use Rattle.std.specs.Prelude.{ℕ, List, codes}
use Rattle.ipp_codec.specs.Message.{IppAttribute, IppGroup}
use Rattle.events.specs.declared.event.JobCreation.{JobCreation}
use Rattle.events.specs.declared.event.DocumentForm.{DocumentForm}
use Rattle.events.specs.declared.event.PrintJob.{PrintJob}
use Rattle.events.specs.declared.event.ValidateJob.{ValidateJob}
use Rattle.ipp_operations.specs.declared.operation_attribute.OperationAttribute.TheVariants.{JobName, IppAttributeFidelity, JobImpressions, DocumentFormat, Compression}
use Rattle.ipp_operations.specs.Attributes.{name_or, bytes_of, number_of, truth_of}
use Rattle.ipp_operations.specs.Request.{user_of}
use Rattle.ipp_operations.specs.Target.{printer_target}

-- the requested job
abbrev pub asked_job_of : IppGroup → List IppAttribute → JobCreation
asked_job_of group template = record {
  target = printer_target group;
  user = user_of group;
  name = name_or JobName (codes "untitled") group;
  impressions = number_of JobImpressions group;
  fidelity = truth_of IppAttributeFidelity group;
  template = template;
}

-- the form in which the document is sent
abbrev pub form_of : IppGroup → DocumentForm
form_of group = record {
  compression = bytes_of Compression group;
  format = bytes_of DocumentFormat group;
}

abbrev pub print_job_of : IppGroup → List IppAttribute → List ℕ → PrintJob
print_job_of group template document = record { job = asked_job_of group template; form = form_of group; octets = document }

abbrev pub validate_job_of : IppGroup → List IppAttribute → ValidateJob
validate_job_of group template = record { job = asked_job_of group template; form = form_of group }
