-- The messages of requests to a printer (RFC 8011, sections 4.2 and 4.3).
use Rattle.std.specs.Prelude.{ℕ, List, [], ◌∷◌, codes, ℤ}
use Rattle.ipp_codec.specs.Message.{IppGroup, IppMessage}
use Rattle.ipp_requests.specs.declared.ticket.Ticket.{Ticket}
use Rattle.ipp_requests.specs.Group.{with_more, with_values, user, about_printer, about_job}
use Rattle.ipp_requests.specs.Ticket.{document_group, job_group}

abbrev pub message_of : ℕ → IppGroup → IppMessage
message_of operation group = record { major = 1; minor = 1; code = operation; request_id = 1; groups = group ∷ [] }

-- Get-Printer-Attributes
abbrev pub asked_of_printer : List ℕ → List (List ℕ) → IppMessage
asked_of_printer uri names = message_of 0x000B (with_values 0x44 (codes "requested-attributes") names (with_more user (about_printer uri)))

-- Get-Job-Attributes
abbrev pub asked_of_job : List ℕ → ℤ → List (List ℕ) → IppMessage
asked_of_job uri job names = message_of 0x0009 (with_values 0x44 (codes "requested-attributes") names (about_job uri job))

-- Cancel-Job
abbrev pub canceled : List ℕ → ℤ → IppMessage
canceled uri job = message_of 0x0008 (about_job uri job)

-- Print-Job
abbrev pub printed : List ℕ → Ticket → IppMessage
printed uri ticket = record (message_of 0x0002 (document_group uri ticket)) { groups = document_group uri ticket ∷ job_group ticket ∷ [] }
