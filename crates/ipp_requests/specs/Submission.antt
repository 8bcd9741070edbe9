-- The messages of a user who submits a job (RFC 8011, sections 4.2.4, 4.2.7, 4.3.1 and 4.3.3).
use Rattle.std.specs.Prelude.{ℕ, ℤ, Bool, List, [], ◌∷◌, Option, Some, None, codes}
use Rattle.std.specs.Borrow.{Bor}
use Rattle.ipp_codec.specs.Message.{IppGroup, IppMessage}
use Rattle.ipp_codec.specs.Tag as tags
use Rattle.ipp_codec.specs.Typed.{bytes_of_integer, byte_of_boolean}
use Rattle.ipp_requests.specs.declared.submission.Creation.{Creation}
use Rattle.ipp_requests.specs.Group.{attribute_of, number_of, with_more, with_values, from_user}
use Rattle.ipp_requests.specs.Ticket.{finishing_codes}
use Rattle.ipp_requests.specs.Request.{message_of}

-- ---- Create-Job

abbrev pub with_impressions : Option ℕ → IppGroup → IppGroup
with_impressions None group = group
with_impressions (Some count) group = with_more (number_of (codes "job-impressions") count) group

-- the operation group; ipp-attribute-fidelity is true, so the printer refuses a job that it can't print so
abbrev pub creation_group : List ℕ → Creation → IppGroup
creation_group uri creation =
    with_impressions creation.impressions
    (with_more (attribute_of 0x22 (codes "ipp-attribute-fidelity") (1 ∷ []))
    (with_more (attribute_of 0x42 (codes "job-name") creation.name.now)
    (from_user uri creation.user.now)))

abbrev pub with_order : Creation → IppGroup → IppGroup
with_order creation group =
    with_more (attribute_of 0x44 (codes "job-hold-until") creation.hold_until.now)
    (with_more (number_of (codes "job-priority") creation.priority) group)

abbrev pub creation_job : Creation → IppGroup
creation_job creation =
    with_order creation
    (with_values 0x23 (codes "finishings") (finishing_codes creation.finishings)
    (with_more (attribute_of 0x44 (codes "media") creation.media.now)
    (with_more (attribute_of 0x44 (codes "sides") creation.sides.now)
    (with_more (number_of (codes "copies") creation.copies) (record { tag = tags.job_attributes; attributes = [] })))))

abbrev pub created : List ℕ → Creation → IppMessage
created uri creation = record (message_of 0x0005 (creation_group uri creation)) { groups = creation_group uri creation ∷ creation_job creation ∷ [] }

-- ---- a request about a job

abbrev pub about_users_job : List ℕ → List ℕ → ℤ → IppGroup
about_users_job uri user job = with_more (attribute_of 0x21 (codes "job-id") (bytes_of_integer job)) (from_user uri user)

abbrev pub with_format : Option (Bor (List ℕ)) → IppGroup → IppGroup
with_format None group = group
with_format (Some format) group = with_more (attribute_of 0x49 (codes "document-format") format.now) group

abbrev pub document_sent : List ℕ → List ℕ → ℤ → Option (Bor (List ℕ)) → Bool → IppGroup
document_sent uri user job format last =
    with_more (attribute_of 0x22 (codes "last-document") (byte_of_boolean last ∷ []))
    (with_format format (about_users_job uri user job))

-- Send-Document
abbrev pub sent : List ℕ → List ℕ → ℤ → Option (Bor (List ℕ)) → Bool → IppMessage
sent uri user job format last = message_of 0x0006 (document_sent uri user job format last)

-- Cancel-Job
abbrev pub users_canceled : List ℕ → List ℕ → ℤ → IppMessage
users_canceled uri user job = message_of 0x0008 (about_users_job uri user job)

-- Pause-Printer
abbrev pub paused : List ℕ → List ℕ → IppMessage
paused uri user = message_of 0x0010 (from_user uri user)
