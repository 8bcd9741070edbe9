-- The groups of a Print-Job (RFC 8011, section 4.2.1.1).
use Rattle.std.specs.Prelude.{ℕ, if◌then◌else◌, Bool, List, [], ◌∷◌, ◌++◌, Option, Some, None, codes}
use Rattle.std.specs.Borrow.{Bor}
use Rattle.ipp_codec.specs.Message.{IppGroup}
use Rattle.ipp_codec.specs.Tag as tags
use Rattle.base_types.specs.declared.finishings.Finishings.{Finishings}
use Rattle.ipp_requests.specs.declared.ticket.Ticket.{Ticket}
use Rattle.ipp_requests.specs.Group.{attribute_of, number_of, with_more, with_values, user, about_printer}

-- the operation group; ipp-attribute-fidelity is false, so the printer may leave out what it doesn't support
abbrev pub document_group : List ℕ → Ticket → IppGroup
document_group uri ticket =
    with_more (attribute_of 0x49 (codes "document-format") ticket.format.now)
    (with_more (attribute_of 0x22 (codes "ipp-attribute-fidelity") (0 ∷ []))
    (with_more (attribute_of 0x42 (codes "job-name") ticket.name.now)
    (with_more user (about_printer uri))))

abbrev pub with_copies : Option ℕ → IppGroup → IppGroup
with_copies None group = group
with_copies (Some count) group = with_more (number_of (codes "copies") count) group

abbrev pub with_words : List ℕ → Option (Bor (List ℕ)) → IppGroup → IppGroup
with_words name None group = group
with_words name (Some word) group = with_more (attribute_of 0x44 name word.now) group

abbrev pub code_if : Bool → List ℕ → List (List ℕ)
code_if wanted code = if wanted then code ∷ [] else []

-- the numbers of finishings (RFC 8011, section 5.2.6)
abbrev pub finishing_codes : Finishings → List (List ℕ)
finishing_codes finishings = code_if finishings.staple (0 ∷ 0 ∷ 0 ∷ 4 ∷ []) ++ code_if finishings.punch (0 ∷ 0 ∷ 0 ∷ 5 ∷ []) ++ code_if finishings.bind (0 ∷ 0 ∷ 0 ∷ 7 ∷ [])

abbrev pub job_group : Ticket → IppGroup
job_group ticket =
    with_values 0x23 (codes "finishings") (finishing_codes ticket.finishings)
    (with_words (codes "media") ticket.media
    (with_words (codes "sides") ticket.sides
    (with_copies ticket.copies (record { tag = tags.job_attributes; attributes = [] }))))
