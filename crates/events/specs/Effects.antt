-- The responses to requests (RFC 8011, sections 4.1.6 to 4.1.8): a status, the unsupported attributes, and groups.
use Rattle.std.specs.Prelude.{◌≡◌, List, []}
use Rattle.ipp_codec.specs.Message.{IppAttribute, IppGroup}
use Rattle.events.specs.declared.effects.Response.{Response}
use Rattle.events.specs.declared.effects.Response.TheVariants as responds
use Rattle.events.specs.declared.effects.LpdResponse.{LpdResponse}
use Rattle.events.specs.declared.effects.Effects.{Effects}
use Rattle.events.specs.declared.status.Status.{Status}

-- the response has exactly this status, these unsupported attributes and these groups
abbrev pub IsResponse : Status → List IppAttribute → List IppGroup → Response → Type 0
IsResponse status unsupported groups (responds.Ipp answer) = (answer.status ≡ status) × (answer.unsupported ≡ unsupported) × (answer.groups ≡ groups)
IsResponse status unsupported groups (responds.Lpd answer) = ⊥
IsResponse status unsupported groups responds.Nothing = ⊥

-- effects with this response, no cancels and no documents
pub record Replies (status : Status) (unsupported : List IppAttribute) (groups : List IppGroup) (reply : Effects) : Type 0 where
  pub response : IsResponse status unsupported groups reply.response
  pub cancels : reply.cancels.items ≡ []
  pub documents : reply.documents.items ≡ []

-- effects with this response for an LPD client, no cancels and no documents
pub record AnswersLpd (answer : LpdResponse) (reply : Effects) : Type 0 where
  pub response : reply.response ≡ responds.Lpd answer
  pub cancels : reply.cancels.items ≡ []
  pub documents : reply.documents.items ≡ []
