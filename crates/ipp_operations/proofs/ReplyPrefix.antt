-- The bytes of a reply begin as those of a refusal with its status.
use Rattle.std.proofs.Common.{ℕ, ◌≡◌, ◌++◌, List, [], ◌∷◌, take, refl}
use Rattle.ipp_codec.specs.Message.{IppGroup}
use Rattle.ipp_codec.specs.Spelling.{elements, bytes_of, spelling}
use Rattle.events.specs.declared.status.Status.{Status}
use Rattle.ipp_operations.specs.Reply.{reply_of, refusal_bytes}

pub after_prefix : (status : Status) (id : ℕ) (groups : List IppGroup) → take 71 (refusal_bytes status id) ++ (bytes_of (elements groups) ++ 3 ∷ []) ≡ spelling (reply_of status id groups)
after_prefix status id groups = refl
