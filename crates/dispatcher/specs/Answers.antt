-- The responses to requests (RFC 8011, sections 4.1.6 to 4.1.8): a status, the unsupported attributes, and groups.
use Rattle.std.specs.Prelude.{ℕ, ◌≡◌, ◌==◌, if◌then◌else◌, List, [], length}
use Rattle.ipp_codec.specs.Message.{IppAttribute, IppGroup}
use Rattle.dispatcher.specs.declared.checks.Rejection.{Rejection}
use Rattle.events.specs.Effects.{Replies}
use Rattle.events.specs.declared.effects.Effects.{Effects}
use Rattle.events.specs.declared.status.Status.{Status}
use Rattle.events.specs.declared.status.Status.TheVariants as Went
use Rattle.print_room.specs.State.{State}

-- the status for a job that is taken or validated, by the attributes that aren't supported
abbrev pub taken_with : List IppAttribute → Status
taken_with unsupported = if length unsupported == 0 then Went.Ok else Went.OkIgnoredOrSubstituted

-- the response is the rejection alone, and only the last moment changes
pub record Refuses (now : ℕ) (old : State) (refusal : Rejection) (effects : Effects) (new : State) : Type 0 where
  pub replies : Replies refusal.status refusal.unsupported [] effects
  pub state : new ≡ record old { last = now }

-- the response has these groups, and only the last moment changes
pub record Shows (now : ℕ) (old : State) (groups : List IppGroup) (effects : Effects) (new : State) : Type 0 where
  pub replies : Replies Went.Ok [] groups effects
  pub state : new ≡ record old { last = now }
