-- The step of a Validate-Job request (RFC 8011, section 4.2.3): the response is that of a Print-Job with the same attributes, as far as they determine it, and no job is made.
use Rattle.std.specs.Prelude.{ℕ, ◌≡◌, List, [], Result, MatchResult}
use Rattle.text.specs.Steps.{◌>>=◌}
use Rattle.ipp_codec.specs.Message.{IppAttribute}
use Rattle.events.specs.declared.event.ValidateJob.{ValidateJob}
use Rattle.events.specs.declared.effects.Effects.{Effects}
use Rattle.dispatcher.specs.declared.checks.NamedPrinter.{NamedPrinter}
use Rattle.dispatcher.specs.declared.checks.Rejection.{Rejection}
use Rattle.events.specs.Effects.{Replies}
use Rattle.dispatcher.specs.Answers.{Refuses, taken_with}
use Rattle.dispatcher.specs.Checks.{named_printer, checked_format, unsupported_attributes}
use Rattle.print_room.specs.State.{State}

-- the checks of the document's form and the job group, with a known printer
abbrev pub validated_of_printer : ValidateJob → NamedPrinter → Result (List IppAttribute) Rejection
validated_of_printer request printer =
    checked_format request.form printer.offer >>= (λ _.
    unsupported_attributes request.job.fidelity request.job.template printer.offer)

-- the unsupported attributes, or the rejection of the first check that fails; the room for the job isn't checked
abbrev pub validated_of : ValidateJob → State → Result (List IppAttribute) Rejection
validated_of request old = named_printer request.job.target old >>= validated_of_printer request

-- the response has the unsupported attributes, and only the last moment changes
pub record Validates (now : ℕ) (old : State) (unsupported : List IppAttribute) (effects : Effects) (new : State) : Type 0 where
  pub replies : Replies (taken_with unsupported) unsupported [] effects
  pub state : new ≡ record old { last = now }

-- the relation has at most one result: effects and a state
abbrev pub ValidatesJob : ℕ → ValidateJob → State → Effects → State → Type 0
ValidatesJob now request old effects new =
    MatchResult (validated_of request old) (λ unsupported. Validates now old unsupported effects new) (λ refusal. Refuses now old refusal effects new)
