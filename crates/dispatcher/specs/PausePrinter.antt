-- The steps of a Pause-Printer and a Resume-Printer request (RFC 8011, sections 4.2.7 and 4.2.8): an operator pauses a printer, or ends its pause.
use Rattle.std.specs.Prelude.{ℕ, ◌≡◌, Bool, [], Result, Ok, MatchResult}
use Rattle.text.specs.Steps.{◌>>=◌}
use Rattle.events.specs.declared.event.PrinterRequest.{PrinterRequest}
use Rattle.events.specs.declared.effects.Effects.{Effects}
use Rattle.dispatcher.specs.declared.checks.Rejection.{Rejection}
use Rattle.events.specs.declared.status.Status.TheVariants as Went
use Rattle.events.specs.Effects.{Replies}
use Rattle.dispatcher.specs.Answers.{Refuses}
use Rattle.dispatcher.specs.Checks.{named_printer, by_operator}
use Rattle.print_room.specs.State.{State}
use Rattle.print_room.specs.Jobs.{pausing}

-- the place of the printer, or the rejection of the first check that fails
abbrev pub paused_of : PrinterRequest → State → Result ℕ Rejection
paused_of request old =
    named_printer request.target old >>= (λ printer.
    by_operator request.user old >>= (λ _.
    Ok printer.id))

-- the printer is paused, or its pause has ended
pub record PausesIt (now : ℕ) (old : State) (paused : Bool) (place : ℕ) (effects : Effects) (new : State) : Type 0 where
  pub replies : Replies Went.Ok [] [] effects
  pub state : new ≡ pausing now place paused old

-- the relation has at most one result: effects and a state
abbrev pub SetsPaused : ℕ → PrinterRequest → Bool → State → Effects → State → Type 0
SetsPaused now request paused old effects new =
    MatchResult (paused_of request old) (λ place. PausesIt now old paused place effects new) (λ refusal. Refuses now old refusal effects new)
