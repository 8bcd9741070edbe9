-- A turn of the engine whose lines are stored at once.
use Rattle.std.proofs.Common.{◌≡◌, ◌∙◌, ℕ, true, false, List, [], ◌∷◌, ◌++◌, refl, sym, ap, append-nil, Option, Some, None}
use Rattle.std.specs.Prelude.{is_some}
use Rattle.wires.specs.Poll.{Poll}
use Rattle.dispatcher.specs.Notes.{Note}
use Rattle.recordings.specs.Lines.{turn_line}
use Rattle.recordings.specs.Noting.{NoteState, Notes, EndsTurn}
use Rattle.server.specs.Polls.{Choice, Happening, Polled, Notified, Chosen}
use Rattle.server.specs.State.{EngineState}
use Rattle.server.specs.Refinement.{RefinesTurn}
use Rattle.server.specs.Turn.{Turned}
use Rattle.journal.specs.Passing.{calls_in}
use Rattle.journal.specs.File.{IsTurnText, KeepsPlayed}
use Rattle.journal.specs.Resuming.{Turns}
use Rattle.journal.proofs.RecordingWire.{added_line, turns_as}
use Rattle.journal.proofs.Played.{filed_after}

-- the lines, where lines are kept
pub kept_lines : (noted : Option (List ℕ)) → is_some noted ≡ true → (lines : List ℕ) × (noted ≡ Some lines)
kept_lines None is = absurd (cc)
kept_lines (Some lines) is = (lines, refl)

-- the lines of a turn, and then its end
pub keeps_turn : {S : Type 0} (moves : S → Happening → S → Type 0) (moment : ℕ) (u : S) (a : EngineState) (v : S) (b : EngineState) → RefinesTurn moves moment u a v b
    → (notes : S → NoteState)
    → ((x : S) (poll : Poll) (y : S) → moves x (Polled poll) y → Notes poll (notes x) (notes y))
    → ((x : S) (note : Note) (y : S) → moves x (Notified note) y → notes y ≡ notes x)
    → ((x : S) (choice : Choice) (y : S) → moves x (Chosen choice) y → ⊥)
    → notes u ≡ record { lines = Some []; heads = false }
    → (ended : Option (List ℕ)) → EndsTurn moment false (notes v).lines ended → (text : List ℕ) → ended ≡ Some text → (before : List ℕ) → KeepsPlayed before a (before ++ text) b
keeps_turn moves moment u a v b turn notes polls notifies none empty ended ends text is before opening played =
    let turns : Turns moment a (notes u) b (notes v) = turns_as moves moment u a v b turn notes polls notifies none in
    let end = added_line (turn_line moment) (notes v).lines ended ends text is in
    let is_text : IsTurnText moment (calls_in turns.happenings) text = record {
      lines = end.0;
      comments = [];
      restarted = false;
      are_lines = (turns.noted empty).1 end.0 end.1;
      are_comments = refl;
      whole = end.2 ∙ sym (ap (λ (t : List ℕ). t ++ turn_line moment) (append-nil end.0));
    } in
    record {
      trace = played.trace ++ Turned moment turns.happenings ∷ [];
      reaches = turns.reaches opening played.trace played.reaches;
      is_file = filed_after moment turns.happenings text is_text played.trace before played.is_file;
    }
