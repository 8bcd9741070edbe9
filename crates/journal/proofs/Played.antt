-- A file with one more turn after it.
use Rattle.std.proofs.Common.{◌≡◌, ℕ, Bool, true, false, List, [], ◌∷◌, ◌++◌, ◌∙◌, refl, sym, ap, subst, append_assoc, append-nil, Option, Some}
use Rattle.std.specs.Prelude.{option_map, codes}
use Rattle.recordings.specs.Lines.{turn_line}
use Rattle.recordings.specs.Noting.{NoteState, are_comments}
use Rattle.print_room.specs.State.{State}
use Rattle.server.specs.Polls.{Happening}
use Rattle.server.specs.State.{EngineState}
use Rattle.server.specs.Refinement.{IsAt}
use Rattle.server.specs.Turn.{Trace, Turned, Served_body, Reported, Ticked}
use Rattle.journal.specs.Passing.{calls_in}
use Rattle.journal.specs.File.{restart_line, IsTurnText, IsFile, HasPlayed}
use Rattle.journal.specs.Resuming.{pending, Resumes, Extends, TakesTurn, StartsTurn}
use Rattle.journal.specs.declared.resumption.Resumption.{Resumption}

-- ---- files

-- the file of a trace, and one more turn after it
pub filed_after : (moment : ℕ) (hs : List Happening) (text : List ℕ) → IsTurnText moment (calls_in hs) text → (trace : Trace) (file : List ℕ) → IsFile trace file → IsFile (trace ++ Turned moment hs ∷ []) (file ++ text)
filed_after moment hs text turn [] file none = (text, [], turn, ap (λ (t : List ℕ). t ++ text) none ∙ sym (append-nil text), refl)
filed_after moment hs text turn (Turned at those ∷ trace) file (first, rest, is_text, is, later) =
    (first, rest ++ text, is_text, ap (λ (t : List ℕ). t ++ text) is ∙ append_assoc first rest text, filed_after moment hs text turn trace rest later)
filed_after moment hs text turn (Served_body at body answer those ∷ trace) file never = absurd never
filed_after moment hs text turn (Reported at device written those ∷ trace) file never = absurd never
filed_after moment hs text turn (Ticked at those ∷ trace) file never = absurd never

-- ---- the end of a turn

-- the notes without their lines, where lines are kept
pub no_notes : (notes : NoteState) (lines : List ℕ) → notes.lines ≡ Some lines → notes.heads ≡ false → record notes { lines = option_map (λ text. []) notes.lines } ≡ record { lines = Some []; heads = false }
no_notes notes lines kept whole =
    let emptied : Option (List ℕ) → NoteState = λ o. record notes { lines = option_map (λ text. []) o } in
    let headed : Bool → NoteState = λ heads. record { lines = Some []; heads = heads } in
    ap emptied kept ∙ ap headed whole

-- no line was played
pub begins : (opening : State) (r : Resumption) → IsAt opening [] r.engine → r.stored.lines ≡ [] → pending r ≡ [] → r.wire.notes ≡ record { lines = Some []; heads = false } → Resumes opening [] r
begins opening r reaches stored none notes = record {
  played = record { trace = []; reaches = reaches; is_file = stored };
  is = sym (ap (λ (t : List ℕ). t ++ pending r) stored ∙ none);
  noted = notes;
}

-- the parts of a turn after the lines before it
parts_stored : (before lines comments restart line feed : List ℕ) → ((((before ++ lines) ++ comments) ++ restart) ++ line) ++ feed ≡ before ++ ((lines ++ comments) ++ (restart ++ (line ++ feed)))
parts_stored before lines comments restart line feed =
    append_assoc (((before ++ lines) ++ comments) ++ restart) line feed
    ∙ (append_assoc ((before ++ lines) ++ comments) restart (line ++ feed)
    ∙ (ap (λ (t : List ℕ). t ++ (restart ++ (line ++ feed))) (append_assoc before lines comments)
    ∙ append_assoc before (lines ++ comments) (restart ++ (line ++ feed))))

-- the turn ends whose lines these are
pub extends_turn : (moment : ℕ) (line : List ℕ) (a b d : Resumption) → turn_line moment ≡ line ++ codes "\n" → TakesTurn moment a b → b.wire.notes.lines ≡ Some b.lines.items → are_comments b.comments.items ≡ true → StartsTurn line b d → Extends (turn_line moment) a d
extends_turn moment line a b d ends turn lines comments starts opening file resumed =
    let noted = turn.turns.noted resumed.noted in
    let written : List ℕ = a.lines.items ++ a.comments.items in
    let text : List ℕ = written ++ (restart_line a.restarted ++ turn_line moment) in
    let is_text : IsTurnText moment (calls_in turn.turns.happenings) text = record {
      lines = a.lines.items;
      comments = a.comments.items;
      restarted = a.restarted;
      are_lines = noted.1 a.lines.items (lines ∙ ap (λ (r : Resumption). Some r.lines.items) turn.same);
      are_comments = sym (ap (λ (r : Resumption). are_comments r.comments.items) turn.same) ∙ comments;
      whole = refl;
    } in
    let trace : Trace = resumed.played.trace ++ Turned moment turn.turns.happenings ∷ [] in
    let played : HasPlayed opening (a.stored.lines ++ text) b.engine = record {
      trace = trace;
      reaches = turn.turns.reaches opening resumed.played.trace resumed.played.reaches;
      is_file = filed_after moment turn.turns.happenings text is_text resumed.played.trace a.stored.lines resumed.played.is_file;
    } in
    let stored_of : Resumption → List ℕ = λ r. ((((r.stored.lines ++ r.lines.items) ++ r.comments.items) ++ restart_line r.restarted) ++ line) ++ codes "\n" in
    let stored : d.stored.lines ≡ a.stored.lines ++ text =
    starts.stored ∙ (ap stored_of turn.same
    ∙ (parts_stored a.stored.lines a.lines.items a.comments.items (restart_line a.restarted) line (codes "\n")
    ∙ ap (λ (t : List ℕ). a.stored.lines ++ (written ++ (restart_line a.restarted ++ t))) (sym ends))) in
    record {
      played = subst (λ (t : List ℕ). HasPlayed opening t d.engine) (sym stored) (subst (λ (e : EngineState). HasPlayed opening (a.stored.lines ++ text) e) (sym starts.engine) played);
      is =
          ap (λ (t : List ℕ). t ++ turn_line moment) resumed.is
          ∙ (append_assoc a.stored.lines (pending a) (turn_line moment)
          ∙ (ap (λ (t : List ℕ). a.stored.lines ++ t) (append_assoc written (restart_line a.restarted) (turn_line moment))
          ∙ (sym stored ∙ (sym (append-nil d.stored.lines) ∙ ap (λ (t : List ℕ). d.stored.lines ++ t) (sym starts.none)))));
      noted = starts.notes ∙ no_notes b.wire.notes b.lines.items lines noted.0;
    }
