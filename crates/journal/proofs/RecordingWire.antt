-- The calls of a turn are noted, in order, where the wire notes each call.
use Rattle.std.proofs.Common.{◌≡◌, ℕ, true, false, List, [], ◌∷◌, ◌++◌, ◌∙◌, refl, sym, ap, subst, append_assoc, append-nil, Option, Some, None, inl, inr}
use Rattle.std.specs.Prelude.{◌⊎◌}
use Rattle.std.proofs.lemmas.Option.{none-some, same_Some}
use Rattle.wires.specs.Poll.{Poll}
use Rattle.dispatcher.specs.Notes.{Note}
use Rattle.recordings.specs.Lines.{turn_line}
use Rattle.recordings.specs.Noting.{NoteState, Notes, NotesLine, EndsTurn, note_of, with_note, restarted_line}
use Rattle.server.specs.Polls.{Choice, Happening, Polled, Notified, Chosen, Leads}
use Rattle.server.specs.State.{EngineState}
use Rattle.server.specs.Refinement.{RefinesTurn}
use Rattle.journal.specs.Passing.{calls_in}
use Rattle.journal.specs.File.{AreLines, IsTurnText}
use Rattle.journal.specs.Resuming.{Turns}

-- ---- one line

-- what was before a line, if lines are kept afterwards
before_line : (line : List ℕ) (noted : Option (List ℕ)) (now : List ℕ) → with_note line noted ≡ Some now → (before : List ℕ) × (noted ≡ Some before) × (now ≡ before ++ line)
before_line line None now is = absurd (none-some now is)
before_line line (Some before) now is = (before, refl, sym (same_Some (before ++ line) now is))

-- a line was added, or the lines were lost: it was added if lines are kept afterwards
pub added_line : (line : List ℕ) (old new : Option (List ℕ)) → (new ≡ None) ⊎ (new ≡ with_note line old) → (now : List ℕ) → new ≡ Some now → (before : List ℕ) × (old ≡ Some before) × (now ≡ before ++ line)
added_line line old new (inl none) now is = absurd (none-some now (sym none ∙ is))
added_line line old new (inr added) now is = before_line line old now (sym added ∙ is)

-- a call was noted if lines are kept afterwards
noted_line : (poll : Poll) (old new : Option (List ℕ)) → NotesLine poll old new → (now : List ℕ) → new ≡ Some now → (sum : Option ℕ) × (before : List ℕ) × (old ≡ Some before) × (now ≡ before ++ note_of poll sum)
noted_line poll old new (inl none) now is = absurd (none-some now (sym none ∙ is))
noted_line poll old new (inr (sum, added)) now is = let b = before_line (note_of poll sum) old now (sym added ∙ is) in (sum, b.0, b.1, b.2)

-- ---- the lines of calls

-- Lines with this property are added, unless the lines are lost: what is there afterwards was there before, and no line was lost.
abbrev pub Adds : (List ℕ → Type 0) → NoteState → NoteState → Type 0
Adds P old new = (new.heads ≡ old.heads) × (old.heads ≡ false → (now : List ℕ) → new.lines ≡ Some now → (before : List ℕ) × (more : List ℕ) × (old.lines ≡ Some before) × (now ≡ before ++ more) × P more)

-- a call, and then others
add_one : (poll : Poll) (polls : List Poll) (a b c : NoteState) → Notes poll a b → Adds (AreLines polls) b c → Adds (AreLines (poll ∷ polls)) a c
add_one poll polls a b c first later = (
  later.0 ∙ first.0,
  λ whole now is.
      let l = later.1 (first.0 ∙ whole) now is in
      let f = noted_line poll a.lines b.lines (first.1 whole) l.0 l.2 in
      (f.1, note_of poll f.0 ++ l.1, f.2, l.3 ∙ (ap (λ (t : List ℕ). t ++ l.1) f.3 ∙ append_assoc f.1 (note_of poll f.0) l.1), (f.0, l.1, refl, l.4)),
)

-- no call
add_none : (a b : NoteState) → b ≡ a → Adds (AreLines []) a b
add_none a b same = (ap (λ (n : NoteState). n.heads) same, λ whole now is. (now, [], sym (ap (λ (n : NoteState). n.lines) same) ∙ is, sym (append-nil now), refl))

-- the lines of the calls of these happenings are added, where each call is noted
pub are_added : {S : Type 0} (moves : S → Happening → S → Type 0) (notes : S → NoteState)
    → ((a : S) (poll : Poll) (b : S) → moves a (Polled poll) b → Notes poll (notes a) (notes b))
    → ((a : S) (note : Note) (b : S) → moves a (Notified note) b → notes b ≡ notes a)
    → ((a : S) (choice : Choice) (b : S) → moves a (Chosen choice) b → ⊥)
    → (hs : List Happening) (u v : S) → Leads moves u hs v → Adds (AreLines (calls_in hs)) (notes u) (notes v)
are_added moves notes polls notifies none [] u v leads = add_none (notes u) (notes v) (ap notes leads)
are_added moves notes polls notifies none (Polled poll ∷ hs) u v (mid, moved, later) =
    add_one poll (calls_in hs) (notes u) (notes mid) (notes v) (polls u poll mid moved) (are_added moves notes polls notifies none hs mid v later)
are_added moves notes polls notifies none (Notified note ∷ hs) u v (mid, moved, later) =
    subst (λ (x : NoteState). Adds (AreLines (calls_in hs)) x (notes v)) (notifies u note mid moved) (are_added moves notes polls notifies none hs mid v later)
are_added moves notes polls notifies none (Chosen choice ∷ hs) u v (mid, moved, later) = absurd (none u choice mid moved)

-- where no lines were kept before, the lines that are kept are those of the calls
pub first_lines : (polls : List Poll) (a b : NoteState) → Adds (AreLines polls) a b → a ≡ record { lines = Some []; heads = false } → (lines : List ℕ) → b.lines ≡ Some lines → AreLines polls lines
first_lines polls a b added empty lines is =
    let l = added.1 (ap (λ (n : NoteState). n.heads) empty) lines is in
    let none : l.0 ≡ [] = same_Some l.0 [] (sym l.2 ∙ ap (λ (n : NoteState). n.lines) empty) in
    subst (AreLines polls) (sym (l.3 ∙ ap (λ (t : List ℕ). t ++ l.1) none)) l.4

-- ---- a turn

-- a turn of the engine over a wire that notes each call
pub turns_as : {S : Type 0} (moves : S → Happening → S → Type 0) (moment : ℕ) (u : S) (a : EngineState) (v : S) (b : EngineState) → RefinesTurn moves moment u a v b
    → (notes : S → NoteState)
    → ((x : S) (poll : Poll) (y : S) → moves x (Polled poll) y → Notes poll (notes x) (notes y))
    → ((x : S) (note : Note) (y : S) → moves x (Notified note) y → notes y ≡ notes x)
    → ((x : S) (choice : Choice) (y : S) → moves x (Chosen choice) y → ⊥)
    → Turns moment a (notes u) b (notes v)
turns_as moves moment u a v b turn notes polls notifies none = record {
  happenings = turn.happenings;
  reaches = turn.reaches;
  noted = λ empty.
      let added : Adds (AreLines (calls_in turn.happenings)) (notes u) (notes v) = are_added moves notes polls notifies none turn.happenings u v turn.leads in
      (added.0 ∙ ap (λ (n : NoteState). n.heads) empty, λ lines is. first_lines (calls_in turn.happenings) (notes u) (notes v) added empty lines is);
}

-- the lines of calls, then the line of a server that had been restarted, and then the end of the turn: a turn's text
pub lost_text : (moment : ℕ) (polls : List Poll) (b c d : Option (List ℕ)) → ((lines : List ℕ) → b ≡ Some lines → AreLines polls lines) → (c ≡ None) ⊎ (c ≡ with_note restarted_line b) → EndsTurn moment false c d → (text : List ℕ) → d ≡ Some text → IsTurnText moment polls text
lost_text moment polls b c d are restarts ends text is =
    let e = added_line (turn_line moment) c d ends text is in
    let r = added_line restarted_line b c restarts e.0 e.1 in
    record {
      lines = r.0;
      comments = [];
      restarted = true;
      are_lines = are r.0 r.1;
      are_comments = refl;
      whole =
          e.2
          ∙ (ap (λ (t : List ℕ). t ++ turn_line moment) r.2
          ∙ (append_assoc r.0 restarted_line (turn_line moment) ∙ ap (λ (t : List ℕ). t ++ (restarted_line ++ turn_line moment)) (sym (append-nil r.0))));
    }
