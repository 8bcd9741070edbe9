-- The calls of a turn are those of the wire, and each is noted; lines may follow.
use Rattle.std.proofs.Common.{◌≡◌, ◌&&◌, ℕ, Bool, true, false, List, [], ◌∷◌, ◌++◌, ◌∙◌, refl, sym, ap, subst, append_assoc, Option, Some, None, inl, inr}
use Rattle.wires.specs.Poll.{Poll}
use Rattle.dispatcher.specs.Notes.{Note}
use Rattle.recordings.specs.Noting.{NoteState, Notes, with_note, end_of, EndsTurn}
use Rattle.server.specs.Polls.{Choice, Happening, Polled, Notified, Chosen, Leads}
use Rattle.journal.specs.Passing.{calls_in}
use Rattle.daemon.specs.Serving.{AreNoted, AddsLines}
use Rattle.daemon.specs.Journaling.{AddsComments, NotesEnd}

-- each call of these happenings is noted, where each poll is noted
pub are_noted : {S : Type 0} (moves : S → Happening → S → Type 0) (notes : S → NoteState)
    → ((a : S) (poll : Poll) (b : S) → moves a (Polled poll) b → Notes poll (notes a) (notes b))
    → ((a : S) (note : Note) (b : S) → moves a (Notified note) b → notes b ≡ notes a)
    → ((a : S) (choice : Choice) (b : S) → moves a (Chosen choice) b → ⊥)
    → (hs : List Happening) (u v : S) → Leads moves u hs v → AreNoted (calls_in hs) (notes u) (notes v)
are_noted moves notes polls notifies none [] u v leads = ap notes leads
are_noted moves notes polls notifies none (Polled poll ∷ hs) u v (mid, moved, later) = (notes mid, polls u poll mid moved, are_noted moves notes polls notifies none hs mid v later)
are_noted moves notes polls notifies none (Notified note ∷ hs) u v (mid, moved, later) = subst (λ (x : NoteState). AreNoted (calls_in hs) x (notes v)) (notifies u note mid moved) (are_noted moves notes polls notifies none hs mid v later)
are_noted moves notes polls notifies none (Chosen choice ∷ hs) u v (mid, moved, later) = absurd (none u choice mid moved)

abbrev Is : Bool → Type 0
Is true = Unit {0}
Is false = ⊥

pub true-false : true ≡ false → ⊥
true-false is = subst Is is tt

with_more : (one more : List ℕ) (noted : Option (List ℕ)) → with_note more (with_note one noted) ≡ with_note (one ++ more) noted
with_more one more None = refl
with_more one more (Some text) = ap Some (append_assoc text one more)

-- comments, and then the end of a turn
pub lines_then : (moment : ℕ) (refused : Bool) (a b c : NoteState) → AddsComments a b → EndsTurn moment refused b.lines c.lines → AddsLines a c
lines_then moment refused a b c before (inl none) = inl none
lines_then moment refused a b c (heads, inl none) (inr is) = inl (is ∙ ap (λ (o : Option (List ℕ)). with_note (end_of moment refused) o) none)
lines_then moment refused a b c (heads, inr (comments, are, added)) (inr is) =
    inr (comments ++ end_of moment refused, is ∙ (ap (λ (o : Option (List ℕ)). with_note (end_of moment refused) o) added ∙ with_more comments (end_of moment refused) a.lines))

-- the same where no memory was refused
pub comments_then : (moment : ℕ) (a b c : NoteState) → AddsComments a b → c.heads ≡ b.heads → EndsTurn moment false b.lines c.lines → NotesEnd moment a c
comments_then moment a b c before same (inl none) = (same ∙ before.0, inl none)
comments_then moment a b c (heads, inl none) same (inr is) = (same ∙ heads, inl (is ∙ ap (λ (o : Option (List ℕ)). with_note (end_of moment false) o) none))
comments_then moment a b c (heads, inr (comments, are, added)) same (inr is) =
    (same ∙ heads, inr (comments, are, is ∙ (ap (λ (o : Option (List ℕ)). with_note (end_of moment false) o) added ∙ with_more comments (end_of moment false) a.lines)))

-- the same in a journal, where memory that was refused would have ended the notes
pub journal_then : (moment : ℕ) (refused journaled lost : Bool) (a b c : NoteState) → lost ≡ (refused && journaled) → lost ≡ false → AddsComments a b → c.heads ≡ b.heads → EndsTurn moment refused b.lines c.lines → journaled ≡ true → NotesEnd moment a c
journal_then moment false journaled lost a b c is none before same ends kept = comments_then moment a b c before same ends
journal_then moment true journaled lost a b c is none before same ends kept = absurd (true-false (sym (is ∙ kept) ∙ none))
