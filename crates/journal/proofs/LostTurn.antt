-- A turn in which each connection is lost, and no job begins.
use Rattle.std.proofs.Common.{◌≡◌, ◌∙◌, ℕ, zero, suc, max, ◌==◌, Bool, true, false, List, [], ◌∷◌, ◌++◌, sym, ap, subst, arith, append-nil, Option, Some, None}
use Rattle.std.specs.Prelude.{◌⊎◌, count_by, is_some}
use Rattle.std.proofs.lemmas.Bool.{eqb-true}
use Rattle.print_room.specs.State.{State}
use Rattle.wires.specs.Poll.{Poll}
use Rattle.dispatcher.specs.Notes.{Note}
use Rattle.connections.specs.Slots.{broken_at}
use Rattle.recordings.specs.Noting.{NoteState, Notes, EndsTurn, with_note, restarted_line}
use Rattle.server.specs.Polls.{Choice, Happening, Polled, Notified, Chosen, Leads}
use Rattle.server.specs.Ledger.{Ledger}
use Rattle.server.specs.State.{EngineState}
use Rattle.server.specs.Turn.{Trace, Turned, is_due, is_tick_due}
use Rattle.server.specs.Refinement.{Represents, IsAt, RefinesTurn}
use Rattle.server.proofs.ClosedConnections.{not_broken}
use Rattle.journal.specs.Passing.{calls_in, IsLost, AreLost}
use Rattle.journal.specs.Laws.{WaitingStay, BeginsNone, NoneBegins}
use Rattle.journal.specs.File.{AreLines, IsFile}
use Rattle.journal.specs.Resuming.{LosesAll, RestartsAs}
use Rattle.journal.specs.declared.resumption.Resumption.{Resumption}
use Rattle.journal.specs.declared.restarting.Restarted.{Restarted}
use Rattle.journal.proofs.WaitingJobs.{stay_is}
use Rattle.journal.proofs.Lost.{waiting_stay}
use Rattle.journal.proofs.RecordingWire.{Adds, are_added, first_lines, lost_text}
use Rattle.journal.proofs.Played.{filed_after}

-- ---- the happenings of such a turn

-- no job begins at a happening, nor later
none_then : (h : Happening) (hs : List Happening) → ((note : Note) → h ≡ Notified note → BeginsNone note) → NoneBegins hs → NoneBegins (h ∷ hs)
none_then h hs first later note (zero, inside, is) = first note is
none_then h hs first later note (suc k, inside, is) = later note (k, omega (arith, inside), is)

-- there is no happening
none_at_all : NoneBegins []
none_at_all note (k, inside, is) = absurd (omega (arith, inside))

-- the note of a happening
abbrev note_or : Note → Happening → Note
note_or other (Polled poll) = other
note_or other (Notified note) = note
note_or other (Chosen choice) = other

-- a call is no note
no_note : (poll : Poll) (note : Note) → Polled poll ≡ Notified note → BeginsNone note
no_note poll note is = absurd (cc)

-- Where a property of the state after a happening says that it held before, and that the call is lost or no job begins, all calls are lost, and no job begins.
all_lost : {S : Type 0} (moves : S → Happening → S → Type 0) (Good : S → Type 0)
    → ((a : S) (poll : Poll) (b : S) → moves a (Polled poll) b → Good b → Good a × IsLost poll)
    → ((a : S) (note : Note) (b : S) → moves a (Notified note) b → Good b → Good a × BeginsNone note)
    → ((a : S) (choice : Choice) (b : S) → moves a (Chosen choice) b → ⊥)
    → (hs : List Happening) (u v : S) → Leads moves u hs v → Good v → Good u × AreLost (calls_in hs) × NoneBegins hs
all_lost moves Good polls notifies none [] u v leads good = (subst Good leads good, tt, none_at_all)
all_lost moves Good polls notifies none (Polled poll ∷ hs) u v (mid, moved, later) good =
    let rest = all_lost moves Good polls notifies none hs mid v later good in
    let first = polls u poll mid moved rest.0 in
    (first.0, (first.1, rest.1), none_then (Polled poll) hs (no_note poll) rest.2)
all_lost moves Good polls notifies none (Notified note ∷ hs) u v (mid, moved, later) good =
    let rest = all_lost moves Good polls notifies none hs mid v later good in
    let first = notifies u note mid moved rest.0 in
    (first.0, rest.1, none_then (Notified note) hs (λ other same. subst BeginsNone (ap (note_or note) same) first.1) rest.2)
all_lost moves Good polls notifies none (Chosen choice ∷ hs) u v (mid, moved, later) good = absurd (none u choice mid moved)

-- ---- the turn

-- no tick is due for a ledger that represents an engine for which none is due
no_tick : (moment : ℕ) (l : Ledger) (a : EngineState) → Represents l a → is_due (max moment a.core.last) a.ticked a.undispatched ≡ false → is_tick_due moment l ≡ false
no_tick moment l a fits none =
    ap (λ (s : State). is_due (max moment s.last) l.ticked l.undispatched) fits.core
    ∙ (ap (λ (t : Option ℕ). is_due (max moment a.core.last) t l.undispatched) fits.ticked
    ∙ (ap (λ (u : Bool). is_due (max moment a.core.last) a.ticked u) fits.undispatched ∙ none))

-- in such a turn each job that waits stays
lost_stay : {S : Type 0} (moves : S → Happening → S → Type 0) (moment : ℕ) (u : S) (a : EngineState) (v : S) (b : EngineState) → (turn : RefinesTurn moves moment u a v b) → AreLost (calls_in turn.happenings) → NoneBegins turn.happenings
    → is_due (max moment a.core.last) a.ticked a.undispatched ≡ false → ((key : ℕ) → broken_at a.slots key ≡ false) → (l : Ledger) → Represents l a → WaitingStay a.core b.core
lost_stay moves moment u a v b turn lost none not_due whole l fits =
    let t = turn.turns l fits in
    let stay : WaitingStay l.core t.0.core = waiting_stay moment l t.0 turn.happenings (record { turns = t.1; unticked = no_tick moment l a fits not_due }) (λ key is. not_broken l a key fits (whole key) is) lost none in
    subst (λ (s : State). WaitingStay s b.core) fits.core (subst (λ (s : State). WaitingStay l.core s) t.2.core stay)

-- A turn of the engine over a wire that notes each call, in which each connection is lost, with its text: the lines of the calls, then the line of a server that had been restarted, and then the end of the turn.
pub loses_all : {S : Type 0} (moves : S → Happening → S → Type 0) (moment : ℕ) (u : S) (a : EngineState) (v : S) (b : EngineState) → RefinesTurn moves moment u a v b
    → (Good : S → Type 0)
    → ((x : S) (poll : Poll) (y : S) → moves x (Polled poll) y → Good y → Good x × IsLost poll)
    → ((x : S) (note : Note) (y : S) → moves x (Notified note) y → Good y → Good x × BeginsNone note)
    → (notes : S → NoteState)
    → ((x : S) (poll : Poll) (y : S) → moves x (Polled poll) y → Notes poll (notes x) (notes y))
    → ((x : S) (note : Note) (y : S) → moves x (Notified note) y → notes y ≡ notes x)
    → ((x : S) (choice : Choice) (y : S) → moves x (Chosen choice) y → ⊥)
    → notes u ≡ record { lines = Some []; heads = false } → Good v
    → is_due (max moment a.core.last) a.ticked a.undispatched ≡ false → ((key : ℕ) → broken_at a.slots key ≡ false)
    → (count_by is_some b.slots == 0) ≡ true
    → (c d : Option (List ℕ)) → (c ≡ None) ⊎ (c ≡ with_note restarted_line (notes v).lines) → EndsTurn moment false c d → (text : List ℕ) → d ≡ Some text → LosesAll a text b
loses_all moves moment u a v b turn Good lose begin notes polls notifies none empty good not_due whole out c d restarts ends text is =
    let lost = all_lost moves Good lose begin none turn.happenings u v turn.leads good in
    let added : Adds (AreLines (calls_in turn.happenings)) (notes u) (notes v) = are_added moves notes polls notifies none turn.happenings u v turn.leads in
    let are : (lines : List ℕ) → (notes v).lines ≡ Some lines → AreLines (calls_in turn.happenings) lines = first_lines (calls_in turn.happenings) (notes u) (notes v) added empty in
    record {
      moment = moment;
      happenings = turn.happenings;
      are_lost = lost.1;
      unconnected = eqb-true (count_by is_some b.slots) 0 out;
      is_text = lost_text moment (calls_in turn.happenings) (notes v).lines c d are restarts ends text is;
      reaches = turn.reaches;
      waiting = λ l fits. lost_stay moves moment u a v b turn lost.1 lost.2 not_due whole l fits;
    }

-- ---- the start

-- no connection is open: the engine is at the trace of the file
pub restarts_so : (r : Resumption) (restarted : Restarted) → restarted.engine ≡ r.engine → restarted.text.items ≡ [] → restarted.stored.lines ≡ r.stored.lines → (count_by is_some r.engine.slots == 0) ≡ true → RestartsAs r restarted
restarts_so r restarted engine none same out opening file resumed =
    let played = resumed.played in
    let reaches = played.reaches in (
      resumed.is,
      record {
        trace = played.trace;
        lost = [];
        is_file = played.is_file;
        is_longer =
            subst (λ (t : Trace). IsFile t (r.stored.lines ++ restarted.text.items)) (sym (append-nil played.trace))
            (subst (λ (t : List ℕ). IsFile played.trace t) (sym (ap (λ (t : List ℕ). r.stored.lines ++ t) none ∙ append-nil r.stored.lines)) played.is_file);
        reaches = subst (λ (t : Trace). IsAt opening t restarted.engine) (sym (append-nil played.trace)) (subst (λ (e : EngineState). IsAt opening played.trace e) (sym engine) reaches);
        are_lost = tt;
        unconnected = ap (λ (e : EngineState). count_by is_some e.slots) engine ∙ eqb-true (count_by is_some r.engine.slots) 0 out;
        before = reaches.0;
        stood = reaches.1;
        waiting = stay_is reaches.0.core restarted.engine.core (ap (λ (e : EngineState). e.core) engine ∙ sym reaches.2.core);
      },
      same ∙ (sym (append-nil r.stored.lines) ∙ ap (λ (t : List ℕ). r.stored.lines ++ t) (sym none)),
    )

-- each connection is lost
pub restarts_lost : (r : Resumption) (restarted : Restarted) → LosesAll r.engine restarted.text.items restarted.engine → restarted.stored.lines ≡ r.stored.lines ++ restarted.text.items → RestartsAs r restarted
restarts_lost r restarted loses pushed opening file resumed =
    let played = resumed.played in
    let reaches = played.reaches in
    let lost : Trace = Turned loses.moment loses.happenings ∷ [] in (
      resumed.is,
      record {
        trace = played.trace;
        lost = lost;
        is_file = played.is_file;
        is_longer = filed_after loses.moment loses.happenings restarted.text.items loses.is_text played.trace r.stored.lines played.is_file;
        reaches = loses.reaches opening played.trace reaches;
        are_lost = subst (λ (hs : List Happening). AreLost (calls_in hs)) (sym (append-nil loses.happenings)) loses.are_lost;
        unconnected = loses.unconnected;
        before = reaches.0;
        stood = reaches.1;
        waiting = subst (λ (s : State). WaitingStay s restarted.engine.core) (sym reaches.2.core) (loses.waiting reaches.0 reaches.2);
      },
      pushed,
    )
