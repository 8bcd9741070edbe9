-- The notes of a server with a journal are the file of its engine's trace.
use Rattle.std.proofs.Common.{◌≡◌, arith, ℕ, Bool, true, false, List, [], ◌∷◌, ◌++◌, ◌∙◌, refl, sym, ap, subst, append_assoc, append-nil, length, length-append, max, nat_lt, if◌then◌else◌, Option, Some, None, inl, inr}
use Rattle.std.specs.Prelude.{Contains, is_some}
use Rattle.std.proofs.lemmas.Option.{none-some, same_Some}
use Rattle.wires.specs.declared.wire.Progress.TheVariants.{Done, Waiting, End, Fault}
use Rattle.wires.specs.Poll.{Poll, Accepts, Reads, Writes, Closes}
use Rattle.print_room.specs.State.{State}
use Rattle.recordings.specs.Lines.{turn_line, came_line, read_line, octets_line}
use Rattle.recordings.specs.Noting.{NoteState, NotesLine, note_of, with_note, are_comments}
use Rattle.server.specs.Polls.{Happening, Polled, Notified, Chosen}
use Rattle.server.specs.Ledger.{Ledger}
use Rattle.server.specs.State.{EngineState}
use Rattle.server.specs.Turn.{Trace, Turned, is_due, is_tick_due}
use Rattle.server.specs.Refinement.{Represents, IsAt}
use Rattle.journal.specs.declared.gate.Pass.{Pass}
use Rattle.journal.specs.declared.gate.Pass.TheVariants.{Outward}
use Rattle.journal.specs.Passing.{calls_in, IsIdle, IsQuiet, AreOutward}
use Rattle.journal.specs.Laws.{TurnsUnticked, AreDue}
use Rattle.journal.specs.File.{AreLines, IsTurnText, IsFile}
use Rattle.daemon.specs.declared.serving.Server.{Server}
use Rattle.daemon.specs.Serving.{calls_of, AreNoted, HasNoNote, TakesTurn, Idles, Rests, ServesTurn}
use Rattle.daemon.specs.Journaling.{IsFiled, KeepsFiled, FilesTurn, NotesEnd, SendsStored}

-- what was before a line, if lines are kept afterwards
before_line : (line : List ℕ) (noted : Option (List ℕ)) (now : List ℕ) → with_note line noted ≡ Some now → (before : List ℕ) × (noted ≡ Some before) × (now ≡ before ++ line)
before_line line None now is = absurd (none-some now is)
before_line line (Some before) now is = (before, refl, sym (same_Some (before ++ line) now is))

-- a call was noted if lines are kept afterwards
noted_line : (poll : Poll) (old new : Option (List ℕ)) → NotesLine poll old new → (now : List ℕ) → new ≡ Some now → (sum : Option ℕ) × (before : List ℕ) × (old ≡ Some before) × (now ≡ before ++ note_of poll sum)
noted_line poll old new (inl none) now is = absurd (none-some now (sym none ∙ is))
noted_line poll old new (inr (sum, added)) now is =
    let b = before_line (note_of poll sum) old now (sym added ∙ is) in (sum, b.0, b.1, b.2)

-- The notes of these calls were added. If lines are kept now, they were kept before.
pub record Adds (polls : List Poll) (old new : NoteState) : Type 0 where
  pub heads : new.heads ≡ old.heads
  pub added : old.heads ≡ false → (now : List ℕ) → new.lines ≡ Some now → (before : List ℕ) × (more : List ℕ) × (old.lines ≡ Some before) × (now ≡ before ++ more) × AreLines polls more

pub are_added : (polls : List Poll) (a b : NoteState) → AreNoted polls a b → Adds polls a b
are_added [] a b same = record {
  heads = ap (λ (n : NoteState). n.heads) same;
  added = λ whole now is. (now, [], sym (ap (λ (n : NoteState). n.lines) same) ∙ is, sym (append-nil now), refl);
}
are_added (poll ∷ polls) a c (b, first, later) =
    let rest = are_added polls b c later in
    record {
      heads = rest.heads ∙ first.0;
      added = λ whole now is.
          let l = rest.added (first.0 ∙ whole) now is in
          let f = noted_line poll a.lines b.lines (first.1 whole) l.0 l.2 in
          (f.1, note_of poll f.0 ++ l.1, f.2, l.3 ∙ (ap (λ (t : List ℕ). t ++ l.1) f.3 ∙ append_assoc f.1 (note_of poll f.0) l.1), (f.0, l.1, refl, l.4));
    }

-- the end of a turn was noted, if lines are kept afterwards
noted_end : (moment : ℕ) (old new : NoteState) → NotesEnd moment old new → (now : List ℕ) → new.lines ≡ Some now
    → (before : List ℕ) × (comments : List ℕ) × (are_comments comments ≡ true) × (old.lines ≡ Some before) × (now ≡ before ++ (comments ++ turn_line moment))
noted_end moment old new (heads, inl none) now is = absurd (none-some now (sym none ∙ is))
noted_end moment old new (heads, inr (comments, are, added)) now is =
    let b = before_line (comments ++ turn_line moment) old.lines now (sym added ∙ is) in (b.0, comments, are, b.1, b.2)

-- the text of a turn, of its parts
text_of : (moment : ℕ) (polls : List Poll) (lines comments : List ℕ) → AreLines polls lines → are_comments comments ≡ true → IsTurnText moment polls (lines ++ (comments ++ turn_line moment))
text_of moment polls lines comments are fact = record {
  lines = lines;
  comments = comments;
  restarted = false;
  are_lines = are;
  are_comments = fact;
  whole = sym (append_assoc lines comments (turn_line moment));
}

-- the law that a turn's text after a file is the file of a longer trace
abbrev pub Grows : Type 0
Grows = (trace : Trace) (file : List ℕ) (moment : ℕ) (hs : List Happening) (text : List ℕ) → IsFile trace file → IsTurnText moment (calls_in hs) text → IsFile (trace ++ Turned moment hs ∷ []) (file ++ text)

-- a turn that is noted with its end
pub files_noted : Grows → (pass : Pass) (moment : ℕ) (notified : Bool) (a b c d : Server) → TakesTurn pass moment notified a b → Rests b c → Idles c d → NotesEnd moment c.wire.notes d.wire.notes → FilesTurn a d
files_noted grows pass moment notified a b c d turn rests idles ends stored opening trace filed =
    let hs = turn.happenings in
    let adds = are_added (calls_in hs) a.wire.notes b.wire.notes turn.notes in
    let same : d.engine ≡ b.engine = idles.0 ∙ rests.0.0 in (
      Turned moment hs ∷ [],
      record {
        journaled = idles.2 ∙ (rests.0.2 ∙ (turn.journaled ∙ filed.journaled));
        whole = ends.0 ∙ (ap (λ (n : NoteState). n.heads) rests.1 ∙ (adds.heads ∙ filed.whole));
        reaches = subst (λ (e : EngineState). IsAt opening (trace ++ Turned moment hs ∷ []) e) (sym same) (turn.reaches opening trace filed.reaches);
        file = λ now is.
            let e = noted_end moment c.wire.notes d.wire.notes ends now is in
            let l = adds.added filed.whole e.0 (sym (ap (λ (n : NoteState). n.lines) rests.1) ∙ e.3) in
            let text : List ℕ = l.1 ++ (e.1 ++ turn_line moment) in
            let all : now ≡ l.0 ++ text = e.4 ∙ (ap (λ (t : List ℕ). t ++ (e.1 ++ turn_line moment)) l.3 ∙ append_assoc l.0 l.1 (e.1 ++ turn_line moment)) in
            subst (λ (t : List ℕ). IsFile (trace ++ Turned moment hs ∷ []) t) (append_assoc stored l.0 text ∙ ap (λ (t : List ℕ). stored ++ t) (sym all))
            (grows trace (stored ++ l.0) moment hs text (filed.file l.0 l.2) (text_of moment (calls_in hs) l.1 e.1 l.4 e.2));
      },
    )

-- ---- a turn in which nothing happens

-- a list that has no element is empty
no_element : (xs : List ℕ) → length xs ≡ 0 → xs ≡ []
no_element [] is = refl
no_element (x ∷ xs) is = absurd (omega arith)

-- bytes are none if there are no more bytes with them than without
no_more : (before more now : List ℕ) → now ≡ before ++ more → length now ≡ length before → more ≡ []
no_more before more now is same =
    let long : length now ≡ length (before ++ more) = ap (λ (t : List ℕ). length t) is in
    no_element more (omega (arith, length-append before more))

-- the first of two lists that are empty together is empty, and the second, too
first_none : (xs ys : List ℕ) → xs ++ ys ≡ [] → (xs ≡ []) × (ys ≡ [])
first_none [] ys is = (refl, is)
first_none (x ∷ xs) ys is = absurd cc

-- one of two texts is none
neither : (b : Bool) (x y : List ℕ) → (x ≡ [] → ⊥) → (y ≡ [] → ⊥) → (if b then x else y) ≡ [] → ⊥
neither true x y first second is = first is
neither false x y first second is = second is

-- bytes that are read are noted
came_noted : (id : ℕ) (bytes : List ℕ) → came_line id bytes ≡ [] → ⊥
came_noted id bytes is = neither (nat_lt (length bytes) 256) (read_line id bytes) (octets_line id bytes) (λ none. cc) (λ none. cc) is

-- a call without a line is idle
one_idle : (poll : Poll) (sum : Option ℕ) → note_of poll sum ≡ [] → IsIdle poll
one_idle (Accepts door (Done id)) sum is = cc
one_idle (Accepts door Waiting) sum is = tt
one_idle (Accepts door End) sum is = tt
one_idle (Accepts door Fault) sum is = tt
one_idle (Reads id (Done bytes)) sum is = absurd (came_noted id bytes is)
one_idle (Reads id Waiting) sum is = refl
one_idle (Reads id End) sum is = absurd cc
one_idle (Reads id Fault) sum is = absurd cc
one_idle (Writes id offered (Done count)) sum is = absurd cc
one_idle (Writes id offered Waiting) sum is = refl
one_idle (Writes id offered End) sum is = absurd cc
one_idle (Writes id offered Fault) sum is = absurd cc
one_idle (Closes id) sum is = cc

-- a turn without lines of which the observer is notified nothing is quiet
are_quiet : (hs : List Happening) (lines : List ℕ) → AreLines (calls_in hs) lines → lines ≡ [] → HasNoNote hs → IsQuiet hs
are_quiet [] lines are none unnotified = tt
are_quiet (Polled poll ∷ hs) lines (sum, rest, is, later) none unnotified =
    let both = first_none (note_of poll sum) rest (sym is ∙ none) in
    (one_idle poll sum both.0, are_quiet hs rest later both.1 unnotified)
are_quiet (Notified note ∷ hs) lines are none unnotified = absurd unnotified
are_quiet (Chosen choice ∷ hs) lines are none unnotified = are_quiet hs lines are none unnotified

same_due : (moment : ℕ) (l : Ledger) (a : EngineState) → Represents l a → is_tick_due moment l ≡ is_due (max moment a.core.last) a.ticked a.undispatched
same_due moment l a fits =
    ap (λ (s : State). is_due (max moment s.last) l.ticked l.undispatched) fits.core
    ∙ (ap (λ (t : Option ℕ). is_due (max moment a.core.last) t l.undispatched) fits.ticked
    ∙ ap (λ (t : Bool). is_due (max moment a.core.last) a.ticked t) fits.undispatched)

-- a turn in which no tick is due, on ledgers
pub unticked : (pass : Pass) (moment : ℕ) (notified : Bool) (a b : Server) (turn : TakesTurn pass moment notified a b) → is_due (max moment a.engine.core.last) a.engine.ticked a.engine.undispatched ≡ false
    → (l : Ledger) → Represents l a.engine → (l' : Ledger) × TurnsUnticked moment l turn.happenings l' × Represents l' b.engine
unticked pass moment notified a b turn none l fits =
    let r = turn.turns l fits in
    (r.0, record { turns = r.1; unticked = same_due moment l a.engine fits ∙ none }, r.2)

-- the law of turns in which nothing happens
abbrev pub Quiets : Type 0
Quiets = (moment : ℕ) (old new : Ledger) (hs : List Happening) → TurnsUnticked moment old hs new → IsQuiet hs → new ≡ old

-- what is at a trace and keeps no lines is filed
lost_lines : (opening : State) (trace : Trace) (d : Server) (stored : List ℕ) → d.journaled ≡ true → d.wire.notes.heads ≡ false → IsAt opening trace d.engine → d.wire.notes.lines ≡ None → IsFiled opening trace d stored
lost_lines opening trace d stored journaled whole reaches none = record {
  journaled = journaled;
  whole = whole;
  reaches = reaches;
  file = λ now is. absurd (none-some now (sym none ∙ is));
}

-- a turn that isn't noted, by the lines that are kept afterwards
none_filed : Quiets → (pass : Pass) (moment : ℕ) (notified : Bool) (before after : ℕ) (a b c : Server) → TakesTurn pass moment notified a b → Rests b c
    → is_due (max moment a.engine.core.last) a.engine.ticked a.engine.undispatched ≡ false → notified ≡ false
    → ((text : List ℕ) → a.wire.notes.lines ≡ Some text → before ≡ length text) → ((text : List ℕ) → c.wire.notes.lines ≡ Some text → after ≡ length text) → after ≡ before
    → (stored : List ℕ) (opening : State) (trace : Trace) → IsFiled opening trace a stored → (o : Option (List ℕ)) → c.wire.notes.lines ≡ o → (more : Trace) × IsFiled opening (trace ++ more) c stored
none_filed quiets pass moment notified before after a b c turn rests none unnotified was is same stored opening trace filed None lines =
    let hs = turn.happenings in
    let adds = are_added (calls_in hs) a.wire.notes b.wire.notes turn.notes in (
      Turned moment hs ∷ [],
      lost_lines opening (trace ++ Turned moment hs ∷ []) c stored
          (rests.0.2 ∙ (turn.journaled ∙ filed.journaled)) (ap (λ (n : NoteState). n.heads) rests.1 ∙ (adds.heads ∙ filed.whole))
          (subst (λ (e : EngineState). IsAt opening (trace ++ Turned moment hs ∷ []) e) (sym rests.0.0) (turn.reaches opening trace filed.reaches)) lines,
    )
none_filed quiets pass moment notified before after a b c turn rests none unnotified was is same stored opening trace filed (Some now) lines =
    let hs = turn.happenings in
    let adds = are_added (calls_in hs) a.wire.notes b.wire.notes turn.notes in
    let l = adds.added filed.whole now (sym (ap (λ (n : NoteState). n.lines) rests.1) ∙ lines) in
    let empty : l.1 ≡ [] = no_more l.0 l.1 now l.3 (sym (is now lines) ∙ (same ∙ was l.0 l.2)) in
    let quiet = are_quiet hs l.1 l.4 empty (turn.unnotified unnotified) in
    let stood = filed.reaches in
    let r = unticked pass moment notified a b turn none stood.0 stood.2 in
    let back : r.0 ≡ stood.0 = quiets moment stood.0 r.0 hs r.1 quiet in
    let fits : Represents stood.0 c.engine = subst (λ (e : EngineState). Represents stood.0 e) (sym rests.0.0) (subst (λ (x : Ledger). Represents x b.engine) back r.2) in
    let kept : now ≡ l.0 = l.3 ∙ (ap (λ (t : List ℕ). l.0 ++ t) empty ∙ append-nil l.0) in (
      [],
      subst (λ (t : Trace). IsFiled opening t c stored) (sym (append-nil trace)) (record {
        journaled = rests.0.2 ∙ (turn.journaled ∙ filed.journaled);
        whole = ap (λ (n : NoteState). n.heads) rests.1 ∙ (adds.heads ∙ filed.whole);
        reaches = (stood.0, stood.1, fits);
        file = λ text fact. subst (λ (t : List ℕ). IsFile trace (stored ++ t)) (sym kept ∙ same_Some now text (sym lines ∙ fact)) (filed.file l.0 l.2);
      }),
    )

-- a turn that isn't noted
pub files_none : Quiets → (pass : Pass) (moment : ℕ) (notified : Bool) (before after : ℕ) (a b c : Server) → TakesTurn pass moment notified a b → Rests b c
    → is_due (max moment a.engine.core.last) a.engine.ticked a.engine.undispatched ≡ false → notified ≡ false
    → ((text : List ℕ) → a.wire.notes.lines ≡ Some text → before ≡ length text) → ((text : List ℕ) → c.wire.notes.lines ≡ Some text → after ≡ length text) → after ≡ before → FilesTurn a c
files_none quiets pass moment notified before after a b c turn rests none unnotified was is same stored opening trace filed =
    none_filed quiets pass moment notified before after a b c turn rests none unnotified was is same stored opening trace filed c.wire.notes.lines refl

-- a server that rests
pub rested : (opening : State) (trace : Trace) (a b : Server) (stored : List ℕ) → Rests a b → IsFiled opening trace a stored → IsFiled opening trace b stored
rested opening trace a b stored rests filed = record {
  journaled = rests.0.2 ∙ filed.journaled;
  whole = ap (λ (n : NoteState). n.heads) rests.1 ∙ filed.whole;
  reaches = subst (λ (e : EngineState). IsAt opening trace e) (sym rests.0.0) filed.reaches;
  file = λ now is. filed.file now (sym (ap (λ (n : NoteState). n.lines) rests.1) ∙ is);
}

-- before the turn the server rests
pub files_after : (a b c : Server) → Rests a b → FilesTurn b c → FilesTurn a c
files_after a b c rests files stored opening trace filed = files stored opening trace (rested opening trace a b stored rests filed)

-- ---- what is sent

-- the law of what is sent in a turn in which nothing comes
abbrev pub Sends : Type 0
Sends = (moment : ℕ) (old new : Ledger) (hs : List Happening) → TurnsUnticked moment old hs new → AreOutward (calls_in hs) → AreDue old (calls_in hs)

-- what is stored is the file of the trace if no line is kept back
all_stored : (opening : State) (trace : Trace) (a : Server) (stored : List ℕ) → a.wire.notes.lines ≡ Some [] → IsFiled opening trace a stored → IsFile trace stored
all_stored opening trace a stored none filed = subst (λ (t : List ℕ). IsFile trace t) (append-nil stored) (filed.file [] none)

-- a turn in which nothing comes, once no line is kept back
pub sends_stored : Sends → (moment : ℕ) (a d : Server) (stored : List ℕ) → a.wire.notes.lines ≡ Some [] → is_due (max moment a.engine.core.last) a.engine.ticked a.engine.undispatched ≡ false → ServesTurn Outward moment a d → SendsStored a stored d
sends_stored sends moment a d stored none due (notified, b, turn, idles, lines) = record {
  happenings = turn.happenings;
  calls = idles.1 ∙ turn.calls;
  decided = λ opening trace filed.
      let stood = filed.reaches in
      let r = unticked Outward moment notified a b turn due stood.0 stood.2 in
      (all_stored opening trace a stored none filed, (stood.0, stood.1, sends moment stood.0 r.0 turn.happenings r.1 turn.are_passed));
}

-- an empty list contains nothing
no_place : {A : Type 0} {x : A} → Contains [] x → ⊥
no_place (place, inside, is) = absurd (omega arith)

-- no turn is taken
pub sends_nothing : (a : Server) (stored : List ℕ) → a.wire.notes.lines ≡ Some [] → SendsStored a stored a
sends_nothing a stored none = record {
  happenings = [];
  calls = sym (append-nil (calls_of a));
  decided = λ opening trace filed. (all_stored opening trace a stored none filed, (filed.reaches.0, filed.reaches.1, λ id offered count is. absurd (no_place is)));
}

-- the server rests afterwards
pub sends_then : (a b c : Server) (stored : List ℕ) → SendsStored a stored b → Rests b c → SendsStored a stored c
sends_then a b c stored sends rests = record { happenings = sends.happenings; calls = rests.0.1 ∙ sends.calls; decided = sends.decided }

pub files_then : (a b c : Server) → FilesTurn a b → Rests b c → FilesTurn a c
files_then a b c files rests stored opening trace filed =
    let f = files stored opening trace filed in
    (f.0, rested opening (trace ++ f.0) b c stored rests f.1)

-- ---- lists of turns

pub keeps_then : (a b c : Server) (x y z : List ℕ) → KeepsFiled a x b y → KeepsFiled b y c z → KeepsFiled a x c z
keeps_then a b c x y z first second opening trace filed =
    let f = first opening trace filed in
    let g = second opening (trace ++ f.0) f.1 in
    (f.0 ++ g.0, subst (λ (t : Trace). IsFiled opening t c z) (append_assoc trace f.0 g.0) g.1)

-- the kept lines are stored
pub keeps_stored : (a b : Server) (stored stored' kept : List ℕ) → Idles a b → b.wire.notes.heads ≡ a.wire.notes.heads → a.wire.notes.lines ≡ Some kept → b.wire.notes.lines ≡ Some [] → stored' ≡ stored ++ kept → KeepsFiled a stored b stored'
keeps_stored a b stored stored' kept idles heads lines none is opening trace filed = (
  [],
  subst (λ (t : Trace). IsFiled opening t b stored') (sym (append-nil trace)) (record {
    journaled = idles.2 ∙ filed.journaled;
    whole = heads ∙ filed.whole;
    reaches = subst (λ (e : EngineState). IsAt opening trace e) (sym idles.0) filed.reaches;
    file = λ now fact. subst (λ (t : List ℕ). IsFile trace t) (sym is ∙ (sym (append-nil stored') ∙ ap (λ (t : List ℕ). stored' ++ t) (same_Some [] now (sym none ∙ fact)))) (filed.file kept lines);
  }),
)

-- lines that are kept
pub kept_lines : (o : Option (List ℕ)) → is_some o ≡ true → (kept : List ℕ) × (o ≡ Some kept)
kept_lines (Some kept) is = (kept, refl)
kept_lines None is = absurd cc

-- nothing is stored and the server rests
pub keeps_same : (a b : Server) (x y : List ℕ) → Rests a b → y ≡ x → KeepsFiled a x b y
keeps_same a b x y rests is opening trace filed = ([], subst (λ (t : Trace). IsFiled opening t b y) (sym (append-nil trace)) (subst (λ (t : List ℕ). IsFiled opening trace b t) (sym is) (rested opening trace a b x rests filed)))

-- a turn and what is stored after it
pub files_keep : (a b c : Server) (x y : List ℕ) → FilesTurn a b → KeepsFiled b x c y → KeepsFiled a x c y
files_keep a b c x y files keeps = keeps_then a b c x x y (files x) keeps

-- a turn after what is stored
pub keep_files : (a b c : Server) (x y : List ℕ) → KeepsFiled a x b y → FilesTurn b c → KeepsFiled a x c y
keep_files a b c x y keeps files = keeps_then a b c x y y keeps (files y)
