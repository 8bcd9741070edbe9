-- The results of the calls of a server that plays a trace.
use Rattle.std.proofs.Common.{◌≡◌, ◌<◌, ◌+◌, ℕ, Bool, true, false, All, List, [], ◌∷◌, ◌++◌, length, map, Option, Some, Result, IsOk, refl, sym, ap, ◌∙◌, inl, inr, subst, append_assoc, append-nil}
use Rattle.std.specs.Prelude.{◌||◌}
use Rattle.std.specs.declared.alloc.AllocError.{AllocError}
use Rattle.std.proofs.lemmas.List.{length-append, map-append}
use Rattle.std.proofs.lemmas.List.Elements.{All-append, All-cons, All-nil}
use Rattle.server.specs.Polls.{Happening, Leads, both, alone}
use Rattle.wires.specs.MemoryPeer.{PeerState}
use Rattle.server.specs.Refinement.{RefinesBody}
use Rattle.server.specs.Refinement as Engine
use Rattle.server.specs.Turn.{Action, Turned, Served_body, Outcome}
use Rattle.traces.specs.declared.peers.Connection.{Connection}
use Rattle.replay.specs.declared.play.Play.{Play}
use Rattle.traces.specs.declared.line.Line.{Line}
use Rattle.traces.specs.declared.line.Line.TheVariants as Form
use Rattle.traces.specs.TraceLine.{IsLine, Finds}
use Rattle.traces.specs.declared.wire.TraceWire.{TraceWire}
use Rattle.replay.specs.Acting.{standing, Moves, IsReady, Becomes, TakesActions, TakesTurn, TakesTurns, TakesTillQuiet}
use Rattle.traces.specs.Connections.{connections_text, seen, emptied}
use Rattle.traces.specs.Peers.{Holds}
use Rattle.replay.specs.Log.{LogRecord, LogsNote, happening_text, happenings_text}
use Rattle.replay.specs.Playing.{Standing, Calls, Serves, Turns, Plays, IsReplyLine, most_turns}
use Rattle.traces.specs.Wire.{WirePolls}
use Rattle.replay.specs.Peers.{PeersSee, any_stirs, all_turns}
use Rattle.replay.proofs.Reach.{moves_nothing, moves_then}
use Rattle.replay.proofs.LogObserves.{observed_alone, observed_beside, moved_beside, all_observed, leads_append}

-- ---- calls between turns

-- all notes since were printed
abbrev Printed : LogRecord → List ℕ → LogRecord → Type 0
Printed log observed after = (log.observed ≡ Some observed) × (after ≡ record log { observed = Some [] })

pub serves : (old new : Play) (body line observed text : List ℕ) (answer : Outcome) (log : LogRecord) → IsReady old → RefinesBody (alone LogsNote) old.moment body old.log old.engine log new.engine answer → IsReplyLine answer line → Printed log observed new.log → text ≡ line ++ observed → new.peers.wire.failed ≡ old.peers.wire.failed → standing new ≡ standing old
    → TakesActions old new (λ actions. Serves old.log.texts old.log.names old.moment body actions text × (standing new ≡ standing old))
serves old new body line observed text answer log ready served replies printed is fine still =
    let all = all_observed old.log log new.log served.happenings observed (observed_alone old.log log served.happenings served.leads) ready.silent printed.0 printed.1 in
    record {
      actions = Served_body old.moment body answer served.happenings ∷ [];
      is = (record { answer = answer; line = line; happenings = served.happenings; replies = replies; does = refl; printed = is ∙ ap (λ t. line ++ t) all.0 }, still);
      moves = served.reaches;
      log = all.1;
      prompt = fine ∙ ready.prompt;
    }

pub calls : (old new : Play) (action : List Happening → Action) (observed : List ℕ) (result : Result (Unit {0}) AllocError) (log : LogRecord) → IsReady old → Engine.RefinesCall (alone LogsNote) action old.log old.engine log new.engine result → IsOk result → Printed log observed new.log → new.peers.wire.failed ≡ old.peers.wire.failed → standing new ≡ standing old
    → TakesActions old new (λ actions. Calls old.log.texts old.log.names action actions observed × (standing new ≡ standing old))
calls old new action observed result log ready called good printed fine still =
    let all = all_observed old.log log new.log called.happenings observed (observed_alone old.log log called.happenings called.leads) ready.silent printed.0 printed.1 in
    record {
      actions = action called.happenings ∷ [];
      is = (record { happenings = called.happenings; unrefused = called.ok good; does = refl; printed = all.0 }, still);
      moves = called.reaches;
      log = all.1;
      prompt = fine ∙ ready.prompt;
    }

-- ---- turns

pub took_turn : (old new : Play) (stirred : Bool) (wire : TraceWire) → wire ≡ record old.peers.wire { stirred = false } → Engine.RefinesTurn (both WirePolls LogsNote) old.moment (wire, old.log) old.engine (new.peers.wire, new.log) new.engine → stirred ≡ new.peers.wire.stirred → new.moment ≡ old.moment → new.peers.connections ≡ old.peers.connections → TakesTurn old new stirred
took_turn old new stirred wire begins turned is still same =
    let observed = observed_beside (wire, old.log) (new.peers.wire, new.log) turned.happenings turned.leads in
    let moved = moved_beside (wire, old.log) (new.peers.wire, new.log) turned.happenings turned.leads in
    record {
      turn = turned.happenings;
      is = is ∙ moved.stirred ∙ ap (λ (w : TraceWire). w.stirred || any_stirs turned.happenings) begins;
      sees = λ fine.
          let all = moved.sees fine in
          (ap (λ (w : TraceWire). w.failed) (sym begins) ∙ all.0, subst (λ (w : TraceWire). Leads PeersSee w.memory.peers.items turned.happenings new.peers.wire.memory.peers.items) begins all.1);
      observes = observed.observes;
      log = observed.log;
      moves = turned.reaches;
      moment = still;
      connections = same;
    }

-- the happenings of some turns and of one more
all_more : (turns : List (List Happening)) (turn : List Happening) → all_turns (turns ++ turn ∷ []) ≡ all_turns turns ++ turn
all_more [] turn = append-nil turn
all_more (first ∷ turns) turn = ap (λ hs. first ++ hs) (all_more turns turn) ∙ sym (append_assoc first (all_turns turns) turn)

pub text_more : (texts : Bool) (names : List (List ℕ)) (hs ks : List Happening) → happenings_text texts names (hs ++ ks) ≡ happenings_text texts names hs ++ happenings_text texts names ks
text_more texts names [] ks = refl
text_more texts names (h ∷ hs) ks = ap (λ t. happening_text texts names h ++ t) (text_more texts names hs ks) ∙ sym (append_assoc (happening_text texts names h) (happenings_text texts names hs) (happenings_text texts names ks))

-- one turn more
pub one_more : (old mid new : Play) (turns : List (List Happening)) (stirred : Bool) → TakesTurns old turns mid → (t : TakesTurn mid new stirred) → TakesTurns old (turns ++ t.turn ∷ []) new
one_more old mid new turns stirred all t = record {
  sees = λ fine.
      let one = t.sees fine in
      let before = all.sees one.0 in
      (before.0, subst (λ hs. Leads PeersSee old.peers.wire.memory.peers.items hs new.peers.wire.memory.peers.items) (sym (all_more turns t.turn)) (leads_append PeersSee _ _ _ (all_turns turns) t.turn before.1 one.1));
  observes = λ text is.
      let one = t.observes text is in
      let before = all.observes one.0 one.1 in
      let named : happenings_text mid.log.texts mid.log.names t.turn ≡ happenings_text old.log.texts old.log.names t.turn = ap (λ (l : LogRecord). happenings_text l.texts l.names t.turn) all.log in (
        before.0,
        before.1,
        one.2 ∙ ap (λ b. b ++ happenings_text mid.log.texts mid.log.names t.turn) before.2 ∙ append_assoc before.0 (happenings_text old.log.texts old.log.names (all_turns turns)) _
            ∙ ap (λ b. before.0 ++ (happenings_text old.log.texts old.log.names (all_turns turns) ++ b)) named
            ∙ ap (λ b. before.0 ++ b) (sym (text_more old.log.texts old.log.names (all_turns turns) t.turn) ∙ ap (happenings_text old.log.texts old.log.names) (sym (all_more turns t.turn))),
      );
  log = t.log ∙ ap (λ (l : LogRecord). record l { observed = new.log.observed }) all.log;
  moves = subst (λ ds. Moves old.engine ds new.engine) (sym (map-append (Turned old.moment) turns (t.turn ∷ [])))
      (moves_then old.engine mid.engine new.engine (map (Turned old.moment) turns) (Turned old.moment t.turn ∷ []) all.moves (subst (λ m. Moves mid.engine (Turned m t.turn ∷ []) new.engine) all.moment t.moves));
  moment = t.moment ∙ all.moment;
  connections = t.connections ∙ all.connections;
}

-- turns were taken, in each of which a poll came to something
pub record AreBusy (old new : Play) (count : ℕ) : Type 0 where
  pub turns : List (List Happening)
  pub each : All (λ turn. any_stirs turn ≡ true) turns
  pub number : length turns ≡ count
  pub takes : TakesTurns old turns new

pub one_busy : (old mid new : Play) (count after : ℕ) (stirred : Bool) → AreBusy old mid count → TakesTurn mid new stirred → stirred ≡ true → after ≡ count + 1 → AreBusy old new after
one_busy old mid new count after stirred busy t is next = record {
  turns = busy.turns ++ t.turn ∷ [];
  each = All-append (λ turn. any_stirs turn ≡ true) busy.turns (t.turn ∷ []) busy.each (All-cons (λ turn. any_stirs turn ≡ true) t.turn [] (sym t.is ∙ is) (All-nil (λ turn. any_stirs turn ≡ true)));
  number = length-append busy.turns (t.turn ∷ []) ∙ ap (λ n. n + 1) busy.number ∙ sym next;
  takes = one_more old mid new busy.turns stirred busy.takes t;
}

-- turns with an answer other than Waiting, and then a turn without such an answer
pub till_quiet : (old mid new : Play) (count : ℕ) (stirred : Bool) → AreBusy old mid count → TakesTurn mid new stirred → stirred ≡ false → count < most_turns → TakesTillQuiet old new
till_quiet old mid new count stirred busy t is below = (
  busy.turns ++ t.turn ∷ [],
  record { busy = busy.turns; each = busy.each; ends = inl (t.turn, sym t.is ∙ is, subst (λ n. n < most_turns) (sym busy.number) below, refl) },
  one_more old mid new busy.turns stirred busy.takes t,
)

-- the most turns, each with an answer other than Waiting
pub till_most : (old new : Play) (count : ℕ) → AreBusy old new count → count ≡ most_turns → TakesTillQuiet old new
till_most old new count busy most = (busy.turns, record { busy = busy.turns; each = busy.each; ends = inr (busy.number ∙ most, refl) }, busy.takes)

-- the text printed for turns
pub ran : (old mid new : Play) (observed text : List ℕ) → IsReady old → TakesTillQuiet old mid → mid.peers.wire.failed ≡ false → Printed mid.log observed new.log → text ≡ observed ++ connections_text mid.peers.wire.memory.peers.items mid.peers.connections.items
    → new.peers.connections.items ≡ map (seen mid.peers.wire.memory.peers.items) mid.peers.connections.items → new.peers.wire.memory.peers.items ≡ map emptied mid.peers.wire.memory.peers.items → new.engine ≡ mid.engine → new.moment ≡ mid.moment → new.peers.wire.failed ≡ mid.peers.wire.failed
    → TakesActions old new (λ actions. Turns old.log.texts old.log.names (standing old) actions text (standing new))
ran old mid new observed text ready (turns, till, takes) fine printed is marked cleared engine moment prompt =
    let peers : List PeerState = mid.peers.wire.memory.peers.items in
    let same : mid.peers.connections.items ≡ old.peers.connections.items = ap (λ cs. cs.items) takes.connections in
    let notified = takes.observes observed printed.0 in
    let empty : notified.0 ≡ [] = some_is notified.0 (sym notified.1 ∙ ready.silent) in
    record {
      actions = map (Turned old.moment) turns;
      is = record {
        turns = turns;
        till = till;
        peers = peers;
        sees = (takes.sees fine).1;
        does = refl;
        printed = is ∙ ap (λ h. h ++ connections_text peers mid.peers.connections.items) (notified.2 ∙ ap (λ b. b ++ happenings_text old.log.texts old.log.names (all_turns turns)) empty) ∙ ap (λ cs. happenings_text old.log.texts old.log.names (all_turns turns) ++ connections_text peers cs) same;
        after = reaches new.moment old.moment new.peers.connections.items (map (seen peers) old.peers.connections.items) new.peers.wire.memory.peers.items (map emptied peers) (moment ∙ takes.moment) (marked ∙ ap (map (seen peers)) same) cleared;
      };
      moves = subst (λ e. Moves old.engine (map (Turned old.moment) turns) e) (sym engine) takes.moves;
      log = printed.1 ∙ ap (λ (l : LogRecord). record l { observed = Some [] }) takes.log ∙ ap (λ (o : Option (List ℕ)). record old.log { observed = o }) (sym ready.silent);
      prompt = prompt ∙ fine;
    }
  where
    some_is : (text : List ℕ) → Some text ≡ Some [] → text ≡ []
    some_is text e = cc e

    reaches : (m n : ℕ) (cs ds : List Connection) (ps qs : List PeerState) → m ≡ n → cs ≡ ds → ps ≡ qs → ◌≡◌ {A = Standing} (record { moment = m; connections = cs; peers = ps }) (record { moment = n; connections = ds; peers = qs })
    reaches m n cs ds ps qs em ec ep = rw (em, ec, ep) refl

-- a change of connections alone comes before
pub from_here : (old mid new : Play) (s : Standing) (text : List ℕ) → Becomes old mid s → TakesActions mid new (λ actions. Turns mid.log.texts mid.log.names (standing mid) actions text (standing new)) → TakesActions old new (λ actions. Turns old.log.texts old.log.names s actions text (standing new))
from_here old mid new s text is does = record {
  actions = does.actions;
  is = subst (λ t. Turns old.log.texts old.log.names t does.actions text (standing new)) is.reaches (subst (λ (l : LogRecord). Turns l.texts l.names (standing mid) does.actions text (standing new)) is.log does.is);
  moves = subst (λ e. Moves e does.actions new.engine) is.engine does.moves;
  log = does.log ∙ is.log;
  prompt = does.prompt;
}

pub still_ready : (old mid : Play) (s : Standing) → Becomes old mid s → IsReady old → IsReady mid
still_ready old mid s is ready = record { silent = ap (λ (l : LogRecord). l.observed) is.log ∙ ready.silent; prompt = is.prompt ∙ ready.prompt }

-- the connections and their peers changed
pub becomes : (old mid : Play) (s : Standing) → Holds s.connections s.peers old.peers.wire.failed mid.peers → mid.engine ≡ old.engine → mid.log ≡ old.log → mid.moment ≡ s.moment → Becomes old mid s
becomes old mid s holds engine log moment = record { engine = engine; log = log; prompt = holds.failed; reaches = rw (moment, holds.connections, holds.peers) refl }

-- the moment is notified
pub printed_moment : (old new : Play) (line : Line) (moment : ℕ) (text : List ℕ) → IsReady old → line ≡ Form.At moment → text ≡ [] → new.engine ≡ old.engine → new.log ≡ old.log → new.peers.wire.failed ≡ old.peers.wire.failed → standing new ≡ record (standing old) { moment = moment }
    → TakesActions old new (λ actions. Plays old.log.texts old.log.names line (standing old) actions text (standing new))
printed_moment old new line moment text ready is none engine log fine reaches = record {
  actions = [];
  is = subst (λ l. Plays old.log.texts old.log.names l (standing old) [] text (standing new)) (sym is) (refl, none, reaches);
  moves = subst (λ e. Moves old.engine [] e) (sym engine) (moves_nothing old.engine);
  log = log;
  prompt = fine ∙ ready.prompt;
}

-- the line that was found
pub found_line : (names named : List (List ℕ)) (text : List ℕ) (found : Option Line) (line : Line) → Finds (IsLine named text) found → found ≡ Some line → named ≡ names → IsLine names text line
found_line names named text found line finds is same = subst (λ ns. IsLine ns text line) same (subst (λ f. Finds (IsLine named text) f) is finds)
