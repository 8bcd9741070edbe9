-- Turns of a server, one after the other.
use Rattle.std.proofs.Common.{◌≡◌, ℕ, Bool, List, [], ◌∷◌, ◌++◌, ◌∙◌, refl, sym, ap, subst, append_assoc, append-nil, Option, Some, None, inr}
use Rattle.wires.specs.Poll.{Poll}
use Rattle.print_room.specs.State.{State}
use Rattle.recordings.specs.Noting.{NoteState, with_note}
use Rattle.server.specs.Law.{happenings_in}
use Rattle.server.specs.Polls.{Happening, Polled, Notified, Chosen}
use Rattle.server.specs.State.{EngineState}
use Rattle.server.specs.Turn.{Trace, Turned}
use Rattle.server.specs.Refinement.{Represents, IsAt}
use Rattle.journal.specs.declared.gate.Pass.{Pass}
use Rattle.journal.specs.declared.gate.Pass.TheVariants.{All}
use Rattle.journal.specs.Passing.{calls_in, passed}
use Rattle.daemon.specs.declared.serving.Server.{Server}
use Rattle.daemon.specs.Serving.{calls_of, AreNoted, TakesTurn, Idles, Rests, AddsLines, ServesTurn, ServesTurns, HasTurned}
use Rattle.daemon.proofs.Gates.{all_passed}

pub idles_then : (a b c : Server) → Idles a b → Idles b c → Idles a c
idles_then a b c first then = (then.0 ∙ first.0, then.1 ∙ first.1, then.2 ∙ first.2)

no_lines : (noted : Option (List ℕ)) → noted ≡ with_note [] noted
no_lines None = refl
no_lines (Some text) = ap Some (sym (append-nil text))

adds_none : (noted : NoteState) → AddsLines noted noted
adds_none noted = inr ([], no_lines noted.lines)

-- before the turn the server rests
pub after_rest : (pass : Pass) (moment : ℕ) (notified : Bool) (a b c : Server) → Rests a b → TakesTurn pass moment notified b c → TakesTurn pass moment notified a c
after_rest pass moment notified a b c (idles, noted) turn = record {
  happenings = turn.happenings;
  turns = λ l fits. turn.turns l (subst (λ (e : EngineState). Represents l e) (sym idles.0) fits);
  reaches = λ opening trace reaches. turn.reaches opening trace (subst (λ (e : EngineState). IsAt opening trace e) (sym idles.0) reaches);
  are_passed = turn.are_passed;
  calls = turn.calls ∙ ap (λ (polls : List Poll). polls ++ passed pass (calls_in turn.happenings)) idles.1;
  notes = subst (λ (n : NoteState). AreNoted (calls_in turn.happenings) n c.wire.notes) noted turn.notes;
  unnotified = turn.unnotified;
  journaled = turn.journaled ∙ idles.2;
}

-- a turn of the engine, and what a server does before and after it
pub serves_turn : (pass : Pass) (moment : ℕ) (notified : Bool) (a b c d e : Server) → Rests a b → TakesTurn pass moment notified b c → Rests c d → Idles d e → AddsLines d.wire.notes e.wire.notes → ServesTurn pass moment a e
serves_turn pass moment notified a b c d e before turn rests then lines =
    (notified, c, after_rest pass moment notified a b c before turn, idles_then c d e rests.0 then, subst (λ (n : NoteState). AddsLines n e.wire.notes) rests.1 lines)

-- a turn of the engine, before and after which a server rests
pub serves_still : (pass : Pass) (moment : ℕ) (notified : Bool) (a b c d : Server) → Rests a b → TakesTurn pass moment notified b c → Rests c d → ServesTurn pass moment a d
serves_still pass moment notified a b c d before turn rests = serves_turn pass moment notified a b c d d before turn rests (refl, refl, refl) (adds_none d.wire.notes)

-- a turn, and then the server rests
pub then_rests : (pass : Pass) (moment : ℕ) (a b c : Server) → ServesTurn pass moment a b → Rests b c → ServesTurn pass moment a c
then_rests pass moment a b c (notified, turned, turn, idles, lines) rests =
    (notified, turned, turn, idles_then turned b c idles rests.0, subst (λ (n : NoteState). AddsLines turned.wire.notes n) (sym rests.1) lines)

-- ---- lists of turns

pub idles_first : (moments : List ℕ) (a b c : Server) → Idles a b → ServesTurns moments b c → ServesTurns moments a c
idles_first [] a b c first then = idles_then a b c first then
idles_first (moment ∷ moments) a b c first (begun, turned, idles, turn, later) = (begun, turned, idles_then a b begun first idles, turn, later)

pub idles_last : (moments : List ℕ) (a b c : Server) → ServesTurns moments a b → Idles b c → ServesTurns moments a c
idles_last [] a b c turns idles = idles_then a b c turns idles
idles_last (moment ∷ moments) a b c (begun, turned, first, turn, later) idles = (begun, turned, first, turn, idles_last moments turned b c later idles)

-- one more turn, and then the server idles
pub one_more : (moments : List ℕ) (moment : ℕ) (a b c d : Server) → ServesTurns moments a b → ServesTurn All moment b c → Idles c d → ServesTurns (moments ++ moment ∷ []) a d
one_more [] moment a b c d first turn idles = (b, c, first, turn, idles)
one_more (at ∷ moments) moment a b c d (begun, turned, first, one, later) turn idles = (begun, turned, first, one, one_more moments moment turned b c d later turn idles)

-- ---- the trace of turns

calls_then : (one more : List Happening) → calls_in (one ++ more) ≡ calls_in one ++ calls_in more
calls_then [] more = refl
calls_then (Polled poll ∷ one) more = ap (λ (polls : List Poll). poll ∷ polls) (calls_then one more)
calls_then (Notified note ∷ one) more = calls_then one more
calls_then (Chosen choice ∷ one) more = calls_then one more

-- the calls of a turn and of the turns after it, where the server idles before and after the turn
all_calls : (hs more : List Happening) (old begun turned rested new : List Poll) → begun ≡ old → turned ≡ begun ++ calls_in hs → rested ≡ turned → new ≡ rested ++ calls_in more → new ≡ old ++ calls_in (hs ++ more)
all_calls hs more old begun turned rested new first turn idles later =
    later ∙ (ap (λ (polls : List Poll). polls ++ calls_in more) (idles ∙ (turn ∙ ap (λ (polls : List Poll). polls ++ calls_in hs) first))
    ∙ (append_assoc old (calls_in hs) (calls_in more) ∙ ap (λ (polls : List Poll). old ++ polls) (sym (calls_then hs more))))

pub has_turned : (opening : State) (trace : Trace) (moments : List ℕ) (old new : Server) → IsAt opening trace old.engine → ServesTurns moments old new → HasTurned opening trace moments old new
has_turned opening trace [] old new reaches idles = record {
  turns = [];
  are_at = tt;
  reaches = subst (λ (t : Trace). IsAt opening t new.engine) (sym (append-nil trace)) (subst (λ (e : EngineState). IsAt opening trace e) (sym idles.0) reaches);
  calls = idles.1 ∙ sym (append-nil (calls_of old));
}
has_turned opening trace (moment ∷ moments) old new reaches (begun, served, first, (notified, turned, turn, idles, lines), later) =
    let At = λ (t : Trace) (e : EngineState). IsAt opening t e in
    let after = trace ++ Turned moment turn.happenings ∷ [] in
    let stood = subst (At trace) (sym first.0) reaches in
    let rest = has_turned opening after moments served new (subst (At after) (sym idles.0) (turn.reaches opening trace stood)) later in
    record {
      turns = Turned moment turn.happenings ∷ rest.turns;
      are_at = (refl, rest.are_at);
      reaches = subst (λ (t : Trace). IsAt opening t new.engine) (append_assoc trace (Turned moment turn.happenings ∷ []) rest.turns) rest.reaches;
      calls = all_calls turn.happenings (happenings_in rest.turns) (calls_of old) (calls_of begun) (calls_of turned) (calls_of served) (calls_of new) first.1 (turn.calls ∙ ap (λ (polls : List Poll). calls_of begun ++ polls) (all_passed (calls_in turn.happenings))) idles.1 rest.calls;
    }
