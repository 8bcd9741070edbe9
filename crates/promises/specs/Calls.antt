-- For each list of calls of an engine, turns and calls between them: the conclusion from their contracts together.
use Rattle.std.specs.Prelude.{ℕ, ◌≡◌, List, [], ◌∷◌, Result}
use Rattle.std.specs.declared.alloc.AllocError.{AllocError}
use Rattle.base_types.specs.Report.{ReportRecord}
use Rattle.print_room.specs.State.{State}
use Rattle.wires.specs.Poll.{Poll}
use Rattle.dispatcher.specs.Notes.{Note}
use Rattle.server.specs.Polls.{Leads, both, alone}
use Rattle.server.specs.Ledger.{Ledger, opening_ledger}
use Rattle.server.specs.Law.{happenings_in}
use Rattle.server.specs.Turn.{Outcome, Action, Turned, Served_body, Reported, Ticked, Trace, Allows}
use Rattle.server.specs.State.{EngineState}
use Rattle.server.specs.Refinement.{Represents, RefinesTurn, RefinesCall, RefinesBody}

-- a call of an engine
pub data Call : Type 0 where
  TakesTurn : (moment : ℕ) → Call
  Serves : (moment : ℕ) (body : List ℕ) → Call
  Reports : (moment device : ℕ) (parsed : ReportRecord) → Call
  Ticks : (moment : ℕ) → Call

-- the change that the call's contract makes of a wire, an observer and an engine; a call between turns leaves the wire unchanged
abbrev pub ByContract : {W N : Type 0} → (W → Poll → W → Type 0) → (N → Note → N → Type 0) → Call → W × N → EngineState → W × N → EngineState → Type 0
ByContract polled notified (TakesTurn moment) u old v new = RefinesTurn (both polled notified) moment u old v new
ByContract polled notified (Serves moment body) u old v new = (answer : Outcome) × (v.0 ≡ u.0) × RefinesBody (alone notified) moment body u.1 old v.1 new answer
ByContract polled notified (Reports moment device parsed) u old v new = (result : Result (Unit {0}) AllocError) × (v.0 ≡ u.0) × RefinesCall (alone notified) (Reported moment device parsed) u.1 old v.1 new result
ByContract polled notified (Ticks moment) u old v new = (result : Result (Unit {0}) AllocError) × (v.0 ≡ u.0) × RefinesCall (alone notified) (Ticked moment) u.1 old v.1 new result

-- calls, one after the other
abbrev pub AreMade : {W N : Type 0} → (W → Poll → W → Type 0) → (N → Note → N → Type 0) → List Call → W × N → EngineState → W × N → EngineState → Type 0
AreMade polled notified [] u old v new = (v ≡ u) × (new ≡ old)
AreMade {W} {N} polled notified (call ∷ calls) u old v new = (w : W × N) × (mid : EngineState) × ByContract polled notified call u old w mid × AreMade polled notified calls w mid v new

-- the action is of this call
abbrev pub IsOf : Call → Action → Type 0
IsOf (TakesTurn moment) (Turned at hs) = at ≡ moment
IsOf (Serves moment body) (Served_body at bytes answer hs) = (at ≡ moment) × (bytes ≡ body)
IsOf (Reports moment device parsed) (Reported at place report hs) = (at ≡ moment) × (place ≡ device) × (report ≡ parsed)
IsOf (Ticks moment) (Ticked at hs) = at ≡ moment
IsOf _ _ = ⊥

abbrev pub AreOf : List Call → Trace → Type 0
AreOf [] [] = Unit {0}
AreOf (call ∷ calls) (action ∷ actions) = IsOf call action × AreOf calls actions
AreOf [] (action ∷ actions) = ⊥
AreOf (call ∷ calls) [] = ⊥

-- There is a trace of exactly these calls. It leads the wire and the observer from their states before to their states after, and it leads to a ledger that represents the engine: on each open connection the bytes that the wire took and those that wait are exactly the bytes that are due.
pub record IsAccounted {W N : Type 0} (polled : W → Poll → W → Type 0) (notified : N → Note → N → Type 0) (opening : State) (calls : List Call) (u v : W × N) (engine : EngineState) : Type 0 where
  pub trace : Trace
  pub of_calls : AreOf calls trace
  pub leads : Leads (both polled notified) u (happenings_in trace) v
  pub ledger : Ledger
  pub allows : Allows trace (opening_ledger opening) ledger
  pub fits : Represents ledger engine
