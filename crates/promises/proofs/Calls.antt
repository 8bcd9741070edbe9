-- A trace of all calls.
use Rattle.std.proofs.Common.{◌≡◌, List, [], ◌∷◌, ◌++◌, refl, sym, subst, append_assoc, append-nil}
use Rattle.print_room.specs.State.{State}
use Rattle.wires.specs.Poll.{Poll}
use Rattle.dispatcher.specs.Notes.{Note}
use Rattle.server.specs.Polls.{Happening, Leads, both, alone}
use Rattle.server.specs.Law.{happenings_of, happenings_in}
use Rattle.server.specs.Turn.{Action, Turned, Served_body, Reported, Ticked, Trace}
use Rattle.server.specs.State.{EngineState}
use Rattle.server.specs.Refinement.{IsAt}
use Rattle.server.proofs.Steps.{leads_append, leads_with}
use Rattle.promises.specs.Calls.{Call, TakesTurn, Serves, Reports, Ticks, ByContract, AreMade, IsOf, AreOf, IsAccounted}

-- the result of one call
record Made {W N : Type 0} (polled : W → Poll → W → Type 0) (notified : N → Note → N → Type 0) (call : Call) (u v : W × N) (old new : EngineState) : Type 0 where
  action : Action
  is_of : IsOf call action
  leads : Leads (both polled notified) u (happenings_of action) v
  reaches : (opening : State) (trace : Trace) → IsAt opening trace old → IsAt opening (trace ++ action ∷ []) new

-- if the wire stays, the happenings lead the observer on beside it
beside : {W N : Type 0} (polled : W → Poll → W → Type 0) (notified : N → Note → N → Type 0) (u v : W × N) (hs : List Happening) → v.0 ≡ u.0 → Leads (alone notified) u.1 hs v.1 → Leads (both polled notified) u hs v
beside polled notified u v hs same leads = subst (λ w. Leads (both polled notified) u hs (w, v.1)) (sym same) (leads_with polled notified u.0 u.1 v.1 hs leads)

made : {W N : Type 0} (polled : W → Poll → W → Type 0) (notified : N → Note → N → Type 0) (call : Call) (u v : W × N) (old new : EngineState) → ByContract polled notified call u old v new → Made polled notified call u v old new
made polled notified (TakesTurn moment) u v old new it = record { action = Turned moment it.happenings; is_of = refl; leads = it.leads; reaches = it.reaches }
made polled notified (Serves moment body) u v old new (answer, same, it) = record { action = Served_body moment body answer it.happenings; is_of = (refl, refl); leads = beside polled notified u v it.happenings same it.leads; reaches = it.reaches }
made polled notified (Reports moment device parsed) u v old new (result, same, it) = record { action = Reported moment device parsed it.happenings; is_of = (refl, refl, refl); leads = beside polled notified u v it.happenings same it.leads; reaches = it.reaches }
made polled notified (Ticks moment) u v old new (result, same, it) = record { action = Ticked moment it.happenings; is_of = refl; leads = beside polled notified u v it.happenings same it.leads; reaches = it.reaches }

-- the result of all calls
record AllMade {W N : Type 0} (polled : W → Poll → W → Type 0) (notified : N → Note → N → Type 0) (calls : List Call) (u v : W × N) (old new : EngineState) : Type 0 where
  actions : Trace
  are_of : AreOf calls actions
  leads : Leads (both polled notified) u (happenings_in actions) v
  reaches : (opening : State) (trace : Trace) → IsAt opening trace old → IsAt opening (trace ++ actions) new

all_made : {W N : Type 0} (polled : W → Poll → W → Type 0) (notified : N → Note → N → Type 0) (calls : List Call) (u v : W × N) (old new : EngineState) → AreMade polled notified calls u old v new → AllMade polled notified calls u v old new
all_made polled notified [] u v old new (still, same) = record {
  actions = [];
  are_of = tt;
  leads = still;
  reaches = λ opening trace reaches. subst (λ (e : EngineState). IsAt opening (trace ++ []) e) (sym same) (subst (λ (t : Trace). IsAt opening t old) (sym (append-nil trace)) reaches);
}
all_made polled notified (call ∷ calls) u v old new (w, mid, first, later) =
    let one = made polled notified call u w old mid first in
    let rest = all_made polled notified calls w v mid new later in
    record {
      actions = one.action ∷ rest.actions;
      are_of = (one.is_of, rest.are_of);
      leads = leads_append (both polled notified) u w v (happenings_of one.action) (happenings_in rest.actions) one.leads rest.leads;
      reaches = λ opening trace reaches. subst (λ (t : Trace). IsAt opening t new) (append_assoc trace (one.action ∷ []) rest.actions) (rest.reaches opening (trace ++ one.action ∷ []) (one.reaches opening trace reaches));
    }

pub accounted : {W N : Type 0} (polled : W → Poll → W → Type 0) (notified : N → Note → N → Type 0) (opening : State) (calls : List Call) (u v : W × N) (old new : EngineState) → IsAt opening [] old → AreMade polled notified calls u old v new → IsAccounted polled notified opening calls u v new
accounted polled notified opening calls u v old new starts made =
    let all = all_made polled notified calls u v old new made in
    let reaches = all.reaches opening [] starts in
    record { trace = all.actions; of_calls = all.are_of; leads = all.leads; ledger = reaches.0; allows = reaches.1; fits = reaches.2 }
