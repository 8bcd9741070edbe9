-- A wire and an observer that are lent as one world.
use Rattle.std.proofs.Common.{◌≡◌, ℕ, List, [], ◌∷◌, sym, ◌∙◌, ap, subst}
use Rattle.wires.specs.Poll.{Poll}
use Rattle.dispatcher.specs.Notes.{Note}
use Rattle.server.specs.declared.world.World.{World}
use Rattle.server.specs.Polls.{Happening, Polled, Notified, Chosen, Leads, both}
use Rattle.server.specs.World.{moved, SameLoans, wire_polled, observer_notified}
use Rattle.server.specs.Turn.{Turn}
use Rattle.server.specs.State.{EngineState}
use Rattle.server.specs.Refinement.{Refines, RefinesTurn}
use Rattle.server.proofs.TurnsAndTicks.{one_turn}

loans_then : {W N : Type 0} (u v w : World W N) → SameLoans u v → SameLoans v w → SameLoans u w
loans_then u v w p q = (q.0 ∙ p.0, q.1 ∙ p.1)

-- after all happenings the same wire and the same observer are lent
same_loans : {W N : Type 0} (polled : W → Poll → W → Type 0) (notified : N → Note → N → Type 0) (u v : World W N) (hs : List Happening) → Leads (moved (wire_polled polled) (observer_notified notified)) u hs v → SameLoans u v
same_loans {W} {N} polled notified u v [] p = (ap (λ (x : World W N). x.wire.ghost_name) p, ap (λ (x : World W N). x.notes.ghost_name) p)
same_loans polled notified u v (Polled poll ∷ hs) p = loans_then u p.0 v p.1.2 (same_loans polled notified p.0 v hs p.2)
same_loans polled notified u v (Notified note ∷ hs) p = loans_then u p.0 v p.1.2 (same_loans polled notified p.0 v hs p.2)
same_loans polled notified u v (Chosen choice ∷ hs) p = absurd p.1

-- the happenings lead the wire and the observer as they lead the world
leads_apart : {W N : Type 0} (polled : W → Poll → W → Type 0) (notified : N → Note → N → Type 0) (u v : World W N) (hs : List Happening) → Leads (moved (wire_polled polled) (observer_notified notified)) u hs v → Leads (both polled notified) (u.wire.now, u.notes.now) hs (v.wire.now, v.notes.now)
leads_apart {W} {N} polled notified u v [] p = ap (λ (x : World W N). (x.wire.now, x.notes.now)) p
leads_apart polled notified u v (Polled poll ∷ hs) p = ((p.0.wire.now, p.0.notes.now), (p.1.0, p.1.1), leads_apart polled notified p.0 v hs p.2)
leads_apart polled notified u v (Notified note ∷ hs) p = ((p.0.wire.now, p.0.notes.now), (p.1.0, p.1.1), leads_apart polled notified p.0 v hs p.2)
leads_apart polled notified u v (Chosen choice ∷ hs) p = absurd p.1

-- a turn with a lent wire and a lent observer, which are `w` and `n` after the turn
pub turned : {W N : Type 0} (polled : W → Poll → W → Type 0) (notified : N → Note → N → Type 0) (u v : World W N) (w : W) (n : N) (a b : EngineState) (moment : ℕ) → (SameLoans u v → w ≡ v.wire.now) → (SameLoans u v → n ≡ v.notes.now)
    → Refines (moved (wire_polled polled) (observer_notified notified)) (Turn moment) u a v b → RefinesTurn (both polled notified) moment (u.wire.now, u.notes.now) a (w, n) b
turned polled notified u v w n a b moment wire notes refines =
    let same = same_loans polled notified u v refines.happenings refines.leads in
    let led : Leads (both polled notified) (u.wire.now, u.notes.now) refines.happenings (w, n) =
    subst (λ x. Leads (both polled notified) (u.wire.now, u.notes.now) refines.happenings (x, n)) (sym (wire same))
    (subst (λ y. Leads (both polled notified) (u.wire.now, u.notes.now) refines.happenings (v.wire.now, y)) (sym (notes same)) (leads_apart polled notified u v refines.happenings refines.leads)) in
    let apart : Refines (both polled notified) (Turn moment) (u.wire.now, u.notes.now) a (w, n) b = record { happenings = refines.happenings; leads = led; reaches = refines.reaches } in
    one_turn (both polled notified) (u.wire.now, u.notes.now) (w, n) a b moment apart
