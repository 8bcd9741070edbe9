-- The asks of connections, and the happenings that they bring.
use Rattle.std.proofs.Common.{◌≡◌, ◌<◌, arith, ℕ, [], ◌∷◌, refl, sym, ◌∙◌, ap, subst, Option, Some, None, inl, inr}
use Rattle.std.specs.Prelude.{slice_index_or}
use Rattle.settings_file.specs.Settings.{ServerSettings}
use Rattle.print_room.specs.State.{State}
use Rattle.wires.specs.Poll.{Poll}
use Rattle.dispatcher.specs.Notes.{Note}
use Rattle.connections.specs.declared.table.ConnectionAsk.{ConnectionAsk}
use Rattle.connections.specs.Entry.{Entry}
use Rattle.connections.specs.Asking.{AsksNext, Asking}
use Rattle.connections.specs.Connections.{load}
use Rattle.connections.specs.Representation.{RepresentsConnection, Becomes}
use Rattle.connections.specs.Slots.{Slots, OnSlot, AsksAt, work_at}
use Rattle.server.specs.Polls.{Chosen, alone}
use Rattle.server.specs.Polls as As
use Rattle.server.specs.World.{moved}
use Rattle.server.specs.Rel.{Then}
use Rattle.server.specs.Ledger.{with_entry}
use Rattle.connections.specs.Choice.{part_of, lost_of}
use Rattle.server.specs.Acting.{Asks, ActsOn, ActsNext}
use Rattle.server.specs.Closing.{ClosesBroken}
use Rattle.server.specs.Polling.{Acts, IsActedOnAt}
use Rattle.server.specs.State.{EngineState, with_slots}
use Rattle.server.specs.Refinement.{Represents, RefinesQuietly, AsksBy}
use Rattle.server.specs.Refinement as Refinement
use Rattle.server.proofs.Steps.{refines_then, refines_moved, aloud, seen_as, seen_then}
use Rattle.server.proofs.Slots.{set_there, quiet_at, work_there}
use Rattle.server.proofs.Places.{found, absent, fits_set}
use Rattle.server.proofs.ReadsAndAsks.{fits_still}

-- ---- the ask of the connection under a key

nothing_asked : (a : EngineState) (slots : Slots) (key : ℕ) → OnSlot key (Becomes (Asking a.core.settings None)) a.slots slots → AsksBy key None a (with_slots slots a)
nothing_asked a slots key on = record {
  reaches = λ l fits.
      let f = found l a key on.before fits on.there in
      let became = on.changes f.entry f.fits in
      let fits' : RepresentsConnection f.entry on.after = subst (λ (e : Entry). RepresentsConnection e on.after) became.1.1 became.2 in (
        l,
        (subst (λ (o : Option Entry). IsActedOnAt o) (sym f.there) became.1.0, refl),
        fits_still l a slots key on.before on.after f.entry fits on.there on.slots f.there fits',
      );
  less = tt;
}

something_asked : (a : EngineState) (slots : Slots) (key : ℕ) (asked : ConnectionAsk) → OnSlot key (λ c d. (asked.id ≡ c.id) × Becomes (Asking a.core.settings (Some asked.ask)) c d × (load d < load c)) a.slots slots → AsksBy key (Some asked) a (with_slots slots a)
something_asked a slots key asked on =
    let fewer : load on.after < load on.before = on.changes.2 in
    record {
      reaches = λ l fits.
          let f = found l a key on.before fits on.there in
          let became = on.changes.1 f.entry f.fits in
          let asks : AsksNext l.core.settings asked.ask f.entry became.0 = subst (λ (s : State). AsksNext s.settings asked.ask f.entry became.0) (sym fits.core) became.1 in (
            with_entry key became.0 l,
            (Chosen (As.Asked (part_of asks) (lost_of asked.ask)) ∷ [], refl, record { entry = f.entry; new = became.0; there = f.there; its = on.changes.0 ∙ f.fits.id; asks = asks; chosen = refl; after = refl }),
            fits_set l a slots key on.before on.after became.0 fits on.there on.slots became.2,
          );
      less = (
        quiet_at a slots key on.before on.after on.there on.slots (omega (arith, fewer)),
        let there : work_at slots key ≡ load on.after = work_there slots key on.after (ap (λ (xs : Slots). slice_index_or xs key None) on.slots ∙ set_there a.slots key on.before (Some on.after) on.there) in
            omega (arith, fewer, there, work_there a.slots key on.before on.there),
      );
    }

pub asks_by : (a : EngineState) (slots : Slots) (key : ℕ) (what : Option ConnectionAsk) → AsksAt a.core.settings key what a.slots slots → AsksBy key what a (with_slots slots a)
asks_by a slots key None (inl none) = record {
  reaches = λ l fits. (l, (subst (λ (o : Option Entry). IsActedOnAt o) (sym (absent l a key fits none.there)) tt, refl), subst (λ (xs : Slots). Represents l (with_slots xs a)) (sym none.same) fits);
  less = tt;
}
asks_by a slots key None (inr on) = nothing_asked a slots key on
asks_by a slots key (Some asked) on = something_asked a slots key asked on

-- the same for an equal state before, by the settings that were read from it
pub asked_from : (a given : EngineState) (settings : ServerSettings) (slots : Slots) (key : ℕ) (what : Option ConnectionAsk) → a ≡ given → settings ≡ a.core.settings → AsksAt settings key what a.slots slots → AsksBy key what given (with_slots slots a)
asked_from a given settings slots key what is same asked =
    subst (λ (e : EngineState). AsksBy key what e (with_slots slots a)) is (asks_by a slots key what (subst (λ (s : ServerSettings). AsksAt s key what a.slots slots) same asked))

-- ---- the happenings of an ask

-- the connection asks, what it asks happens, and then the broken connections are closed
pub acts : {S : Type 0} (polled : S → Poll → S → Type 0) (notified : S → Note → S → Type 0) (u v w : S) (a b c d : EngineState) (moment key : ℕ) (asked : ConnectionAsk)
    → AsksBy key (Some asked) a b → RefinesQuietly (alone notified) (ActsOn moment key asked.id asked.ask) u b v c → RefinesQuietly (moved polled notified) (ClosesBroken moment) v c w d → Refinement.Refines (moved polled notified) (Acts moment key) u a w d
acts polled notified u v w a b c d moment key asked asks refines settled =
    let acted : Refinement.Refines (alone notified) (ActsNext moment key) u a v c = record {
      happenings = refines.happenings;
      leads = refines.leads;
      reaches = λ l fits.
          let s = asks.reaches l fits in
          let r = refines.reaches s.0 s.2 in
          (r.0, seen_as (Then (Asks key asked.id asked.ask) (ActsOn moment key asked.id asked.ask)) (ActsNext moment key) l refines.happenings r.0 (λ hs it. (asked.id, asked.ask, it)) (seen_then (Asks key asked.id asked.ask) (ActsOn moment key asked.id asked.ask) l [] s.0 refines.happenings r.0 s.1 r.1), r.2);
    } in
    refines_then (moved polled notified) (ActsNext moment key) (ClosesBroken moment) u v w a c d (refines_moved polled notified (ActsNext moment key) u v a c acted) (aloud (moved polled notified) (ClosesBroken moment) v w c d settled)
