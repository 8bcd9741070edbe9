-- The notes of a log for happenings, and the bytes and answers of the peers of a wire for them.
use Rattle.std.proofs.Common.{◌≡◌, ℕ, Bool, true, false, List, [], ◌∷◌, ◌++◌, Option, Some, None, refl, sym, ap, ◌∙◌, inl, inr, subst, append_assoc, append-nil, option_map}
use Rattle.std.specs.Prelude.{◌||◌}
use Rattle.std.specs.Option.{ForSome}
use Rattle.std.proofs.lemmas.Option.{none-some}
use Rattle.server.specs.Polls.{Happening, Polled, Notified, Chosen, Leads, both, alone}
use Rattle.traces.specs.declared.wire.TraceWire.{TraceWire}
use Rattle.replay.specs.Log.{LogRecord, LogsNote, note_text, happening_text, happenings_text}
use Rattle.traces.specs.Wire.{WirePolls}
use Rattle.replay.specs.Peers.{PeersSee, any_stirs, happening_stirs}

-- a relation that is kept by a view of the states
leads_as : {S T : Type 0} (moves : S → Happening → S → Type 0) (seen : T → Happening → T → Type 0) (view : S → T) → ((old : S) (h : Happening) (new : S) → moves old h new → seen (view old) h (view new)) → (a b : S) (hs : List Happening) → Leads moves a hs b → Leads seen (view a) hs (view b)
leads_as moves seen view each a b [] same = ap view same
leads_as moves seen view each a b (h ∷ hs) (mid, moved, later) = (view mid, each a h mid moved, leads_as moves seen view each mid b hs later)

pub leads_append : {S : Type 0} (moves : S → Happening → S → Type 0) (a b c : S) (hs ks : List Happening) → Leads moves a hs b → Leads moves b ks c → Leads moves a (hs ++ ks) c
leads_append moves a b c [] ks p q = subst (λ x. Leads moves x ks c) p q
leads_append moves a b c (h ∷ hs) ks p q = (p.0, p.1, leads_append moves p.0 b c hs ks p.2 q)

-- ---- the log

-- the log observes notes, and no polls
abbrev Observes : LogRecord → Happening → LogRecord → Type 0
Observes old (Polled poll) new = new ≡ old
Observes old (Notified note) new = LogsNote old note new
Observes old (Chosen choice) new = ⊥

-- the notes of a log for happenings, if it has lost no note
pub record HasObserved (old : LogRecord) (hs : List Happening) (new : LogRecord) : Type 0 where
  pub log : new ≡ record old { observed = new.observed }
  pub observes : ForSome new.observed (λ text. (before : List ℕ) × (old.observed ≡ Some before) × (text ≡ before ++ happenings_text old.texts old.names hs))

added : (text : List ℕ) (o : Option (List ℕ)) (after : List ℕ) → option_map (λ t. t ++ text) o ≡ Some after → (before : List ℕ) × (o ≡ Some before) × (after ≡ before ++ text)
added text None after is = absurd (none-some after is)
added text (Some before) after is = (before, refl, cc (sym is))

-- one happening is observed
observed_one : (old : LogRecord) (h : Happening) (new : LogRecord) → Observes old h new → (new ≡ record old { observed = new.observed }) × ForSome new.observed (λ text. (before : List ℕ) × (old.observed ≡ Some before) × (text ≡ before ++ happening_text old.texts old.names h))
observed_one old (Polled poll) new same = subst (λ n. (n ≡ record old { observed = n.observed }) × ForSome n.observed (λ text. (before : List ℕ) × (old.observed ≡ Some before) × (text ≡ before ++ []))) (sym same) (refl, λ text is. (text, is, sym (append-nil text)))
observed_one old (Chosen choice) new none = absurd none
observed_one old (Notified note) new (inl kept) = subst (λ n. (n ≡ record old { observed = n.observed }) × ForSome n.observed (λ text. (before : List ℕ) × (old.observed ≡ Some before) × (text ≡ before ++ note_text old.texts old.names note))) (sym kept) (refl, λ text is. added (note_text old.texts old.names note) old.observed text is)
observed_one old (Notified note) new (inr lost) = subst (λ n. (n ≡ record old { observed = n.observed }) × ForSome n.observed (λ text. (before : List ℕ) × (old.observed ≡ Some before) × (text ≡ before ++ note_text old.texts old.names note))) (sym lost) (refl, λ text is. absurd (none-some text is))

observed_all : (old new : LogRecord) (hs : List Happening) → Leads Observes old hs new → HasObserved old hs new
observed_all old new [] same = subst (λ n. HasObserved old [] n) (sym same) (record { log = refl; observes = λ text is. (text, is, sym (append-nil text)) })
observed_all old new (h ∷ hs) (mid, first, later) =
    let one = observed_one old h mid first in
    let all = observed_all mid new hs later in
    let named : happenings_text mid.texts mid.names hs ≡ happenings_text old.texts old.names hs = ap (λ (l : LogRecord). happenings_text l.texts l.names hs) one.0 in
    record {
      log = all.log ∙ ap (λ (l : LogRecord). record l { observed = new.observed }) one.0;
      observes = λ text is.
          let rest = all.observes text is in
          let begun = one.1 rest.0 rest.1 in
          (begun.0, begun.1, rest.2 ∙ ap (λ t. t ++ happenings_text mid.texts mid.names hs) begun.2 ∙ append_assoc begun.0 (happening_text old.texts old.names h) _ ∙ ap (λ t. begun.0 ++ (happening_text old.texts old.names h ++ t)) named);
    }

observes_alone : (old : LogRecord) (h : Happening) (new : LogRecord) → alone LogsNote old h new → Observes old h new
observes_alone old (Polled poll) new none = absurd none
observes_alone old (Notified note) new observes = observes
observes_alone old (Chosen choice) new none = absurd none

-- without a wire
pub observed_alone : (old new : LogRecord) (hs : List Happening) → Leads (alone LogsNote) old hs new → HasObserved old hs new
observed_alone old new hs leads = observed_all old new hs (leads_as (alone LogsNote) Observes (λ l. l) observes_alone old new hs leads)

observes_beside : (old : TraceWire × LogRecord) (h : Happening) (new : TraceWire × LogRecord) → both WirePolls LogsNote old h new → Observes old.1 h new.1
observes_beside old (Polled poll) new (moved, same) = same
observes_beside old (Notified note) new (observes, same) = observes
observes_beside old (Chosen choice) new none = absurd none

-- beside a wire
pub observed_beside : (old new : TraceWire × LogRecord) (hs : List Happening) → Leads (both WirePolls LogsNote) old hs new → HasObserved old.1 hs new.1
observed_beside old new hs leads = observed_all old.1 new.1 hs (leads_as (both WirePolls LogsNote) Observes (λ s. s.1) observes_beside old new hs leads)

-- all notes are printed, and then the log is as it was
pub all_observed : (old new after : LogRecord) (hs : List Happening) (text : List ℕ) → HasObserved old hs new → old.observed ≡ Some [] → new.observed ≡ Some text → after ≡ record new { observed = Some [] } → (text ≡ happenings_text old.texts old.names hs) × (after ≡ old)
all_observed old new after hs text notified none some is =
    let observed = notified.observes text some in
    let empty : observed.0 ≡ [] = cc (sym observed.1 ∙ none) in
    (observed.2 ∙ ap (λ t. t ++ happenings_text old.texts old.names hs) empty, is ∙ ap (λ (l : LogRecord). record l { observed = Some [] }) notified.log ∙ ap (λ (o : Option (List ℕ)). record old { observed = o }) (sym none))

-- ---- the wire

-- the wire is moved by polls, and knows of no notes
abbrev WireSees : TraceWire → Happening → TraceWire → Type 0
WireSees old (Polled poll) new = WirePolls old poll new
WireSees old (Notified note) new = new ≡ old
WireSees old (Chosen choice) new = ⊥

-- the bytes that polls have moved, if all polls were prompt, and whether one had an answer other than Waiting
pub record HasMoved (old : TraceWire) (hs : List Happening) (new : TraceWire) : Type 0 where
  pub stirred : new.stirred ≡ (old.stirred || any_stirs hs)
  pub sees : new.failed ≡ false → (old.failed ≡ false) × Leads PeersSee old.memory.peers.items hs new.memory.peers.items

or_false : (b : Bool) → b ≡ (b || false)
or_false true = refl
or_false false = refl

or_assoc : (a b c : Bool) → ((a || b) || c) ≡ (a || (b || c))
or_assoc true b c = refl
or_assoc false b c = refl

moved_one : (old : TraceWire) (h : Happening) (new : TraceWire) → WireSees old h new → (new.stirred ≡ (old.stirred || happening_stirs h)) × (new.failed ≡ false → (old.failed ≡ false) × PeersSee old.memory.peers.items h new.memory.peers.items)
moved_one old (Polled poll) new polls = (polls.stirred, λ fine. let before = polls.prompt fine in (before.0, (polls.moves, before.1)))
moved_one old (Chosen choice) new none = absurd none
moved_one old (Notified note) new same = (ap (λ (w : TraceWire). w.stirred) same ∙ or_false old.stirred, λ fine. (ap (λ (w : TraceWire). w.failed) (sym same) ∙ fine, ap (λ (w : TraceWire). w.memory.peers.items) same))

moved_all : (old new : TraceWire) (hs : List Happening) → Leads WireSees old hs new → HasMoved old hs new
moved_all old new [] same = record {
  stirred = ap (λ (w : TraceWire). w.stirred) same ∙ or_false old.stirred;
  sees = λ fine. (ap (λ (w : TraceWire). w.failed) (sym same) ∙ fine, ap (λ (w : TraceWire). w.memory.peers.items) same);
}
moved_all old new (h ∷ hs) (mid, first, later) =
    let one = moved_one old h mid first in
    let all = moved_all mid new hs later in
    record {
      stirred = all.stirred ∙ ap (λ b. b || any_stirs hs) one.0 ∙ or_assoc old.stirred (happening_stirs h) (any_stirs hs);
      sees = λ fine.
          let rest = all.sees fine in
          let begun = one.1 rest.0 in
          (begun.0, (mid.memory.peers.items, begun.1, rest.1));
    }

sees_beside : (old : TraceWire × LogRecord) (h : Happening) (new : TraceWire × LogRecord) → both WirePolls LogsNote old h new → WireSees old.0 h new.0
sees_beside old (Polled poll) new (moved, same) = moved
sees_beside old (Notified note) new (observes, same) = same
sees_beside old (Chosen choice) new none = absurd none

pub moved_beside : (old new : TraceWire × LogRecord) (hs : List Happening) → Leads (both WirePolls LogsNote) old hs new → HasMoved old.0 hs new.0
moved_beside old new hs leads = moved_all old.0 new.0 hs (leads_as (both WirePolls LogsNote) WireSees (λ s. s.0) sees_beside old new hs leads)
