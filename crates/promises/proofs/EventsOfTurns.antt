-- Parts of a turn at which events come, and closings.
use Rattle.std.proofs.Common.{◌≡◌, ℕ, zero, suc, Bool, true, false, List, [], ◌∷◌, refl, sym, ap, subst, Option, Some, None, inl}
use Rattle.std.proofs.lemmas.List.Elements.{All-cons, All-nil}
use Rattle.base_types.specs.declared.report.Report.TheVariants as report
use Rattle.events.specs.declared.event.Event.{Event}
use Rattle.events.specs.declared.event.Event.TheVariants as Is
use Rattle.connections.specs.Entry.{Entry, device_of}
use Rattle.server.specs.Polls.{Happening}
use Rattle.server.specs.Ledger.{Ledger, Fate, Broken}
use Rattle.server.specs.Rel.{Rel, Nothing, Then, If, Times, Many, Each}
use Rattle.server.specs.Happening.{Happens, Unanswered}
use Rattle.server.specs.Closing.{Leaves, IsGone, ClosesAs, ClosesFirst, ClosesBroken}
use Rattle.promises.specs.Orders.{named_by, run_notes}
use Rattle.promises.proofs.SentToDevices.{Counts, due_at, Good, IsLost, reads_same}
use Rattle.promises.proofs.HandledEvents.{goes_plain, happened, Goes, goes_then, goes_calm, goes_event, progressed_still, ClosedAs, stops_still}
use Rattle.promises.proofs.DueToClients.{Calms, calms_nothing}
use Rattle.dispatcher.specs.Run.{Outcome}

-- ---- parts at which events come

abbrev pub Moves : Bool → ℕ → Rel → Type 0
Moves turn moment R = (l : Ledger) (hs : List Happening) (l' : Ledger) → Good l → R l hs l' → Goes turn moment l hs l'

pub moves_calm : (turn : Bool) (moment : ℕ) (R : Rel) → Calms R → Moves turn moment R
moves_calm turn moment R calms l hs l' good it = goes_calm turn moment l hs l' good (calms l hs l' it)

pub moves_then : (turn : Bool) (moment : ℕ) (R S : Rel) → Moves turn moment R → Moves turn moment S → Moves turn moment (Then R S)
moves_then turn moment R S r s l hs l' good it =
    let first = r l it.prefix it.mid good it.first in
    goes_then turn moment l it.prefix it.mid it.back l' hs it.whole first (s it.mid it.back l' first.good it.second)

pub moves_if : (turn : Bool) (moment : ℕ) (t : Bool) (R S : Rel) → Moves turn moment R → Moves turn moment S → Moves turn moment (If t R S)
moves_if turn moment true R S r s l hs l' good it = r l hs l' good it
moves_if turn moment false R S r s l hs l' good it = s l hs l' good it

pub moves_times : (turn : Bool) (moment n : ℕ) (R : Rel) → Moves turn moment R → Moves turn moment (Times n R)
moves_times turn moment zero R r = moves_calm turn moment Nothing calms_nothing
moves_times turn moment (suc n) R r = moves_then turn moment (Times n R) R (moves_times turn moment n R r) r

pub moves_many : (turn : Bool) (moment : ℕ) (R : Rel) → Moves turn moment R → Moves turn moment (Many R)
moves_many turn moment R r l hs l' good (n, it) = moves_times turn moment n R r l hs l' good it

pub moves_each : (turn : Bool) (moment n : ℕ) (R : ℕ → Rel) → ((key : ℕ) → Moves turn moment (R key)) → Moves turn moment (Each n R)
moves_each turn moment zero R r = moves_calm turn moment Nothing calms_nothing
moves_each turn moment (suc n) R r = moves_then turn moment (Each n R) (R n) (moves_each turn moment n R r) (r n)

pub moves_happens : (turn : Bool) (moment : ℕ) (event : Event) (outcome : Outcome) → None ≡ named_by turn event → Moves turn moment (Happens moment event outcome)
moves_happens turn moment event outcome nameless l hs l' good it = goes_event turn moment event outcome l hs l' good nameless (happened moment event outcome l hs l' good it)

pub moves_unanswered : (turn : Bool) (moment : ℕ) (event : Event) → None ≡ named_by turn event → Moves turn moment (Unanswered moment event)
moves_unanswered turn moment event nameless l hs l' good (outcome, it) = moves_happens turn moment event outcome nameless l hs l' good it

-- ---- closings

pub leaves_at : (moment : ℕ) (fate : Fate) (key : ℕ) (e : Entry) (l : Ledger) (hs : List Happening) (l' : Ledger) → Good l → l.entries key ≡ Some e → Leaves fate key e l hs l' → Goes true moment l hs l'
leaves_at moment fate key e l hs l' good there it =
    goes_plain true moment key None l hs l' good (ap run_notes it.0) (ap (λ (x : Ledger). x.core) it.2) (ap (λ (x : Ledger). x.entries) it.2)
    (record { counts = λ device is. absurd is; lost = λ device is. absurd is; device = λ device is. absurd is; fresh = λ is. tt }) (λ f is. cc) (λ f is. cc)
    (record { more = (e, fate) ∷ []; closed = ap (λ (x : Ledger). x.closed) it.2; each = All-cons (λ (x : Entry × Fate). ClosedAs l [] x.0) (e, fate) [] gone (All-nil (λ (x : Entry × Fate). ClosedAs l [] x.0)) })
  where
    gone : ClosedAs l [] e
    gone = record {
      key = key;
      before = [];
      tail = [];
      whole = refl;
      came = λ device named sound. inl (subst (λ (o : Option Entry). Counts device o) (sym there) (named, sound), sym (ap due_at there));
      lost = λ device named is. inl (subst (λ (o : Option Entry). IsLost device o) (sym there) (named, is), sym (ap due_at there));
      progresses = λ client sound. progressed_still l.core key [] (l.entries key) (l.entries key) (λ f is of. (f, is, refl, λ unbroken. unbroken, refl, reads_same f)) refl e there client sound;
      stops = λ client broken. stops_still l.core key [] (l.entries key) (l.entries key) (λ f is of. (f, is, refl, λ unbroken. unbroken, refl, reads_same f)) refl e there client broken;
    }

pub moves_gone : (moment : ℕ) (device : Option ℕ) → Moves true moment (IsGone moment device)
moves_gone moment None = moves_calm true moment Nothing calms_nothing
moves_gone moment (Some device) = moves_unanswered true moment (Is.Report device report.Gone) refl

pub closes_at : (moment : ℕ) (fate : Fate) (key : ℕ) (e : Entry) (l : Ledger) (hs : List Happening) (l' : Ledger) → Good l → l.entries key ≡ Some e → ClosesAs moment fate key e l hs l' → Goes true moment l hs l'
closes_at moment fate key e l hs l' good there it =
    let first = leaves_at moment fate key e l it.prefix it.mid good there it.first in
    goes_then true moment l it.prefix it.mid it.back l' hs it.whole first (moves_gone moment (device_of e.progress) it.mid it.back l' first.good it.second)

pub moves_closes_broken : (moment : ℕ) → Moves true moment (ClosesBroken moment)
moves_closes_broken moment l hs l' good it = moves_many true moment (ClosesFirst moment) (λ a ks b fine first. closes_at moment Broken first.key first.entry a ks b fine first.there first.closes) l hs l' good it.0
