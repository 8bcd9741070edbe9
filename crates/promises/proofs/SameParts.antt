-- What a connection asks comes about in one way, in whatever parts a body is taken, if it is seen alike and no memory is refused.
use Rattle.std.proofs.Common.{◌≡◌, ◌+◌, ◌≤◌, arith, ℕ, zero, suc, Bool, true, false, List, [], ◌∷◌, ◌++◌, map, refl, sym, ◌∙◌, ap, subst, append_assoc, append-nil, Option, Some, None, ◌⊎◌, inl, inr}
use Rattle.std.specs.Prelude.{◌==◌, ◌||◌, if◌then◌else◌}
use Rattle.std.proofs.lemmas.List.{append_cancel_left}
use Rattle.settings_file.specs.Settings.{ServerSettings}
use Rattle.http_front.specs.declared.item.HttpItem.{HttpItem}
use Rattle.http_front.specs.declared.item.HttpItem.TheVariants as item
use Rattle.http_front.specs.Stream.{HttpElement, HasHead, Invites, HasByte, EndsBody, IsRefused, elements_of, Exchanges, ParsesFirst, SomeParse, FirstStays}
use Rattle.lpd.specs.Stream.{Open, Faulty, NoneFollows as NoItemFollows, OneParse as OneLpdParse}
use Rattle.device_link.specs.Stream.{ParsedLines, NoneFollows as NoReportFollows}
use Rattle.device_link.specs.Stream as Link
use Rattle.connections.specs.declared.ask.Ask.{Ask}
use Rattle.connections.specs.declared.ask.Ask.TheVariants as ask
use Rattle.connections.specs.declared.ask.AllocFailure.TheVariants as growth
use Rattle.connections.specs.declared.step.Step.{Step}
use Rattle.connections.specs.Steps.{StepsIpp, closes_after, body_after, grown, silent, no_memory}
use Rattle.connections.specs.Entry.{PeerRecord, Http, Queue, Link as OfDevice, Entry, with_progress, finishing, owing, broken}
use Rattle.connections.specs.Asking.{IppItemComes, ItemComes, Owes, StepsTo, IsActedOnAs, IsActedOn, AsksNext}
use Rattle.connections.specs.Choice.{Loss, part_taken, part_acted_on, part_of, lost_of, SameAsk, AsksOne}
use Rattle.server.specs.Polls.{Happening, Rested, Chosen}
use Rattle.server.specs.Ledger.{Ledger, at_key, with_entry}
use Rattle.server.specs.Rel.{Then, Times}
use Rattle.server.specs.Closing.{IsBroken, ClosesFirst, NoneBroken, ClosesBroken}
use Rattle.server.specs.Acting.{Asks, ActsOn, ActsNext}
use Rattle.server.specs.Polling.{Acts, IsActedOnAt, Serves}
use Rattle.promises.specs.Keyed.{keyed}
use Rattle.promises.specs.OneLedger.{StepsOnce, SameQueries}
use Rattle.promises.proofs.Determined.{times_cons}
use Rattle.promises.proofs.UniqueActs.{same_entry}
use Rattle.promises.proofs.SeenAlike.{Calm, Same, keyed_append, keyed_parts, calm_first, calm_last, same_then_by}
use Rattle.promises.proofs.SameEvents.{refuses_notifies, refuses_dropped, refuses_declines}
use Rattle.promises.proofs.SameActs.{none_closes, same_closes_broken, same_does}
use Rattle.promises.proofs.SentToDevices.{same_key, is_key}
use Rattle.server.specs.Acting.{place_of, place_of_part}

-- ---- a part of a body

-- the entry after these bytes of a body were taken
abbrev further : List HttpElement → Bool → List ℕ → List ℕ → Entry → Entry
further parsed closes body bytes e = record e { progress = Http (parsed ++ map HasByte bytes) closes (body ++ bytes); draining = false }

-- these bytes of a body were taken on the connection under a key, and nothing else changed
record IsPart (key : ℕ) (bytes : List ℕ) (l l' : Ledger) : Type 0 where
  e : Entry
  parsed : List HttpElement
  closes : Bool
  body : List ℕ
  there : l.entries key ≡ Some e
  sound : e.broken ≡ false
  flows : e.draining ≡ false
  progress : e.progress ≡ Http parsed closes body
  first : ParsesFirst e.read (parsed ++ map HasByte bytes)
  after : l' ≡ with_entry key (further parsed closes body bytes e) l

entry_if : (t : Bool) (x y z : Option Entry) → (if t then x else (if t then y else z)) ≡ (if t then x else z)
entry_if true x y z = refl
entry_if false x y z = refl

at_twice : (key : ℕ) (x y : Option Entry) (entries : ℕ → Option Entry) → at_key key x (at_key key y entries) ≡ at_key key x entries
at_twice key x y entries = λ i other. entry_if (other == key) x y (entries other) i

with_twice : (key : ℕ) (x y : Entry) (l : Ledger) → with_entry key x (with_entry key y l) ≡ with_entry key x l
with_twice key x y l = ap (λ (entries : ℕ → Option Entry). record l { entries = entries }) (at_twice key (Some x) (Some y) l.entries)

at_same : (t : Bool) (x y : Option Entry) → (t ≡ true → y ≡ x) → (if t then x else y) ≡ y
at_same true x y same = sym (same refl)
at_same false x y same = refl

pub with_same : (key : ℕ) (e : Entry) (l : Ledger) → l.entries key ≡ Some e → with_entry key e l ≡ l
with_same key e l there = ap (λ (entries : ℕ → Option Entry). record l { entries = entries }) same
  where
    same : at_key key (Some e) l.entries ≡ l.entries
    same = λ i other. at_same (other == key) (Some e) (l.entries other) (λ is. ap l.entries (same_key other key is) ∙ there) i

map_append : (p r : List ℕ) → map HasByte (p ++ r) ≡ map HasByte p ++ map HasByte r
map_append [] r = refl
map_append (x ∷ p) r = ap (λ (hs : List HttpElement). HasByte x ∷ hs) (map_append p r)

-- a part of no bytes changes nothing
part_none : (key : ℕ) (l l' : Ledger) → IsPart key [] l l' → l' ≡ l
part_none key l l' p = p.after ∙ (ap (λ (x : Entry). with_entry key x l) unchanged ∙ with_same key p.e l p.there)
  where
    unchanged : further p.parsed p.closes p.body [] p.e ≡ p.e
    unchanged =
        ap (λ (parsed : List HttpElement). record p.e { progress = Http parsed p.closes (p.body ++ []); draining = false }) (append-nil p.parsed)
        ∙ (ap (λ (body : List ℕ). record p.e { progress = Http p.parsed p.closes body; draining = false }) (append-nil p.body)
        ∙ (ap (λ (progress : PeerRecord). record p.e { progress = progress; draining = false }) (sym p.progress) ∙ ap (λ (t : Bool). record p.e { draining = t }) (sym p.flows)))

broken_if : (t : Bool) (x y : Option Entry) → (IsBroken x → ⊥) → (IsBroken y → ⊥) → IsBroken (if t then x else y) → ⊥
broken_if true x y p q is = p is
broken_if false x y p q is = q is

untrue : (t : Bool) → t ≡ false → t ≡ true → ⊥
untrue true p q = cc
untrue false p q = cc

part_sound : (key : ℕ) (bytes : List ℕ) (l l' : Ledger) → IsPart key bytes l l' → NoneBroken l → NoneBroken l'
part_sound key bytes l l' p none other is =
    broken_if (other == key) (Some (further p.parsed p.closes p.body bytes p.e)) (l.entries other) (λ lost. untrue p.e.broken p.sound lost) (none other) (subst (λ (x : Ledger). IsBroken (x.entries other)) p.after is)

-- the same part by other names of the entry and what was parsed
record As (key : ℕ) (bytes : List ℕ) (l l' : Ledger) (e : Entry) (parsed : List HttpElement) (closes : Bool) (body : List ℕ) : Type 0 where
  first : ParsesFirst e.read (parsed ++ map HasByte bytes)
  after : l' ≡ with_entry key (further parsed closes body bytes e) l

one_http : (parsed other : List HttpElement) (closes ends : Bool) (body text : List ℕ) → Http parsed closes body ≡ Http other ends text → (parsed ≡ other) × (closes ≡ ends) × (body ≡ text)
one_http parsed other closes ends body text same = (cc, cc, cc)

seen_as : (key : ℕ) (bytes : List ℕ) (l l' : Ledger) → (p : IsPart key bytes l l') → (e : Entry) (parsed : List HttpElement) (closes : Bool) (body : List ℕ) → l.entries key ≡ Some e → e.progress ≡ Http parsed closes body → As key bytes l l' e parsed closes body
seen_as key bytes l l' p e parsed closes body there progress =
    subst (λ (x : Entry). As key bytes l l' x parsed closes body) entry
    (subst (λ (x : List HttpElement). As key bytes l l' p.e x closes body) parts.0
    (subst (λ (t : Bool). As key bytes l l' p.e p.parsed t body) parts.1 (subst (λ (x : List ℕ). As key bytes l l' p.e p.parsed p.closes x) parts.2 (record { first = p.first; after = p.after }))))
  where
    entry : p.e ≡ e
    entry = same_entry (l.entries key) p.e e p.there there

    parts : (p.parsed ≡ parsed) × (p.closes ≡ closes) × (p.body ≡ body)
    parts = one_http p.parsed parsed p.closes closes p.body body (sym p.progress ∙ (ap (λ (x : Entry). x.progress) entry ∙ progress))

-- of two parts from one ledger, where the first is a prefix of the second: what is left of the second
part_rest : (key : ℕ) (p r : List ℕ) (l m l' : Ledger) → IsPart key p l m → IsPart key (p ++ r) l l' → IsPart key r m l'
part_rest key p r l m l' one other = record {
  e = further one.parsed one.closes one.body p one.e;
  parsed = one.parsed ++ map HasByte p;
  closes = one.closes;
  body = one.body ++ p;
  there = ap (λ (x : Ledger). x.entries key) one.after ∙ ap (λ (t : Bool). if t then Some (further one.parsed one.closes one.body p one.e) else l.entries key) (is_key key);
  sound = one.sound;
  flows = refl;
  progress = refl;
  first = subst (ParsesFirst one.e.read) (ap (λ (x : List HttpElement). one.parsed ++ x) (map_append p r) ∙ sym (append_assoc one.parsed (map HasByte p) (map HasByte r))) its.first;
  after = its.after
      ∙ (ap (λ (x : List HttpElement). with_entry key (record one.e { progress = Http x one.closes (one.body ++ (p ++ r)); draining = false }) l) (ap (λ (x : List HttpElement). one.parsed ++ x) (map_append p r) ∙ sym (append_assoc one.parsed (map HasByte p) (map HasByte r)))
      ∙ (ap (λ (x : List ℕ). with_entry key (record one.e { progress = Http ((one.parsed ++ map HasByte p) ++ map HasByte r) one.closes x; draining = false }) l) (sym (append_assoc one.body p r))
      ∙ (sym (with_twice key last (further one.parsed one.closes one.body p one.e) l) ∙ ap (λ (x : Ledger). with_entry key last x) (sym one.after))));
}
  where
    its : As key (p ++ r) l l' one.e one.parsed one.closes one.body
    its = seen_as key (p ++ r) l l' other one.e one.parsed one.closes one.body one.there one.progress

    last : Entry
    last = record one.e { progress = Http ((one.parsed ++ map HasByte p) ++ map HasByte r) one.closes ((one.body ++ p) ++ r); draining = false }

-- ---- what a connection asks: a part of a body, or another item

abbrev IsOther : HttpElement → Type 0
IsOther h = (byte : ℕ) → h ≡ HasByte byte → ⊥

module _ (some : SomeParse) (stays : FirstStays) (no_item : NoItemFollows) (one_lpd : OneLpdParse) (no_report : NoReportFollows) where
  -- two prefixes of a stream go on as one
  prefixes : {A : Type 0} (read : List ℕ) (parsed one other : List HttpElement) → ParsesFirst read (parsed ++ one) → ParsesFirst read (parsed ++ other) → ((u v : List HttpElement) → one ++ u ≡ other ++ v → A) → A
  prefixes read parsed one other p q goes =
      let whole = some read in
      let exchanges : Exchanges (read ++ []) whole.0 = subst (λ (x : List ℕ). Exchanges x whole.0) (sym (append-nil read)) whole.1 in
      let left = stays read [] (parsed ++ one) whole.0 p exchanges in
      let right = stays read [] (parsed ++ other) whole.0 q exchanges in
      goes left.0 right.0 (append_cancel_left parsed (one ++ left.0) (other ++ right.0) (sym (append_assoc parsed one left.0) ∙ (sym left.1 ∙ (right.1 ∙ append_assoc parsed other right.0))))

  -- nothing follows the whole of a stream
  no_more : (read : List ℕ) (parsed : List HttpElement) (h : HttpElement) (more : List HttpElement) → Exchanges read parsed → ParsesFirst read (parsed ++ h ∷ more) → ⊥
  no_more read parsed h more whole p =
      let exchanges : Exchanges (read ++ []) parsed = subst (λ (x : List ℕ). Exchanges x parsed) (sym (append-nil read)) whole in
      let left = stays read [] (parsed ++ h ∷ more) parsed p exchanges in
      nothing (append_cancel_left parsed [] (h ∷ (more ++ left.0)) (append-nil parsed ∙ (left.1 ∙ append_assoc parsed (h ∷ more) left.0)))
    where
      nothing : {x : HttpElement} {xs : List HttpElement} → [] ≡ x ∷ xs → ⊥
      nothing same = cc

  -- a part of a body is taken
  record Part (e new : Entry) (what : Ask) (progress : PeerRecord) : Type 0 where
    parsed : List HttpElement
    closes : Bool
    body : List ℕ
    bytes : List ℕ
    is : progress ≡ Http parsed closes body
    first : ParsesFirst e.read (parsed ++ map HasByte bytes)
    still : what ≡ ask.Nothing
    after : new ≡ further parsed closes body bytes e

  -- no part of a body is taken: there is another item, so that not all was acted on
  record Other (settings : ServerSettings) (progress : PeerRecord) (e : Entry) (comes : Step) (mid : Entry) (takes_item : ItemComes settings progress e comes mid) : Type 0 where
    none : part_acted_on settings progress e comes mid takes_item ≡ None
    not_acted_on : IsActedOnAs e.read progress → ⊥
    element : (parsed : List HttpElement) (closes : Bool) (body : List ℕ) → progress ≡ Http parsed closes body → (h : HttpElement) × IsOther h × ParsesFirst e.read (parsed ++ h ∷ [])

  lost_some : {A : Type 0} (what it : Ask) (loss : Loss) → what ≡ it → lost_of it ≡ Some loss → lost_of what ≡ None → A
  lost_some what it loss same is none = absurd (never (lost_of it) is (sym (ap lost_of same) ∙ none))
    where
      never : (o : Option Loss) → o ≡ Some loss → o ≡ None → ⊥
      never o p q = cc

  http_other : (settings : ServerSettings) (parsed : List HttpElement) (closes : Bool) (body : List ℕ) (e : Entry) (comes : Step) (mid : Entry) (it : IppItemComes e parsed closes body comes mid) (which : HttpItem) (h : HttpElement) → it.item ≡ which → part_taken which it.part ≡ None → elements_of which it.part ≡ h ∷ [] → IsOther h → Other settings (Http parsed closes body) e comes mid it
  http_other settings parsed closes body e comes mid it which h is none elements other = record {
    none = ap (λ (x : HttpItem). part_taken x it.part) is ∙ none;
    not_acted_on = λ acted_on. no_more e.read parsed h [] acted_on first;
    element = λ of ends text same. (h, other, subst (λ (x : List HttpElement). ParsesFirst e.read (x ++ h ∷ [])) (one_http parsed of closes ends body text same).0 first);
  }
    where
      first : ParsesFirst e.read (parsed ++ h ∷ [])
      first = subst (λ (x : List HttpElement). ParsesFirst e.read (parsed ++ x)) (ap (λ (x : HttpItem). elements_of x it.part) is ∙ elements) it.next

  part_step : (parsed : List HttpElement) (closes : Bool) (body : List ℕ) (e : Entry) (comes : Step) (mid : Entry) (what : Ask) (new : Entry) (part : List ℕ) → ParsesFirst e.read (parsed ++ map HasByte part) → (comes ≡ silent) ⊎ (comes ≡ no_memory)
      → mid ≡ with_progress (Http (parsed ++ map HasByte part) closes (grown comes part body)) e → StepsTo comes mid what new → lost_of what ≡ None → Part e new what (Http parsed closes body)
  part_step parsed closes body e comes mid what new part first (inr is) after steps none =
      let broke : (what ≡ ask.Broke growth.Input) × (new ≡ broken mid) = subst (λ (s : Step). StepsTo s mid what new) is steps in lost_some what (ask.Broke growth.Input) _ broke.0 refl none
  part_step parsed closes body e comes mid what new part first (inl is) after steps none = by (subst (λ (s : Step). StepsTo s mid what new) is steps)
    where
      grew : mid ≡ with_progress (Http (parsed ++ map HasByte part) closes (body ++ part)) e
      grew = after ∙ ap (λ (s : Step). with_progress (Http (parsed ++ map HasByte part) closes (grown s part body)) e) is

      by : Owes [] (finishing false mid) what new → Part e new what (Http parsed closes body)
      by (inr (broke, needs, lost)) = lost_some what (ask.Broke growth.Output) _ broke refl none
      by (inl (quiet, owes)) = record {
        parsed = parsed;
        closes = closes;
        body = body;
        bytes = part;
        is = refl;
        first = first;
        still = quiet;
        after = owes ∙ (ap (λ (x : Entry). owing [] (finishing false x)) grew ∙ ap (λ (due : List ℕ). record (further parsed closes body part e) { due = due }) (append-nil e.due));
      }

  http_kind : (settings : ServerSettings) (parsed : List HttpElement) (closes : Bool) (body : List ℕ) (e : Entry) (comes : Step) (mid : Entry) (what : Ask) (new : Entry) (it : IppItemComes e parsed closes body comes mid) (which : HttpItem) → it.item ≡ which → StepsTo comes mid what new → lost_of what ≡ None
      → Part e new what (Http parsed closes body) ⊎ Other settings (Http parsed closes body) e comes mid it
  http_kind settings parsed closes body e comes mid what new it (item.Head next) is steps none = inr (http_other settings parsed closes body e comes mid it (item.Head next) (HasHead next) is refl refl (λ byte same. cc))
  http_kind settings parsed closes body e comes mid what new it item.Continue is steps none = inr (http_other settings parsed closes body e comes mid it item.Continue Invites is refl refl (λ byte same. cc))
  http_kind settings parsed closes body e comes mid what new it item.BodyEnd is steps none = inr (http_other settings parsed closes body e comes mid it item.BodyEnd EndsBody is refl refl (λ byte same. cc))
  http_kind settings parsed closes body e comes mid what new it (item.Refuse refusal) is steps none = inr (http_other settings parsed closes body e comes mid it (item.Refuse refusal) (IsRefused refusal) is refl refl (λ byte same. cc))
  http_kind settings parsed closes body e comes mid what new it item.BodyPart is steps none =
      inl
      (part_step parsed closes body e comes mid what new it.part (subst (λ (x : HttpItem). ParsesFirst e.read (parsed ++ elements_of x it.part)) is it.next) (subst (λ (x : HttpItem). StepsIpp x closes body comes) is it.comes)
      (it.after ∙ ap (λ (x : HttpItem). with_progress (Http (parsed ++ elements_of x it.part) (closes_after x closes) (body_after x comes it.part body)) e) is) steps none)

  breaks : {A : Type 0} (comes : Step) (mid : Entry) (what : Ask) (new : Entry) → comes ≡ no_memory → StepsTo comes mid what new → lost_of what ≡ None → A
  breaks comes mid what new is steps none = let broke : (what ≡ ask.Broke growth.Input) × (new ≡ broken mid) = subst (λ (s : Step). StepsTo s mid what new) is steps in lost_some what (ask.Broke growth.Input) _ broke.0 refl none

  kind : (settings : ServerSettings) (progress : PeerRecord) (e : Entry) (comes : Step) (mid : Entry) (what : Ask) (new : Entry) → (takes_item : ItemComes settings progress e comes mid) → StepsTo comes mid what new → lost_of what ≡ None → Part e new what progress ⊎ Other settings progress e comes mid takes_item
  kind settings (Http parsed closes body) e comes mid what new takes_item steps none = http_kind settings parsed closes body e comes mid what new takes_item takes_item.item refl steps none
  kind settings (Queue items session) e comes mid what new (inl it) steps none = inr (record { none = refl; not_acted_on = λ acted_on. no_item e.read items it.parsed Open it.next acted_on; element = λ parsed closes body same. cc })
  kind settings (Queue items session) e comes mid what new (inr (inl it)) steps none = inr (record { none = refl; not_acted_on = λ acted_on. open_fault (one_lpd e.read items items Open (Faulty it.fault) acted_on it.is).1; element = λ parsed closes body same. cc })
    where
      open_fault : Open ≡ Faulty it.fault → ⊥
      open_fault same = cc
  kind settings (Queue items session) e comes mid what new (inr (inr it)) steps none = breaks comes mid what new it.0 steps none
  kind settings (OfDevice reports device) e comes mid what new (inl it) steps none = inr (record { none = refl; not_acted_on = λ acted_on. no_report e.read reports it.parsed Link.Unfinished it.next acted_on; element = λ parsed closes body same. cc })
  kind settings (OfDevice reports device) e comes mid what new (inr (inl it)) steps none = inr (record { none = refl; not_acted_on = λ acted_on. open_fault (ap (λ (x : ParsedLines). x.ending) (sym acted_on ∙ it.is)); element = λ parsed closes body same. cc })
    where
      open_fault : Link.Unfinished ≡ Link.Faulty it.fault → ⊥
      open_fault same = cc
  kind settings (OfDevice reports device) e comes mid what new (inr (inr it)) steps none = breaks comes mid what new it.0 steps none

  -- ---- an ask, and its happenings

  unlost : (moment key id : ℕ) (what : Ask) (l : Ledger) (hs : List Happening) (a : Ledger) → ActsOn moment key id what l hs a → Calm hs → lost_of what ≡ None
  unlost moment key id ask.Nothing l hs a it calm = refl
  unlost moment key id (ask.Broke which) l hs a it calm = absurd ((refuses_notifies (place_of which) (Some id)).never l hs a it calm)
  unlost moment key id (ask.Event who event) l hs a it calm = refl
  unlost moment key id (ask.Unread request) l hs a it calm = absurd ((refuses_dropped key id request).never l hs a it calm)
  unlost moment key id (ask.Lost which) l hs a it calm = absurd ((refuses_declines (place_of_part which) key id).never l hs a it calm)
  unlost moment key id (ask.Hello device name) l hs a it calm = refl
  unlost moment key id (ask.Report device report) l hs a it calm = refl
  unlost moment key id (ask.UnknownDevice name) l hs a it calm = refl
  unlost moment key id (ask.Fault device) l hs a it calm = refl

  -- the connection asked nothing but a part of a body
  record TakesPart (key : ℕ) (l : Ledger) (hs : List Happening) (a : Ledger) : Type 0 where
    bytes : List ℕ
    part : IsPart key bytes l a
    unseen : keyed hs ≡ []

  -- the connection asked something else
  record AsksElse (moment key : ℕ) (l : Ledger) (hs : List Happening) (a : Ledger) (it : ActsNext moment key l hs a) : Type 0 where
    none : part_of it.2.first.asks ≡ None
    lost : lost_of it.1 ≡ None
    not_acted_on : IsActedOnAt (l.entries key) → ⊥
    element : (e : Entry) (parsed : List HttpElement) (closes : Bool) (body : List ℕ) → l.entries key ≡ Some e → e.progress ≡ Http parsed closes body → (h : HttpElement) × IsOther h × ParsesFirst e.read (parsed ++ h ∷ [])

  flowing : (x y : Bool) → (x || y) ≡ false → (x ≡ false) × (y ≡ false)
  flowing true y is = absurd (untrue true is refl)
  flowing false y is = (refl, is)

  next_kind : (moment key : ℕ) (l : Ledger) (hs : List Happening) (a : Ledger) → (it : ActsNext moment key l hs a) → Calm hs → TakesPart key l hs a ⊎ AsksElse moment key l hs a it
  next_kind moment key l hs a (id, what, it) calm = by (kind l.core.settings p.entry.progress p.entry p.asks.comes p.asks.mid what p.new p.asks.takes_item p.asks.steps none)
    where
      p : Asks key id what l it.prefix it.mid
      p = it.first

      none : lost_of what ≡ None
      none = unlost moment key id what it.mid it.back a it.second (calm_last hs it.prefix it.back it.whole calm)

      sound : (p.entry.draining ≡ false) × (p.entry.broken ≡ false)
      sound = flowing p.entry.draining p.entry.broken p.asks.counts

      by : Part p.entry p.new what p.entry.progress ⊎ Other l.core.settings p.entry.progress p.entry p.asks.comes p.asks.mid p.asks.takes_item → TakesPart key l hs a ⊎ AsksElse moment key l hs a (id, what, it)
      by (inl took) =
          let still : (it.back ≡ []) × (a ≡ it.mid) = subst (λ (x : Ask). ActsOn moment key id x it.mid it.back a) took.still it.second in
          inl (record {
            bytes = took.bytes;
            part = record {
              e = p.entry;
              parsed = took.parsed;
              closes = took.closes;
              body = took.body;
              there = p.there;
              sound = sound.1;
              flows = sound.0;
              progress = took.is;
              first = took.first;
              after = still.1 ∙ (p.after ∙ ap (λ (x : Entry). with_entry key x l) took.after);
            };
            unseen = ap keyed it.whole ∙ (keyed_append it.prefix it.back ∙ (ap (λ (x : List Happening). keyed x ++ keyed it.back) p.chosen ∙ ap keyed still.0));
          })
      by (inr other) = inr (record {
        none = other.none;
        lost = none;
        not_acted_on = λ acted_on. not_acted_on (subst IsActedOnAt p.there acted_on);
        element = λ e parsed closes body there progress.
            let same : p.entry ≡ e = same_entry (l.entries key) p.entry e p.there there in
            let is : p.entry.progress ≡ Http parsed closes body = ap (λ (x : Entry). x.progress) same ∙ progress in
            subst (λ (x : Entry). (h : HttpElement) × IsOther h × ParsesFirst x.read (parsed ++ h ∷ [])) same (other.element parsed closes body is);
      })
        where
          not_acted_on : IsActedOn p.entry → ⊥
          not_acted_on (inl over) = untrue (p.entry.draining || p.entry.broken) p.asks.counts over
          not_acted_on (inr acted_on) = other.not_acted_on acted_on

  module _ (steps : StepsOnce) (queries : SameQueries) (asks : AsksOne) (moment key : ℕ) where
    -- two asks of one connection's number are one
    record OneAsk (id : ℕ) (what : Ask) (other : ℕ) (parsed : Ask) : Type 0 where
      ids : id ≡ other
      same_ask : SameAsk what parsed

    asked_one : (settings : ServerSettings) (o : Option Entry) (e d : Entry) (what parsed : Ask) (new after : Entry) → o ≡ Some e → o ≡ Some d → (one : AsksNext settings what e new) (other : AsksNext settings parsed d after)
        → part_of one ≡ part_of other → lost_of what ≡ lost_of parsed → SameAsk what parsed × (new ≡ after)
    asked_one settings o e d what parsed new after there is one other part lost =
        (subst (λ (x : Entry). (it : AsksNext settings parsed x after) → part_of one ≡ part_of it → lost_of what ≡ lost_of parsed → SameAsk what parsed × (new ≡ after)) (same_entry o e d there is) (asks settings e what parsed new after one))
        other part lost

    asks_same : (id other : ℕ) (what parsed : Ask) (l : Ledger) (hs : List Happening) (a : Ledger) (ks : List Happening) (b : Ledger) → (p : Asks key id what l hs a) (q : Asks key other parsed l ks b) → part_of p.asks ≡ None → part_of q.asks ≡ None → lost_of what ≡ None → lost_of parsed ≡ None → OneAsk id what other parsed × (keyed hs ≡ keyed ks) × (a ≡ b)
    asks_same id other what parsed l hs a ks b p q none nor lost found =
        let one = asked_one l.core.settings (l.entries key) p.entry q.entry what parsed p.new q.new p.there q.there p.asks q.asks (none ∙ sym nor) (lost ∙ sym found) in
        let entry : p.entry ≡ q.entry = same_entry (l.entries key) p.entry q.entry p.there q.there in (
          record { ids = p.its ∙ (ap (λ (x : Entry). x.id) entry ∙ sym q.its); same_ask = one.0 },
          ap keyed p.chosen ∙ sym (ap keyed q.chosen),
          p.after ∙ (ap (λ (x : Entry). with_entry key x l) one.1 ∙ sym q.after),
        )

    next_same : (l : Ledger) (hs rest : List Happening) (a : Ledger) (ks more : List Happening) (b : Ledger) → keyed hs ++ rest ≡ keyed ks ++ more → Calm hs → Calm ks → (p : ActsNext moment key l hs a) (q : ActsNext moment key l ks b) → AsksElse moment key l hs a p → AsksElse moment key l ks b q → (keyed hs ≡ keyed ks) × (a ≡ b)
    next_same l hs rest a ks more b e c d (id, what, p) (other, parsed, q) x y =
        let it = same_then_by (Asks key id what) (Asks key other parsed) (ActsOn moment key id what) (ActsOn moment key other parsed) l hs rest a ks more b e c d p q
        (λ left right both calm still. asks_same id other what parsed l p.prefix p.mid q.prefix q.mid p.first q.first x.none y.none x.lost y.lost)
        (λ one. subst (λ (k : ℕ). Same (ActsOn moment key id what) (ActsOn moment key k parsed)) one.ids (same_does steps queries moment key id what parsed one.same_ask)) in
        (it.1, it.2)

    acts_same : (l : Ledger) (hs rest : List Happening) (a : Ledger) (ks more : List Happening) (b : Ledger) → keyed hs ++ rest ≡ keyed ks ++ more → Calm hs → Calm ks → (p : Acts moment key l hs a) (q : Acts moment key l ks b) → AsksElse moment key l p.prefix p.mid p.first → AsksElse moment key l q.prefix q.mid q.first → (keyed hs ≡ keyed ks) × (a ≡ b)
    acts_same l hs rest a ks more b e c d p q x y =
        let it = same_then_by {X = Unit {0}} (ActsNext moment key) (ActsNext moment key) (ClosesBroken moment) (ClosesBroken moment) l hs rest a ks more b e c d p q
        (λ left right both calm still. let first = next_same l p.prefix left p.mid q.prefix right q.mid both calm still p.first q.first x y in (tt, first.0, first.1)) (λ u. same_closes_broken steps queries moment) in
        (it.1, it.2)

    -- where none is broken, nothing is closed
    unbroken : (l : Ledger) (hs : List Happening) (a : Ledger) → NoneBroken l → ClosesBroken moment l hs a → (hs ≡ []) × (a ≡ l)
    unbroken l hs a none it = by it.0.0 it.0.1
      where
        by : (n : ℕ) → Times n (ClosesFirst moment) l hs a → (hs ≡ []) × (a ≡ l)
        by zero times = times
        by (suc n) times = let first = times_cons n (ClosesFirst moment) l hs a times in absurd (none_closes steps queries moment l first.prefix first.mid none first.first)

    act_kind : (l : Ledger) (hs : List Happening) (a : Ledger) → NoneBroken l → Calm hs → (p : Acts moment key l hs a) → TakesPart key l hs a ⊎ AsksElse moment key l p.prefix p.mid p.first
    act_kind l hs a none calm p = by (next_kind moment key l p.prefix p.mid p.first (calm_first hs p.prefix p.back p.whole calm))
      where
        by : TakesPart key l p.prefix p.mid ⊎ AsksElse moment key l p.prefix p.mid p.first → TakesPart key l hs a ⊎ AsksElse moment key l p.prefix p.mid p.first
        by (inr other) = inr other
        by (inl took) =
            let still = unbroken p.mid p.back a (part_sound key took.bytes l p.mid took.part none) p.second in
            inl (record {
              bytes = took.bytes;
              part = subst (λ (x : Ledger). IsPart key took.bytes l x) (sym still.1) took.part;
              unseen = ap keyed p.whole ∙ (keyed_append p.prefix p.back ∙ (ap (λ (x : List Happening). x ++ keyed p.back) took.unseen ∙ ap keyed still.0));
            })

    -- ---- asks until all is acted on

    record Run (n : ℕ) (l : Ledger) (hs : List Happening) (a : Ledger) : Type 0 where
      times : Times n (Acts moment key) l hs a
      acted_on : IsActedOnAt (a.entries key)

    -- the second ledger is the first, or is ahead of it by some bytes of a body
    abbrev Lag : Ledger → Ledger → Type 0
    Lag l m = (m ≡ l) ⊎ ((x : ℕ) × (xs : List ℕ) × IsPart key (x ∷ xs) l m)

    lag_of : (bytes : List ℕ) (l m : Ledger) → IsPart key bytes l m → Lag l m
    lag_of [] l m p = inl (part_none key l m p)
    lag_of (x ∷ xs) l m p = inr (x, xs, p)

    not_acted_on_part : (x : ℕ) (xs : List ℕ) (l m : Ledger) → IsPart key (x ∷ xs) l m → IsActedOnAt (l.entries key) → ⊥
    not_acted_on_part x xs l m p acted_on = by (subst IsActedOnAt p.there acted_on)
      where
        never : (s t : Bool) → s ≡ false → t ≡ false → (s || t) ≡ true → ⊥
        never true t a b c = untrue true a refl
        never false t a b c = untrue t b c

        by : IsActedOn p.e → ⊥
        by (inl over) = never p.e.draining p.e.broken p.flows p.sound over
        by (inr all) = no_more p.e.read p.parsed (HasByte x) (map HasByte xs) (subst (IsActedOnAs p.e.read) p.progress all) p.first

    unseen_prefix : (hs prefix back : List Happening) → hs ≡ prefix ++ back → keyed prefix ≡ [] → keyed hs ≡ keyed back
    unseen_prefix hs prefix back whole unseen = ap keyed whole ∙ (keyed_append prefix back ∙ ap (λ (x : List Happening). x ++ keyed back) unseen)

    -- where all is acted on, only parts of no bytes are taken
    abbrev Finishes : ℕ → Type 0
    Finishes m = (l : Ledger) (ks : List Happening) (b : Ledger) → NoneBroken l → IsActedOnAt (l.entries key) → Calm ks → Run m l ks b → (keyed ks ≡ []) × (b ≡ l)

    finishes : (m : ℕ) → Finishes m → Finishes (suc m)
    finishes m rest l ks b none acted_on calm q = by (act_kind l y.prefix y.mid none (calm_first ks y.prefix y.back y.whole calm) y.first)
      where
        y : Then (Acts moment key) (Times m (Acts moment key)) l ks b
        y = times_cons m (Acts moment key) l ks b q.times

        still : (bytes : List ℕ) → IsPart key bytes l y.mid → y.mid ≡ l
        still [] p = part_none key l y.mid p
        still (x ∷ xs) p = absurd (not_acted_on_part x xs l y.mid p acted_on)

        by : TakesPart key l y.prefix y.mid ⊎ AsksElse moment key l y.first.prefix y.first.mid y.first.first → (keyed ks ≡ []) × (b ≡ l)
        by (inr other) = absurd (other.not_acted_on acted_on)
        by (inl took) =
            let later : Run m l y.back b = subst (λ (z : Ledger). Run m z y.back b) (still took.bytes took.part) (record { times = y.second; acted_on = q.acted_on }) in
            let it = rest l y.back b none acted_on (calm_last ks y.prefix y.back y.whole calm) later in
            (unseen_prefix ks y.prefix y.back y.whole took.unseen ∙ it.0, it.1)

    finish : (m : ℕ) → Finishes m
    finish zero l ks b none acted_on calm q = (ap keyed q.times.0, q.times.1)
    finish (suc m) l ks b none acted_on calm q = finishes m (finish m) l ks b none acted_on calm q

    -- of two lists of bytes that go on as one, one is a prefix of the other
    prefix : (p r : List ℕ) (u v : List HttpElement) → map HasByte p ++ u ≡ map HasByte r ++ v → ((more : List ℕ) × (r ≡ p ++ more)) ⊎ ((y : ℕ) × (ys : List ℕ) × (p ≡ r ++ y ∷ ys))
    prefix [] r u v same = inl (r, refl)
    prefix (y ∷ ys) [] u v same = inr (y, ys, refl)
    prefix (y ∷ ys) (z ∷ zs) u v same = by (prefix ys zs u v tails)
      where
        heads : y ≡ z
        heads = cc

        tails : map HasByte ys ++ u ≡ map HasByte zs ++ v
        tails = cc

        by : ((more : List ℕ) × (zs ≡ ys ++ more)) ⊎ ((w : ℕ) × (ws : List ℕ) × (ys ≡ zs ++ w ∷ ws)) → ((more : List ℕ) × (z ∷ zs ≡ (y ∷ ys) ++ more)) ⊎ ((w : ℕ) × (ws : List ℕ) × (y ∷ ys ≡ (z ∷ zs) ++ w ∷ ws))
        by (inl (more, is)) = inl (more, ap (λ (x : ℕ). x ∷ zs) (sym heads) ∙ ap (λ (xs : List ℕ). y ∷ xs) is)
        by (inr (w, ws, is)) = inr (w, ws, ap (λ (x : ℕ). x ∷ ys) heads ∙ ap (λ (xs : List ℕ). z ∷ xs) is)

    abbrev Met : List Happening → Ledger → List Happening → Ledger → Type 0
    Met hs a ks b = (keyed hs ≡ keyed ks) × (a ≡ b)

    clash : {A : Type 0} (h : HttpElement) (z : ℕ) (u v : List HttpElement) → IsOther h → h ∷ u ≡ HasByte z ∷ v → A
    clash h z u v other same = absurd (other z (cc))

    -- two runs from one ledger, of which the second may be ahead by some bytes of a body, meet
    abbrev Meets : ℕ → Type 0
    Meets k =
        (n m : ℕ) → n + m ≤ k → (l l2 : Ledger) → NoneBroken l → Lag l l2 → (hs rest : List Happening) (a : Ledger) (ks more : List Happening) (b : Ledger)
        → keyed hs ++ rest ≡ keyed ks ++ more → Calm hs → Calm ks → Run n l hs a → Run m l2 ks b → Met hs a ks b

    -- from one ledger
    meets_even : (k : ℕ) → Meets k → (n m : ℕ) → suc n + suc m ≤ suc k → (l : Ledger) → NoneBroken l → (hs rest : List Happening) (a : Ledger) (ks more : List Happening) (b : Ledger)
        → keyed hs ++ rest ≡ keyed ks ++ more → Calm hs → Calm ks → Run (suc n) l hs a → Run (suc m) l ks b → Met hs a ks b
    meets_even k meet n m le l none hs rest a ks more b e c d p q =
        by (act_kind l x.prefix x.mid none (calm_first hs x.prefix x.back x.whole c) x.first) (act_kind l y.prefix y.mid none (calm_first ks y.prefix y.back y.whole d) y.first)
      where
        x : Then (Acts moment key) (Times n (Acts moment key)) l hs a
        x = times_cons n (Acts moment key) l hs a p.times

        y : Then (Acts moment key) (Times m (Acts moment key)) l ks b
        y = times_cons m (Acts moment key) l ks b q.times

        by : TakesPart key l x.prefix x.mid ⊎ AsksElse moment key l x.first.prefix x.first.mid x.first.first → TakesPart key l y.prefix y.mid ⊎ AsksElse moment key l y.first.prefix y.first.mid y.first.first → Met hs a ks b
        by (inl took) other =
            let seen : keyed hs ≡ keyed x.back = unseen_prefix hs x.prefix x.back x.whole took.unseen in
            let both : keyed ks ++ more ≡ keyed x.back ++ rest = sym e ∙ ap (λ (z : List Happening). z ++ rest) seen in
            let it = meet (suc m) n (omega (arith, le)) l x.mid none (lag_of took.bytes l x.mid took.part) ks more b x.back rest a both d (calm_last hs x.prefix x.back x.whole c) q (record { times = x.second; acted_on = p.acted_on }) in
            (seen ∙ sym it.0, sym it.1)
        by (inr one) (inl took) =
            let seen : keyed ks ≡ keyed y.back = unseen_prefix ks y.prefix y.back y.whole took.unseen in
            let both : keyed hs ++ rest ≡ keyed y.back ++ more = e ∙ ap (λ (z : List Happening). z ++ more) seen in
            let it = meet (suc n) m (omega (arith, le)) l y.mid none (lag_of took.bytes l y.mid took.part) hs rest a y.back more b both c (calm_last ks y.prefix y.back y.whole d) p (record { times = y.second; acted_on = q.acted_on }) in
            (it.0 ∙ sym seen, it.1)
        by (inr one) (inr other) =
            let both : keyed x.prefix ++ (keyed x.back ++ rest) ≡ keyed y.prefix ++ (keyed y.back ++ more) = sym (keyed_parts hs x.prefix x.back rest x.whole) ∙ (e ∙ keyed_parts ks y.prefix y.back more y.whole) in
            let first = acts_same l x.prefix (keyed x.back ++ rest) x.mid y.prefix (keyed y.back ++ more) y.mid both (calm_first hs x.prefix x.back x.whole c) (calm_first ks y.prefix y.back y.whole d) x.first y.first one other in
            let left : keyed x.back ++ rest ≡ keyed y.back ++ more = append_cancel_left (keyed x.prefix) (keyed x.back ++ rest) (keyed y.back ++ more) (both ∙ ap (λ (z : List Happening). z ++ (keyed y.back ++ more)) (sym first.0)) in
            let it = meet n m (omega (arith, le)) x.mid y.mid x.first.second.1 (inl (sym first.1)) x.back rest a y.back more b left (calm_last hs x.prefix x.back x.whole c) (calm_last ks y.prefix y.back y.whole d) (record { times = x.second; acted_on = p.acted_on }) (record { times = y.second; acted_on = q.acted_on }) in (
              ap keyed x.whole ∙ (keyed_append x.prefix x.back ∙ (ap (λ (z : List Happening). z ++ keyed x.back) first.0 ∙ (ap (λ (z : List Happening). keyed y.prefix ++ z) it.0 ∙ sym (ap keyed y.whole ∙ keyed_append y.prefix y.back)))),
              it.1,
            )

    -- where the second is ahead
    meets_after : (k : ℕ) → Meets k → (n m : ℕ) → suc n + m ≤ suc k → (l l2 : Ledger) → NoneBroken l → (z : ℕ) (zs : List ℕ) → IsPart key (z ∷ zs) l l2 → (hs rest : List Happening) (a : Ledger) (ks more : List Happening) (b : Ledger)
        → keyed hs ++ rest ≡ keyed ks ++ more → Calm hs → Calm ks → Run (suc n) l hs a → Run m l2 ks b → Met hs a ks b
    meets_after k meet n m le l l2 none z zs part hs rest a ks more b e c d p q = by (act_kind l x.prefix x.mid none (calm_first hs x.prefix x.back x.whole c) x.first)
      where
        x : Then (Acts moment key) (Times n (Acts moment key)) l hs a
        x = times_cons n (Acts moment key) l hs a p.times

        later : Run n x.mid x.back a
        later = record { times = x.second; acted_on = p.acted_on }

        calm : Calm x.back
        calm = calm_last hs x.prefix x.back x.whole c

        taken : (bytes : List ℕ) → IsPart key bytes l x.mid → keyed hs ≡ keyed x.back → ((more : List ℕ) × (z ∷ zs ≡ bytes ++ more)) ⊎ ((w : ℕ) × (ws : List ℕ) × (bytes ≡ (z ∷ zs) ++ w ∷ ws)) → Met hs a ks b
        taken bytes one seen (inl (left, is)) =
            let tail = part_rest key bytes left l x.mid l2 one (subst (λ (xs : List ℕ). IsPart key xs l l2) is part) in
            let both : keyed x.back ++ rest ≡ keyed ks ++ more = sym (ap (λ (v : List Happening). v ++ rest) seen) ∙ e in
            let it = meet n m (omega (arith, le)) x.mid l2 (part_sound key bytes l x.mid one none) (lag_of left x.mid l2 tail) x.back rest a ks more b both calm d later q in
            (seen ∙ it.0, it.1)
        taken bytes one seen (inr (w, ws, is)) =
            let ahead = part_rest key (z ∷ zs) (w ∷ ws) l l2 x.mid part (subst (λ (xs : List ℕ). IsPart key xs l x.mid) is one) in
            let both : keyed ks ++ more ≡ keyed x.back ++ rest = sym e ∙ ap (λ (v : List Happening). v ++ rest) seen in
            let it = meet m n (omega (arith, le)) l2 x.mid (part_sound key (z ∷ zs) l l2 part none) (inr (w, ws, ahead)) ks more b x.back rest a both d calm q later in
            (seen ∙ sym it.0, sym it.1)

        by : TakesPart key l x.prefix x.mid ⊎ AsksElse moment key l x.first.prefix x.first.mid x.first.first → Met hs a ks b
        by (inr other) =
            let it = other.element part.e part.parsed part.closes part.body part.there part.progress in prefixes part.e.read part.parsed (it.0 ∷ []) (HasByte z ∷ map HasByte zs) it.2 part.first (λ u v same. clash it.0 z u (map HasByte zs ++ v) it.1 same)
        by (inl took) =
            let one = took.part in
            let its = seen_as key (z ∷ zs) l l2 part one.e one.parsed one.closes one.body one.there one.progress in
            taken took.bytes one (unseen_prefix hs x.prefix x.back x.whole took.unseen) (prefixes one.e.read one.parsed (map HasByte took.bytes) (map HasByte (z ∷ zs)) one.first its.first (λ u v same. prefix took.bytes (z ∷ zs) u v same))

    meet : (k : ℕ) → Meets k
    meet k zero m le l l2 none (inl same) hs rest a ks more b e c d p q =
        let last = finish m l ks b none (subst (λ (x : Ledger). IsActedOnAt (x.entries key)) p.times.1 p.acted_on) d (subst (λ (x : Ledger). Run m x ks b) same q) in (ap keyed p.times.0 ∙ sym last.0, p.times.1 ∙ sym last.1)
    meet k zero m le l l2 none (inr (x, xs, part)) hs rest a ks more b e c d p q = absurd (not_acted_on_part x xs l l2 part (subst (λ (z : Ledger). IsActedOnAt (z.entries key)) p.times.1 p.acted_on))
    meet zero (suc n) m le l l2 none lag hs rest a ks more b e c d p q = absurd (omega arith)
    meet (suc k) (suc n) zero le l l2 none (inl same) hs rest a ks more b e c d p q =
        let acted_on : IsActedOnAt (l.entries key) = subst (λ (x : Ledger). IsActedOnAt (x.entries key)) (q.times.1 ∙ same) q.acted_on in let last = finish (suc n) l hs a none acted_on c p in (last.0 ∙ sym (ap keyed q.times.0), last.1 ∙ (sym same ∙ sym q.times.1))
    meet (suc k) (suc n) (suc m) le l l2 none (inl same) hs rest a ks more b e c d p q = meets_even k (meet k) n m le l none hs rest a ks more b e c d p (subst (λ (x : Ledger). Run (suc m) x ks b) same q)
    meet (suc k) (suc n) m le l l2 none (inr (z, zs, part)) hs rest a ks more b e c d p q = meets_after k (meet k) n m le l l2 none z zs part hs rest a ks more b e c d p q

    -- what a connection asks, until it has no ask
    pub serves_same : (l : Ledger) (hs rest : List Happening) (a : Ledger) (ks more : List Happening) (b : Ledger) → NoneBroken l → keyed hs ++ rest ≡ keyed ks ++ more → Calm hs → Calm ks → Serves moment key l hs a → Serves moment key l ks b → (keyed hs ≡ keyed ks) × (a ≡ b)
    serves_same l hs rest a ks more b none e c d p q =
        let x = p.0 in
        let y = q.0 in
        let seen : keyed hs ≡ keyed x.prefix = rested hs x.prefix x.back x.whole x.second.0 in
        let saw : keyed ks ≡ keyed y.prefix = rested ks y.prefix y.back y.whole y.second.0 in
        let both : keyed x.prefix ++ rest ≡ keyed y.prefix ++ more = sym (ap (λ (z : List Happening). z ++ rest) seen) ∙ (e ∙ ap (λ (z : List Happening). z ++ more) saw) in
        let left : Run x.first.0 l x.prefix x.mid = record { times = x.first.1; acted_on = subst (λ (z : Ledger). IsActedOnAt (z.entries key)) x.second.1 p.1 } in
        let right : Run y.first.0 l y.prefix y.mid = record { times = y.first.1; acted_on = subst (λ (z : Ledger). IsActedOnAt (z.entries key)) y.second.1 q.1 } in
        let it = meet (x.first.0 + y.first.0) x.first.0 y.first.0 (omega arith) l l none (inl refl) x.prefix rest x.mid y.prefix more y.mid both (calm_first hs x.prefix x.back x.whole c) (calm_first ks y.prefix y.back y.whole d) left right in
        (seen ∙ (it.0 ∙ sym saw), x.second.1 ∙ (it.1 ∙ sym y.second.1))
      where
        rested : (xs prefix back : List Happening) → xs ≡ prefix ++ back → back ≡ Chosen Rested ∷ [] → keyed xs ≡ keyed prefix
        rested xs prefix back whole is = ap keyed whole ∙ (keyed_append prefix back ∙ (ap (λ (z : List Happening). keyed prefix ++ keyed z) is ∙ append-nil (keyed prefix)))
