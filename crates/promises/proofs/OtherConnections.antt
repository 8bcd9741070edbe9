-- The changes of the other connections by a part of a turn that concerns one connection.
use Rattle.std.proofs.Common.{◌≡◌, ◌≢◌, arith, ℕ, zero, suc, Bool, true, false, List, [], ◌∷◌, ◌++◌, length, take, refl, sym, ◌∙◌, ap, subst, append_assoc, append-nil, Option, Some, None, ◌⊎◌, inl, inr}
use Rattle.std.specs.Prelude.{◌==◌, nat_lt, if◌then◌else◌, All, Contains}
use Rattle.std.specs.List.{concat, flat_map}
use Rattle.std.proofs.lemmas.List.Elements.{All-nil, All-cons, All-append, All-weaker, Contains-append_left, Contains-append_right}
use Rattle.std.proofs.lemmas.List.Folds.{concat-append}
use Rattle.base_types.specs.declared.report.Report.TheVariants as report
use Rattle.device_link.specs.Orders.{cancel_line}
use Rattle.print_room.specs.declared.started.Started.{Started}
use Rattle.print_room.specs.State.{State}
use Rattle.events.specs.declared.event.Event.{Event}
use Rattle.events.specs.declared.event.Event.TheVariants as Is
use Rattle.events.specs.declared.effects.Cancel.{Cancel}
use Rattle.events.specs.declared.effects.Response.{Response}
use Rattle.events.specs.declared.effects.Response.TheVariants as answered
use Rattle.events.specs.declared.effects.LpdResponse.{LpdResponse}
use Rattle.events.specs.declared.effects.LpdResponse.TheVariants as shown
use Rattle.events.specs.declared.effects.Effects.{Effects}
use Rattle.events.specs.declared.status.Status.{Status}
use Rattle.events.specs.declared.status.Status.TheVariants.{TemporaryError}
use Rattle.events.specs.Event.{is_query}
use Rattle.dispatcher.specs.declared.observer.DeviceRefusal.TheVariants as why
use Rattle.dispatcher.specs.declared.observer.AllocationSite.{AllocationSite}
use Rattle.dispatcher.specs.declared.observer.AllocationSite.TheVariants as At
use Rattle.dispatcher.specs.Notes.{Note, DeviceRefused, Refused}
use Rattle.dispatcher.specs.declared.handled.Dispatch.{Dispatch}
use Rattle.dispatcher.specs.declared.handled.Dispatch.TheVariants as dispatch
use Rattle.dispatcher.specs.Run.{Outcome, effects_of}
use Rattle.ipp_operations.specs.QueueText.{ack_of, text_of}
use Rattle.connections.specs.Reply.{http_reply}
use Rattle.wires.specs.Poll.{Poll, Reads, Writes}
use Rattle.wires.specs.declared.wire.Progress.{Progress as WireAnswer}
use Rattle.wires.specs.declared.wire.Progress.TheVariants as wire
use Rattle.connections.specs.declared.ask.Ask.{Ask}
use Rattle.connections.specs.declared.ask.Ask.TheVariants as ask
use Rattle.connections.specs.declared.ask.AllocFailure.TheVariants as growth
use Rattle.connections.specs.declared.ask.Part.TheVariants as part
use Rattle.connections.specs.declared.ask.Client.{Client}
use Rattle.connections.specs.declared.ask.Client.TheVariants as client
use Rattle.connections.specs.Steps.{http_status}
use Rattle.connections.specs.Entry.{Entry, device_of, closes_of, broken, owing, superseded_entry, reading, waiting, needs_memory}
use Rattle.server.specs.Polls.{Happening, Notified, Choice, Found, Rested}
use Rattle.server.specs.Ledger.{Ledger, Drained, at_key, with_entry, job_bytes}
use Rattle.server.specs.Rel.{Rel, Nothing, Polls, Notifies, Chooses, Then, If, Or, Times, Many, EachOf}
use Rattle.server.specs.Enqueuing.{Sets, BreaksAt, Breaks, Drops, EnqueuesOpen, EnqueuesAt, Enqueues, EnqueuesReplyAt, EnqueuesResponse, EnqueuesStatus, IsDevice, EnqueuesOn}
use Rattle.server.specs.Happening.{Sends, Starts, StartsBy, Orders, Happens, Unanswered}
use Rattle.server.specs.Closing.{Leaves, IsGone, ClosesAs, IsBroken, ClosesFirst, NoneBroken, ClosesBroken}
use Rattle.server.specs.Answering as Ans
use Rattle.server.specs.Hello.{IsDeviceAs, IsSupersededAt, IsSuperseded, TakesOver, HandlesHello}
use Rattle.server.specs.Acting.{Asks, ActsOn, ActsNext}
use Rattle.server.specs.Polling.{Acts, Serves, FedWhole, FeedsAt, FeedsOne, Fails, ReadsAs, ReadsOpen, ReadsAt, is_read, ReadsOne, WritesAs, WritesOpen, WritesAt, WritesOne, is_done, EndsAt, EndsOne}
use Rattle.server.specs.Law.{core_notes}
use Rattle.promises.specs.Orders.{began_by}
use Rattle.promises.specs.Delivered.{Came, AreRun, ComeAt}
use Rattle.promises.specs.Others.{IsOrderBy, IsOrder, Bears, ComesAgain, IsCause, SparedAs, IsSpared, Spares, SparesAll}
use Rattle.promises.proofs.SentToDevices.{same_key, one_entry}
use Rattle.promises.proofs.DeviceReports.{here, Kept, KeptAll, kept_then, kept_open, named_stays, no_both}
use Rattle.promises.proofs.StreamSteps.{silent_growth, silent_part, client_keeps}
use Rattle.promises.proofs.ConnectionAsks.{not_broken}
use Rattle.promises.proofs.Devices.{IsFine, step_fine, DeviceStep, device_step}
use Rattle.promises.specs.Answers.{ClientTalk}
use Rattle.connections.specs.Asking.{AsksNext, ItemComes}
use Rattle.connections.specs.Entry.{PeerRecord, Http, Queue, Link}
use Rattle.settings_file.specs.Settings.{ServerSettings}
use Rattle.server.specs.Acting.{place_of, place_of_part}
use Rattle.promises.proofs.CalmParts.{kept_next, calms_nothing, calms_notifies, calms_dropped, calms_declines, calms_answers, no_notes, enqueues_on, each_sent, calms_orders, happened}
use Rattle.promises.proofs.OneRunOfTheCore.{run_then, notified_then}

-- ---- one connection

-- the connection was closed, or is to be closed
abbrev pub IsOut : Option Entry → Type 0
IsOut now = (now ≡ None) ⊎ ((e : Entry) × (now ≡ Some e) × (e.broken ≡ true))

-- The changes of a connection by a part that concerns another one: on a device's connection orders become due, or it breaks for a cause. `O` says of bytes that they are an order for a device. `C` says of a device, and of the number of its connection and whether the input has ended, that there is a cause.
pub record Left (O : ℕ → List ℕ → Type 0) (C : ℕ → ℕ → Bool → Type 0) (x y : Option Entry) : Type 0 where
  pub none : x ≡ None → y ≡ None
  pub client : (e : Entry) → x ≡ Some e → e.broken ≡ false → device_of e.progress ≡ None → y ≡ Some e
  pub device : (e : Entry) (device : ℕ) → x ≡ Some e → e.broken ≡ false → device_of e.progress ≡ Some device → (IsOut y × C device e.id e.ended) ⊎ ((orders : List (List ℕ)) × All (O device) orders × (y ≡ Some (owing (concat orders) e)))
  pub out : (e : Entry) → x ≡ Some e → e.broken ≡ true → IsOut y

left_weaker : (O O' : ℕ → List ℕ → Type 0) (C C' : ℕ → ℕ → Bool → Type 0) (x y : Option Entry) → ((device : ℕ) (bytes : List ℕ) → O device bytes → O' device bytes) → ((device id : ℕ) (ended : Bool) → C device id ended → C' device id ended) → Left O C x y → Left O' C' x y
left_weaker O O' C C' x y orders causes p = record {
  none = p.none;
  client = p.client;
  device = λ e device is sound progress. by e device (p.device e device is sound progress);
  out = p.out;
}
  where
    by : (e : Entry) (device : ℕ) → (IsOut y × C device e.id e.ended) ⊎ ((orders : List (List ℕ)) × All (O device) orders × (y ≡ Some (owing (concat orders) e))) → (IsOut y × C' device e.id e.ended) ⊎ ((orders : List (List ℕ)) × All (O' device) orders × (y ≡ Some (owing (concat orders) e)))
    by e device (inl (gone, cause)) = inl (gone, causes device e.id e.ended cause)
    by e device (inr (more, each, is)) = inr (more, All-weaker (O device) (O' device) (orders device) more each, is)

module _ (O : ℕ → List ℕ → Type 0) (C : ℕ → ℕ → Bool → Type 0) where
  left_same : (x y : Option Entry) → y ≡ x → Left O C x y
  left_same x y same = record {
    none = λ is. same ∙ is;
    client = λ e is sound progress. same ∙ is;
    device = λ e device is sound progress. inr ([], All-nil (O device), (same ∙ is) ∙ ap (λ (due : List ℕ). Some (record e { due = due })) (sym (append-nil e.due)));
    out = λ e is broken. inr (e, same ∙ is, broken);
  }

  left_then : (x y z : Option Entry) → Left O C x y → Left O C y z → Left O C x z
  left_then x y z p q = record {
    none = λ is. q.none (p.none is);
    client = λ e is sound progress. q.client e (p.client e is sound progress) sound progress;
    device = λ e device is sound progress. of_device e device sound progress (p.device e device is sound progress);
    out = λ e is broken. still_out (p.out e is broken);
  }
    where
      still_out : IsOut y → IsOut z
      still_out (inl gone) = inl (q.none gone)
      still_out (inr (e, is, broken)) = q.out e is broken

      more_due : (e : Entry) (device : ℕ) (orders : List (List ℕ)) → All (O device) orders → (IsOut z × C device e.id e.ended) ⊎ ((more : List (List ℕ)) × All (O device) more × (z ≡ Some (owing (concat more) (owing (concat orders) e)))) → (IsOut z × C device e.id e.ended) ⊎ ((more : List (List ℕ)) × All (O device) more × (z ≡ Some (owing (concat more) e)))
      more_due e device orders each (inl gone) = inl gone
      more_due e device orders each (inr (more, later, is)) =
          inr (orders ++ more, All-append (O device) orders more each later, is ∙ ap (λ (due : List ℕ). Some (record e { due = due })) (appended e.due (concat orders) (concat more) (concat (orders ++ more)) (concat-append orders more)))
        where
          appended : (due first later whole : List ℕ) → whole ≡ first ++ later → (due ++ first) ++ later ≡ due ++ whole
          appended due first later whole is = append_assoc due first later ∙ ap (λ (bytes : List ℕ). due ++ bytes) (sym is)

      of_device : (e : Entry) (device : ℕ) → e.broken ≡ false → device_of e.progress ≡ Some device → (IsOut y × C device e.id e.ended) ⊎ ((orders : List (List ℕ)) × All (O device) orders × (y ≡ Some (owing (concat orders) e))) → (IsOut z × C device e.id e.ended) ⊎ ((orders : List (List ℕ)) × All (O device) orders × (z ≡ Some (owing (concat orders) e)))
      of_device e device sound progress (inl (gone, cause)) = inl (still_out gone, cause)
      of_device e device sound progress (inr (orders, each, is)) = more_due e device orders each (q.device (owing (concat orders) e) device is sound progress)

  same_device : (d e : Entry) (device other : ℕ) → d ≡ e → device_of d.progress ≡ Some device → device_of e.progress ≡ Some other → device ≡ other
  same_device d e device other same named progress = one (device_of e.progress) (sym (ap (λ (x : Entry). device_of x.progress) same) ∙ named) progress
    where
      one : (o : Option ℕ) → o ≡ Some device → o ≡ Some other → device ≡ other
      one o p q = cc

  never : (o : Option ℕ) (device : ℕ) → o ≡ Some device → o ≡ None → ⊥
  never o device p q = cc

  untrue : (t : Bool) → t ≡ false → t ≡ true → ⊥
  untrue true p q = cc
  untrue false p q = cc

  -- a device's connection breaks for a cause
  left_out : (d : Entry) (device : ℕ) (y : Option Entry) → device_of d.progress ≡ Some device → IsOut y → C device d.id d.ended → Left O C (Some d) y
  left_out d device y named gone cause = record {
    none = λ is. cc;
    client = λ e is sound progress. let same : d ≡ e = cc in absurd (never (device_of d.progress) device named (ap (λ (x : Entry). device_of x.progress) same ∙ progress));
    device = λ e other is sound progress.
        let same : d ≡ e = cc in
        let caused : C device e.id e.ended = subst (λ (x : Entry). C device x.id x.ended) same cause in
        inl (gone, subst (λ (k : ℕ). C k e.id e.ended) (same_device d e device other same named progress) caused);
    out = λ e is broken. gone;
  }

  -- an order becomes due on a device's connection
  left_owing : (d : Entry) (device : ℕ) (bytes : List ℕ) → device_of d.progress ≡ Some device → d.broken ≡ false → O device bytes → Left O C (Some d) (Some (owing bytes d))
  left_owing d device bytes named unbroken order = record {
    none = λ is. cc;
    client = λ e is sound progress. let same : d ≡ e = cc in absurd (never (device_of d.progress) device named (ap (λ (x : Entry). device_of x.progress) same ∙ progress));
    device = λ e other is sound progress.
        let same : d ≡ e = cc in
        let its : O other bytes = subst (λ (k : ℕ). O k bytes) (same_device d e device other same named progress) order in
        inr (bytes ∷ [], All-cons (O other) bytes [] its (All-nil (O other)), ap (λ (x : Entry). Some (owing bytes x)) same ∙ ap (λ (more : List ℕ). Some (owing more e)) (sym (append-nil bytes)));
    out = λ e is broken. let same : d ≡ e = cc in absurd (untrue d.broken unbroken (ap (λ (x : Entry). x.broken) same ∙ broken));
  }

  -- a broken one is closed
  left_closed : (d : Entry) → d.broken ≡ true → Left O C (Some d) None
  left_closed d is = record {
    none = λ same. refl;
    client = λ e same sound progress. let one : d ≡ e = cc in absurd (untrue d.broken (ap (λ (x : Entry). x.broken) one ∙ sound) is);
    device = λ e device same sound progress. let one : d ≡ e = cc in absurd (untrue d.broken (ap (λ (x : Entry). x.broken) one ∙ sound) is);
    out = λ e same broken. inl refl;
  }

  -- another connection, or none, under a key
  at_if : (t : Bool) (x y : Option Entry) (new : Option Entry) → (t ≡ true → Left O C x new) → (t ≡ false → Left O C x y) → Left O C x (if t then new else y)
  at_if true x y new here there = here refl
  at_if false x y new here there = there refl

  left_at : (other key : ℕ) (new : Option Entry) (l l' : Ledger) → l'.entries ≡ at_key key new l.entries → (other ≡ key → Left O C (l.entries other) new) → Left O C (l.entries other) (l'.entries other)
  left_at other key new l l' after here =
      subst (λ (o : Option Entry). Left O C (l.entries other) o) (sym (ap (λ (entries : ℕ → Option Entry). entries other) after))
      (at_if (other == key) (l.entries other) (l.entries other) new (λ is. here (same_key other key is)) (λ is. left_same (l.entries other) (l.entries other) refl))

  is_left : (other : ℕ) (l l' : Ledger) → l' ≡ l → Left O C (l.entries other) (l'.entries other)
  is_left other l l' same = left_same (l.entries other) (l'.entries other) (ap (λ (x : Ledger). x.entries other) same)

-- ---- parts that bring no event, and concern one connection

-- the core stays and notifies nothing, and every other connection is as it was
record Aside (key : ℕ) (l : Ledger) (hs : List Happening) (l' : Ledger) : Type 0 where
  core : l'.core ≡ l.core
  notes : core_notes hs ≡ []
  others : (other : ℕ) → other ≢ key → l'.entries other ≡ l.entries other

entry_if : (t : Bool) (x y : Option Entry) → (t ≡ true → ⊥) → (if t then x else y) ≡ y
entry_if true x y unlike = absurd (unlike refl)
entry_if false x y unlike = refl

module _ (key : ℕ) where
  abbrev Asides : Rel → Type 0
  Asides R = (l : Ledger) (hs : List Happening) (l' : Ledger) → R l hs l' → Aside key l hs l'

  aside_same : (l : Ledger) (hs : List Happening) (l' : Ledger) → core_notes hs ≡ [] → l' ≡ l → Aside key l hs l'
  aside_same l hs l' silent same = record { core = ap (λ (x : Ledger). x.core) same; notes = silent; others = λ other apart. ap (λ (x : Ledger). x.entries other) same }

  aside_with : (o : Option Entry) (l : Ledger) (hs : List Happening) (l' : Ledger) → core_notes hs ≡ [] → l'.core ≡ l.core → l'.entries ≡ at_key key o l.entries → Aside key l hs l'
  aside_with o l hs l' silent core after = record {
    core = core;
    notes = silent;
    others = λ other apart. ap (λ (entries : ℕ → Option Entry). entries other) after ∙ entry_if (other == key) o (l.entries other) (λ is. apart (same_key other key is));
  }

  aside_then : (R S : Rel) → Asides R → Asides S → Asides (Then R S)
  aside_then R S r s l hs l' it =
      let p = r l it.prefix it.mid it.first in
      let q = s it.mid it.back l' it.second in
      record { core = q.core ∙ p.core; notes = no_notes hs it.prefix it.back it.whole p.notes ∙ q.notes; others = λ other apart. q.others other apart ∙ p.others other apart }

  aside_or : (R S : Rel) → Asides R → Asides S → Asides (Or R S)
  aside_or R S r s l hs l' (inl it) = r l hs l' it
  aside_or R S r s l hs l' (inr it) = s l hs l' it

  aside_if : (t : Bool) (R S : Rel) → Asides R → Asides S → Asides (If t R S)
  aside_if true R S r s l hs l' it = r l hs l' it
  aside_if false R S r s l hs l' it = s l hs l' it

  aside_nothing : Asides Nothing
  aside_nothing l hs l' it = aside_same l hs l' (ap core_notes it.0) it.1

  aside_chooses : (choice : Choice) → Asides (Chooses choice)
  aside_chooses choice l hs l' it = aside_same l hs l' (ap core_notes it.0) it.1

  aside_notifies : (note : Note) → core_notes (Notified note ∷ []) ≡ [] → Asides (Notifies note)
  aside_notifies note silent l hs l' it = aside_same l hs l' (ap core_notes it.0 ∙ silent) it.1

  aside_polls : (poll : Poll) → Asides (Polls poll)
  aside_polls poll l hs l' it = aside_same l hs l' (ap core_notes it.0) it.1

  aside_sets : (e : Entry) → Asides (Sets key e)
  aside_sets e l hs l' it = aside_with (Some e) l hs l' (ap core_notes it.0) (ap (λ (x : Ledger). x.core) it.1) (ap (λ (x : Ledger). x.entries) it.1)

  aside_drops : (place : AllocationSite) (e : Entry) → core_notes (Notified (Refused place (Some e.id)) ∷ []) ≡ [] → Asides (Drops place key e)
  aside_drops place e silent l hs l' it = aside_with (Some (broken e)) l hs l' (ap core_notes it.0 ∙ silent) (ap (λ (x : Ledger). x.core) it.1) (ap (λ (x : Ledger). x.entries) it.1)

  breaks_at : (o : Option Entry) → Asides (BreaksAt key o)
  breaks_at None = aside_nothing
  breaks_at (Some e) = aside_sets (broken e)

  aside_breaks : Asides (Breaks key)
  aside_breaks l hs l' it = breaks_at (l.entries key) l hs l' it

  gives_way_at : (o : Option Entry) → Asides (IsSupersededAt key o)
  gives_way_at None = aside_nothing
  gives_way_at (Some e) = aside_sets (superseded_entry e)

  aside_gives_way : Asides (IsSuperseded key)
  aside_gives_way l hs l' it = gives_way_at (l.entries key) l hs l' it

  enqueues_at : (refusable : Entry → Bool) (bytes : List ℕ) (o : Option Entry) → Asides (EnqueuesAt refusable key bytes o)
  enqueues_at refusable bytes None = aside_nothing
  enqueues_at refusable bytes (Some e) =
      aside_if e.broken Nothing (EnqueuesOpen (refusable e) key bytes e) aside_nothing
      (aside_if (refusable e) (Or (Then (Chooses Found) (Sets key (owing bytes e))) (Drops At.Enqueue key e)) (Sets key (owing bytes e))
      (aside_or (Then (Chooses Found) (Sets key (owing bytes e))) (Drops At.Enqueue key e) (aside_then (Chooses Found) (Sets key (owing bytes e)) (aside_chooses Found) (aside_sets (owing bytes e))) (aside_drops At.Enqueue e refl)) (aside_sets (owing bytes e)))

  aside_enqueues : (bytes : List ℕ) → Asides (Enqueues key bytes)
  aside_enqueues bytes l hs l' it = enqueues_at (needs_memory bytes) bytes (l.entries key) l hs l' it

  reply_at : (bytes : Bool → List ℕ) (o : Option Entry) → Asides (EnqueuesReplyAt bytes key o)
  reply_at bytes None = aside_nothing
  reply_at bytes (Some e) = aside_enqueues (bytes (closes_of e.progress))

  aside_reply : (bytes : List ℕ) → Asides (EnqueuesResponse key bytes)
  aside_reply bytes l hs l' it = reply_at (λ closes. http_reply closes bytes) (l.entries key) l hs l' it

  aside_status : (status : Status) (request : ℕ) → Asides (EnqueuesStatus key status request)
  aside_status status request l hs l' it = reply_at (λ closes. http_status closes status request) (l.entries key) l hs l' it

  -- ---- answers

  aside_dropped : (id request : ℕ) → Asides (Ans.Drops key id request)
  aside_dropped id request = aside_then (Notifies (Refused At.Event (Some id))) (EnqueuesStatus key TemporaryError request) (aside_notifies (Refused At.Event (Some id)) refl) (aside_status TemporaryError request)

  aside_lost : (id request : ℕ) (query : Bool) → Asides (Ans.LosesReply key id request query)
  aside_lost id request query =
      aside_then (Notifies (Refused At.Reply (Some id))) (If query (EnqueuesStatus key TemporaryError request) (Breaks key)) (aside_notifies (Refused At.Reply (Some id)) refl)
      (aside_if query (EnqueuesStatus key TemporaryError request) (Breaks key) (aside_status TemporaryError request) aside_breaks)

  aside_replies_with : (id request : ℕ) (query : Bool) (answer : Response) → Asides (Ans.RepliesWith key id request query answer)
  aside_replies_with id request query (answered.Ipp answer) l hs l' (inl (bytes, is, it)) = aside_then (Chooses Found) (EnqueuesResponse key bytes) (aside_chooses Found) (aside_reply bytes) l hs l' it
  aside_replies_with id request query (answered.Ipp answer) l hs l' (inr it) = aside_lost id request query l hs l' it
  aside_replies_with id request query (answered.Lpd answer) l hs l' it = aside_nothing l hs l' it
  aside_replies_with id request query answered.Nothing l hs l' it = aside_nothing l hs l' it

  aside_replies : (id request : ℕ) (query : Bool) (reply : Option Effects) → Asides (Ans.Replies key id request query reply)
  aside_replies id request query (Some reply) = aside_replies_with id request query reply.response
  aside_replies id request query None = aside_dropped id request

  aside_declines : (place : AllocationSite) (id : ℕ) → core_notes (Notified (Refused place (Some id)) ∷ []) ≡ [] → Asides (Ans.Declines place key id)
  aside_declines place id silent = aside_then (Notifies (Refused place (Some id))) (Enqueues key (1 ∷ [])) (aside_notifies (Refused place (Some id)) silent) (aside_enqueues (1 ∷ []))

  aside_shows : (id : ℕ) (text : List ℕ) → Asides (Ans.Shows key id text)
  aside_shows id text =
      aside_or (Then (Chooses Found) (Enqueues key text)) (Then (Notifies (Refused At.Reply (Some id))) (Breaks key)) (aside_then (Chooses Found) (Enqueues key text) (aside_chooses Found) (aside_enqueues text))
      (aside_then (Notifies (Refused At.Reply (Some id))) (Breaks key) (aside_notifies (Refused At.Reply (Some id)) refl) aside_breaks)

  aside_notified : (id : ℕ) (answer : LpdResponse) → Asides (Ans.SendsLpd key id answer)
  aside_notified id (shown.Taken taken) = aside_enqueues (ack_of (shown.Taken taken) ∷ [])
  aside_notified id (shown.Queue listing) = aside_shows id (text_of (shown.Queue listing))
  aside_notified id shown.NoQueue = aside_shows id (text_of shown.NoQueue)

  aside_shown : (id : ℕ) (answer : Response) → Asides (Ans.IsShown key id answer)
  aside_shown id (answered.Lpd answer) = aside_notified id answer
  aside_shown id (answered.Ipp answer) = aside_nothing
  aside_shown id answered.Nothing = aside_nothing

  aside_answers : (id : ℕ) (who : Client) (query : Bool) (reply : Option Effects) → Asides (Ans.Answers key id who query reply)
  aside_answers id (client.Ipp request) query reply = aside_replies id request query reply
  aside_answers id client.LpdJob query (Some reply) = aside_shown id reply.response
  aside_answers id client.LpdJob query None = aside_declines At.Event id refl
  aside_answers id client.LpdCommand query (Some reply) = aside_shown id reply.response
  aside_answers id client.LpdCommand query None = aside_then (Notifies (Refused At.Event (Some id))) (Breaks key) (aside_notifies (Refused At.Event (Some id)) refl) aside_breaks

-- ---- the orders of an event

-- the observer was notified that memory for bytes on the connection of this number was refused
abbrev IsRefused : List Happening → ℕ → ℕ → Bool → Type 0
IsRefused hs device id ended = Contains hs (Notified (Refused At.Enqueue (Some id)))

refused_prefix : (hs prefix back : List Happening) → hs ≡ prefix ++ back → (device id : ℕ) (ended : Bool) → IsRefused prefix device id ended → IsRefused hs device id ended
refused_prefix hs prefix back whole device id ended is = subst (λ (xs : List Happening). Contains xs (Notified (Refused At.Enqueue (Some id)))) (sym whole) (Contains-append_left prefix back (Notified (Refused At.Enqueue (Some id))) is)

refused_back : (hs prefix back : List Happening) → hs ≡ prefix ++ back → (device id : ℕ) (ended : Bool) → IsRefused back device id ended → IsRefused hs device id ended
refused_back hs prefix back whole device id ended is = subst (λ (xs : List Happening). Contains xs (Notified (Refused At.Enqueue (Some id)))) (sym whole) (Contains-append_right prefix back (Notified (Refused At.Enqueue (Some id))) is)

contains_first : {A : Type 0} (x : A) (xs : List A) → Contains (x ∷ xs) x
contains_first x xs = (0, omega arith, refl)

just_notified : (hs : List Happening) (device id : ℕ) (ended : Bool) → hs ≡ Notified (Refused At.Enqueue (Some id)) ∷ [] → IsRefused hs device id ended
just_notified hs device id ended is = subst (λ (xs : List Happening). Contains xs (Notified (Refused At.Enqueue (Some id)))) (sym is) (contains_first (Notified (Refused At.Enqueue (Some id))) [])

-- and there was an order for the device
abbrev Denied : (ℕ → List ℕ → Type 0) → List Happening → ℕ → ℕ → Bool → Type 0
Denied O hs device id ended = IsRefused hs device id ended × ((bytes : List ℕ) × O device bytes)

module _ (O : ℕ → List ℕ → Type 0) (other : ℕ) where
  abbrev Leaves_it : Ledger → List Happening → Ledger → Type 0
  Leaves_it l hs l' = Left O (Denied O hs) (l.entries other) (l'.entries other)

  leaves_same : (l : Ledger) (hs : List Happening) (l' : Ledger) → l' ≡ l → Leaves_it l hs l'
  leaves_same l hs l' same = is_left O (Denied O hs) other l l' same

  leaves_then : (l : Ledger) (prefix : List Happening) (mid : Ledger) (back : List Happening) (l' : Ledger) (hs : List Happening) → hs ≡ prefix ++ back → Leaves_it l prefix mid → Leaves_it mid back l' → Leaves_it l hs l'
  leaves_then l prefix mid back l' hs whole p q =
      left_then O (Denied O hs) (l.entries other) (mid.entries other) (l'.entries other)
      (left_weaker O O (Denied O prefix) (Denied O hs) (l.entries other) (mid.entries other) (λ device bytes is. is) (λ of id ended d. (refused_prefix hs prefix back whole of id ended d.0, d.1)) p)
      (left_weaker O O (Denied O back) (Denied O hs) (mid.entries other) (l'.entries other) (λ device bytes is. is) (λ of id ended d. (refused_back hs prefix back whole of id ended d.0, d.1)) q)

  enqueues_open : (grows : Bool) (key device : ℕ) (bytes : List ℕ) (e : Entry) (l : Ledger) (hs : List Happening) (l' : Ledger) → O device bytes → l.entries key ≡ Some e → device_of e.progress ≡ Some device → e.broken ≡ false → EnqueuesOpen grows key bytes e l hs l' → Leaves_it l hs l'
  enqueues_open false key device bytes e l hs l' order there named sound it =
      left_at O (Denied O hs) other key (Some (owing bytes e)) l l' (ap (λ (x : Ledger). x.entries) it.1)
      (λ same. subst (λ (o : Option Entry). Left O (Denied O hs) o (Some (owing bytes e))) (sym (ap l.entries same ∙ there)) (left_owing O (Denied O hs) e device bytes named sound order))
  enqueues_open true key device bytes e l hs l' order there named sound (inl it) =
      left_at O (Denied O hs) other key (Some (owing bytes e)) l l' (ap (λ (x : Ledger). x.entries) (it.second.1 ∙ ap (λ (x : Ledger). with_entry key (owing bytes e) x) it.first.1))
      (λ same. subst (λ (o : Option Entry). Left O (Denied O hs) o (Some (owing bytes e))) (sym (ap l.entries same ∙ there)) (left_owing O (Denied O hs) e device bytes named sound order))
  enqueues_open true key device bytes e l hs l' order there named sound (inr it) =
      left_at O (Denied O hs) other key (Some (broken e)) l l' (ap (λ (x : Ledger). x.entries) it.1)
      (λ same. subst (λ (o : Option Entry). Left O (Denied O hs) o (Some (broken e))) (sym (ap l.entries same ∙ there)) (left_out O (Denied O hs) e device (Some (broken e)) named (inr (broken e, refl, refl)) (just_notified hs device e.id e.ended it.0, (bytes, order))))

  enqueues_if : (t grows : Bool) (key device : ℕ) (bytes : List ℕ) (e : Entry) (l : Ledger) (hs : List Happening) (l' : Ledger) → O device bytes → e.broken ≡ t → l.entries key ≡ Some e → device_of e.progress ≡ Some device → If t Nothing (EnqueuesOpen grows key bytes e) l hs l' → Leaves_it l hs l'
  enqueues_if true grows key device bytes e l hs l' order is there named it = leaves_same l hs l' it.1
  enqueues_if false grows key device bytes e l hs l' order is there named it = enqueues_open grows key device bytes e l hs l' order there named is it

  enqueues_there : (refusable : Entry → Bool) (key device : ℕ) (bytes : List ℕ) (o : Option Entry) (l : Ledger) (hs : List Happening) (l' : Ledger) → O device bytes → l.entries key ≡ o → IsDevice device o → EnqueuesAt refusable key bytes o l hs l' → Leaves_it l hs l'
  enqueues_there refusable key device bytes None l hs l' order there is it = absurd is
  enqueues_there refusable key device bytes (Some e) l hs l' order there is it = enqueues_if e.broken (refusable e) key device bytes e l hs l' order refl there is it

  left_enqueues_on : (refusable : Entry → Bool) (device : ℕ) (bytes : List ℕ) → O device bytes → (l : Ledger) (hs : List Happening) (l' : Ledger) → EnqueuesOn refusable device bytes l hs l' → Leaves_it l hs l'
  left_enqueues_on refusable device bytes order l hs l' (inl (key, is, it)) =
      enqueues_there refusable key device bytes (l.entries key) l hs l' order refl is.0 it
  left_enqueues_on refusable device bytes order l hs l' (inr (absent, it)) = leaves_same l hs l' it.1

  left_sends : (cancels : List Cancel) → ((cancel : Cancel) → Contains cancels cancel → O cancel.device (cancel_line cancel.job)) → (l : Ledger) (hs : List Happening) (l' : Ledger) → EachOf cancels Sends l hs l' → Leaves_it l hs l'
  left_sends [] each l hs l' it = leaves_same l hs l' it.1
  left_sends (cancel ∷ cancels) each l hs l' it =
      leaves_then l it.prefix it.mid it.back l' hs it.whole (left_enqueues_on (needs_memory (cancel_line cancel.job)) cancel.device (cancel_line cancel.job) (each cancel (contains_first cancel cancels)) l it.prefix it.mid it.first)
      (left_sends cancels (λ one has. each one (Contains-append_right (cancel ∷ []) cancels one has)) it.mid it.back l' it.second)

  left_starts : (core : State) (starts : List Started) → ((start : Started) → Contains starts start → O start.device (job_bytes core start.job)) → (l : Ledger) (hs : List Happening) (l' : Ledger) → l.core ≡ core → EachOf starts Starts l hs l' → Leaves_it l hs l'
  left_starts core [] each l hs l' same it = leaves_same l hs l' it.1
  left_starts core (start ∷ starts) each l hs l' same it =
      let first : EnqueuesOn (λ e. true) start.device (job_bytes core start.job) l it.prefix it.mid = subst (λ (c : State). EnqueuesOn (λ e. true) start.device (job_bytes c start.job) l it.prefix it.mid) same it.first in
      let core_kept : it.mid.core ≡ core = (enqueues_on (λ e. true) start.device (job_bytes core start.job) l it.prefix it.mid first).core ∙ same in
      leaves_then l it.prefix it.mid it.back l' hs it.whole (left_enqueues_on (λ e. true) start.device (job_bytes core start.job) (each start (contains_first start starts)) l it.prefix it.mid first)
      (left_starts core starts (λ one has. each one (Contains-append_right (start ∷ []) starts one has)) it.mid it.back l' core_kept it.second)

  left_starts_by : (core : State) (made : Dispatch) → ((start : Started) → Contains (began_by made core) start → O start.device (job_bytes core start.job)) → (l : Ledger) (hs : List Happening) (l' : Ledger) → l.core ≡ core → StartsBy made l hs l' → Leaves_it l hs l'
  left_starts_by core dispatch.Query each l hs l' same it = leaves_same l hs l' it.1
  left_starts_by core dispatch.OutOfMemory each l hs l' same it = leaves_same l hs l' it.1
  left_starts_by core dispatch.Idle each l hs l' same it = leaves_same l hs l' it.1
  left_starts_by core dispatch.Planned each l hs l' same it = left_starts core core.begun each l hs l' same (subst (λ (c : State). EachOf c.begun Starts l hs l') same it)

left_orders : (outcome : Outcome) (core : State) (other : ℕ) (l : Ledger) (hs : List Happening) (l' : Ledger) → l.core ≡ core → Orders outcome l hs l' → Left (λ device bytes. IsOrderBy device outcome core bytes) (Denied (λ device bytes. IsOrderBy device outcome core bytes) hs) (l.entries other) (l'.entries other)
left_orders (Some handled) core other l hs l' same it =
    let O : ℕ → List ℕ → Type 0 = λ device bytes. IsOrderBy device (Some handled) core bytes in
    let core_kept : it.mid.core ≡ core = (each_sent handled.effects.cancels.items l it.prefix it.mid it.first).core ∙ same in
    leaves_then O other l it.prefix it.mid it.back l' hs it.whole (left_sends O other handled.effects.cancels.items (λ cancel has. inl (cancel, has, refl, refl)) l it.prefix it.mid it.first)
    (left_starts_by O other core handled.dispatch (λ start has. inr (start, has, refl, refl)) it.mid it.back l' core_kept it.second)
left_orders None core other l hs l' same it = leaves_same (λ device bytes. IsOrderBy device None core bytes) other l hs l' it.1

-- ---- parts that bring events

-- the events of a part, and the changes of all connections but the one under a key
pub record Spared (F : ℕ → Type 0) (moment key : ℕ) (l : Ledger) (hs : List Happening) (l' : Ledger) : Type 0 where
  pub came : List Came
  pub timed : ComeAt true moment came
  pub run : AreRun l.core came l'.core
  pub notified : core_notes hs ≡ flat_map (λ (it : Came). it.notes) came
  pub each : (other : ℕ) → other ≢ key → Left (IsOrder came) (IsCause F came hs) (l.entries other) (l'.entries other)

-- more events, and more happenings
module _ (first later : List Came) (prefix back : List Happening) where
  order_left : (device : ℕ) (bytes : List ℕ) → IsOrder first device bytes → IsOrder (first ++ later) device bytes
  order_left device bytes (it, has, is) = (it, Contains-append_left first later it has, is)

  order_right : (device : ℕ) (bytes : List ℕ) → IsOrder later device bytes → IsOrder (first ++ later) device bytes
  order_right device bytes (it, has, is) = (it, Contains-append_right first later it has, is)

  cause_left : (F : ℕ → Type 0) (hs : List Happening) → hs ≡ prefix ++ back → (device id : ℕ) (ended : Bool) → IsCause F first prefix device id ended → IsCause F (first ++ later) hs device id ended
  cause_left F hs whole device id ended (inl (notified, (bytes, is))) = inl (refused_prefix hs prefix back whole device id ended notified, (bytes, order_left device bytes is))
  cause_left F hs whole device id ended (inr (is, (it, has, name, named), f)) = inr (is, (it, Contains-append_left first later it has, name, named), f)

  cause_right : (F : ℕ → Type 0) (hs : List Happening) → hs ≡ prefix ++ back → (device id : ℕ) (ended : Bool) → IsCause F later back device id ended → IsCause F (first ++ later) hs device id ended
  cause_right F hs whole device id ended (inl (notified, (bytes, is))) = inl (refused_back hs prefix back whole device id ended notified, (bytes, order_right device bytes is))
  cause_right F hs whole device id ended (inr (is, (it, has, name, named), f)) = inr (is, (it, Contains-append_right first later it has, name, named), f)

abbrev IsInTurn : ℕ → Came → Type 0
IsInTurn moment it = (it.moment ≡ moment) × (it.in_turn ≡ true)

spared_then : (F : ℕ → Type 0) (moment key : ℕ) (l : Ledger) (prefix : List Happening) (mid : Ledger) (back : List Happening) (l' : Ledger) (hs : List Happening) → hs ≡ prefix ++ back → Spared F moment key l prefix mid → Spared F moment key mid back l' → Spared F moment key l hs l'
spared_then F moment key l prefix mid back l' hs whole p q = record {
  came = p.came ++ q.came;
  timed = All-append (IsInTurn moment) p.came q.came p.timed q.timed;
  run = run_then l.core mid.core l'.core p.came q.came p.run q.run;
  notified = notified_then hs prefix back p.came q.came whole p.notified q.notified;
  each = λ other apart.
      left_then (IsOrder (p.came ++ q.came)) (IsCause F (p.came ++ q.came) hs) (l.entries other) (mid.entries other) (l'.entries other)
      (left_weaker (IsOrder p.came) (IsOrder (p.came ++ q.came)) (IsCause F p.came prefix) (IsCause F (p.came ++ q.came) hs) (l.entries other) (mid.entries other) (order_left p.came q.came prefix back) (cause_left p.came q.came prefix back F hs whole) (p.each other apart))
      (left_weaker (IsOrder q.came) (IsOrder (p.came ++ q.came)) (IsCause F q.came back) (IsCause F (p.came ++ q.came) hs) (mid.entries other) (l'.entries other) (order_right p.came q.came prefix back) (cause_right p.came q.came prefix back F hs whole) (q.each other apart));
}

-- no event
spared_none : (F : ℕ → Type 0) (moment key : ℕ) (l : Ledger) (hs : List Happening) (l' : Ledger) → l'.core ≡ l.core → core_notes hs ≡ [] → ((other : ℕ) → other ≢ key → Left (IsOrder []) (IsCause F [] hs) (l.entries other) (l'.entries other)) → Spared F moment key l hs l'
spared_none F moment key l hs l' core silent each = record { came = []; timed = All-nil (IsInTurn moment); run = core; notified = silent; each = each }

spared_aside : (F : ℕ → Type 0) (moment key : ℕ) (l : Ledger) (hs : List Happening) (l' : Ledger) → Aside key l hs l' → Spared F moment key l hs l'
spared_aside F moment key l hs l' p = spared_none F moment key l hs l' p.core p.notes (λ other apart. left_same (IsOrder []) (IsCause F [] hs) (l.entries other) (l'.entries other) (p.others other apart))

-- one event
pub record Brings (F : ℕ → Type 0) (moment key : ℕ) (event : Event) (l : Ledger) (hs : List Happening) (l' : Ledger) : Type 0 where
  pub spared : Spared F moment key l hs l'
  pub it : Came
  pub has : Contains spared.came it
  pub is : it.event ≡ event

pub brings : (F : ℕ → Type 0) (moment key : ℕ) (event : Event) (outcome : Outcome) (l : Ledger) (hs : List Happening) (l' : Ledger) → Happens moment event outcome l hs l' → Brings F moment key event l hs l'
brings F moment key event outcome l hs l' happens = record { spared = one; it = it; has = contains_first it []; is = refl }
  where
    it : Came
    it = record { moment = moment; event = event; outcome = outcome; notes = core_notes hs; state = l'.core; in_turn = true }

    core_kept : happens.mid.core ≡ l'.core
    core_kept = sym ((calms_orders outcome happens.mid happens.back l' happens.second).core)

    decided : (other : ℕ) → happens.mid.entries other ≡ l.entries other
    decided other = ap (λ (x : Ledger). x.entries other) happens.first.after

    order : (device : ℕ) (bytes : List ℕ) → IsOrderBy device outcome l'.core bytes → IsOrder (it ∷ []) device bytes
    order device bytes by = (it, contains_first it [], by)

    each : (other : ℕ) → Left (IsOrder (it ∷ [])) (IsCause F (it ∷ []) hs) (l.entries other) (l'.entries other)
    each other =
        subst (λ (o : Option Entry). Left (IsOrder (it ∷ [])) (IsCause F (it ∷ []) hs) o (l'.entries other)) (decided other)
        (left_weaker (λ device bytes. IsOrderBy device outcome l'.core bytes) (IsOrder (it ∷ [])) (Denied (λ device bytes. IsOrderBy device outcome l'.core bytes) happens.back) (IsCause F (it ∷ []) hs) (happens.mid.entries other) (l'.entries other) order
        (λ device id ended d. inl (refused_back hs happens.prefix happens.back happens.whole device id ended d.0, (d.1.0, order device d.1.0 d.1.1))) (left_orders outcome l'.core other happens.mid happens.back l' core_kept happens.second))

    one : Spared F moment key l hs l'
    one = record {
      came = it ∷ [];
      timed = All-cons (IsInTurn moment) it [] (refl, refl) (All-nil (IsInTurn moment));
      run = ((happened moment event outcome l hs l' happens).handles, refl);
      notified = sym (append-nil (core_notes hs));
      each = λ other apart. each other;
    }

-- ---- the connection served bears the name that it gave

abbrev NoHello : Ask → Type 0
NoHello (ask.Hello device name) = ⊥
NoHello _ = Unit {0}

fits_kept : (device : ℕ) (n : Entry) (y : Option Entry) → device_of n.progress ≡ Some device → Kept (Some n) y → (f : Entry) → y ≡ Some f → device_of f.progress ≡ Some device
fits_kept device n y named (e, is, g) f at = ap (λ (x : Entry). device_of x.progress) (one_entry f e (sym at ∙ is)) ∙ (ap device_of (named_stays device n e named g) ∙ named)

asked_here : (key id : ℕ) (what : Ask) (l : Ledger) (hs : List Happening) (l' : Ledger) → (a : Asks key id what l hs l') → l'.entries key ≡ Some a.new
asked_here key id what l hs l' a = ap (λ (x : Ledger). x.entries key) a.after ∙ here key (Some a.new) l.entries key refl

-- the classes of an ask by the peer
device_asked : (settings : ServerSettings) (what : Ask) (e new : Entry) → AsksNext settings what e new → (progress : PeerRecord) → e.progress ≡ progress → IsFine what ⊎ DeviceStep settings what e new
device_asked settings what e new a (Http parsed closes body) is = inl (step_fine a.comes a.mid what new (client_keeps settings (Http parsed closes body) e a.comes a.mid tt (subst ClientTalk (sym is) tt) (subst (λ (t : PeerRecord). ItemComes settings t e a.comes a.mid) is a.takes_item)).0 a.steps)
device_asked settings what e new a (Queue items session) is = inl (step_fine a.comes a.mid what new (client_keeps settings (Queue items session) e a.comes a.mid tt (subst ClientTalk (sym is) tt) (subst (λ (t : PeerRecord). ItemComes settings t e a.comes a.mid) is a.takes_item)).0 a.steps)
device_asked settings what e new a (Link reports device) is = inr (device_step settings reports device e a.comes a.mid what new is (not_broken e.draining e.broken a.counts) (subst (λ (t : PeerRecord). ItemComes settings t e a.comes a.mid) is a.takes_item) a.steps)

one_device : (a b : ℕ) → ◌≡◌ {A = Option ℕ} (Some a) (Some b) → a ≡ b
one_device a b is = cc

hello_bears : (settings : ServerSettings) (device : ℕ) (name : List ℕ) (e new : Entry) → AsksNext settings (ask.Hello device name) e new → device_of new.progress ≡ Some device
hello_bears settings device name e new a = by (device_asked settings (ask.Hello device name) e new a e.progress refl)
  where
    by : IsFine (ask.Hello device name) ⊎ DeviceStep settings (ask.Hello device name) e new → device_of new.progress ≡ Some device
    by (inl fine) = absurd fine
    by (inr (inl (fine, grows))) = absurd fine
    by (inr (inr (inl s))) = let same : ask.Hello s.device s.name ≡ ask.Hello device name = sym s.asks in let its : s.device ≡ device = cc in ap device_of s.after ∙ ap (λ (k : ℕ). Some k) its
    by (inr (inr (inr s))) = let same : ask.Report s.device s.it ≡ ask.Hello device name = sym s.asks in cc

module _ (moment key : ℕ) where
  fits_event : (device : ℕ) (event : Event) (outcome : Outcome) (l : Ledger) (hs : List Happening) (l' : Ledger) → Bears key l device → Happens moment event outcome l hs l' → Bears key l' device
  fits_event device event outcome l hs l' bears it = by (l.entries key) refl
    where
      left : Left (IsOrder (brings (λ k. Unit {0}) moment (suc key) event outcome l hs l' it).spared.came) (IsCause (λ k. Unit {0}) (brings (λ k. Unit {0}) moment (suc key) event outcome l hs l' it).spared.came hs) (l.entries key) (l'.entries key)
      left = (brings (λ k. Unit {0}) moment (suc key) event outcome l hs l' it).spared.each key (λ same. omega (arith, same))

      by : (o : Option Entry) → l.entries key ≡ o → Bears key l' device
      by None none f at = let gone : l'.entries key ≡ None = left.none none in let never : None ≡ Some f = sym gone ∙ at in cc
      by (Some n) there f at = fits_kept device n (l'.entries key) (bears n there) (kept_open n (l.entries key) (l'.entries key) there ((happened moment event outcome l hs l' it).kept.each key)) f at

  fits_gone : (device : ℕ) (o : Option ℕ) (l : Ledger) (hs : List Happening) (l' : Ledger) → Bears key l device → IsGone moment o l hs l' → Bears key l' device
  fits_gone device None l hs l' bears it = subst (λ (x : Ledger). Bears key x device) (sym it.1) bears
  fits_gone device (Some other) l hs l' bears (outcome, it) = fits_event device (Is.Report other report.Gone) outcome l hs l' bears it

  first_fit : (device : ℕ) (l : Ledger) (hs : List Happening) (l' : Ledger) → Bears key l device → ClosesFirst moment l hs l' → Bears key l' device
  first_fit device l hs l' bears it = fits_gone device (device_of it.entry.progress) it.closes.mid it.closes.back l' (λ e at. by (key == it.key) e (subst (λ (x : Ledger). x.entries key ≡ Some e) it.closes.first.2 at)) it.closes.second
    where
      by : (t : Bool) (e : Entry) → (if t then None else l.entries key) ≡ Some e → device_of e.progress ≡ Some device
      by true e at = let never : None ≡ Some e = at in cc
      by false e at = bears e at

  times_fit : (device n : ℕ) (l : Ledger) (hs : List Happening) (l' : Ledger) → Bears key l device → Times n (ClosesFirst moment) l hs l' → Bears key l' device
  times_fit device zero l hs l' bears it = subst (λ (x : Ledger). Bears key x device) (sym it.1) bears
  times_fit device (suc n) l hs l' bears it = first_fit device it.mid it.back l' (times_fit device n l it.prefix it.mid bears it.first) it.second

  closes_broken_fit : (device : ℕ) (l : Ledger) (hs : List Happening) (l' : Ledger) → Bears key l device → ClosesBroken moment l hs l' → Bears key l' device
  closes_broken_fit device l hs l' bears it = times_fit device it.0.0 l hs l' bears it.0.1

  kept_fine : (id : ℕ) (what : Ask) → IsFine what → (l : Ledger) (hs : List Happening) (l' : Ledger) → ActsOn moment key id what l hs l' → KeptAll l l'
  kept_fine id ask.Nothing fine l hs l' it = (calms_nothing l hs l' it).kept
  kept_fine id (ask.Broke growth) fine l hs l' it = (calms_notifies (Refused (place_of growth) (Some id)) (silent_growth growth id) l hs l' it).kept
  kept_fine id (ask.Event who event) fine l hs l' (outcome, it) = kept_next l it.mid l' (happened moment event outcome l it.prefix it.mid it.first).kept (calms_answers key id who (is_query event) (effects_of outcome) it.mid it.back l' it.second).kept
  kept_fine id (ask.Unread request) fine l hs l' it = (calms_dropped key id request l hs l' it).kept
  kept_fine id (ask.Lost part) fine l hs l' it = (calms_declines (place_of_part part) key id (silent_part part id) l hs l' it).kept
  kept_fine id (ask.Hello device name) fine l hs l' it = absurd fine
  kept_fine id (ask.Report device it) fine l hs l' does = absurd fine
  kept_fine id (ask.UnknownDevice name) fine l hs l' it = (calms_notifies (DeviceRefused id (why.UnknownName name)) refl l hs l' it).kept
  kept_fine id (ask.Fault device) fine l hs l' it = (calms_notifies (DeviceRefused id (why.Fault device)) refl l hs l' it).kept

  acts_by : (device id : ℕ) (what : Ask) (l : Ledger) (prefix : List Happening) (m : Ledger) (back : List Happening) (l' : Ledger) (a : Asks key id what l prefix m) → device_of a.entry.progress ≡ Some device → ActsOn moment key id what m back l' → (progress : PeerRecord) → a.entry.progress ≡ progress → Bears key l' device
  acts_by device id what l prefix m back l' a named does (Http parsed closes body) is = let never : None ≡ Some device = sym (ap device_of is) ∙ named in cc
  acts_by device id what l prefix m back l' a named does (Queue items session) is = let never : None ≡ Some device = sym (ap device_of is) ∙ named in cc
  acts_by device id what l prefix m back l' a named does (Link reports o) is = by (device_step l.core.settings reports o a.entry a.asks.comes a.asks.mid what a.new is (not_broken a.entry.draining a.entry.broken a.asks.counts) (subst (λ (t : PeerRecord). ItemComes l.core.settings t a.entry a.asks.comes a.asks.mid) is a.asks.takes_item) a.asks.steps)
    where
      at : m.entries key ≡ Some a.new
      at = asked_here key id what l prefix m a

      by : DeviceStep l.core.settings what a.entry a.new → Bears key l' device
      by (inl (fine, grows)) = fits_kept device a.new (l'.entries key) (ap device_of (named_stays device a.entry a.new named grows) ∙ named) (kept_open a.new (m.entries key) (l'.entries key) at ((kept_fine id what fine m back l' does).each key))
      by (inr (inl s)) = absurd (no_both (device_of a.entry.progress) device (ap device_of s.before) named)
      by (inr (inr s)) =
          let its : Unanswered moment (Is.Report s.device s.it) m back l' = subst (λ (x : Ask). ActsOn moment key id x m back l') s.asks does in
          let same : s.device ≡ device = one_device s.device device (sym (ap device_of s.before) ∙ named) in
          fits_kept device a.new (l'.entries key) (ap device_of s.after ∙ ap (λ (k : ℕ). Some k) same) (kept_open a.new (m.entries key) (l'.entries key) at ((happened moment (Is.Report s.device s.it) its.0 m back l' its.1).kept.each key))

  acts_fit : (device : ℕ) (l : Ledger) (hs : List Happening) (l' : Ledger) → Bears key l device → Acts moment key l hs l' → Bears key l' device
  acts_fit device l hs l' bears it =
      let a = it.first.2.first in
      closes_broken_fit device it.mid it.back l' (acts_by device it.first.0 it.first.1 l it.first.2.prefix it.first.2.mid it.first.2.back it.mid a (bears a.entry a.there) it.first.2.second a.entry.progress refl) it.second

module _ (F : ℕ → Type 0) (moment key : ℕ) where
  abbrev pub Spares_in : Rel → Type 0
  Spares_in R = (l : Ledger) (hs : List Happening) (l' : Ledger) → R l hs l' → Spared F moment key l hs l'

  aside_in : {R : Rel} → Asides key R → Spares_in R
  aside_in aside l hs l' it = spared_aside F moment key l hs l' (aside l hs l' it)

  joins : (R S : Rel) → Spares_in R → Spares_in S → Spares_in (Then R S)
  joins R S r s l hs l' it = spared_then F moment key l it.prefix it.mid it.back l' hs it.whole (r l it.prefix it.mid it.first) (s it.mid it.back l' it.second)

  or_in : (R S : Rel) → Spares_in R → Spares_in S → Spares_in (Or R S)
  or_in R S r s l hs l' (inl it) = r l hs l' it
  or_in R S r s l hs l' (inr it) = s l hs l' it

  if_in : (t : Bool) (R S : Rel) → Spares_in R → Spares_in S → Spares_in (If t R S)
  if_in true R S r s l hs l' it = r l hs l' it
  if_in false R S r s l hs l' it = s l hs l' it

  times_in : (n : ℕ) (R : Rel) → Spares_in R → Spares_in (Times n R)
  times_in zero R r = aside_in (aside_nothing key)
  times_in (suc n) R r = joins (Times n R) R (times_in n R r) r

  many_in : (R : Rel) → Spares_in R → Spares_in (Many R)
  many_in R r l hs l' (n, it) = times_in n R r l hs l' it

  pub spares_unanswered : (event : Event) → Spares_in (Unanswered moment event)
  spares_unanswered event l hs l' (outcome, it) = (brings F moment key event outcome l hs l' it).spared

  -- ---- closings

  spares_gone : (device : Option ℕ) → Spares_in (IsGone moment device)
  spares_gone None = aside_in (aside_nothing key)
  spares_gone (Some device) = spares_unanswered (Is.Report device report.Gone)

  closes_first : Spares_in (ClosesFirst moment)
  closes_first l hs l' it = spared_then F moment key l it.closes.prefix it.closes.mid it.closes.back l' hs it.closes.whole closed (spares_gone (device_of it.entry.progress) it.closes.mid it.closes.back l' it.closes.second)
    where
      gone : (other : ℕ) → Left (IsOrder []) (IsCause F [] it.closes.prefix) (l.entries other) (it.closes.mid.entries other)
      gone other =
          left_at (IsOrder []) (IsCause F [] it.closes.prefix) other it.key None l it.closes.mid (ap (λ (x : Ledger). x.entries) it.closes.first.2)
          (λ same. subst (λ (o : Option Entry). Left (IsOrder []) (IsCause F [] it.closes.prefix) o None) (sym (ap l.entries same ∙ it.there)) (left_closed (IsOrder []) (IsCause F [] it.closes.prefix) it.entry it.is_broken))

      closed : Spared F moment key l it.closes.prefix it.closes.mid
      closed = spared_none F moment key l it.closes.prefix it.closes.mid (ap (λ (x : Ledger). x.core) it.closes.first.2) (ap core_notes it.closes.first.0) (λ other apart. gone other)

  pub spares_closes_broken : Spares_in (ClosesBroken moment)
  spares_closes_broken l hs l' it = many_in (ClosesFirst moment) closes_first l hs l' it.0

  -- ---- the asks of a connection

  as_device : (device : ℕ) (o : Option Entry) (e : Entry) → o ≡ Some e → IsDeviceAs true device o → (device_of e.progress ≡ Some device) × (e.ended ≡ true)
  as_device device None e there is = absurd is
  as_device device (Some d) e there is = let same : d ≡ e = cc in subst (λ (x : Entry). (device_of x.progress ≡ Some device) × (x.ended ≡ true)) same is

  -- the old connection of a device that comes again is superseded
  superseded : (came : List Came) (hs : List Happening) (old device other : ℕ) (o : Option Entry) (l : Ledger) (ks : List Happening) (l' : Ledger) → l.entries old ≡ o → IsDeviceAs true device o → ComesAgain device came × F device → IsSupersededAt old o l ks l' → Left (IsOrder came) (IsCause F came hs) (l.entries other) (l'.entries other)
  superseded came hs old device other None l ks l' there is again it = absurd is
  superseded came hs old device other (Some e) l ks l' there is again it =
      left_at (IsOrder came) (IsCause F came hs) other old (Some (superseded_entry e)) l l' (ap (λ (x : Ledger). x.entries) it.1)
      (λ same.
      subst (λ (o : Option Entry). Left (IsOrder came) (IsCause F came hs) o (Some (superseded_entry e))) (sym (ap l.entries same ∙ there))
      (left_out (IsOrder came) (IsCause F came hs) e device (Some (superseded_entry e)) is.0 (inr (superseded_entry e, refl, refl)) (inr (is.1, again.0, again.1))))

  way_core : (old : ℕ) (o : Option Entry) (l : Ledger) (hs : List Happening) (l' : Ledger) → IsSupersededAt old o l hs l' → (l'.core ≡ l.core) × (core_notes hs ≡ [])
  way_core old None l hs l' it = (ap (λ (x : Ledger). x.core) it.1, ap core_notes it.0)
  way_core old (Some e) l hs l' it = (ap (λ (x : Ledger). x.core) it.1, ap core_notes it.0)

  takes_over : (old device : ℕ) (name : List ℕ) (n : Entry) (l : Ledger) (hs : List Happening) (l' : Ledger) → l.entries key ≡ Some n → device_of n.progress ≡ Some device → old ≢ key → (Bears key l' device → F device) → IsDeviceAs true device (l.entries old) → TakesOver moment old device name l hs l' → Spared F moment key l hs l'
  unfolding spared_then
  takes_over old device name n l hs l' there bears apart fits is it = record {
    came = later.came;
    timed = later.timed;
    run = subst (λ (c : State). AreRun c later.came l'.core) way.0 later.run;
    notified = no_notes hs it.prefix it.back it.whole way.1 ∙ later.notified;
    each = λ other apart.
        left_then (IsOrder later.came) (IsCause F later.came hs) (l.entries other) (it.mid.entries other) (l'.entries other) (superseded later.came hs old device other (l.entries old) l it.prefix it.mid refl is (again, fits now) it.first)
        (left_weaker (IsOrder later.came) (IsOrder later.came) (IsCause F later.came it.back) (IsCause F later.came hs) (it.mid.entries other) (l'.entries other) (λ of bytes order. order) tail (later.each other apart));
  }
    where
      gone : Spared F moment key it.mid it.second.prefix it.second.mid
      gone = spares_gone (Some device) it.mid it.second.prefix it.second.mid it.second.first

      named : Brings F moment key (Is.Report device (report.Hello name)) it.second.mid it.second.back l'
      named = brings F moment key (Is.Report device (report.Hello name)) it.second.second.0 it.second.mid it.second.back l' it.second.second.1

      later : Spared F moment key it.mid it.back l'
      later = spared_then F moment key it.mid it.second.prefix it.second.mid it.second.back l' it.back it.second.whole gone named.spared

      first : Kept (it.mid.entries key) (it.second.mid.entries key)
      first = (happened moment (Is.Report device report.Gone) it.second.first.0 it.mid it.second.prefix it.second.mid it.second.first.1).kept.each key

      second : Kept (it.second.mid.entries key) (l'.entries key)
      second = (happened moment (Is.Report device (report.Hello name)) it.second.second.0 it.second.mid it.second.back l' it.second.second.1).kept.each key

      now : Bears key l' device
      now = fits_kept device n (l'.entries key) bears (kept_open n (it.mid.entries key) (l'.entries key) ((aside_gives_way old l it.prefix it.mid it.first).others key (λ same. apart (sym same)) ∙ there) (kept_then (it.mid.entries key) (it.second.mid.entries key) (l'.entries key) first second))

      way : (it.mid.core ≡ l.core) × (core_notes it.prefix ≡ [])
      way = way_core old (l.entries old) l it.prefix it.mid it.first

      again : ComesAgain device (gone.came ++ named.spared.came)
      again = (named.it, Contains-append_right gone.came named.spared.came named.it named.has, name, named.is)

      tail : (of id : ℕ) (ended : Bool) → IsCause F later.came it.back of id ended → IsCause F later.came hs of id ended
      tail of id ended (inl (notified, more)) = inl (refused_back hs it.prefix it.back it.whole of id ended notified, more)
      tail of id ended (inr more) = inr more

  spares_greets : (id device : ℕ) (name : List ℕ) (n : Entry) (l : Ledger) (hs : List Happening) (l' : Ledger) → l.entries key ≡ Some n → device_of n.progress ≡ Some device → (Bears key l' device → F device) → HandlesHello moment key id device name l hs l' → Spared F moment key l hs l'
  spares_greets id device name n l hs l' there bears fits (inl (alone, it)) = spares_unanswered (Is.Report device (report.Hello name)) l hs l' it
  spares_greets id device name n l hs l' there bears fits (inr (inl (old, has, it))) = takes_over old device name n l hs l' there bears has.0 fits has.1 it
  spares_greets id device name n l hs l' there bears fits (inr (inr (old, has, it))) =
      aside_in {R = Then (IsSuperseded key) (Notifies (DeviceRefused id (why.Connected device)))} (aside_then key (IsSuperseded key) (Notifies (DeviceRefused id (why.Connected device))) (aside_gives_way key) (aside_notifies key (DeviceRefused id (why.Connected device)) refl)) l hs l' it

  spares_does : (id : ℕ) (what : Ask) → NoHello what → Spares_in (ActsOn moment key id what)
  spares_does id ask.Nothing isnt = aside_in (aside_nothing key)
  spares_does id (ask.Broke growth.Input) isnt = aside_in (aside_notifies key (Refused At.Feed (Some id)) refl)
  spares_does id (ask.Broke growth.Output) isnt = aside_in (aside_notifies key (Refused At.Enqueue (Some id)) refl)
  spares_does id (ask.Event who event) isnt =
      λ l hs l' it.
      joins (Happens moment event it.0) (Ans.Answers key id who (is_query event) (effects_of it.0)) (λ a ks b one. (brings F moment key event it.0 a ks b one).spared) (aside_in (aside_answers key id who (is_query event) (effects_of it.0))) l hs l' it.1
  spares_does id (ask.Unread request) isnt = aside_in (aside_dropped key id request)
  spares_does id (ask.Lost part.File) isnt = aside_in (aside_declines key At.File id refl)
  spares_does id (ask.Lost part.Job) isnt = aside_in (aside_declines key At.Event id refl)
  spares_does id (ask.Hello device name) isnt = absurd isnt
  spares_does id (ask.Report device report) isnt = spares_unanswered (Is.Report device report)
  spares_does id (ask.UnknownDevice name) isnt = aside_in (aside_notifies key (DeviceRefused id (why.UnknownName name)) refl)
  spares_does id (ask.Fault device) isnt = aside_in (aside_notifies key (DeviceRefused id (why.Fault device)) refl)

  aside_asks : (id : ℕ) (what : Ask) → Asides key (Asks key id what)
  aside_asks id what l hs l' asks = aside_with key (Some asks.new) l hs l' (ap core_notes asks.chosen) (ap (λ (x : Ledger). x.core) asks.after) (ap (λ (x : Ledger). x.entries) asks.after)

  plain : (id : ℕ) (what : Ask) → NoHello what → Spares_in (Then (Asks key id what) (ActsOn moment key id what))
  plain id what isnt = joins (Asks key id what) (ActsOn moment key id what) (aside_in (aside_asks id what)) (spares_does id what isnt)

  abbrev Ends_in : Rel → Type 0
  Ends_in R = (l : Ledger) (hs : List Happening) (l' : Ledger) → ((device : ℕ) → Bears key l' device → F device) → R l hs l' → Spared F moment key l hs l'

  acts_as : (id : ℕ) (what : Ask) → Ends_in (Then (Asks key id what) (ActsOn moment key id what))
  acts_as id ask.Nothing l hs l' fits it = plain id ask.Nothing tt l hs l' it
  acts_as id (ask.Broke growth) l hs l' fits it = plain id (ask.Broke growth) tt l hs l' it
  acts_as id (ask.Event who event) l hs l' fits it = plain id (ask.Event who event) tt l hs l' it
  acts_as id (ask.Unread request) l hs l' fits it = plain id (ask.Unread request) tt l hs l' it
  acts_as id (ask.Lost part) l hs l' fits it = plain id (ask.Lost part) tt l hs l' it
  acts_as id (ask.Hello device name) l hs l' fits it =
      spared_then F moment key l it.prefix it.mid it.back l' hs it.whole (spared_aside F moment key l it.prefix it.mid (aside_asks id (ask.Hello device name) l it.prefix it.mid it.first))
      (spares_greets id device name it.first.new it.mid it.back l' (asked_here key id (ask.Hello device name) l it.prefix it.mid it.first) (hello_bears l.core.settings device name it.first.entry it.first.new it.first.asks) (fits device) it.second)
  acts_as id (ask.Report device report) l hs l' fits it = plain id (ask.Report device report) tt l hs l' it
  acts_as id (ask.UnknownDevice name) l hs l' fits it = plain id (ask.UnknownDevice name) tt l hs l' it
  acts_as id (ask.Fault device) l hs l' fits it = plain id (ask.Fault device) tt l hs l' it

  spares_acts_next : Ends_in (ActsNext moment key)
  spares_acts_next l hs l' fits (id, what, it) = acts_as id what l hs l' fits it

  spares_acts : Ends_in (Acts moment key)
  spares_acts l hs l' fits it = spared_then F moment key l it.prefix it.mid it.back l' hs it.whole (spares_acts_next l it.prefix it.mid (λ device fit. fits device (closes_broken_fit moment key device it.mid it.back l' fit it.second)) it.first) (spares_closes_broken it.mid it.back l' it.second)

  spares_each : (n : ℕ) → Ends_in (Times n (Acts moment key))
  spares_each zero l hs l' fits it = spared_aside F moment key l hs l' (aside_nothing key l hs l' it)
  spares_each (suc n) l hs l' fits it = spared_then F moment key l it.prefix it.mid it.back l' hs it.whole (spares_each n l it.prefix it.mid (λ device fit. fits device (acts_fit moment key device it.mid it.back l' fit it.second)) it.first) (spares_acts it.mid it.back l' fits it.second)

  spares_serves : Ends_in (Serves moment key)
  spares_serves l hs l' fits it =
      spared_then F moment key l it.0.prefix it.0.mid it.0.back l' hs it.0.whole (spares_each it.0.first.0 l it.0.prefix it.0.mid (λ device fit. fits device (subst (λ (x : Ledger). Bears key x device) (sym it.0.second.1) fit)) it.0.first.1) (spared_aside F moment key it.0.mid it.0.back l' (aside_chooses key Rested it.0.mid it.0.back l' it.0.second))

  -- ---- reads, writes and closings that are not at once

  spares_fails : Spares_in (Fails moment key)
  spares_fails = joins (Breaks key) (ClosesBroken moment) (aside_in (aside_breaks key)) spares_closes_broken

  last : (R S : Rel) → Spares_in R → Ends_in S → Ends_in (Then R S)
  last R S r q l hs l' fits it = spared_then F moment key l it.prefix it.mid it.back l' hs it.whole (r l it.prefix it.mid it.first) (q it.mid it.back l' fits it.second)

  spares_fed : (e : Entry) (bytes : List ℕ) → Ends_in (FedWhole moment key e bytes)
  spares_fed e bytes l hs l' fits (inl it) = last (Sets key (reading bytes e)) (Serves moment key) (aside_in (aside_sets key (reading bytes e))) spares_serves l hs l' fits it
  spares_fed e bytes l hs l' fits (inr it) = joins (Drops At.Feed key e) (ClosesBroken moment) (aside_in (aside_drops key At.Feed e refl)) spares_closes_broken l hs l' it

  ends_if : (t : Bool) (R S : Rel) → Ends_in R → Ends_in S → Ends_in (If t R S)
  ends_if true R S r q l hs l' fits it = r l hs l' fits it
  ends_if false R S r q l hs l' fits it = q l hs l' fits it

  ends_aside : (R : Rel) → Asides key R → Ends_in R
  ends_aside R aside l hs l' fits it = spared_aside F moment key l hs l' (aside l hs l' it)

  feeds_at : (bytes : List ℕ) (o : Option Entry) → Ends_in (FeedsAt moment key bytes o)
  feeds_at bytes None = ends_aside Nothing (aside_nothing key)
  feeds_at bytes (Some e) = ends_if e.draining (Sets key e) (FedWhole moment key e bytes) (ends_aside (Sets key e) (aside_sets key e)) (spares_fed e bytes)

  spares_feeds : (bytes : List ℕ) → Ends_in (FeedsOne moment key bytes)
  spares_feeds bytes l hs l' fits it = feeds_at bytes (l.entries key) l hs l' fits it

  polls_in : (poll : Poll) → Spares_in (Polls poll)
  polls_in poll = aside_in (aside_polls key poll)

  reads_as : (e : Entry) (answer : WireAnswer (List ℕ)) → Ends_in (ReadsAs moment key e answer)
  reads_as e (wire.Done bytes) l hs l' fits it = last (Polls (Reads e.id (wire.Done bytes))) (FeedsOne moment key bytes) (polls_in (Reads e.id (wire.Done bytes))) (spares_feeds bytes) l hs l' fits it
  reads_as e wire.Waiting l hs l' fits it = polls_in (Reads e.id wire.Waiting) l hs l' it
  reads_as e wire.End l hs l' fits it = joins (Polls (Reads e.id wire.End)) (Sets key (record e { ended = true })) (polls_in (Reads e.id wire.End)) (aside_in (aside_sets key (record e { ended = true }))) l hs l' it
  reads_as e wire.Fault l hs l' fits it = joins (Polls (Reads e.id wire.Fault)) (Fails moment key) (polls_in (Reads e.id wire.Fault)) spares_fails l hs l' it

  reads_at : (o : Option Entry) → Ends_in (ReadsAt moment key o)
  reads_at None = ends_aside Nothing (aside_nothing key)
  reads_at (Some e) = ends_if (is_read e) (ReadsOpen moment key e) Nothing (λ l hs l' fits it. reads_as e it.0 l hs l' fits it.2) (ends_aside Nothing (aside_nothing key))

  pub spares_reads : Ends_in (ReadsOne moment key)
  spares_reads l hs l' fits it = reads_at (l.entries key) l hs l' fits it

  writes_as : (e : Entry) (offered : List ℕ) (answer : WireAnswer ℕ) → Spares_in (WritesAs moment key e offered answer)
  writes_as e offered (wire.Done n) =
      joins (Polls (Writes e.id offered (wire.Done n))) (Sets key (record e { taken = e.taken ++ take n offered })) (polls_in (Writes e.id offered (wire.Done n))) (aside_in (aside_sets key (record e { taken = e.taken ++ take n offered })))
  writes_as e offered wire.Waiting = polls_in (Writes e.id offered wire.Waiting)
  writes_as e offered wire.End = joins (Polls (Writes e.id offered wire.End)) (Fails moment key) (polls_in (Writes e.id offered wire.End)) spares_fails
  writes_as e offered wire.Fault = joins (Polls (Writes e.id offered wire.Fault)) (Fails moment key) (polls_in (Writes e.id offered wire.Fault)) spares_fails

  writes_at : (o : Option Entry) → Spares_in (WritesAt moment key o)
  writes_at None = aside_in (aside_nothing key)
  writes_at (Some e) = if_in (nat_lt 0 (length (waiting e))) (WritesOpen moment key e) Nothing (λ l hs l' it. writes_as e it.0 it.2 l hs l' it.3) (aside_in (aside_nothing key))

  pub spares_writes : Spares_in (WritesOne moment key)
  spares_writes l hs l' it = writes_at (l.entries key) l hs l' it

  closes_as : (e : Entry) → Spares_in (ClosesAs moment Drained key e)
  closes_as e =
      joins (Leaves Drained key e) (IsGone moment (device_of e.progress)) (aside_in (λ l hs l' it. aside_with key None l hs l' (ap core_notes it.0) (ap (λ (x : Ledger). x.core) it.2) (ap (λ (x : Ledger). x.entries) it.2))) (spares_gone (device_of e.progress))

  ends_at : (o : Option Entry) → Spares_in (EndsAt moment key o)
  ends_at None = aside_in (aside_nothing key)
  ends_at (Some e) = if_in (is_done e) (Then (ClosesAs moment Drained key e) (ClosesBroken moment)) Nothing (joins (ClosesAs moment Drained key e) (ClosesBroken moment) (closes_as e) spares_closes_broken) (aside_in (aside_nothing key))

  pub spares_ends : Spares_in (EndsOne moment key)
  spares_ends l hs l' it = ends_at (l.entries key) l hs l' it

-- ---- none is broken afterwards

abbrev pub Unbroken : Rel → Type 0
Unbroken R = (l : Ledger) (hs : List Happening) (l' : Ledger) → NoneBroken l → R l hs l' → NoneBroken l'

unbroken_same : (l l' : Ledger) → l'.entries ≡ l.entries → NoneBroken l → NoneBroken l'
unbroken_same l l' same none key is = none key (subst (λ (entries : ℕ → Option Entry). IsBroken (entries key)) same is)

pub unbroken_nothing : Unbroken Nothing
unbroken_nothing l hs l' none it = unbroken_same l l' (ap (λ (x : Ledger). x.entries) it.1) none

pub unbroken_last : (R : Rel) (moment : ℕ) → Unbroken (Then R (ClosesBroken moment))
unbroken_last R moment l hs l' none it = it.second.1

pub unbroken_then : (R S : Rel) → Unbroken R → Unbroken S → Unbroken (Then R S)
unbroken_then R S r s l hs l' none it = s it.mid it.back l' (r l it.prefix it.mid none it.first) it.second

unbroken_if : (t : Bool) (R S : Rel) → Unbroken R → Unbroken S → Unbroken (If t R S)
unbroken_if true R S r s l hs l' none it = r l hs l' none it
unbroken_if false R S r s l hs l' none it = s l hs l' none it

unbroken_times : (n : ℕ) (R : Rel) → Unbroken R → Unbroken (Times n R)
unbroken_times zero R r = unbroken_nothing
unbroken_times (suc n) R r = unbroken_then (Times n R) R (unbroken_times n R r) r

unbroken_polls : (poll : Poll) → Unbroken (Polls poll)
unbroken_polls poll l hs l' none it = unbroken_same l l' (ap (λ (x : Ledger). x.entries) it.1) none

broken_if : (t : Bool) (x y : Option Entry) → (IsBroken x → ⊥) → (IsBroken y → ⊥) → IsBroken (if t then x else y) → ⊥
broken_if true x y p q is = p is
broken_if false x y p q is = q is

-- a connection that isn't broken changes
pub unbroken_sets : (key : ℕ) (d e : Entry) (l : Ledger) (hs : List Happening) (l' : Ledger) → NoneBroken l → l.entries key ≡ Some d → e.broken ≡ d.broken → Sets key e l hs l' → NoneBroken l'
unbroken_sets key d e l hs l' none there same it other is =
    broken_if (other == key) (Some e) (l.entries other) (λ broken. none key (subst IsBroken (sym there) (sym same ∙ broken))) (none other) (subst (λ (x : Ledger). IsBroken (x.entries other)) it.1 is)

unbroken_serves : (moment key : ℕ) → Unbroken (Serves moment key)
unbroken_serves moment key l hs l' none it =
    let acted = unbroken_times it.0.first.0 (Acts moment key) (unbroken_last (ActsNext moment key) moment) l it.0.prefix it.0.mid none it.0.first.1 in
    unbroken_same it.0.mid l' (ap (λ (x : Ledger). x.entries) it.0.second.1) acted

unbroken_fed : (moment key : ℕ) (e : Entry) (bytes : List ℕ) (l : Ledger) (hs : List Happening) (l' : Ledger) → NoneBroken l → l.entries key ≡ Some e → FedWhole moment key e bytes l hs l' → NoneBroken l'
unbroken_fed moment key e bytes l hs l' none there (inl it) = unbroken_serves moment key it.mid it.back l' (unbroken_sets key e (reading bytes e) l it.prefix it.mid none there refl it.first) it.second
unbroken_fed moment key e bytes l hs l' none there (inr it) = it.second.1

unbroken_open : (t : Bool) (moment key : ℕ) (e : Entry) (bytes : List ℕ) (l : Ledger) (hs : List Happening) (l' : Ledger) → NoneBroken l → l.entries key ≡ Some e → If t (Sets key e) (FedWhole moment key e bytes) l hs l' → NoneBroken l'
unbroken_open true moment key e bytes l hs l' none there it = unbroken_sets key e e l hs l' none there refl it
unbroken_open false moment key e bytes l hs l' none there it = unbroken_fed moment key e bytes l hs l' none there it

unbroken_feeds_at : (moment key : ℕ) (bytes : List ℕ) (o : Option Entry) (l : Ledger) (hs : List Happening) (l' : Ledger) → NoneBroken l → l.entries key ≡ o → FeedsAt moment key bytes o l hs l' → NoneBroken l'
unbroken_feeds_at moment key bytes None l hs l' none there it = unbroken_nothing l hs l' none it
unbroken_feeds_at moment key bytes (Some e) l hs l' none there it = unbroken_open e.draining moment key e bytes l hs l' none there it

unbroken_feeds : (moment key : ℕ) (bytes : List ℕ) → Unbroken (FeedsOne moment key bytes)
unbroken_feeds moment key bytes l hs l' none it = unbroken_feeds_at moment key bytes (l.entries key) l hs l' none refl it

unbroken_fails : (moment key : ℕ) → Unbroken (Fails moment key)
unbroken_fails moment key = unbroken_last (Breaks key) moment

unbroken_after : (poll : Poll) (key : ℕ) (d e : Entry) (l : Ledger) (hs : List Happening) (l' : Ledger) → NoneBroken l → l.entries key ≡ Some d → e.broken ≡ d.broken → Then (Polls poll) (Sets key e) l hs l' → NoneBroken l'
unbroken_after poll key d e l hs l' none there same it =
    unbroken_sets key d e it.mid it.back l' (unbroken_polls poll l it.prefix it.mid none it.first) (ap (λ (x : Ledger). x.entries key) it.first.1 ∙ there) same it.second

unbroken_reads_as : (moment key : ℕ) (e : Entry) (answer : WireAnswer (List ℕ)) (l : Ledger) (hs : List Happening) (l' : Ledger) → NoneBroken l → l.entries key ≡ Some e → ReadsAs moment key e answer l hs l' → NoneBroken l'
unbroken_reads_as moment key e (wire.Done bytes) l hs l' none there it = unbroken_then (Polls (Reads e.id (wire.Done bytes))) (FeedsOne moment key bytes) (unbroken_polls (Reads e.id (wire.Done bytes))) (unbroken_feeds moment key bytes) l hs l' none it
unbroken_reads_as moment key e wire.Waiting l hs l' none there it = unbroken_polls (Reads e.id wire.Waiting) l hs l' none it
unbroken_reads_as moment key e wire.End l hs l' none there it = unbroken_after (Reads e.id wire.End) key e (record e { ended = true }) l hs l' none there refl it
unbroken_reads_as moment key e wire.Fault l hs l' none there it = unbroken_then (Polls (Reads e.id wire.Fault)) (Fails moment key) (unbroken_polls (Reads e.id wire.Fault)) (unbroken_fails moment key) l hs l' none it

unbroken_reads_if : (t : Bool) (moment key : ℕ) (e : Entry) (l : Ledger) (hs : List Happening) (l' : Ledger) → NoneBroken l → l.entries key ≡ Some e → If t (ReadsOpen moment key e) Nothing l hs l' → NoneBroken l'
unbroken_reads_if true moment key e l hs l' none there (answer, segment, it) = unbroken_reads_as moment key e answer l hs l' none there it
unbroken_reads_if false moment key e l hs l' none there it = unbroken_nothing l hs l' none it

unbroken_reads_at : (moment key : ℕ) (o : Option Entry) (l : Ledger) (hs : List Happening) (l' : Ledger) → NoneBroken l → l.entries key ≡ o → ReadsAt moment key o l hs l' → NoneBroken l'
unbroken_reads_at moment key None l hs l' none there it = unbroken_nothing l hs l' none it
unbroken_reads_at moment key (Some e) l hs l' none there it = unbroken_reads_if (is_read e) moment key e l hs l' none there it

pub unbroken_reads : (moment key : ℕ) → Unbroken (ReadsOne moment key)
unbroken_reads moment key l hs l' none it = unbroken_reads_at moment key (l.entries key) l hs l' none refl it

unbroken_writes_as : (moment key : ℕ) (e : Entry) (offered : List ℕ) (answer : WireAnswer ℕ) (l : Ledger) (hs : List Happening) (l' : Ledger) → NoneBroken l → l.entries key ≡ Some e → WritesAs moment key e offered answer l hs l' → NoneBroken l'
unbroken_writes_as moment key e offered (wire.Done n) l hs l' none there it = unbroken_after (Writes e.id offered (wire.Done n)) key e (record e { taken = e.taken ++ take n offered }) l hs l' none there refl it
unbroken_writes_as moment key e offered wire.Waiting l hs l' none there it = unbroken_polls (Writes e.id offered wire.Waiting) l hs l' none it
unbroken_writes_as moment key e offered wire.End l hs l' none there it = unbroken_then (Polls (Writes e.id offered wire.End)) (Fails moment key) (unbroken_polls (Writes e.id offered wire.End)) (unbroken_fails moment key) l hs l' none it
unbroken_writes_as moment key e offered wire.Fault l hs l' none there it = unbroken_then (Polls (Writes e.id offered wire.Fault)) (Fails moment key) (unbroken_polls (Writes e.id offered wire.Fault)) (unbroken_fails moment key) l hs l' none it

unbroken_writes_if : (t : Bool) (moment key : ℕ) (e : Entry) (l : Ledger) (hs : List Happening) (l' : Ledger) → NoneBroken l → l.entries key ≡ Some e → If t (WritesOpen moment key e) Nothing l hs l' → NoneBroken l'
unbroken_writes_if true moment key e l hs l' none there (offered, prefix, answer, it) = unbroken_writes_as moment key e offered answer l hs l' none there it
unbroken_writes_if false moment key e l hs l' none there it = unbroken_nothing l hs l' none it

unbroken_writes_at : (moment key : ℕ) (o : Option Entry) (l : Ledger) (hs : List Happening) (l' : Ledger) → NoneBroken l → l.entries key ≡ o → WritesAt moment key o l hs l' → NoneBroken l'
unbroken_writes_at moment key None l hs l' none there it = unbroken_nothing l hs l' none it
unbroken_writes_at moment key (Some e) l hs l' none there it = unbroken_writes_if (nat_lt 0 (length (waiting e))) moment key e l hs l' none there it

pub unbroken_writes : (moment key : ℕ) → Unbroken (WritesOne moment key)
unbroken_writes moment key l hs l' none it = unbroken_writes_at moment key (l.entries key) l hs l' none refl it

unbroken_ends_at : (moment key : ℕ) (o : Option Entry) → Unbroken (EndsAt moment key o)
unbroken_ends_at moment key None = unbroken_nothing
unbroken_ends_at moment key (Some e) = unbroken_if (is_done e) (Then (ClosesAs moment Drained key e) (ClosesBroken moment)) Nothing (unbroken_last (ClosesAs moment Drained key e) moment) unbroken_nothing

pub unbroken_ends : (moment key : ℕ) → Unbroken (EndsOne moment key)
unbroken_ends moment key l hs l' none it = unbroken_ends_at moment key (l.entries key) l hs l' none it

-- ---- the law

no_break : (o : Option Entry) (e : Entry) → (IsBroken o → ⊥) → o ≡ Some e → e.broken ≡ true → ⊥
no_break None e none is broken = cc
no_break (Some d) e none is broken = let same : d ≡ e = cc in none (ap (λ (x : Entry). x.broken) same ∙ broken)

sound_of : (t : Bool) → (t ≡ true → ⊥) → t ≡ false
sound_of true never = absurd (never refl)
sound_of false never = refl

spared : (F : ℕ → Type 0) (came : List Came) (hs : List Happening) (x y : Option Entry) → (IsBroken x → ⊥) → (IsBroken y → ⊥) → Left (IsOrder came) (IsCause F came hs) x y → IsSpared F came hs x y
spared F came hs None y sound after left = left.none refl
spared F came hs (Some e) y sound after left = by (device_of e.progress) refl
  where
    unbroken : e.broken ≡ false
    unbroken = sound_of e.broken sound

    of_device : (device : ℕ) → (IsOut y × IsCause F came hs device e.id e.ended) ⊎ ((orders : List (List ℕ)) × All (IsOrder came device) orders × (y ≡ Some (owing (concat orders) e))) → ((y ≡ None) × IsCause F came hs device e.id e.ended) ⊎ ((orders : List (List ℕ)) × All (IsOrder came device) orders × (y ≡ Some (owing (concat orders) e)))
    of_device device (inl ((inl gone), cause)) = inl (gone, cause)
    of_device device (inl ((inr (d, is, broken)), cause)) = absurd (no_break y d after is broken)
    of_device device (inr more) = inr more

    by : (o : Option ℕ) → device_of e.progress ≡ o → SparedAs F came hs o e y
    by None progress = left.client e refl unbroken progress
    by (Some device) progress = of_device device (left.device e device refl unbroken progress)

spares : (moment key : ℕ) (l : Ledger) (hs : List Happening) (l' : Ledger) → NoneBroken l → NoneBroken l' → Spared (Bears key l') moment key l hs l' → Spares moment key l hs l'
spares moment key l hs l' none after it = record {
  came = it.came;
  timed = it.timed;
  run = it.run;
  notified = it.notified;
  each = λ other apart. spared (Bears key l') it.came hs (l.entries other) (l'.entries other) (none other) (after other) (it.each other apart);
}

pub spares_all : (moment : ℕ) → SparesAll moment
spares_all moment = record {
  reads = λ key l hs l' none it. spares moment key l hs l' none (unbroken_reads moment key l hs l' none it) (spares_reads (Bears key l') moment key l hs l' (λ device fit. fit) it);
  writes = λ key l hs l' none it. spares moment key l hs l' none (unbroken_writes moment key l hs l' none it) (spares_writes (Bears key l') moment key l hs l' it);
  ends = λ key l hs l' none it. spares moment key l hs l' none (unbroken_ends moment key l hs l' none it) (spares_ends (Bears key l') moment key l hs l' it);
}
