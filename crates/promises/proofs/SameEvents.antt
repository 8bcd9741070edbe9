-- Bytes become due, events come about and are answered in one way, if they are seen alike and no memory is refused.
use Rattle.std.proofs.Common.{◌≡◌, ℕ, Bool, true, List, [], ◌∷◌, ◌++◌, map, refl, sym, ◌∙◌, ap, subst, Option, Some, None, inl, inr, ◌⊎◌}
use Rattle.base_types.specs.declared.report.Report.{Report}
use Rattle.device_link.specs.Orders.{cancel_line}
use Rattle.print_room.specs.declared.started.Started.{Started}
use Rattle.print_room.specs.State.{State}
use Rattle.events.specs.declared.event.Event.{Event}
use Rattle.events.specs.declared.event.Event.TheVariants as Is
use Rattle.events.specs.declared.status.Status.{Status}
use Rattle.events.specs.declared.status.Status.TheVariants.{TemporaryError}
use Rattle.events.specs.declared.effects.Response.{Response}
use Rattle.events.specs.declared.effects.Response.TheVariants as responds
use Rattle.events.specs.declared.effects.IppResponse.{IppResponse}
use Rattle.events.specs.declared.effects.LpdResponse.{LpdResponse}
use Rattle.events.specs.declared.effects.LpdResponse.TheVariants as Shown
use Rattle.events.specs.declared.effects.Effects.{Effects}
use Rattle.events.specs.declared.effects.Cancel.{Cancel}
use Rattle.events.specs.Event.{is_query}
use Rattle.events.specs.SameEvent.{SameEvent}
use Rattle.connections.specs.Reply.{http_reply}
use Rattle.dispatcher.specs.declared.observer.AllocationSite.{AllocationSite}
use Rattle.dispatcher.specs.declared.observer.AllocationSite.TheVariants as At
use Rattle.dispatcher.specs.Notes.{Note, Refused}
use Rattle.dispatcher.specs.OneStep.{SameReply, SameIppAnswer, SameLpdAnswer, SameAnswer}
use Rattle.dispatcher.specs.declared.handled.Dispatch.{Dispatch}
use Rattle.dispatcher.specs.declared.handled.Dispatch.TheVariants as dispatch
use Rattle.dispatcher.specs.Run.{Outcome, effects_of}
use Rattle.dispatcher.specs.Step.{TakesNoMemory}
use Rattle.ipp_operations.specs.QueueText.{queue_text, ack_of, text_of}
use Rattle.connections.specs.declared.ask.Client.{Client}
use Rattle.connections.specs.declared.ask.Client.TheVariants as client
use Rattle.connections.specs.Entry.{Entry, closes_of, broken, owing, needs_memory}
use Rattle.connections.specs.Steps.{http_status}
use Rattle.server.specs.Polls.{Happening, Notified, Found}
use Rattle.server.specs.Ledger.{Ledger, with_entry, job_bytes}
use Rattle.server.specs.Rel.{Rel, Notifies, Chooses, Then, If, EachOf}
use Rattle.server.specs.Enqueuing.{Sets, BreaksAt, Breaks, Drops, EnqueuesOpen, EnqueuesAt, EnqueuesWhere, Enqueues, EnqueuesReplyAt, EnqueuesResponse, EnqueuesStatus, EnqueuesOn}
use Rattle.server.specs.Happening.{found_by, undispatched_after, Decides, Sends, SendsAll, Starts, StartsAll, StartsBy, Orders, Happens, Unanswered}
use Rattle.server.specs.Answering as Ans
use Rattle.server.specs.Turn as Between
use Rattle.promises.specs.Keyed.{keyed}
use Rattle.promises.specs.OneLedger.{StepsOnce}
use Rattle.promises.proofs.Lowest.{lowest_one}
use Rattle.promises.proofs.SeenAlike.{Calm, Same, One, keyed_append, calm_last, same_just, same_nothing, same_chooses, same_then_by, same_then, Refuses, refuses_just, refuses_then, same_or, same_if, same_each_of}
use Rattle.promises.proofs.UniqueEvents.{SameOutcome, IsKept, kept_or, handled_one, same_undispatched, light_kept}
use Rattle.promises.proofs.UniqueAnswers.{same_bytes, same_text}

-- ---- bytes become due

pub same_sets : (key : ℕ) (e : Entry) → One (Sets key e)
same_sets key e = same_just (λ l. []) (λ l. with_entry key e l)

pub refuses_drops : (place : AllocationSite) (key : ℕ) (e : Entry) → Refuses (Drops place key e)
refuses_drops place key e = refuses_just (Drops place key e) (Notified (Refused place (Some e.id))) refl (λ l hs a it. it.0)

pub refuses_notifies : (place : AllocationSite) (id : Option ℕ) → Refuses (Notifies (Refused place id))
refuses_notifies place id = refuses_just (Notifies (Refused place id)) (Notified (Refused place id)) refl (λ l hs a it. it.0)

breaks_at : (key : ℕ) (o : Option Entry) → One (BreaksAt key o)
breaks_at key None = same_nothing
breaks_at key (Some e) = same_sets key (broken e)

pub same_breaks : (key : ℕ) → One (Breaks key)
same_breaks key = record { one = λ l hs rest a ks more b e c d p q. (breaks_at key (l.entries key)).one l hs rest a ks more b e c d p q }

enqueues_open : (refusable : Bool) (key : ℕ) (bytes : List ℕ) (e : Entry) → One (EnqueuesOpen refusable key bytes e)
enqueues_open refusable key bytes e =
    let kept : One (Sets key (owing bytes e)) = same_sets key (owing bytes e) in same_if refusable (same_or (refuses_drops At.Enqueue key e) (refuses_drops At.Enqueue key e) (same_then (same_chooses Found) kept)) kept

enqueues_at : (refusable : Entry → Bool) (key : ℕ) (bytes : List ℕ) (o : Option Entry) → One (EnqueuesAt refusable key bytes o)
enqueues_at refusable key bytes None = same_nothing
enqueues_at refusable key bytes (Some e) = same_if e.broken same_nothing (enqueues_open (refusable e) key bytes e)

pub same_enqueues_where : (refusable : Entry → Bool) (key : ℕ) (bytes : List ℕ) → One (EnqueuesWhere refusable key bytes)
same_enqueues_where refusable key bytes = record { one = λ l hs rest a ks more b e c d p q. (enqueues_at refusable key bytes (l.entries key)).one l hs rest a ks more b e c d p q }

pub same_enqueues : (key : ℕ) (bytes : List ℕ) → One (Enqueues key bytes)
same_enqueues key bytes = same_enqueues_where (needs_memory bytes) key bytes

reply_at : (bytes : Bool → List ℕ) (key : ℕ) (o : Option Entry) → One (EnqueuesReplyAt bytes key o)
reply_at bytes key None = same_nothing
reply_at bytes key (Some e) = same_enqueues key (bytes (closes_of e.progress))

pub same_reply : (key : ℕ) (bytes : List ℕ) → One (EnqueuesResponse key bytes)
same_reply key bytes = record { one = λ l hs rest a ks more b e c d p q. (reply_at (λ closes. http_reply closes bytes) key (l.entries key)).one l hs rest a ks more b e c d p q }

pub same_status : (key : ℕ) (status : Status) (request : ℕ) → One (EnqueuesStatus key status request)
same_status key status request = record { one = λ l hs rest a ks more b e c d p q. (reply_at (λ closes. http_status closes status request) key (l.entries key)).one l hs rest a ks more b e c d p q }

-- ---- by the device

enqueues_on : (refusable : Entry → Bool) (device : ℕ) (bytes : List ℕ) (l : Ledger) (hs rest : List Happening) (a : Ledger) (ks more : List Happening) (b : Ledger) → keyed hs ++ rest ≡ keyed ks ++ more → Calm hs → Calm ks → EnqueuesOn refusable device bytes l hs a → EnqueuesOn refusable device bytes l ks b → (keyed hs ≡ keyed ks) × (a ≡ b)
enqueues_on refusable device bytes l hs rest a ks more b e c d (inl (key, is, p)) (inl (other, its, q)) =
    let same : key ≡ other = lowest_one device key other l is its in
    (same_enqueues_where refusable key bytes).one l hs rest a ks more b e c d p (subst (λ (k : ℕ). EnqueuesWhere refusable k bytes l ks b) (sym same) q)
enqueues_on refusable device bytes l hs rest a ks more b e c d (inl (key, is, p)) (inr (none, q)) = absurd (none key is.0)
enqueues_on refusable device bytes l hs rest a ks more b e c d (inr (none, p)) (inl (key, is, q)) = absurd (none key is.0)
enqueues_on refusable device bytes l hs rest a ks more b e c d (inr (none, p)) (inr (nor, q)) = same_nothing.one l hs rest a ks more b e c d p q

same_enqueues_on : (refusable : Entry → Bool) (device : ℕ) (bytes : List ℕ) → One (EnqueuesOn refusable device bytes)
same_enqueues_on refusable device bytes = record { one = enqueues_on refusable device bytes }

same_sends : (cancel : Cancel) → One (Sends cancel)
same_sends cancel = same_enqueues_on (needs_memory (cancel_line cancel.job)) cancel.device (cancel_line cancel.job)

same_starts : (start : Started) → One (Starts start)
same_starts start = record { one = λ l hs rest a ks more b e c d p q. (same_enqueues_on (λ x. true) start.device (job_bytes l.core start.job)).one l hs rest a ks more b e c d p q }

same_starts_all : One StartsAll
same_starts_all = record { one = λ l hs rest a ks more b e c d p q. (same_each_of l.core.begun Starts same_starts).one l hs rest a ks more b e c d p q }

same_starts_by : (made : Dispatch) → One (StartsBy made)
same_starts_by dispatch.Query = same_nothing
same_starts_by dispatch.OutOfMemory = same_nothing
same_starts_by dispatch.Idle = same_nothing
same_starts_by dispatch.Planned = same_starts_all

-- ---- events

notified_keyed : (notes : List Note) → keyed (map Notified notes) ≡ map Notified notes
notified_keyed [] = refl
notified_keyed (note ∷ notes) = ap (λ (hs : List Happening). Notified note ∷ hs) (notified_keyed notes)

found_keyed : (outcome : Outcome) → keyed (found_by outcome) ≡ []
found_keyed (Some handled) = refl
found_keyed None = refl

decides_keyed : (outcome : Outcome) (hs : List Happening) (notes : List Note) → hs ≡ found_by outcome ++ map Notified notes → keyed hs ≡ map Notified notes
decides_keyed outcome hs notes notified = ap keyed notified ∙ (keyed_append (found_by outcome) (map Notified notes) ∙ (ap (λ (xs : List Happening). xs ++ keyed (map Notified notes)) (found_keyed outcome) ∙ notified_keyed notes))

module _ (steps : StepsOnce) where
  all_sent : (one other : Effects) → SameReply one other → Same (SendsAll one) (SendsAll other)
  all_sent one other same = subst (λ (cancels : List Cancel). Same (SendsAll one) (EachOf cancels Sends)) same.cancels (same_each_of one.cancels.items Sends same_sends)

  same_orders : (one other : Outcome) → SameOutcome one other → Same (Orders one) (Orders other)
  same_orders (Some one) (Some other) same =
      same_then (all_sent one.effects other.effects same.effects_are) (subst (λ (made : Dispatch). Same (StartsBy one.dispatch) (StartsBy made)) same.dispatch_is (same_starts_by one.dispatch))
  same_orders None None same = same_nothing
  same_orders one other same = absurd same

  decided_same : (moment : ℕ) (event other : Event) (outcome parsed : Outcome) (l : Ledger) (hs rest : List Happening) (a : Ledger) (ks more : List Happening) (b : Ledger) → SameEvent event other → is_query event ≡ is_query other → IsKept outcome → IsKept parsed
      → keyed hs ++ rest ≡ keyed ks ++ more → Decides moment event outcome l hs a → Decides moment other parsed l ks b → SameOutcome outcome parsed × (keyed hs ≡ keyed ks) × (a ≡ b)
  decided_same moment event other outcome parsed l hs rest a ks more b same query kept enqueues e p q =
      let left : keyed hs ≡ map Notified p.notes = decides_keyed outcome hs p.notes p.notified in
      let right : keyed ks ≡ map Notified q.notes = decides_keyed parsed ks q.notes q.notified in
      let both : map Notified p.notes ++ rest ≡ map Notified q.notes ++ more = sym (ap (λ (xs : List Happening). xs ++ rest) left) ∙ (e ∙ ap (λ (xs : List Happening). xs ++ more) right) in
      let way = handled_one steps moment event other l.core outcome parsed p.notes q.notes p.state q.state rest more same query kept enqueues both p.handles q.handles in (
        way.outcome,
        left ∙ (ap (λ (ns : List Note). map Notified ns) way.notes_are ∙ sym right),
        p.after ∙ (ap (λ (s : State). record l { core = s; undispatched = undispatched_after outcome l.undispatched }) way.state
            ∙ (ap (λ (t : Bool). record l { core = q.state; undispatched = t }) (same_undispatched steps outcome parsed l.undispatched way.outcome) ∙ sym q.after)),
      )

  happened_same : (moment : ℕ) (event other : Event) (outcome parsed : Outcome) (l : Ledger) (hs rest : List Happening) (a : Ledger) (ks more : List Happening) (b : Ledger) → SameEvent event other → is_query event ≡ is_query other → IsKept outcome → IsKept parsed
      → keyed hs ++ rest ≡ keyed ks ++ more → Calm hs → Calm ks → Happens moment event outcome l hs a → Happens moment other parsed l ks b → SameOutcome outcome parsed × (keyed hs ≡ keyed ks) × (a ≡ b)
  happened_same moment event other outcome parsed l hs rest a ks more b same query kept enqueues e c d p q =
      same_then_by (Decides moment event outcome) (Decides moment other parsed) (Orders outcome) (Orders parsed) l hs rest a ks more b e c d p q
      (λ left right both calm still. decided_same moment event other outcome parsed l p.prefix left p.mid q.prefix right q.mid same query kept enqueues both p.first q.first)
      (λ way. same_orders outcome parsed way)

  pub unanswered_same : (moment : ℕ) (event other : Event) → SameEvent event other → is_query event ≡ is_query other → ((s : State) → TakesNoMemory event moment s) → ((s : State) → TakesNoMemory other moment s) → Same (Unanswered moment event) (Unanswered moment other)
  unanswered_same moment event other same query light easy = record {
    one = λ l hs rest a ks more b e c d p q.
        let it = happened_same moment event other p.0 q.0 l hs rest a ks more b same query (light_kept steps moment event p.0 l hs a (light l.core) p.1) (light_kept steps moment other q.0 l ks b (easy l.core) q.1) e c d p.1 q.1 in
        (it.1, it.2);
  }

  pub one_report : (moment device : ℕ) (report : Report) → One (Unanswered moment (Is.Report device report))
  one_report moment device report = unanswered_same moment (Is.Report device report) (Is.Report device report) (refl, refl) refl (λ s. tt) (λ s. tt)

  pub one_tick : (moment : ℕ) → One (Unanswered moment Is.Tick)
  one_tick moment = unanswered_same moment Is.Tick Is.Tick refl refl (λ s. tt) (λ s. tt)

  -- an event and its answer; where the event was dropped, memory was refused
  pub answered_same : (moment : ℕ) (event other : Event) (Q R : Option Effects → Rel) → SameEvent event other → is_query event ≡ is_query other → Refuses (Q None) → Refuses (R None) → ((one two : Effects) → SameReply one two → Same (Q (Some one)) (R (Some two)))
      → Same (λ l hs a. (outcome : Outcome) × Then (Happens moment event outcome) (Q (effects_of outcome)) l hs a) (λ l hs a. (outcome : Outcome) × Then (Happens moment other outcome) (R (effects_of outcome)) l hs a)
  answered_same moment event other Q R same query refuses refuse answered = record { one = λ l hs rest a ks more b e c d (outcome, p) (parsed, q). by_kind outcome parsed l hs rest a ks more b e c d (kept_or outcome) (kept_or parsed) p q }
    where
      replies : (outcome parsed : Outcome) → SameOutcome outcome parsed → IsKept outcome → Same (Q (effects_of outcome)) (R (effects_of parsed))
      replies (Some one) (Some two) way kept = answered one.effects two.effects way.effects_are
      replies None None way kept = absurd kept
      replies one two way kept = absurd way

      never : (x : Event) (S : Option Effects → Rel) (outcome : Outcome) (l : Ledger) (hs : List Happening) (a : Ledger) → Refuses (S None) → outcome ≡ None → Then (Happens moment x outcome) (S (effects_of outcome)) l hs a → Calm hs → ⊥
      never x S outcome l hs a refused is it calm =
          let last : S None it.mid it.back a = subst (λ (o : Outcome). S (effects_of o) it.mid it.back a) is it.second in refused.never it.mid it.back a last (calm_last hs it.prefix it.back it.whole calm)

      by_kind : (outcome parsed : Outcome) (l : Ledger) (hs rest : List Happening) (a : Ledger) (ks more : List Happening) (b : Ledger) → keyed hs ++ rest ≡ keyed ks ++ more → Calm hs → Calm ks → IsKept outcome ⊎ (outcome ≡ None) → IsKept parsed ⊎ (parsed ≡ None)
          → Then (Happens moment event outcome) (Q (effects_of outcome)) l hs a → Then (Happens moment other parsed) (R (effects_of parsed)) l ks b → (keyed hs ≡ keyed ks) × (a ≡ b)
      by_kind outcome parsed l hs rest a ks more b e c d (inl kept) (inl enqueues) p q =
          let it = same_then_by (Happens moment event outcome) (Happens moment other parsed) (Q (effects_of outcome)) (R (effects_of parsed)) l hs rest a ks more b e c d p q
          (λ left right both calm still. happened_same moment event other outcome parsed l p.prefix left p.mid q.prefix right q.mid same query kept enqueues both calm still p.first q.first) (λ way. replies outcome parsed way kept) in
          (it.1, it.2)
      by_kind outcome parsed l hs rest a ks more b e c d (inr is) its p q = absurd (never event Q outcome l hs a refuses is p c)
      by_kind outcome parsed l hs rest a ks more b e c d (inl kept) (inr is) p q = absurd (never other R parsed l ks b refuse is q d)

-- ---- answers

replies_one : (key id request : ℕ) (query : Bool) (one other : IppResponse) → SameIppAnswer one other → (l : Ledger) (hs rest : List Happening) (a : Ledger) (ks more : List Happening) (b : Ledger) → keyed hs ++ rest ≡ keyed ks ++ more → Calm hs → Calm ks → Ans.RepliesWith key id request query (responds.Ipp one) l hs a → Ans.RepliesWith key id request query (responds.Ipp other) l ks b → (keyed hs ≡ keyed ks) × (a ≡ b)
replies_one key id request query one other same l hs rest a ks more b e c d (inl (bytes, is, p)) (inl (parsed, its, q)) =
    (same_then (same_chooses Found) (same_reply key bytes)).one l hs rest a ks more b e c d p (subst (λ (x : List ℕ). Then (Chooses Found) (EnqueuesResponse key x) l ks b) (sym (same_bytes one other request bytes parsed same is its)) q)
replies_one key id request query one other same l hs rest a ks more b e c d (inr p) q = absurd ((refuses_then (Notifies (Refused At.Reply (Some id))) (If query (EnqueuesStatus key TemporaryError request) (Breaks key)) (refuses_notifies At.Reply (Some id))).never l hs a p c)
replies_one key id request query one other same l hs rest a ks more b e c d (inl p) (inr q) = absurd ((refuses_then (Notifies (Refused At.Reply (Some id))) (If query (EnqueuesStatus key TemporaryError request) (Breaks key)) (refuses_notifies At.Reply (Some id))).never l ks b q d)

same_replies : (key id request : ℕ) (query : Bool) (one other : Response) → SameAnswer one other → Same (Ans.RepliesWith key id request query one) (Ans.RepliesWith key id request query other)
same_replies key id request query (responds.Ipp one) (responds.Ipp other) same = record { one = replies_one key id request query one other same }
same_replies key id request query (responds.Lpd one) (responds.Lpd other) same = record { one = λ l hs rest a ks more b e c d p q. same_nothing.one l hs rest a ks more b e c d p q }
same_replies key id request query responds.Nothing responds.Nothing same = record { one = λ l hs rest a ks more b e c d p q. same_nothing.one l hs rest a ks more b e c d p q }
same_replies key id request query one other same = absurd same

pub refuses_dropped : (key id request : ℕ) → Refuses (Ans.Drops key id request)
refuses_dropped key id request = refuses_then (Notifies (Refused At.Event (Some id))) (EnqueuesStatus key TemporaryError request) (refuses_notifies At.Event (Some id))

pub refuses_declines : (place : AllocationSite) (key id : ℕ) → Refuses (Ans.Declines place key id)
refuses_declines place key id = refuses_then (Notifies (Refused place (Some id))) (Enqueues key (1 ∷ [])) (refuses_notifies place (Some id))

same_shows : (key id : ℕ) (text : List ℕ) → One (Ans.Shows key id text)
same_shows key id text =
    let refuses = refuses_then (Notifies (Refused At.Reply (Some id))) (Breaks key) (refuses_notifies At.Reply (Some id)) in same_or refuses refuses (same_then (same_chooses Found) (same_enqueues key text))

same_notified : (key id : ℕ) (one other : LpdResponse) → SameLpdAnswer one other → Same (Ans.SendsLpd key id one) (Ans.SendsLpd key id other)
same_notified key id (Shown.Taken one) (Shown.Taken other) same = subst (λ (taken : Bool). Same (Ans.SendsLpd key id (Shown.Taken one)) (Ans.SendsLpd key id (Shown.Taken taken))) same (same_enqueues key (ack_of (Shown.Taken one) ∷ []))
same_notified key id (Shown.Queue one) (Shown.Queue other) same = subst (λ (text : List ℕ). Same (Ans.Shows key id (queue_text one)) (Ans.Shows key id text)) (same_text one other same) (same_shows key id (queue_text one))
same_notified key id Shown.NoQueue Shown.NoQueue same = same_shows key id (text_of Shown.NoQueue)
same_notified key id one other same = absurd same

same_shown : (key id : ℕ) (one other : Response) → SameAnswer one other → Same (Ans.IsShown key id one) (Ans.IsShown key id other)
same_shown key id (responds.Lpd one) (responds.Lpd other) same = same_notified key id one other same
same_shown key id (responds.Ipp one) (responds.Ipp other) same = same_nothing
same_shown key id responds.Nothing responds.Nothing same = same_nothing
same_shown key id one other same = absurd same

same_answers : (key id : ℕ) (who : Client) (query : Bool) (one other : Effects) → SameReply one other → Same (Ans.Answers key id who query (Some one)) (Ans.Answers key id who query (Some other))
same_answers key id (client.Ipp request) query one other same = same_replies key id request query one.response other.response same.response
same_answers key id client.LpdJob query one other same = same_shown key id one.response other.response same.response
same_answers key id client.LpdCommand query one other same = same_shown key id one.response other.response same.response

refuses_none : (key id : ℕ) (who : Client) (query : Bool) → Refuses (Ans.Answers key id who query None)
refuses_none key id (client.Ipp request) query = refuses_dropped key id request
refuses_none key id client.LpdJob query = refuses_declines At.Event key id
refuses_none key id client.LpdCommand query = refuses_then (Notifies (Refused At.Event (Some id))) (Breaks key) (refuses_notifies At.Event (Some id))

pub same_answered : (steps : StepsOnce) (moment key id : ℕ) (who : Client) (event other : Event) → SameEvent event other → is_query event ≡ is_query other → Same (Ans.IsAnswered moment key id who event) (Ans.IsAnswered moment key id who other)
same_answered steps moment key id who event other same query =
    answered_same steps moment event other (Ans.Answers key id who (is_query event)) (Ans.Answers key id who (is_query other)) same query (refuses_none key id who (is_query event)) (refuses_none key id who (is_query other))
    (λ one two reads_as. subst (λ (t : Bool). Same (Ans.Answers key id who (is_query event) (Some one)) (Ans.Answers key id who t (Some two))) query (same_answers key id who (is_query event) one two reads_as))

-- ---- a body that comes without HTTP

answers_one : (request : ℕ) (one other : Effects) (bytes parsed : List ℕ) (l : Ledger) (hs rest : List Happening) (a : Ledger) (ks more : List Happening) (b : Ledger) → keyed hs ++ rest ≡ keyed ks ++ more → Calm hs → Calm ks → Between.Answers request (Some one) bytes l hs a → Between.Answers request (Some other) parsed l ks b → (keyed hs ≡ keyed ks) × (a ≡ b)
answers_one request one other bytes parsed l hs rest a ks more b e c d (inl (are, p)) (inl (were, q)) = (same_chooses Found).one l hs rest a ks more b e c d p q
answers_one request one other bytes parsed l hs rest a ks more b e c d (inr p) q = absurd ((refuses_notifies At.Reply None).never l hs a p c)
answers_one request one other bytes parsed l hs rest a ks more b e c d (inl p) (inr q) = absurd ((refuses_notifies At.Reply None).never l ks b q d)

pub same_body : (steps : StepsOnce) (moment request : ℕ) (event : Event) (bytes parsed : List ℕ) → SameEvent event event → Same (Between.IsAnswered moment request event bytes) (Between.IsAnswered moment request event parsed)
same_body steps moment request event bytes parsed same =
    answered_same steps moment event event (λ reply. Between.Answers request reply bytes) (λ reply. Between.Answers request reply parsed) same refl (refuses_between bytes) (refuses_between parsed) (λ one two reads_as. record { one = answers_one request one two bytes parsed })
  where
    refuses_between : (text : List ℕ) → Refuses (Between.Answers request None text)
    refuses_between text = refuses_just (Between.Answers request None text) (Notified (Refused At.Event None)) refl (λ l hs a it. it.0)
