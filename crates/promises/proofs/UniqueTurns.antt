-- A turn, a call between turns, and a trace lead to one ledger.
use Rattle.std.proofs.Common.{◌≡◌, ℕ, zero, suc, true, false, List, [], ◌∷◌, ◌++◌, length, take, refl, sym, ◌∙◌, ap, subst, Option, Some, None, inl, inr}
use Rattle.std.specs.Prelude.{nat_lt}
use Rattle.base_types.specs.declared.limits.TheConstants.Limits.{CONNECTIONS}
use Rattle.wires.specs.Poll.{Poll, Accepts, Reads, Writes, Closes}
use Rattle.wires.specs.declared.wire.Door.{Door}
use Rattle.wires.specs.declared.wire.Door.TheVariants.{Ipp, Lpd, Devices}
use Rattle.wires.specs.declared.wire.Progress.{Progress}
use Rattle.wires.specs.declared.wire.Progress.TheVariants as wire
use Rattle.dispatcher.specs.declared.observer.AllocationSite.TheVariants as At
use Rattle.dispatcher.specs.Notes.{Refused}
use Rattle.ipp_operations.specs.declared.parsed_request.ParsedRequest.{ParsedRequest}
use Rattle.ipp_operations.specs.declared.parsed_request.ParsedRequest.TheVariants as asked
use Rattle.connections.specs.Entry.{Entry, opening_entry, reading, waiting}
use Rattle.connections.specs.Choice.{AsksOne}
use Rattle.server.specs.Polls.{Happening, Polled, Notified, Choice, Found, Opened, Rested, Looked, Chosen}
use Rattle.server.specs.Ledger.{Ledger, Drained, with_new}
use Rattle.server.specs.Rel.{Rel, Nothing, Polls, Notifies, Chooses, Then, Or, Times, Many}
use Rattle.server.specs.Enqueuing.{Sets, Drops}
use Rattle.events.specs.declared.event.Event.TheVariants as Is
use Rattle.server.specs.Happening.{now_at, Unanswered}
use Rattle.server.specs.Closing.{ClosesBroken}
use Rattle.server.specs.Polling.{Opens, AcceptsAs, AcceptsOne, AcceptsAt, Acts, Serves, FedWhole, FeedsAt, FeedsOne, Fails, ReadsAs, is_read, ReadsOpen, ReadsAt, ReadsOne, WritesAs, WritesOpen, WritesAt, WritesOne, is_done, EndsAt, EndsOne}
use Rattle.server.specs.Turn as Between
use Rattle.server.specs.Turn.{Notes, Ticks, is_tick_due, TicksIfDue, Covers, Rounds, Round, Turn, BodyAsks, BodyComes, Action, Turned, Served_body, Reported, Ticked, DoesAction, Runs}
use Rattle.promises.specs.OneLedger.{StepsOnce, SameQueries, AsksOnce, LeadsToOne}
use Rattle.promises.proofs.Determined.{Alike, Fixed, fixed_just, fixed_nothing, fixed_polls, fixed_notifies, fixed_chooses, alike_then, first_one, same_choice, apart, BeginsAs, begins_append, begins_just, Begins, begins_then, begins_chooses, begins_notifies, is_choice, fixed_or, alike_if, fixed_each, times_cons, fixed_many_then}
use Rattle.promises.proofs.UniqueDue.{fixed_sets, fixed_drops, drops_notifies, fixed_breaks}
use Rattle.promises.proofs.UniqueEvents.{fixed_tick}
use Rattle.promises.proofs.UniqueAnswers.{body_answered}
use Rattle.promises.proofs.UniqueActs.{fixed_closes_as, fixed_closes_broken, fixed_reports, same_self, fixed_acts_next, is_asked, asked_first, chosen_first}

-- ---- accepts

same_opened : (key other : ℕ) → Opened key ≡ Opened other → key ≡ other
same_opened key other same = cc

opens : (door : Door) (id : ℕ) (l : Ledger) (hs rest : List Happening) (a : Ledger) (ks more : List Happening) (b : Ledger) → hs ++ rest ≡ ks ++ more → Opens door id l hs a → Opens door id l ks b → (hs ≡ ks) × (a ≡ b)
opens door id l hs rest a ks more b e (inl (key, free, is, after)) (inl (other, none, its, new)) =
    let choice : Opened key ≡ Opened other = same_choice (Opened key) (Opened other) (first_one (Chosen (Opened key)) (Chosen (Opened other)) hs rest ks more [] [] e is its) in
    (is ∙ (ap (λ (c : Choice). Chosen c ∷ []) choice ∙ sym its), after ∙ (ap (λ (k : ℕ). with_new k (opening_entry door id) l) (same_opened key other choice) ∙ sym new))
opens door id l hs rest a ks more b e (inl (key, free, is, after)) (inr q) = apart is_choice hs rest ks more e (begins_just is_choice true (Chosen (Opened key)) [] hs refl is) (begins_just is_choice false (Notified (Refused At.Accept (Some id))) (Polled (Closes id) ∷ []) ks refl q.0)
opens door id l hs rest a ks more b e (inr p) (inl (key, free, its, new)) = apart is_choice ks more hs rest (sym e) (begins_just is_choice true (Chosen (Opened key)) [] ks refl its) (begins_just is_choice false (Notified (Refused At.Accept (Some id))) (Polled (Closes id) ∷ []) hs refl p.0)
opens door id l hs rest a ks more b e (inr p) (inr q) = (p.0 ∙ sym q.0, p.1 ∙ sym q.1)

accepts_as : (door : Door) (answer : Progress ℕ) → Fixed (AcceptsAs door answer)
accepts_as door (wire.Done id) = alike_then (fixed_polls (Accepts door (wire.Done id))) (record { one = opens door id })
accepts_as door wire.Waiting = fixed_polls (Accepts door wire.Waiting)
accepts_as door wire.End = fixed_polls (Accepts door wire.End)
accepts_as door wire.Fault = fixed_polls (Accepts door wire.Fault)

-- a poll comes first, and this follows
abbrev IsFirst : Poll → List Happening → Type 0
IsFirst poll hs = (back : List Happening) × (hs ≡ Polled poll ∷ back)

poll_then : (poll : Poll) (R : Rel) (l : Ledger) (hs : List Happening) (a : Ledger) → Then (Polls poll) R l hs a → IsFirst poll hs
poll_then poll R l hs a it = (it.back, it.whole ∙ ap (λ (xs : List Happening). xs ++ it.back) it.first.0)

one_poll : (poll other : Poll) (hs rest ks more : List Happening) → hs ++ rest ≡ ks ++ more → IsFirst poll hs → IsFirst other ks → poll ≡ other
one_poll poll other hs rest ks more e p q = let same : Polled poll ≡ Polled other = first_one (Polled poll) (Polled other) hs rest ks more p.0 q.0 e p.1 q.1 in cc

accept_first : (door : Door) (answer : Progress ℕ) (l : Ledger) (hs : List Happening) (a : Ledger) → AcceptsAs door answer l hs a → IsFirst (Accepts door answer) hs
accept_first door (wire.Done id) l hs a it = poll_then (Accepts door (wire.Done id)) (Opens door id) l hs a it
accept_first door wire.Waiting l hs a it = ([], it.0)
accept_first door wire.End l hs a it = ([], it.0)
accept_first door wire.Fault l hs a it = ([], it.0)

same_accept : (door : Door) (answer other : Progress ℕ) → Accepts door answer ≡ Accepts door other → answer ≡ other
same_accept door answer other same = cc

accepts_one : (door : Door) (l : Ledger) (hs rest : List Happening) (a : Ledger) (ks more : List Happening) (b : Ledger) → hs ++ rest ≡ ks ++ more → AcceptsOne door l hs a → AcceptsOne door l ks b → (hs ≡ ks) × (a ≡ b)
accepts_one door l hs rest a ks more b e (answer, p) (other, q) =
    let same : answer ≡ other = same_accept door answer other (one_poll (Accepts door answer) (Accepts door other) hs rest ks more e (accept_first door answer l hs a p) (accept_first door other l ks b q)) in
    (accepts_as door answer).one l hs rest a ks more b e p (subst (λ (x : Progress ℕ). AcceptsAs door x l ks b) (sym same) q)

fixed_accepts : (door : Door) → Fixed (AcceptsAt door)
fixed_accepts door = record { one = λ l hs rest a ks more b e p q. (alike_if (nat_lt l.count CONNECTIONS) {R = AcceptsOne door} {R' = AcceptsOne door} {S = Nothing} {S' = Nothing} (record { one = accepts_one door }) fixed_nothing).one l hs rest a ks more b e p q }

module _ (steps : StepsOnce) (queries : SameQueries) (asks : AsksOne) (bodies : AsksOnce) where
  -- ---- reads

  fixed_acts : (moment key : ℕ) → Fixed (Acts moment key)
  fixed_acts moment key = alike_then (fixed_acts_next steps queries asks moment key) (fixed_closes_broken steps queries asks moment)

  fixed_rests : (moment key : ℕ) → Fixed (Then (Many (Acts moment key)) (Chooses Rested))
  fixed_rests moment key =
      fixed_many_then is_asked (Acts moment key) (Chooses Rested) (begins_then is_asked true _ (ClosesBroken moment) (asked_first moment key)) (begins_chooses is_asked false Rested refl) (fixed_acts moment key) (fixed_chooses Rested)

  fixed_serves : (moment key : ℕ) → Fixed (Serves moment key)
  fixed_serves moment key = record { one = λ l hs rest a ks more b e p q. (fixed_rests moment key).one l hs rest a ks more b e p.0 q.0 }

  rests_first : (n moment key : ℕ) (l : Ledger) (hs : List Happening) (a : Ledger) → Then (Times n (Acts moment key)) (Chooses Rested) l hs a → BeginsAs is_choice true hs
  rests_first zero moment key l hs a it = begins_just is_choice true (Chosen Rested) [] hs refl (it.whole ∙ (ap (λ (xs : List Happening). xs ++ it.back) it.first.0 ∙ it.second.0))
  rests_first (suc n) moment key l hs a it =
      let first = times_cons n (Acts moment key) l it.prefix it.mid it.first in
      let begins = (begins_then is_choice true _ (ClosesBroken moment) (chosen_first moment key)).begins l first.prefix first.mid first.first in
      subst (BeginsAs is_choice true) (sym it.whole) (begins_append is_choice true it.prefix it.back (subst (BeginsAs is_choice true) (sym first.whole) (begins_append is_choice true first.prefix first.back begins)))

  serves_first : (moment key : ℕ) (l : Ledger) (hs : List Happening) (a : Ledger) → Serves moment key l hs a → BeginsAs is_choice true hs
  serves_first moment key l hs a (it, acted_on) = rests_first it.first.0 moment key l hs a (record { mid = it.mid; prefix = it.prefix; back = it.back; whole = it.whole; first = it.first.1; second = it.second })

  fed_first : (moment key : ℕ) (e : Entry) → Begins is_choice true (Then (Sets key e) (Serves moment key))
  fed_first moment key e = record { begins = λ l hs a it. subst (BeginsAs is_choice true) (sym (it.whole ∙ ap (λ (xs : List Happening). xs ++ it.back) it.first.0)) (serves_first moment key it.mid it.back a it.second) }

  fed_whole : (moment key : ℕ) (e : Entry) (bytes : List ℕ) → Fixed (FedWhole moment key e bytes)
  fed_whole moment key e bytes =
      fixed_or is_choice (fed_first moment key (reading bytes e)) (begins_then is_choice false (Drops At.Feed key e) (ClosesBroken moment) (drops_notifies At.Feed key e))
      (alike_then (fixed_sets key (reading bytes e)) (fixed_serves moment key)) (alike_then (fixed_drops At.Feed key e) (fixed_closes_broken steps queries asks moment))

  feeds_at : (moment key : ℕ) (bytes : List ℕ) (o : Option Entry) → Fixed (FeedsAt moment key bytes o)
  feeds_at moment key bytes None = fixed_nothing
  feeds_at moment key bytes (Some e) = alike_if e.draining (fixed_sets key e) (fed_whole moment key e bytes)

  fixed_feeds : (moment key : ℕ) (bytes : List ℕ) → Fixed (FeedsOne moment key bytes)
  fixed_feeds moment key bytes = record { one = λ l hs rest a ks more b e p q. (feeds_at moment key bytes (l.entries key)).one l hs rest a ks more b e p q }

  fixed_fails : (moment key : ℕ) → Fixed (Fails moment key)
  fixed_fails moment key = alike_then (fixed_breaks key) (fixed_closes_broken steps queries asks moment)

  reads_as : (moment key : ℕ) (e : Entry) (answer : Progress (List ℕ)) → Fixed (ReadsAs moment key e answer)
  reads_as moment key e (wire.Done bytes) = alike_then (fixed_polls (Reads e.id (wire.Done bytes))) (fixed_feeds moment key bytes)
  reads_as moment key e wire.Waiting = fixed_polls (Reads e.id wire.Waiting)
  reads_as moment key e wire.End = alike_then (fixed_polls (Reads e.id wire.End)) (fixed_sets key (record e { ended = true }))
  reads_as moment key e wire.Fault = alike_then (fixed_polls (Reads e.id wire.Fault)) (fixed_fails moment key)

  read_first : (moment key : ℕ) (e : Entry) (answer : Progress (List ℕ)) (l : Ledger) (hs : List Happening) (a : Ledger) → ReadsAs moment key e answer l hs a → IsFirst (Reads e.id answer) hs
  read_first moment key e (wire.Done bytes) l hs a it = poll_then (Reads e.id (wire.Done bytes)) (FeedsOne moment key bytes) l hs a it
  read_first moment key e wire.Waiting l hs a it = ([], it.0)
  read_first moment key e wire.End l hs a it = poll_then (Reads e.id wire.End) (Sets key (record e { ended = true })) l hs a it
  read_first moment key e wire.Fault l hs a it = poll_then (Reads e.id wire.Fault) (Fails moment key) l hs a it

  same_read : (id : ℕ) (answer other : Progress (List ℕ)) → Reads id answer ≡ Reads id other → answer ≡ other
  same_read id answer other same = cc

  reads_open : (moment key : ℕ) (x : Entry) (l : Ledger) (hs rest : List Happening) (a : Ledger) (ks more : List Happening) (b : Ledger) → hs ++ rest ≡ ks ++ more → ReadsOpen moment key x l hs a → ReadsOpen moment key x l ks b → (hs ≡ ks) × (a ≡ b)
  reads_open moment key x l hs rest a ks more b e (answer, segment, p) (other, its, q) =
      let same : answer ≡ other = same_read x.id answer other (one_poll (Reads x.id answer) (Reads x.id other) hs rest ks more e (read_first moment key x answer l hs a p) (read_first moment key x other l ks b q)) in
      (reads_as moment key x answer).one l hs rest a ks more b e p (subst (λ (y : Progress (List ℕ)). ReadsAs moment key x y l ks b) (sym same) q)

  reads_at : (moment key : ℕ) (o : Option Entry) → Fixed (ReadsAt moment key o)
  reads_at moment key None = fixed_nothing
  reads_at moment key (Some e) = alike_if (is_read e) {R = ReadsOpen moment key e} {R' = ReadsOpen moment key e} {S = Nothing} {S' = Nothing} (record { one = reads_open moment key e }) fixed_nothing

  fixed_reads : (moment key : ℕ) → Fixed (ReadsOne moment key)
  fixed_reads moment key = record { one = λ l hs rest a ks more b e p q. (reads_at moment key (l.entries key)).one l hs rest a ks more b e p q }

  -- ---- writes

  writes_as : (moment key : ℕ) (e : Entry) (offered : List ℕ) (answer : Progress ℕ) → Fixed (WritesAs moment key e offered answer)
  writes_as moment key e offered (wire.Done n) = alike_then (fixed_polls (Writes e.id offered (wire.Done n))) (fixed_sets key (record e { taken = e.taken ++ take n offered }))
  writes_as moment key e offered wire.Waiting = fixed_polls (Writes e.id offered wire.Waiting)
  writes_as moment key e offered wire.End = alike_then (fixed_polls (Writes e.id offered wire.End)) (fixed_fails moment key)
  writes_as moment key e offered wire.Fault = alike_then (fixed_polls (Writes e.id offered wire.Fault)) (fixed_fails moment key)

  write_first : (moment key : ℕ) (e : Entry) (offered : List ℕ) (answer : Progress ℕ) (l : Ledger) (hs : List Happening) (a : Ledger) → WritesAs moment key e offered answer l hs a → IsFirst (Writes e.id offered answer) hs
  write_first moment key e offered (wire.Done n) l hs a it = poll_then (Writes e.id offered (wire.Done n)) (Sets key (record e { taken = e.taken ++ take n offered })) l hs a it
  write_first moment key e offered wire.Waiting l hs a it = ([], it.0)
  write_first moment key e offered wire.End l hs a it = poll_then (Writes e.id offered wire.End) (Fails moment key) l hs a it
  write_first moment key e offered wire.Fault l hs a it = poll_then (Writes e.id offered wire.Fault) (Fails moment key) l hs a it

  same_write : (id : ℕ) (offered bytes : List ℕ) (answer other : Progress ℕ) → Writes id offered answer ≡ Writes id bytes other → (offered ≡ bytes) × (answer ≡ other)
  same_write id offered bytes answer other same = (cc, cc)

  writes_open : (moment key : ℕ) (x : Entry) (l : Ledger) (hs rest : List Happening) (a : Ledger) (ks more : List Happening) (b : Ledger) → hs ++ rest ≡ ks ++ more → WritesOpen moment key x l hs a → WritesOpen moment key x l ks b → (hs ≡ ks) × (a ≡ b)
  writes_open moment key x l hs rest a ks more b e (offered, prefix, answer, p) (bytes, its, other, q) =
      let same = same_write x.id offered bytes answer other (one_poll (Writes x.id offered answer) (Writes x.id bytes other) hs rest ks more e (write_first moment key x offered answer l hs a p) (write_first moment key x bytes other l ks b q)) in
      (writes_as moment key x offered answer).one l hs rest a ks more b e p (subst (λ (y : Progress ℕ). WritesAs moment key x offered y l ks b) (sym same.1) (subst (λ (y : List ℕ). WritesAs moment key x y other l ks b) (sym same.0) q))

  writes_at : (moment key : ℕ) (o : Option Entry) → Fixed (WritesAt moment key o)
  writes_at moment key None = fixed_nothing
  writes_at moment key (Some e) = alike_if (nat_lt 0 (length (waiting e))) {R = WritesOpen moment key e} {R' = WritesOpen moment key e} {S = Nothing} {S' = Nothing} (record { one = writes_open moment key e }) fixed_nothing

  fixed_writes : (moment key : ℕ) → Fixed (WritesOne moment key)
  fixed_writes moment key = record { one = λ l hs rest a ks more b e p q. (writes_at moment key (l.entries key)).one l hs rest a ks more b e p q }

  -- ---- the other parts of a turn

  ends_at : (moment key : ℕ) (o : Option Entry) → Fixed (EndsAt moment key o)
  ends_at moment key None = fixed_nothing
  ends_at moment key (Some e) = alike_if (is_done e) (alike_then (fixed_closes_as steps queries asks moment Drained key e) (fixed_closes_broken steps queries asks moment)) fixed_nothing

  fixed_ends : (moment key : ℕ) → Fixed (EndsOne moment key)
  fixed_ends moment key = record { one = λ l hs rest a ks more b e p q. (ends_at moment key (l.entries key)).one l hs rest a ks more b e p q }

  ticks_at : (moment now : ℕ) → Fixed (Then (Notes now) (Unanswered moment Is.Tick))
  ticks_at moment now = alike_then (fixed_just (λ l. []) (λ l. record l { ticked = Some now })) (fixed_tick steps moment)

  fixed_ticks : (moment : ℕ) → Fixed (Ticks moment)
  fixed_ticks moment = record { one = λ l hs rest a ks more b e p q. (ticks_at moment (now_at moment l)).one l hs rest a ks more b e p q }

  fixed_tick_due : (moment : ℕ) → Fixed (TicksIfDue moment)
  fixed_tick_due moment = record { one = λ l hs rest a ks more b e p q. (alike_if (is_tick_due moment l) (alike_then (fixed_ticks moment) (fixed_closes_broken steps queries asks moment)) fixed_nothing).one l hs rest a ks more b e p q }

  same_looked : (n m : ℕ) → Looked n ≡ Looked m → n ≡ m
  same_looked n m same = cc

  fixed_covers : (n : ℕ) → Fixed (Covers n)
  fixed_covers n = record { one = λ l hs rest a ks more b e p q. (fixed_chooses (Looked n)).one l hs rest a ks more b e p.1 q.1 }

  fixed_rounds : (moment n : ℕ) → Fixed (Rounds moment n)
  fixed_rounds moment n = alike_then (fixed_covers n) (alike_then (fixed_each n _ (fixed_reads moment)) (alike_then (fixed_each n _ (fixed_writes moment)) (fixed_each n _ (fixed_ends moment))))

  round_one : (moment : ℕ) (l : Ledger) (hs rest : List Happening) (a : Ledger) (ks more : List Happening) (b : Ledger) → hs ++ rest ≡ ks ++ more → Round moment l hs a → Round moment l ks b → (hs ≡ ks) × (a ≡ b)
  round_one moment l hs rest a ks more b e (n, p) (m, q) =
      let choice : Looked n ≡ Looked m = same_choice (Looked n) (Looked m)
      (first_one (Chosen (Looked n)) (Chosen (Looked m)) hs rest ks more p.back q.back e (p.whole ∙ ap (λ (xs : List Happening). xs ++ p.back) p.first.1.0) (q.whole ∙ ap (λ (xs : List Happening). xs ++ q.back) q.first.1.0)) in
      (fixed_rounds moment n).one l hs rest a ks more b e p (subst (λ (k : ℕ). Rounds moment k l ks b) (sym (same_looked n m choice)) q)

  fixed_turn : (moment : ℕ) → Fixed (Turn moment)
  fixed_turn moment =
      alike_then (fixed_closes_broken steps queries asks moment) (alike_then (fixed_tick_due moment) (alike_then (fixed_accepts Ipp) (alike_then (fixed_accepts Lpd) (alike_then (fixed_accepts Devices) (record { one = round_one moment })))))

  -- ---- calls between turns

  refused_between : Fixed (Or (Chooses Found) (Notifies (Refused At.Reply None)))
  refused_between = fixed_or is_choice (begins_chooses is_choice true Found refl) (begins_notifies is_choice false (Refused At.Reply None) refl) (fixed_chooses Found) (fixed_notifies (Refused At.Reply None))

  body_asks : (moment : ℕ) (it : ParsedRequest) (served other : Between.Outcome) → Alike (BodyAsks moment it served) (BodyAsks moment it other)
  body_asks moment asked.TooShort served other = record { one = λ l hs rest a ks more b e p q. fixed_nothing.one l hs rest a ks more b e p.1 q.1 }
  body_asks moment (asked.Refused status request) served other = record { one = λ l hs rest a ks more b e p q. refused_between.one l hs rest a ks more b e p.1 q.1 }
  body_asks moment (asked.Event request event) served other = record {
    one = λ l hs rest a ks more b e (bytes, is, p) (parsed, its, q). (body_answered steps moment request event event bytes parsed (same_self event) refl).one l hs rest a ks more b e p q;
  }

  body_comes : (moment : ℕ) (body : List ℕ) (served other : Between.Outcome) (l : Ledger) (hs rest : List Happening) (a : Ledger) (ks more : List Happening) (b : Ledger) → hs ++ rest ≡ ks ++ more → BodyComes moment body served l hs a → BodyComes moment body other l ks b → (hs ≡ ks) × (a ≡ b)
  body_comes moment body served other l hs rest a ks more b e (inl (one, is, p)) (inl (parsed, its, q)) =
      let same : parsed ≡ one = bodies body parsed one its is in
      (alike_then (fixed_chooses Found) (body_asks moment one served other)).one l hs rest a ks more b e p (subst (λ (x : ParsedRequest). Then (Chooses Found) (BodyAsks moment x other) l ks b) same q)
  body_comes moment body served other l hs rest a ks more b e (inl (one, is, p)) (inr q) =
      apart is_choice hs rest ks more e ((begins_then is_choice true (Chooses Found) (BodyAsks moment one served) (begins_chooses is_choice true Found refl)).begins l hs a p) ((begins_notifies is_choice false (Refused At.Event None) refl).begins l ks b q)
  body_comes moment body served other l hs rest a ks more b e (inr p) (inl (parsed, its, q)) =
      apart is_choice ks more hs rest (sym e) ((begins_then is_choice true (Chooses Found) (BodyAsks moment parsed other) (begins_chooses is_choice true Found refl)).begins l ks b q) ((begins_notifies is_choice false (Refused At.Event None) refl).begins l hs a p)
  body_comes moment body served other l hs rest a ks more b e (inr p) (inr q) = (fixed_notifies (Refused At.Event None)).one l hs rest a ks more b e p q

  -- ---- traces

  -- a relation that takes a whole list, with no rest after it, has one end
  all_one : (R : Rel) → Fixed R → (l : Ledger) (hs : List Happening) (a b : Ledger) → R l hs a → R l hs b → a ≡ b
  all_one R r l hs a b p q = let it = r.one l hs [] a hs [] b refl p q in it.1

  action_one : (action : Action) (l a b : Ledger) → DoesAction action l a → DoesAction action l b → a ≡ b
  action_one (Turned moment hs) l a b p q = all_one (Turn moment) (fixed_turn moment) l hs a b p q
  action_one (Served_body moment body answer hs) l a b (served, is, p) (other, its, q) = let it = body_comes moment body served other l hs [] a hs [] b refl p q in it.1
  action_one (Reported moment device parsed hs) l a b p q = all_one (Between.Reports moment device parsed) (fixed_reports steps queries asks moment device parsed) l hs a b p q
  action_one (Ticked moment hs) l a b p q = all_one (Ticks moment) (fixed_ticks moment) l hs a b p q

  pub leads_to_one : LeadsToOne
  leads_to_one [] old one other p q = p ∙ sym q
  leads_to_one (action ∷ actions) old one other (mid, does, runs) (next, did, ran) = leads_to_one actions mid one other runs (subst (λ (l : Ledger). Runs actions l other) (sym (action_one action old mid next does did)) ran)
