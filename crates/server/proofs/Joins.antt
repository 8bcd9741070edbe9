-- The relations of calls that follow one another. Their worlds and engines are implicit.
use Rattle.std.proofs.Common.{◌≡◌, ◌≤◌, ◌+◌, add-one, ℕ, max, Bool, true, List, [], ◌∷◌, refl, sym, ◌∙◌, ap, subst, inl, inr, Option, Some, None}
use Rattle.std.specs.Prelude.{◌||◌}
use Rattle.wires.specs.Poll.{Poll, Accepts}
use Rattle.wires.specs.declared.wire.Door.{Door}
use Rattle.wires.specs.declared.wire.Progress.TheVariants.{Done}
use Rattle.dispatcher.specs.Notes.{Note, Refused, DeviceRefused}
use Rattle.dispatcher.specs.Run.{Outcome, effects_of}
use Rattle.dispatcher.specs.declared.observer.AllocationSite.{AllocationSite}
use Rattle.dispatcher.specs.declared.observer.AllocationSite.TheVariants as At
use Rattle.dispatcher.specs.declared.observer.DeviceRefusal.TheVariants as why
use Rattle.events.specs.declared.effects.Effects.{Effects}
use Rattle.events.specs.declared.effects.Response.{Response}
use Rattle.events.specs.declared.effects.Response.TheVariants as responds
use Rattle.events.specs.declared.effects.IppResponse.{IppResponse}
use Rattle.events.specs.declared.event.Event.{Event}
use Rattle.events.specs.declared.event.Event.TheVariants as Is
use Rattle.events.specs.Event.{is_query}
use Rattle.base_types.specs.declared.report.Report.{Report}
use Rattle.ipp_operations.specs.declared.parsed_request.ParsedRequest.{ParsedRequest}
use Rattle.ipp_operations.specs.declared.parsed_request.ParsedRequest.TheVariants as asks
use Rattle.ipp_operations.specs.ParsedRequest.{Asks}
use Rattle.connections.specs.declared.ask.Ask.{Ask}
use Rattle.connections.specs.declared.ask.Ask.TheVariants as ask
use Rattle.connections.specs.declared.ask.AllocFailure.{AllocFailure}
use Rattle.connections.specs.declared.ask.Client.{Client}
use Rattle.server.specs.Polls.{Happening, Notified, alone}
use Rattle.server.specs.World.{moved}
use Rattle.server.specs.Rel.{Rel, Notifies, Then, Each}
use Rattle.server.specs.Happening.{Happens, ReportComes}
use Rattle.server.specs.Acting.{place_of, ActsOn}
use Rattle.server.specs.Answering.{Drops, Replies, IsShown, Answers, IsAnswered}
use Rattle.server.specs.Closing.{ClosesBroken}
use Rattle.server.specs.Polling.{Opens, AcceptsOne, ReadsOne, WritesOne, EndsOne}
use Rattle.server.specs.Turn.{Outcome as Answer, OutOfMemory, BadRequest, is_due, Ticks, TicksIfDue, Round, BodyAsks, BodyBrings, BodyComes}
use Rattle.server.specs.State.{EngineState, slot_at}
use Rattle.server.specs.Refinement.{Refines, RefinesQuietly, RefinesReporting, RefinesAnswering}
use Rattle.server.proofs.Steps.{refines_then, refines_moved, quietly_then, quietly_as, quietly_nothing, aloud, reporting_as, reporting_flag, reporting_then}
use Rattle.server.proofs.DeviceOrders.{notifies}
use Rattle.server.proofs.TurnsAndTicks.{ticks_due, covers, one_round}
use Rattle.server.proofs.Accepts.{accepts_open}
use Rattle.server.proofs.ServedBody.{answered_found, answered_refused}
use Rattle.server.proofs.ResponseBytes.{as_equal}

module _ {S : Type 0} {moves : S → Happening → S → Type 0} where
  -- Q, and then R
  pub joins : {Q R : Rel} {u v w : S} {a b c : EngineState} → Refines moves Q u a v b → Refines moves R v b w c → Refines moves (Then Q R) u a w c
  joins {Q} {R} {u} {v} {w} {a} {b} {c} p q = refines_then moves Q R u v w a b c p q

  -- Q, which feeds no reader, and then R
  pub joins_on : {Q R : Rel} {u v w : S} {a b c : EngineState} → RefinesQuietly moves Q u a v b → Refines moves R v b w c → Refines moves (Then Q R) u a w c
  joins_on {Q} {R} {u} {v} {w} {a} {b} {c} p q = refines_then moves Q R u v w a b c (aloud moves Q u v a b p) q

  -- Q, and then R; the flag is whether memory was refused
  pub joins_openly : {Q R : Rel} {u v w : S} {a b c : EngineState} {s t unsent : Bool} → RefinesReporting moves Q u a v b s → t ≡ s → RefinesReporting moves R v b w c unsent → RefinesReporting moves (Then Q R) u a w c (t || unsent)
  joins_openly {Q} {R} {u} {v} {w} {a} {b} {c} {s} {t} {unsent} p same q = reporting_flag moves (Then Q R) u w a c (s || unsent) (t || unsent) (ap (λ (x : Bool). x || unsent) same) (reporting_then moves Q R u v w a b c s unsent p q)

  -- each key below a bound, and then the key at the bound
  pub next_more : (R : ℕ → Rel) {u v w : S} {a b c : EngineState} (key : ℕ) → Refines moves (Each key R) u a v b → Refines moves (R key) v b w c → Refines moves (Each (key + 1) R) u a w c
  next_more R key p q = rw add-one (joins p q)

  -- all connections are read, then written, and then closed if they are done
  pub rounds : (moment n : ℕ) {u v w x : S} {a b c d : EngineState} → ((key : ℕ) → n ≤ key → slot_at a key ≡ None) → Refines moves (Each n (ReadsOne moment)) u a v b → Refines moves (Each n (WritesOne moment)) v b w c → Refines moves (Each n (EndsOne moment)) w c x d
      → Refines moves (Round moment) u a x d
  rounds moment n {u} {v} {w} {x} {a} {b} {c} {d} none p q r = one_round moves u x a d moment n (joins (covers moves u a n none) (joins p (joins q r)))

  -- ---- events

  -- a report of a device comes
  pub reports : {moment device : ℕ} {report : Report} (outcome : Outcome) {u v : S} {a b : EngineState} {refused : Bool} → RefinesReporting moves (Happens moment (Is.Report device report) outcome) u a v b refused → RefinesReporting moves (ReportComes moment device report) u a v b refused
  reports {moment} {device} {report} outcome {u} {v} {a} {b} {refused} p =
      reporting_as moves (Happens moment (Is.Report device report) outcome) (ReportComes moment device report) u v a b refused (λ l hs l' fits fits' it. (outcome, it)) p

  -- the event of a client comes, and then its reply becomes due
  pub answers : (key id : ℕ) (who : Client) {moment : ℕ} {event : Event} {outcome : Outcome} {query refused : Bool} {reply : Option Effects} {u v w : S} {a b c : EngineState} → RefinesReporting moves (Happens moment event outcome) u a v b refused → query ≡ is_query event → reply ≡ effects_of outcome
      → RefinesQuietly moves (Answers key id who query reply) v b w c → RefinesQuietly moves (IsAnswered moment key id who event) u a w c
  answers key id who {moment} {event} {outcome} {query} {refused} {reply} {u} {v} {w} {a} {b} {c} p asked answered q =
      let notified : RefinesQuietly moves (Answers key id who (is_query event) (effects_of outcome)) v b w c =
      subst (λ (t : Bool). RefinesQuietly moves (Answers key id who t (effects_of outcome)) v b w c) asked (subst (λ (o : Option Effects). RefinesQuietly moves (Answers key id who query o) v b w c) answered q) in
      quietly_as moves (Then (Happens moment event outcome) (Answers key id who (is_query event) (effects_of outcome))) (IsAnswered moment key id who event) u w a c (λ l hs l' fits fits' it. (outcome, it))
      (quietly_then moves (Happens moment event outcome) (Answers key id who (is_query event) (effects_of outcome)) u v w a b c p.refines notified)

  -- the reply to a client, for an equal client
  pub answers_as : (key id : ℕ) (query : Bool) (reply : Option Effects) {who what : Client} {u v : S} {a b : EngineState} → who ≡ what → RefinesQuietly moves (Answers key id what query reply) u a v b → RefinesQuietly moves (Answers key id who query reply) u a v b
  answers_as key id query reply {who} {what} {u} {v} {a} {b} is p = subst (λ (it : Client). RefinesQuietly moves (Answers key id it query reply) u a v b) (sym is) p

  -- a request was dropped
  pub replies_none : (key id request : ℕ) (query : Bool) {reply : Option Effects} {u v : S} {a b : EngineState} → reply ≡ None → RefinesQuietly moves (Drops key id request) u a v b → RefinesQuietly moves (Replies key id request query reply) u a v b
  replies_none key id request query {reply} {u} {v} {a} {b} none p = as_equal moves (Replies key id request query) reply None u v a b none p

  -- the relation of an ask, for an equal ask
  pub acts_as : (moment key id : ℕ) {asked what : Ask} {u v : S} {a b : EngineState} → asked ≡ what → RefinesQuietly moves (ActsOn moment key id what) u a v b → RefinesQuietly moves (ActsOn moment key id asked) u a v b
  acts_as moment key id {asked} {what} {u} {v} {a} {b} is p = subst (λ (it : Ask). RefinesQuietly moves (ActsOn moment key id it) u a v b) (sym is) p

  pub acts_nothing : (moment key id : ℕ) {asked : Ask} {u : S} {a : EngineState} → asked ≡ ask.Nothing → RefinesQuietly moves (ActsOn moment key id asked) u a u a
  acts_nothing moment key id {asked} {u} {a} is = acts_as moment key id {what = ask.Nothing} is (quietly_nothing moves u a)

  -- a response that is none of LPD has no bytes for an LPD client
  pub shows_no_ipp : (key id : ℕ) {answer : Response} {other : IppResponse} {u : S} {a : EngineState} → answer ≡ responds.Ipp other → RefinesQuietly moves (IsShown key id answer) u a u a
  shows_no_ipp key id {u = u} {a = a} is = subst (λ (it : Response). RefinesQuietly moves (IsShown key id it) u a u a) (sym is) (quietly_nothing moves u a)

  pub shows_nothing : (key id : ℕ) {answer : Response} {u : S} {a : EngineState} → answer ≡ responds.Nothing → RefinesQuietly moves (IsShown key id answer) u a u a
  shows_nothing key id {u = u} {a = a} is = subst (λ (it : Response). RefinesQuietly moves (IsShown key id it) u a u a) (sym is) (quietly_nothing moves u a)

  -- ---- bodies

  pub asks_event : {moment request : ℕ} {event : Event} {asked : ParsedRequest} {answer : Answer} {u v : S} {a b : EngineState} → asked ≡ asks.Event request event → RefinesAnswering moves (BodyBrings moment request event) u a v b answer → RefinesAnswering moves (BodyAsks moment asked) u a v b answer
  asks_event {moment} {request} {event} {asked} {answer} {u} {v} {a} {b} is p = subst (λ (it : ParsedRequest). RefinesAnswering moves (BodyAsks moment it) u a v b answer) (sym is) p

  -- a body was parsed, and is acted on
  pub body_read : (body : List ℕ) (asked : ParsedRequest) {moment : ℕ} {answer : Answer} {u v : S} {a b : EngineState} → Asks body asked → RefinesAnswering moves (BodyAsks moment asked) u a v b answer → RefinesAnswering moves (BodyComes moment body) u a v b answer
  body_read body asked {moment} {answer} {u} {v} {a} {b} parsed p = answered_found moves (BodyAsks moment asked) (BodyComes moment body) u v a b answer (λ served l hs l' it. inl (asked, parsed, it)) p

module _ {S : Type 0} {polled : S → Poll → S → Type 0} {notified : S → Note → S → Type 0} where
  -- a tick comes that is due
  pub ticks_now : (test : Bool) {moment : ℕ} {u v w : S} {a b c : EngineState} {refused : Bool} → test ≡ is_due (max moment a.core.last) a.ticked a.undispatched → test ≡ true → RefinesReporting (alone notified) (Ticks moment) u a v b refused → RefinesQuietly (moved polled notified) (ClosesBroken moment) v b w c
      → Refines (moved polled notified) (TicksIfDue moment) u a w c
  ticks_now test {moment} {u} {v} {w} {a} {b} {c} same due p q =
      ticks_due (moved polled notified) u w a c moment (sym same ∙ due)
      (refines_then (moved polled notified) (Ticks moment) (ClosesBroken moment) u v w a b c (refines_moved polled notified (Ticks moment) u v a b (aloud (alone notified) (Ticks moment) u v a b p.refines)) (aloud (moved polled notified) (ClosesBroken moment) v w b c q))

  -- a connection is accepted at a door
  pub comes : {door : Door} {id : ℕ} {u v w : S} {a b : EngineState} → polled u (Accepts door (Done id)) v → Refines (moved polled notified) (Opens door id) v a w b → Refines (moved polled notified) (AcceptsOne door) u a w b
  comes {door} {id} {u} {v} {w} {a} {b} poll p = accepts_open (moved polled notified) u v w a b door id poll p

module _ {N : Type 0} {notified : N → Note → N → Type 0} where
  -- a note, and then R
  pub notifies_then : {R : Rel} {u v w : N} {a b : EngineState} {note : Note} → notified u note v → RefinesQuietly (alone notified) R v a w b → RefinesQuietly (alone notified) (Then (Notifies note) R) u a w b
  notifies_then {R} {u} {v} {w} {a} {b} {note} p q = quietly_then (alone notified) (Notifies note) R u v w a a b (notifies notified u v a note p) q

  -- an ask of which the observer alone is notified
  pub acts_broke : (moment key id : ℕ) {asked : Ask} {growth : AllocFailure} {place : AllocationSite} {u v : N} {a : EngineState} → asked ≡ ask.Broke growth → place ≡ place_of growth → notified u (Refused place (Some id)) v → RefinesQuietly (alone notified) (ActsOn moment key id asked) u a v a
  acts_broke moment key id {asked} {growth} {place} {u} {v} {a} is same p =
      acts_as moment key id {what = ask.Broke growth} is (notifies notified u v a (Refused (place_of growth) (Some id)) (subst (λ (x : AllocationSite). notified u (Refused x (Some id)) v) same p))

  pub acts_stranger : (moment key id : ℕ) {asked : Ask} {name : List ℕ} {u v : N} {a : EngineState} → asked ≡ ask.UnknownDevice name → notified u (DeviceRefused id (why.UnknownName name)) v → RefinesQuietly (alone notified) (ActsOn moment key id asked) u a v a
  acts_stranger moment key id {asked} {name} {u} {v} {a} is p = acts_as moment key id {what = ask.UnknownDevice name} is (notifies notified u v a (DeviceRefused id (why.UnknownName name)) p)

  pub acts_fault : (moment key id : ℕ) {asked : Ask} {device : Option ℕ} {u v : N} {a : EngineState} → asked ≡ ask.Fault device → notified u (DeviceRefused id (why.Fault device)) v → RefinesQuietly (alone notified) (ActsOn moment key id asked) u a v a
  acts_fault moment key id {asked} {device} {u} {v} {a} is p = acts_as moment key id {what = ask.Fault device} is (notifies notified u v a (DeviceRefused id (why.Fault device)) p)

  -- memory to parse a body was refused
  pub body_unread : (body : List ℕ) {moment : ℕ} {u v : N} {a : EngineState} → notified u (Refused At.Event None) v → RefinesAnswering (alone notified) (BodyComes moment body) u a v a OutOfMemory
  body_unread body {moment} {u} {v} {a} p = answered_refused notified (BodyComes moment body) u v a a At.Event BadRequest p refl (λ l fits. (Notified (Refused At.Event None) ∷ [], refl, inr (refl, refl)))
