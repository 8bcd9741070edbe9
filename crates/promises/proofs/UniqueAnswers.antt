-- The answers to clients become due in one way.
use Rattle.std.proofs.Common.{◌≡◌, ℕ, Bool, true, false, List, [], ◌∷◌, ◌++◌, refl, sym, ◌∙◌, ap, subst, Some, None, inl, inr}
use Rattle.std.specs.Prelude.{codes}
use Rattle.ipp_codec.specs.Message.{IppAttribute, IppGroup}
use Rattle.ipp_codec.specs.Spelling.{spelling}
use Rattle.printer_objects.specs.declared.state.PrinterState.{PrinterState}
use Rattle.events.specs.declared.event.Event.{Event}
use Rattle.events.specs.declared.status.Status.{Status}
use Rattle.events.specs.declared.status.Status.TheVariants.{TemporaryError}
use Rattle.events.specs.declared.queue.QueueForm.{QueueForm}
use Rattle.events.specs.declared.queue.QueueEntry.{QueueEntry}
use Rattle.events.specs.declared.queue.QueueListing.{QueueListing}
use Rattle.events.specs.declared.effects.Response.{Response}
use Rattle.events.specs.declared.effects.Response.TheVariants as responds
use Rattle.events.specs.declared.effects.IppResponse.{IppResponse}
use Rattle.events.specs.declared.effects.LpdResponse.{LpdResponse}
use Rattle.events.specs.declared.effects.LpdResponse.TheVariants as Shown
use Rattle.events.specs.declared.effects.Effects.{Effects}
use Rattle.events.specs.Event.{is_query}
use Rattle.dispatcher.specs.declared.observer.AllocationSite.{AllocationSite}
use Rattle.dispatcher.specs.declared.observer.AllocationSite.TheVariants as At
use Rattle.dispatcher.specs.Notes.{Refused}
use Rattle.dispatcher.specs.OneStep.{SameListing, SameLpdAnswer, SameIppAnswer, SameAnswer, SameReply}
use Rattle.ipp_operations.specs.Reply.{IsReply, reply_of, unsupported_of, message_of}
use Rattle.ipp_operations.specs.QueueText.{printer_word, lines_of, queue_text, ack_of, text_of}
use Rattle.events.specs.SameEvent.{SameEvent}
use Rattle.connections.specs.declared.ask.Client.{Client}
use Rattle.connections.specs.declared.ask.Client.TheVariants as client
use Rattle.server.specs.Polls.{Happening, Found}
use Rattle.server.specs.Ledger.{Ledger}
use Rattle.server.specs.Rel.{Notifies, Chooses, Then, If}
use Rattle.server.specs.Enqueuing.{Breaks, Enqueues, EnqueuesResponse, EnqueuesStatus}
use Rattle.server.specs.Answering.{Drops, LosesReply, RepliesWith, Declines, Shows, SendsLpd, IsShown, Answers, IsAnswered}
use Rattle.server.specs.Turn as Between
use Rattle.promises.specs.OneLedger.{StepsOnce}
use Rattle.promises.proofs.Determined.{Alike, Fixed, fixed_nothing, fixed_notifies, fixed_chooses, alike_then, apart, Begins, begins_then, begins_chooses, begins_notifies, is_choice, fixed_or, alike_if}
use Rattle.promises.proofs.UniqueDue.{fixed_breaks, fixed_enqueues, fixed_reply, fixed_status}
use Rattle.promises.proofs.UniqueEvents.{answered_alike}

-- ---- the bytes of answers with the same content

same_message : (one other : IppResponse) (id : ℕ) → SameIppAnswer one other → message_of one id ≡ message_of other id
same_message one other id same =
    ap (λ (status : Status). reply_of status id (unsupported_of status one.unsupported ++ one.groups)) same.status
    ∙ (ap (λ (attributes : List IppAttribute). reply_of other.status id (unsupported_of other.status attributes ++ one.groups)) same.unsupported
    ∙ ap (λ (groups : List IppGroup). reply_of other.status id (unsupported_of other.status other.unsupported ++ groups)) same.groups)

pub same_bytes : (one other : IppResponse) (id : ℕ) (bytes parsed : List ℕ) → SameIppAnswer one other → IsReply one id bytes → IsReply other id parsed → bytes ≡ parsed
same_bytes one other id bytes parsed same p q = p.spelt ∙ (ap spelling (same_message one other id same) ∙ sym q.spelt)

pub same_text : (one other : QueueListing) → SameListing one other → queue_text one ≡ queue_text other
same_text one other same =
    ap (λ (name : List ℕ). name ++ (codes " " ++ (printer_word one.state ++ (codes "\n" ++ lines_of one.form one.jobs.items)))) same.name
    ∙ (ap (λ (state : PrinterState). other.name ++ (codes " " ++ (printer_word state ++ (codes "\n" ++ lines_of one.form one.jobs.items)))) same.state
    ∙ (ap (λ (form : QueueForm). other.name ++ (codes " " ++ (printer_word other.state ++ (codes "\n" ++ lines_of form one.jobs.items)))) same.form
    ∙ ap (λ (jobs : List QueueEntry). other.name ++ (codes " " ++ (printer_word other.state ++ (codes "\n" ++ lines_of other.form jobs)))) same.jobs))

-- ---- an IPP client

loses_reply : (key id request : ℕ) (query : Bool) → Fixed (LosesReply key id request query)
loses_reply key id request query = alike_then (fixed_notifies (Refused At.Reply (Some id))) (alike_if query (fixed_status key TemporaryError request) (fixed_breaks key))

loses_first : (key id request : ℕ) (query : Bool) → Begins is_choice false (LosesReply key id request query)
loses_first key id request query = begins_then is_choice false (Notifies (Refused At.Reply (Some id))) (If query (EnqueuesStatus key TemporaryError request) (Breaks key)) (begins_notifies is_choice false (Refused At.Reply (Some id)) refl)

found_reply : (key : ℕ) (bytes : List ℕ) → Begins is_choice true (Then (Chooses Found) (EnqueuesResponse key bytes))
found_reply key bytes = begins_then is_choice true (Chooses Found) (EnqueuesResponse key bytes) (begins_chooses is_choice true Found refl)

replies_one : (key id request : ℕ) (query : Bool) (one other : IppResponse) → SameIppAnswer one other → (l : Ledger) (hs rest : List Happening) (a : Ledger) (ks more : List Happening) (b : Ledger) → hs ++ rest ≡ ks ++ more → RepliesWith key id request query (responds.Ipp one) l hs a → RepliesWith key id request query (responds.Ipp other) l ks b → (hs ≡ ks) × (a ≡ b)
replies_one key id request query one other same l hs rest a ks more b e (inl (bytes, is, p)) (inl (parsed, its, q)) =
    (alike_then (fixed_chooses Found) (fixed_reply key bytes)).one l hs rest a ks more b e p (subst (λ (x : List ℕ). Then (Chooses Found) (EnqueuesResponse key x) l ks b) (sym (same_bytes one other request bytes parsed same is its)) q)
replies_one key id request query one other same l hs rest a ks more b e (inl (bytes, is, p)) (inr q) = apart is_choice hs rest ks more e ((found_reply key bytes).begins l hs a p) ((loses_first key id request query).begins l ks b q)
replies_one key id request query one other same l hs rest a ks more b e (inr p) (inl (parsed, its, q)) = apart is_choice ks more hs rest (sym e) ((found_reply key parsed).begins l ks b q) ((loses_first key id request query).begins l hs a p)
replies_one key id request query one other same l hs rest a ks more b e (inr p) (inr q) = (loses_reply key id request query).one l hs rest a ks more b e p q

same_replies : (key id request : ℕ) (query : Bool) (one other : Response) → SameAnswer one other → Alike (RepliesWith key id request query one) (RepliesWith key id request query other)
same_replies key id request query (responds.Ipp one) (responds.Ipp other) same = record { one = replies_one key id request query one other same }
same_replies key id request query (responds.Lpd one) (responds.Lpd other) same = record { one = λ l hs rest a ks more b e p q. fixed_nothing.one l hs rest a ks more b e p q }
same_replies key id request query responds.Nothing responds.Nothing same = record { one = λ l hs rest a ks more b e p q. fixed_nothing.one l hs rest a ks more b e p q }
same_replies key id request query (responds.Ipp one) (responds.Lpd other) same = absurd same
same_replies key id request query (responds.Ipp one) responds.Nothing same = absurd same
same_replies key id request query (responds.Lpd one) (responds.Ipp other) same = absurd same
same_replies key id request query (responds.Lpd one) responds.Nothing same = absurd same
same_replies key id request query responds.Nothing (responds.Ipp other) same = absurd same
same_replies key id request query responds.Nothing (responds.Lpd other) same = absurd same

pub fixed_dropped : (key id request : ℕ) → Fixed (Drops key id request)
fixed_dropped key id request = alike_then (fixed_notifies (Refused At.Event (Some id))) (fixed_status key TemporaryError request)

-- ---- an LPD client

pub fixed_declines : (place : AllocationSite) (key id : ℕ) → Fixed (Declines place key id)
fixed_declines place key id = alike_then (fixed_notifies (Refused place (Some id))) (fixed_enqueues key (1 ∷ []))

fixed_shows : (key id : ℕ) (text : List ℕ) → Fixed (Shows key id text)
fixed_shows key id text =
    fixed_or is_choice (begins_then is_choice true (Chooses Found) (Enqueues key text) (begins_chooses is_choice true Found refl))
    (begins_then is_choice false (Notifies (Refused At.Reply (Some id))) (Breaks key) (begins_notifies is_choice false (Refused At.Reply (Some id)) refl)) (alike_then (fixed_chooses Found) (fixed_enqueues key text))
    (alike_then (fixed_notifies (Refused At.Reply (Some id))) (fixed_breaks key))

same_notified : (key id : ℕ) (one other : LpdResponse) → SameLpdAnswer one other → Alike (SendsLpd key id one) (SendsLpd key id other)
same_notified key id (Shown.Taken one) (Shown.Taken other) same = subst (λ (taken : Bool). Alike (SendsLpd key id (Shown.Taken one)) (SendsLpd key id (Shown.Taken taken))) same (fixed_enqueues key (ack_of (Shown.Taken one) ∷ []))
same_notified key id (Shown.Queue one) (Shown.Queue other) same = subst (λ (text : List ℕ). Alike (Shows key id (queue_text one)) (Shows key id text)) (same_text one other same) (fixed_shows key id (queue_text one))
same_notified key id Shown.NoQueue Shown.NoQueue same = fixed_shows key id (text_of Shown.NoQueue)
same_notified key id (Shown.Taken one) (Shown.Queue other) same = absurd same
same_notified key id (Shown.Taken one) Shown.NoQueue same = absurd same
same_notified key id (Shown.Queue one) (Shown.Taken other) same = absurd same
same_notified key id (Shown.Queue one) Shown.NoQueue same = absurd same
same_notified key id Shown.NoQueue (Shown.Taken other) same = absurd same
same_notified key id Shown.NoQueue (Shown.Queue other) same = absurd same

same_shown : (key id : ℕ) (one other : Response) → SameAnswer one other → Alike (IsShown key id one) (IsShown key id other)
same_shown key id (responds.Lpd one) (responds.Lpd other) same = same_notified key id one other same
same_shown key id (responds.Ipp one) (responds.Ipp other) same = fixed_nothing
same_shown key id responds.Nothing responds.Nothing same = fixed_nothing
same_shown key id (responds.Ipp one) (responds.Lpd other) same = absurd same
same_shown key id (responds.Ipp one) responds.Nothing same = absurd same
same_shown key id (responds.Lpd one) (responds.Ipp other) same = absurd same
same_shown key id (responds.Lpd one) responds.Nothing same = absurd same
same_shown key id responds.Nothing (responds.Ipp other) same = absurd same
same_shown key id responds.Nothing (responds.Lpd other) same = absurd same

-- ---- any client

same_answers : (key id : ℕ) (who : Client) (query : Bool) (one other : Effects) → SameReply one other → Alike (Answers key id who query (Some one)) (Answers key id who query (Some other))
same_answers key id (client.Ipp request) query one other same = same_replies key id request query one.response other.response same.response
same_answers key id client.LpdJob query one other same = same_shown key id one.response other.response same.response
same_answers key id client.LpdCommand query one other same = same_shown key id one.response other.response same.response

none_answered : (key id : ℕ) (who : Client) (query : Bool) → Fixed (Answers key id who query None)
none_answered key id (client.Ipp request) query = fixed_dropped key id request
none_answered key id client.LpdJob query = fixed_declines At.Event key id
none_answered key id client.LpdCommand query = alike_then (fixed_notifies (Refused At.Event (Some id))) (fixed_breaks key)

none_first : (key id : ℕ) (who : Client) (query : Bool) → Begins is_choice false (Answers key id who query None)
none_first key id (client.Ipp request) query = begins_then is_choice false (Notifies (Refused At.Event (Some id))) (EnqueuesStatus key TemporaryError request) (begins_notifies is_choice false (Refused At.Event (Some id)) refl)
none_first key id client.LpdJob query = begins_then is_choice false (Notifies (Refused At.Event (Some id))) (Enqueues key (1 ∷ [])) (begins_notifies is_choice false (Refused At.Event (Some id)) refl)
none_first key id client.LpdCommand query = begins_then is_choice false (Notifies (Refused At.Event (Some id))) (Breaks key) (begins_notifies is_choice false (Refused At.Event (Some id)) refl)

pub same_answered : (steps : StepsOnce) (moment key id : ℕ) (who : Client) (event other : Event) → SameEvent event other → is_query event ≡ is_query other → Alike (IsAnswered moment key id who event) (IsAnswered moment key id who other)
same_answered steps moment key id who event other same query =
    answered_alike steps moment event other (Answers key id who (is_query event)) (Answers key id who (is_query other)) same query (none_first key id who (is_query event)) (none_first key id who (is_query other))
    (subst (λ (t : Bool). Alike (Answers key id who (is_query event) None) (Answers key id who t None)) query (none_answered key id who (is_query event)))
    (λ one two reads_as. subst (λ (t : Bool). Alike (Answers key id who (is_query event) (Some one)) (Answers key id who t (Some two))) query (same_answers key id who (is_query event) one two reads_as))

-- ---- a body that comes without HTTP

answers_one : (request : ℕ) (one other : Effects) (bytes parsed : List ℕ) (l : Ledger) (hs rest : List Happening) (a : Ledger) (ks more : List Happening) (b : Ledger) → hs ++ rest ≡ ks ++ more → Between.Answers request (Some one) bytes l hs a → Between.Answers request (Some other) parsed l ks b → (hs ≡ ks) × (a ≡ b)
answers_one request one other bytes parsed l hs rest a ks more b e (inl (are, p)) (inl (were, q)) = (fixed_chooses Found).one l hs rest a ks more b e p q
answers_one request one other bytes parsed l hs rest a ks more b e (inl (are, p)) (inr q) = apart is_choice hs rest ks more e ((begins_chooses is_choice true Found refl).begins l hs a p) ((begins_notifies is_choice false (Refused At.Reply None) refl).begins l ks b q)
answers_one request one other bytes parsed l hs rest a ks more b e (inr p) (inl (were, q)) = apart is_choice ks more hs rest (sym e) ((begins_chooses is_choice true Found refl).begins l ks b q) ((begins_notifies is_choice false (Refused At.Reply None) refl).begins l hs a p)
answers_one request one other bytes parsed l hs rest a ks more b e (inr p) (inr q) = (fixed_notifies (Refused At.Reply None)).one l hs rest a ks more b e p q

none_between : (request : ℕ) (bytes parsed : List ℕ) → Alike (Between.Answers request None bytes) (Between.Answers request None parsed)
none_between request bytes parsed = record { one = λ l hs rest a ks more b e p q. (fixed_notifies (Refused At.Event None)).one l hs rest a ks more b e p q }

first_between : (request : ℕ) (bytes : List ℕ) → Begins is_choice false (Between.Answers request None bytes)
first_between request bytes = record { begins = λ l hs a it. (begins_notifies is_choice false (Refused At.Event None) refl).begins l hs a it }

pub body_answered : (steps : StepsOnce) (moment request : ℕ) (event other : Event) (bytes parsed : List ℕ) → SameEvent event other → is_query event ≡ is_query other → Alike (Between.IsAnswered moment request event bytes) (Between.IsAnswered moment request other parsed)
body_answered steps moment request event other bytes parsed same query =
    answered_alike steps moment event other (λ reply. Between.Answers request reply bytes) (λ reply. Between.Answers request reply parsed) same query (first_between request bytes) (first_between request parsed) (none_between request bytes parsed)
    (λ one two reads_as. record { one = answers_one request one two bytes parsed })
