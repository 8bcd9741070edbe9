-- The answer to a Send-Document is the group of its job in the state after it.
use Rattle.std.proofs.Common.{◌≡◌, ◌==◌, ◌&&◌, ◌∙◌, ℕ, Bool, true, false, cond, List, [], ◌∷◌, length, Option, Some, None, Result, Ok, Err, refl, sym, ap, subst, true≢false}
use Rattle.std.specs.Prelude.{All, IfSome, not, option_map, MatchResult}
use Rattle.std.specs.Option.{option_and_then, option_map_or}
use Rattle.std.proofs.lemmas.Bool.{eqb-true}
use Rattle.settings_file.specs.Settings.{PrinterEntry}
use Rattle.ipp_codec.specs.Message.{IppGroup}
use Rattle.job_objects.specs.declared.job_state.JobState.{JobState}
use Rattle.job_objects.specs.declared.job_state.JobState.TheVariants.{Pending, PendingHeld, Processing, Stopped, Canceled, Aborted, Completed}
use Rattle.job_objects.specs.declared.job_change.JobChange.TheVariants.{Close}
use Rattle.job_objects.specs.Job.{JobRecord}
use Rattle.printer_objects.specs.Created.{created_group}
use Rattle.spool.specs.Requester.{RequesterRecord}
use Rattle.octets.specs.Document.{DocumentRecord}
use Rattle.spool.specs.Spooled.{SpooledRecord, changed, attached}
use Rattle.spool.specs.Jobs.{spooled_at, job_at}
use Rattle.spool.specs.Sound.{FitsState, IsSound}
use Rattle.spool.specs.Spool.{IsSpool}
use Rattle.spool.specs.Calls.{or_else, access_refusal, document_refusal, is_too_large, adds, with_document, closed_if, paused_at}
use Rattle.spool.specs.declared.refusal.SpoolRefusal.{SpoolRefusal}
use Rattle.spool.specs.declared.refusal.SpoolRefusal.TheVariants as Why
use Rattle.spool.proofs.Ids.{changed_id}
use Rattle.spool.proofs.OnDevice.{found_with}
use Rattle.spool.proofs.Sound.{sound_found}
use Rattle.events.specs.declared.event.SendDocument.{SendDocument}
use Rattle.events.specs.declared.event.JobTarget.{JobTarget}
use Rattle.events.specs.declared.event.JobTarget.TheVariants as Job
use Rattle.events.specs.declared.status.Status.TheVariants as Went
use Rattle.dispatcher.specs.declared.send_document.Sent.{Sent}
use Rattle.dispatcher.specs.declared.checks.Rejection.{Rejection}
use Rattle.dispatcher.specs.Answers.{Refuses}
use Rattle.dispatcher.specs.Checks.{refused}
use Rattle.dispatcher.specs.SendDocument.{SendsIt, sent_group, sent_of, IsShown}
use Rattle.dispatcher.specs.Target.{job_of, if_sent_to, printer_of}
use Rattle.events.specs.declared.effects.Effects.{Effects}
use Rattle.events.specs.Effects.{Replies}
use Rattle.print_room.specs.State.{State}
use Rattle.print_room.specs.Jobs.{requester_of, sending}
use Rattle.dispatcher.proofs.DocumentsStay.{IsSent, is_sent}

-- ---- the job that the request names

-- a job that is found by an id has this id
found_id : (id : ℕ) (jobs : List SpooledRecord) → IfSome (spooled_at id jobs) (λ s. id ≡ s.job.id)
found_id id [] = tt
found_id id (s ∷ jobs) = step (id == s.job.id) refl (found_id id jobs)
  where
    step : (b : Bool) → (id == s.job.id) ≡ b → IfSome (spooled_at id jobs) (λ w. id ≡ w.job.id) → IfSome (cond b (Some s) (spooled_at id jobs)) (λ w. id ≡ w.job.id)
    step true is rest = eqb-true id s.job.id is
    step false is rest = rest

-- a job that is kept under its id
record IsIn (jobs : List SpooledRecord) (job : JobRecord) : Type 0 where
  spooled : SpooledRecord
  job_is : spooled.job ≡ job
  there : spooled_at job.id jobs ≡ Some spooled

in_spool : (id : ℕ) (jobs : List SpooledRecord) (job : JobRecord) → job_at id jobs ≡ Some job → IsIn jobs job
in_spool id jobs job is = at (spooled_at id jobs) refl (found_id id jobs) is
  where
    at : (o : Option SpooledRecord) → spooled_at id jobs ≡ o → IfSome o (λ s. id ≡ s.job.id) → option_map (λ s. s.job) o ≡ Some job → IsIn jobs job
    at None found has is = absurd (cc)
    at (Some s) found has is =
        let same : s.job ≡ job = cc is in
        record { spooled = s; job_is = same; there = subst (λ (n : ℕ). spooled_at n jobs ≡ Some s) (has ∙ ap (λ (j : JobRecord). j.id) same) found }

sent_there : (place : ℕ) (one job : JobRecord) → if_sent_to place one ≡ Some job → Some one ≡ Some job
sent_there place one job is = at (one.needs.printer == place) is
  where
    at : (b : Bool) → cond b (Some one) None ≡ Some job → Some one ≡ Some job
    at true is = is
    at false is = absurd (cc)

named_in : (target : JobTarget) (old : State) (job : JobRecord) → job_of target old ≡ Some job → IsIn old.spool.jobs job
named_in (Job.Numbered id) old job is = in_spool id old.spool.jobs job is
named_in (Job.OfPrinter target id) old job is = at (printer_of target old.settings.printers) (job_at id old.spool.jobs) refl is
  where
    at : (p : Option (ℕ × PrinterEntry)) (o : Option JobRecord) → job_at id old.spool.jobs ≡ o → option_and_then (λ found. option_and_then (if_sent_to found.0) o) p ≡ Some job → IsIn old.spool.jobs job
    at None o found is = absurd (cc)
    at (Some p) None found is = absurd (cc)
    at (Some p) (Some one) found is = in_spool id old.spool.jobs job (found ∙ sent_there p.0 one job is)
named_in Job.Unknown old job is = absurd (cc)

known : (o : Option JobRecord) (job : JobRecord) → option_map_or Ok o (Err (refused Went.NotFound)) ≡ Ok job → o ≡ Some job
known None job is = absurd (cc)
known (Some one) job is = let same : one ≡ job = cc is in ap Some same

-- ---- the documents of the job are still to come

still_to_come : (requester : RequesterRecord) (octets : ℕ) (last : Bool) (s : SpooledRecord) → document_refusal requester octets last (Some s) ≡ None → s.job.incoming ≡ true
still_to_come requester octets last s free = at (access_refusal requester (Some s)) s.job.incoming (adds octets last && is_too_large octets s.job) free
  where
    at : (cause : Option SpoolRefusal) (incoming large : Bool) → or_else cause (cond (not incoming) (Some Why.NotPossible) (cond large (Some Why.TooLarge) None)) ≡ None → incoming ≡ true
    at (Some why) incoming large free = absurd (cc)
    at None true large free = refl
    at None false large free = absurd (cc)

held_back : (state : JobState) (held on : Bool) → FitsState state true held on → state ≡ PendingHeld
held_back Pending held on fits = absurd (true≢false fits.0)
held_back PendingHeld held on fits = refl
held_back Processing held on fits = absurd (true≢false fits.0)
held_back Stopped held on fits = absurd (true≢false fits.0)
held_back Canceled held on fits = absurd (true≢false fits)
held_back Aborted held on fits = absurd (true≢false fits)
held_back Completed held on fits = absurd (true≢false fits)

-- the spool has an incoming job under the id of this job, and shows it as it shows this job
record ComesIn (job : JobRecord) (jobs : List SpooledRecord) : Type 0 where
  spooled : SpooledRecord
  there : spooled_at job.id jobs ≡ Some spooled
  state : spooled.job.state ≡ PendingHeld
  incoming : spooled.job.incoming ≡ true
  alike : (old : State) (last : Bool) → sent_group old spooled.job last ≡ sent_group old job last

comes_in : (requester : RequesterRecord) (octets : ℕ) (last : Bool) (jobs : List SpooledRecord) (job : JobRecord) → All IsSound jobs → IsIn jobs job → document_refusal requester octets last (spooled_at job.id jobs) ≡ None → ComesIn job jobs
comes_in requester octets last jobs job sound in_jobs free =
    let s = in_jobs.spooled in
    let fits : IsSound s = subst (λ (o : Option SpooledRecord). IfSome o IsSound) in_jobs.there (sound_found job.id jobs sound) in
    let incoming : s.job.incoming ≡ true = still_to_come requester octets last s (subst (λ (o : Option SpooledRecord). document_refusal requester octets last o ≡ None) in_jobs.there free) in
    record {
      spooled = s;
      there = in_jobs.there;
      state = held_back s.job.state s.job.held s.on_device (subst (λ (b : Bool). FitsState s.job.state b s.job.held s.on_device) incoming fits);
      incoming = incoming;
      alike = λ old last. ap (λ (j : JobRecord). sent_group old j last) in_jobs.job_is;
    }

-- ---- the group of the job

-- the group of a job in the present state
abbrev group_now : State → JobRecord → IppGroup
group_now now job = created_group now.settings.uri_base job (paused_at now.paused job.needs.printer)

coming_shown : (old : State) (job : JobRecord) → job.state ≡ PendingHeld → job.incoming ≡ true → group_now old job ≡ sent_group old job false
coming_shown old job state incoming = rw (state, incoming) refl

closed_shown : (old : State) (now : ℕ) (s : SpooledRecord) (held : Bool) → s.job.held ≡ held → s.job.state ≡ PendingHeld → s.job.incoming ≡ true → group_now old (changed Close now s).job ≡ sent_group old s.job true
closed_shown old now s true held state incoming = rw (state, incoming, held) refl
closed_shown old now s false held state incoming = rw (state, incoming, held) refl

-- with the document, the job is still incoming
with_it : (added : Bool) (document : DocumentRecord) (now : ℕ) (jobs : List SpooledRecord) (job : JobRecord) → ComesIn job jobs → ComesIn job (with_document added job.id document now jobs)
with_it true document now jobs job comes =
    record {
      spooled = attached document now comes.spooled;
      there = found_with job.id (attached document now) (λ s. refl) jobs ∙ ap (option_map (attached document now)) comes.there;
      state = comes.state;
      incoming = comes.incoming;
      alike = comes.alike;
    }
with_it false document now jobs job comes = comes

-- the job is then shown in its present state, whether the document was the last or not
record ShownIn (old : State) (job : JobRecord) (last : Bool) (jobs : List SpooledRecord) : Type 0 where
  spooled : SpooledRecord
  there : spooled_at job.id jobs ≡ Some spooled
  shown : group_now old spooled.job ≡ sent_group old job last

once_closed : (last : Bool) (old : State) (now : ℕ) (jobs : List SpooledRecord) (job : JobRecord) → ComesIn job jobs → ShownIn old job last (closed_if last job.id now jobs)
once_closed true old now jobs job comes =
    record {
      spooled = changed Close now comes.spooled;
      there = found_with job.id (changed Close now) (changed_id Close now) jobs ∙ ap (option_map (changed Close now)) comes.there;
      shown = closed_shown old now comes.spooled comes.spooled.job.held refl comes.state comes.incoming ∙ comes.alike old true;
    }
once_closed false old now jobs job comes =
    record { spooled = comes.spooled; there = comes.there; shown = coming_shown old comes.spooled.job comes.state comes.incoming ∙ comes.alike old false }

-- ---- the answer

job_shown : (request : SendDocument) (now : ℕ) (document : DocumentRecord) (old : State) (sent : Sent) → IsSpool old.spool → IsSent request old sent → IsShown sent.job sent.groups (sending now sent.job document request.last old)
job_shown request now document old sent spool is =
    let job = is.job in
    let jobs = old.spool.jobs in
    let last = request.last in
    let found : IsIn jobs job = named_in request.job.target old job (known (job_of request.job.target old) job is.named) in
    let comes : ComesIn job jobs = comes_in (requester_of request.job.user old) (length request.octets) last jobs job spool.sound found is.free in
    let added = adds (length document.contents) last in
    let after = once_closed last old now (with_document added job.id document now jobs) job (with_it added document now jobs job comes) in
    let shown : IsShown job.id (sent_group old job last ∷ []) (sending now job.id document last old) = (after.spooled.job, ap (option_map (λ (s : SpooledRecord). s.job)) after.there, ap (λ (g : IppGroup). g ∷ []) (sym after.shown)) in
    let under : IsShown sent.job (sent_group old job last ∷ []) (sending now sent.job document last old) = subst (λ (id : ℕ). IsShown id (sent_group old job last ∷ []) (sending now id document last old)) is.id_is shown in
    subst (λ (groups : List IppGroup). IsShown sent.job groups (sending now sent.job document last old)) is.groups_are under

pub sent_shown : (now : ℕ) (request : SendDocument) (old : State) (effects : Effects) (new : State) (sent : Sent) → IsSpool old.spool → MatchResult (sent_of request old) (λ sent. SendsIt now old request sent effects new) (λ refusal. Refuses now old refusal effects new) → sent_of request old ≡ Ok sent → Replies Went.Ok [] sent.groups effects × IsShown sent.job sent.groups new
sent_shown now request old effects new sent spool step is =
    let sends : SendsIt now old request sent effects new = subst (λ (r : Result Sent Rejection). MatchResult r (λ sent. SendsIt now old request sent effects new) (λ refusal. Refuses now old refusal effects new)) is step in
    let document : DocumentRecord = record { format = sent.format; contents = request.octets } in
    (sends.replies, subst (λ (s : State). IsShown sent.job sent.groups s) (sym sends.state) (job_shown request now document old sent spool (is_sent request old sent is)))
