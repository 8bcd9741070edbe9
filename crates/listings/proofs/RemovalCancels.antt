-- The cancels of a removal: each cancel takes the first named job, and leaves the other jobs as they are.
use Rattle.std.proofs.Common.{◌≡◌, ◌∙◌, ◌<◌, ◌==◌, ◌&&◌, ◌||◌, not, ℕ, zero, suc, Bool, true, false, cond, List, [], ◌∷◌, map, filter, find, Option, Some, None, option_map, refl, sym, ap, subst, arith, nat_lt, true≢false}
use Rattle.std.specs.Prelude.{All}
use Rattle.std.specs.List.{AllPairs, list_any}
use Rattle.std.specs.Option.{option_map_or}
use Rattle.std.proofs.lemmas.List.Elements.{All-head, All-tail}
use Rattle.std.proofs.lemmas.List.Kept.{AllPairs-from_increasing}
use Rattle.job_objects.specs.Job.{JobRecord}
use Rattle.job_objects.specs.JobState.{is_finished}
use Rattle.job_objects.specs.JobStep.{ended, changed_from}
use Rattle.job_objects.specs.declared.job.Canceler.{Canceler}
use Rattle.job_objects.specs.declared.job.Canceler.TheVariants.{Operator}
use Rattle.job_objects.specs.declared.job_change.JobChange.TheVariants.{Cancel}
use Rattle.job_objects.specs.declared.job_state.JobState.{JobState}
use Rattle.job_objects.specs.declared.job_state.JobState.TheVariants.{Pending, PendingHeld, Processing, Stopped, Canceled, Aborted, Completed}
use Rattle.printer_objects.specs.PrinterState.{is_busy_with, is_printing_or_stopped}
use Rattle.spool.specs.Requester.{RequesterRecord, may_change, canceler_of}
use Rattle.base_types.specs.declared.limits.TheConstants.Limits.{FINISHED_JOBS_KEPT}
use Rattle.spool.specs.Calls.{cancel_refusal, or_else}
use Rattle.spool.specs.declared.refusal.SpoolRefusal.TheVariants as Why
use Rattle.spool.specs.Jobs.{spooled_at, with_job}
use Rattle.spool.specs.Kept.{is_kept, later_jobs}
use Rattle.spool.specs.Spool.{IsSpool}
use Rattle.spool.specs.Spooled.{SpooledRecord, changed, is_retired, retired}
use Rattle.print_room.specs.Jobs.{cancel_by, canceling}
use Rattle.print_room.specs.State.{State}
use Rattle.events.specs.declared.queue.RemoveJobs.{RemoveJobs}
use Rattle.listings.specs.Removal.{active_job, is_active, is_named, may_remove, named_jobs, names_for, remover}

-- ---- numbers that rise

abbrev Rises : List ℕ → Type 0
Rises [] = Unit {0}
Rises (n ∷ ns) = All (λ m. n < m) ns × Rises ns

rises : (ns : List ℕ) → AllPairs (λ a b. a < b) ns → Rises ns
rises [] pairs = tt
rises (n ∷ ns) pairs = ((λ k d inside. pairs zero (suc k) d (omega arith) (omega arith)), rises ns (λ i j d before inside. pairs (suc i) (suc j) d (omega arith) (omega arith)))

-- ---- the result of a search

found_is : {X : Type 0} (f : X → ℕ) (P : ℕ → Type 0) (test : X → Bool) (xs : List X) (y : X) → All P (map f xs) → find test xs ≡ Some y → P (f y)
found_is f P test [] y all is = absurd (cc)
found_is {X} f P test (x ∷ xs) y all is = step (test x) is (found_is f P test xs y (All-tail P (f x) (map f xs) all))
  where
    step : (b : Bool) → cond b (Some x) (find test xs) ≡ Some y → (find test xs ≡ Some y → P (f y)) → P (f y)
    step true here rest = let same : x ≡ y = cc in subst (λ (z : X). P (f z)) same (All-head P (f x) (map f xs) all)
    step false there rest = rest there

found_passes : {X : Type 0} (test : X → Bool) (xs : List X) (y : X) → find test xs ≡ Some y → test y ≡ true
found_passes test [] y is = absurd (cc)
found_passes {X} test (x ∷ xs) y is = step (test x) refl is (found_passes test xs y)
  where
    step : (b : Bool) → test x ≡ b → cond b (Some x) (find test xs) ≡ Some y → (find test xs ≡ Some y → test y ≡ true) → test y ≡ true
    step true passes here rest = let same : x ≡ y = cc in subst (λ (z : X). test z ≡ true) same passes
    step false fails there rest = rest there

none_found : {X : Type 0} (test : X → Bool) (xs : List X) → find test xs ≡ None → filter test xs ≡ []
none_found test [] is = refl
none_found {X} test (x ∷ xs) is = step (test x) is (none_found test xs)
  where
    step : (b : Bool) → cond b (Some x) (find test xs) ≡ None → (find test xs ≡ None → filter test xs ≡ []) → cond b (x ∷ filter test xs) (filter test xs) ≡ []
    step true here rest = absurd (cc)
    step false there rest = rest there

-- a filter by `kept` before a filter by `test` makes no difference, if each element that passes `test` passes `kept`
filter_within : {X : Type 0} (test kept : X → Bool) → ((x : X) → test x ≡ true → kept x ≡ true) → (xs : List X) → filter test (filter kept xs) ≡ filter test xs
filter_within test kept both [] = refl
filter_within {X} test kept both (x ∷ xs) = step (test x) refl (kept x) refl (filter_within test kept both xs)
  where
    step : (b : Bool) → test x ≡ b → (c : Bool) → kept x ≡ c → filter test (filter kept xs) ≡ filter test xs → filter test (cond c (x ∷ filter kept xs) (filter kept xs)) ≡ cond b (x ∷ filter test xs) (filter test xs)
    step true passes true stays rest = ap (λ (t : Bool). cond t (x ∷ filter test (filter kept xs)) (filter test (filter kept xs))) passes ∙ ap (λ (ys : List X). x ∷ ys) rest
    step true passes false goes rest = absurd (true≢false (sym (both x passes) ∙ goes))
    step false fails true stays rest = ap (λ (t : Bool). cond t (x ∷ filter test (filter kept xs)) (filter test (filter kept xs))) fails ∙ rest
    step false fails false goes rest = rest

same_number : (n : ℕ) → (n == n) ≡ true
same_number n = grind arith

other_number : (m n : ℕ) → m < n → (n == m) ≡ false
other_number m n less = grind arith

-- ---- the first job of a test

-- the first job of a test is the job of its id
found_at : (test : SpooledRecord → Bool) (jobs : List SpooledRecord) (s : SpooledRecord) → Rises (map (λ s. s.job.id) jobs) → find test jobs ≡ Some s → spooled_at s.job.id jobs ≡ Some s
found_at test [] s rising is = absurd (cc)
found_at test (x ∷ xs) s rising is = step (test x) is (found_at test xs s rising.1)
  where
    step : (b : Bool) → cond b (Some x) (find test xs) ≡ Some s → (find test xs ≡ Some s → spooled_at s.job.id xs ≡ Some s) → cond (s.job.id == x.job.id) (Some x) (spooled_at s.job.id xs) ≡ Some s
    step true here rest =
        let same : x ≡ s = cc in
        subst (λ (z : SpooledRecord). cond (z.job.id == x.job.id) (Some x) (spooled_at z.job.id xs) ≡ Some z) same (ap (λ (t : Bool). cond t (Some x) (spooled_at x.job.id xs)) (same_number x.job.id))
    step false there rest =
        let less : x.job.id < s.job.id = found_is (λ s. s.job.id) (λ m. x.job.id < m) test xs s rising.0 there in
        ap (λ (t : Bool). cond t (Some x) (spooled_at s.job.id xs)) (other_number x.job.id s.job.id less) ∙ rest there

-- once the first job is changed and fails the test, the other jobs of the test are left
taken : (test : SpooledRecord → Bool) (change : SpooledRecord → SpooledRecord) (jobs : List SpooledRecord) (s : SpooledRecord) → Rises (map (λ s. s.job.id) jobs) → find test jobs ≡ Some s → test (change s) ≡ false → filter test jobs ≡ s ∷ filter test (with_job s.job.id change jobs)
taken test change [] s rising is gone = absurd (cc)
taken test change (x ∷ xs) s rising is gone = step (test x) refl is (taken test change xs s rising.1)
  where
    step : (b : Bool) → test x ≡ b → cond b (Some x) (find test xs) ≡ Some s → (find test xs ≡ Some s → test (change s) ≡ false → filter test xs ≡ s ∷ filter test (with_job s.job.id change xs))
        → cond b (x ∷ filter test xs) (filter test xs) ≡ s ∷ filter test (cond (s.job.id == x.job.id) (change x ∷ xs) (x ∷ with_job s.job.id change xs))
    step true passes here rest =
        let same : x ≡ s = cc in
        let fails : test (change x) ≡ false = subst (λ (z : SpooledRecord). test (change z) ≡ false) (sym same) gone in
        subst (λ (z : SpooledRecord). x ∷ filter test xs ≡ z ∷ filter test (cond (z.job.id == x.job.id) (change x ∷ xs) (x ∷ with_job z.job.id change xs))) same
        (sym (ap (λ (t : Bool). x ∷ filter test (cond t (change x ∷ xs) (x ∷ with_job x.job.id change xs))) (same_number x.job.id)
        ∙ ap (λ (t : Bool). x ∷ cond t (change x ∷ filter test xs) (filter test xs)) fails))
    step false fails there rest =
        let less : x.job.id < s.job.id = found_is (λ s. s.job.id) (λ m. x.job.id < m) test xs s rising.0 there in
        rest there gone
        ∙ sym (ap (λ (t : Bool). s ∷ filter test (cond t (change x ∷ xs) (x ∷ with_job s.job.id change xs))) (other_number x.job.id s.job.id less)
        ∙ ap (λ (t : Bool). s ∷ cond t (x ∷ filter test (with_job s.job.id change xs)) (filter test (with_job s.job.id change xs))) fails)

-- ---- a cancel

retired_job : (s : SpooledRecord) → (retired s).job ≡ s.job
retired_job s = at (is_retired s)
  where
    at : (b : Bool) → (cond b (record s { documents = [] }) s).job ≡ s.job
    at true = refl
    at false = refl

-- a canceled job, before its documents are dropped
abbrev canceled : Canceler → ℕ → SpooledRecord → SpooledRecord
canceled by now s = record s { job = record (ended Canceled now s.job) { canceled_by = Some by } }

ended_so : (by : Canceler) (now : ℕ) (s : SpooledRecord) → is_finished (retired (canceled by now s)).job.state ≡ true
ended_so by now s = ap (λ (j : JobRecord). is_finished j.state) (retired_job (canceled by now s))

-- a cancel finishes an unfinished job
canceled_ends : (by : Canceler) (now : ℕ) (s : SpooledRecord) → is_finished s.job.state ≡ false → is_finished (changed (Cancel by) now s).job.state ≡ true
canceled_ends by now s unfinished = at s.job.state unfinished
  where
    at : (state : JobState) → is_finished state ≡ false → is_finished (option_map_or (λ job. retired (record s { job = job })) (changed_from (Cancel by) state now s.job) s).job.state ≡ true
    at Pending goes = ended_so by now s
    at PendingHeld goes = ended_so by now s
    at Processing goes = ended_so by now s
    at Stopped goes = ended_so by now s
    at Canceled goes = absurd (true≢false goes)
    at Aborted goes = absurd (true≢false goes)
    at Completed goes = absurd (true≢false goes)

-- an unfinished job isn't forgotten
unfinished_kept : (jobs : List SpooledRecord) (s : SpooledRecord) → is_finished s.job.state ≡ false → is_kept jobs s ≡ true
unfinished_kept jobs s unfinished = ap (λ (b : Bool). not (b && not s.on_device) || nat_lt (later_jobs jobs s) FINISHED_JOBS_KEPT) unfinished

-- no check refuses the cancel of a found job by a requester who may cancel the job
free : (requester : RequesterRecord) (test : SpooledRecord → Bool) (jobs : List SpooledRecord) (s : SpooledRecord) → Rises (map (λ s. s.job.id) jobs) → find test jobs ≡ Some s → may_change requester s.job ≡ true → is_finished s.job.state ≡ false → cancel_refusal requester (spooled_at s.job.id jobs) ≡ None
free requester test jobs s rising is may unfinished =
    ap (λ (o : Option SpooledRecord). cancel_refusal requester o) (found_at test jobs s rising is)
    ∙ (ap (λ (b : Bool). or_else (cond b None (Some Why.NotAuthorized)) (cond (is_finished s.job.state) (Some Why.NotPossible) None)) may
    ∙ ap (λ (b : Bool). cond b (Some Why.NotPossible) None) unfinished)

-- ---- the jobs that a removal names

both : (a b : Bool) → (a && b) ≡ true → (a ≡ true) × (b ≡ true)
both true b is = (refl, is)
both false b is = absurd (true≢false (sym is))

not_true : (b : Bool) → not b ≡ true → b ≡ false
not_true true is = absurd (true≢false (sym is))
not_true false is = refl

named_unfinished : (place : ℕ) (request : RemoveJobs) (job : JobRecord) → is_named place request job ≡ true → (is_finished job.state ≡ false) × (may_remove request.agent job ≡ true)
named_unfinished place request job is =
    let here = job.needs.printer == place in
    let any = list_any (λ operand. names_for request.agent operand job) request.operands.items in
    let all = both (here && not (is_finished job.state) && may_remove request.agent job) any is in
    let three = both (here && not (is_finished job.state)) (may_remove request.agent job) all.0 in
    let two = both here (not (is_finished job.state)) three.0 in
    (not_true (is_finished job.state) two.1, three.1)

-- a finished job isn't named
finished_unnamed : (place : ℕ) (request : RemoveJobs) (job : JobRecord) → is_finished job.state ≡ true → is_named place request job ≡ false
finished_unnamed place request job finished = at (is_named place request job) refl
  where
    at : (b : Bool) → is_named place request job ≡ b → b ≡ false
    at true is = absurd (true≢false (sym finished ∙ (named_unfinished place request job is).0))
    at false is = refl

spool_rises : (state : State) → IsSpool state.spool → Rises (map (λ s. s.job.id) state.spool.jobs)
spool_rises state spool = rises (map (λ s. s.job.id) state.spool.jobs) (AllPairs-from_increasing (map (λ s. s.job.id) state.spool.jobs) spool.rising)

-- the first named job: no check refuses its cancel, and the other jobs are named after it
pub record Next (now place : ℕ) (request : RemoveJobs) (state : State) (id : ℕ) : Type 0 where
  pub is_free : cancel_refusal (remover request.agent) (spooled_at id state.spool.jobs) ≡ None
  pub others : named_jobs place request state ≡ id ∷ named_jobs place request (canceling now id request.agent state)

next_found : (now place : ℕ) (request : RemoveJobs) (state : State) (s : SpooledRecord) → IsSpool state.spool → find (λ s. is_named place request s.job) state.spool.jobs ≡ Some s → Next now place request state s.job.id
next_found now place request state s spool is =
    let test : SpooledRecord → Bool = λ s. is_named place request s.job in
    let jobs = state.spool.jobs in
    let rising = spool_rises state spool in
    let named = named_unfinished place request s.job (found_passes test jobs s is) in
    let change = cancel_by s.job.id request.agent state in
    let after = with_job s.job.id (changed change now) jobs in
    let gone : test (changed change now s) ≡ false = finished_unnamed place request (changed change now s).job (canceled_ends (option_map_or (λ x. canceler_of request.agent x.job) (spooled_at s.job.id jobs) Operator) now s named.0) in
    let left = filter_within test (is_kept after) (λ x passes. unfinished_kept after x (named_unfinished place request x.job passes).0) after in
    record {
      is_free = free (remover request.agent) test jobs s rising is named.1 named.0;
      others = ap (λ (xs : List SpooledRecord). map (λ x. x.job.id) xs) (taken test (changed change now) jobs s rising is gone ∙ ap (λ (xs : List SpooledRecord). s ∷ xs) (sym left));
    }

pub next_named : (now place : ℕ) (request : RemoveJobs) (state : State) (id : ℕ) → IsSpool state.spool → option_map (λ s. s.job.id) (find (λ s. is_named place request s.job) state.spool.jobs) ≡ Some id → Next now place request state id
next_named now place request state id spool is = at (find (λ s. is_named place request s.job) state.spool.jobs) refl is
  where
    at : (o : Option SpooledRecord) → find (λ s. is_named place request s.job) state.spool.jobs ≡ o → option_map (λ s. s.job.id) o ≡ Some id → Next now place request state id
    at None found none = absurd (cc)
    at (Some s) found some = let same : s.job.id ≡ id = cc in subst (λ (n : ℕ). Next now place request state n) same (next_found now place request state s spool found)

pub none_named : (place : ℕ) (request : RemoveJobs) (state : State) → option_map (λ s. s.job.id) (find (λ s. is_named place request s.job) state.spool.jobs) ≡ None → named_jobs place request state ≡ []
none_named place request state is = at (find (λ s. is_named place request s.job) state.spool.jobs) refl is
  where
    at : (o : Option SpooledRecord) → find (λ s. is_named place request s.job) state.spool.jobs ≡ o → option_map (λ s. s.job.id) o ≡ None → named_jobs place request state ≡ []
    at None found none = ap (λ (xs : List SpooledRecord). map (λ s. s.job.id) xs) (none_found (λ s. is_named place request s.job) state.spool.jobs found)
    at (Some s) found some = absurd (cc)

-- ---- the job that is removed if no job is named

busy_unfinished : (state : JobState) → is_printing_or_stopped state ≡ true → is_finished state ≡ false
busy_unfinished Pending is = refl
busy_unfinished PendingHeld is = refl
busy_unfinished Processing is = refl
busy_unfinished Stopped is = refl
busy_unfinished Canceled is = absurd (true≢false (sym is))
busy_unfinished Aborted is = absurd (true≢false (sym is))
busy_unfinished Completed is = absurd (true≢false (sym is))

pub active_free : (place : ℕ) (agent : List ℕ) (state : State) (id : ℕ) → IsSpool state.spool → active_job place agent state ≡ Some id → cancel_refusal (remover agent) (spooled_at id state.spool.jobs) ≡ None
active_free place agent state id spool is = at (find (λ s. is_active place agent s.job) state.spool.jobs) refl is
  where
    at : (o : Option SpooledRecord) → find (λ s. is_active place agent s.job) state.spool.jobs ≡ o → option_map (λ s. s.job.id) o ≡ Some id → cancel_refusal (remover agent) (spooled_at id state.spool.jobs) ≡ None
    at None found none = absurd (cc)
    at (Some s) found some =
        let test : SpooledRecord → Bool = λ s. is_active place agent s.job in
        let same : s.job.id ≡ id = cc in
        let parts = both (is_busy_with place s.job) (may_remove agent s.job) (found_passes test state.spool.jobs s found) in
        let busy = both (s.job.needs.printer == place) (is_printing_or_stopped s.job.state) parts.0 in
        subst (λ (n : ℕ). cancel_refusal (remover agent) (spooled_at n state.spool.jobs) ≡ None) same
        (free (remover agent) test state.spool.jobs s (spool_rises state spool) found parts.1 (busy_unfinished s.job.state busy.1))
