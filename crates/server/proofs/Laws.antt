-- The laws of traces.
use Rattle.std.proofs.Common.{◌≡◌, ◌≢◌, ℕ, Bool, true, false, List, [], ◌∷◌, ◌++◌, refl, sym, ◌∙◌, ap, subst, Option, Some, None, inl, inr}
use Rattle.std.specs.Prelude.{if◌then◌else◌, All}
use Rattle.std.proofs.lemmas.List.{append-nil, append_assoc}
use Rattle.std.proofs.lemmas.List.Elements.{All-append, All-cons, All-nil}
use Rattle.print_room.specs.State.{State}
use Rattle.events.specs.declared.event.Event.{Event}
use Rattle.events.specs.declared.event.Event.TheVariants as Is
use Rattle.events.specs.declared.effects.Effects.{Effects}
use Rattle.dispatcher.specs.declared.run.Timed.{Timed}
use Rattle.dispatcher.specs.Run.{Outcome, effects_of, Comes, Run}
use Rattle.dispatcher.specs.Step.{TakesNoMemory}
use Rattle.ipp_operations.specs.declared.parsed_request.ParsedRequest.{ParsedRequest}
use Rattle.ipp_operations.specs.declared.parsed_request.ParsedRequest.TheVariants as asks
use Rattle.ipp_operations.specs.ParsedRequest.{Asks}
use Rattle.dispatcher.specs.Notes.{Note, Notifies}
use Rattle.server.specs.Polls.{Happening, Polled, Notified, Chosen, seen}
use Rattle.server.specs.Ledger.{Ledger, Fate, opening_ledger}
use Rattle.server.specs.Rel.{Rel}
use Rattle.server.specs.Closing.{IsTaken}
use Rattle.server.specs.Turn as Between
use Rattle.server.specs.Turn.{has_refusal, Outcome as Given, Replied, OutOfMemory, IsBytes, Answers, BodyAsks, BodyComes, Action, Turned, Served_body, Reported, Ticked, seen_of, seen_in, DoesAction, Trace, Runs, Allows}
use Rattle.server.specs.Law.{core_notes, Collects, moment_of, happenings_of, happenings_in, AreAt, IsWhole, IsOneRun, IsOneEvent, IsServed, IsAtMostOne, AllTaken}
use Rattle.dispatcher.specs.declared.observer.AllocationSite.TheVariants as At
use Rattle.server.proofs.Steps.{seen_refusal}
use Rattle.server.proofs.LaterNotes.{notes_append, no_refusal_notified, none_before, none_after, Happened, happened_whole, happened, happened_then, whole_light, whole_notified}
use Rattle.server.proofs.Parts.{calm_answers, ticked, Holds, action_in}
use Rattle.connections.specs.Entry.{Entry}

-- ---- the bytes that were taken of closed connections

-- if the bytes of all closed connections were taken before, they are taken after too
abbrev StaysTaken : Rel
StaysTaken l hs l' = AllTaken l.closed → AllTaken l'.closed

same_closed : (l l' : Ledger) → l'.closed ≡ l.closed → AllTaken l.closed → AllTaken l'.closed
same_closed l l' same all = subst AllTaken (sym same) all

one_more : (closed : List (Entry × Fate)) (e : Entry) (fate : Fate) → IsTaken fate e → AllTaken closed → AllTaken (closed ++ (e, fate) ∷ [])
one_more closed e fate is all = All-append (λ (it : Entry × Fate). IsTaken it.1 it.0) closed ((e, fate) ∷ []) all (All-cons (λ (it : Entry × Fate). IsTaken it.1 it.0) (e, fate) [] is (All-nil (λ (it : Entry × Fate). IsTaken it.1 it.0)))

stays_taken : (moment : ℕ) → Holds moment StaysTaken
stays_taken moment = record {
  calm = λ l hs l' it all. same_closed l l' it.closed all;
  event = λ l hs l' it all. same_closed l l' it.closed all;
  leaves = λ fate key e l hs l' it all. subst AllTaken (sym (ap (λ (x : Ledger). x.closed) it.2)) (one_more l.closed e fate it.1 all);
  chain = λ l prefix mid back l' p q all. q (p all);
}

taken_on : (trace : Trace) (old new : Ledger) → Runs trace old new → AllTaken old.closed → AllTaken new.closed
taken_on [] old new same all = same_closed old new (ap (λ (x : Ledger). x.closed) same) all
taken_on (action ∷ actions) old new (mid, refines, runs) all = taken_on actions mid new runs (action_in StaysTaken action (stays_taken (moment_of action)) old mid refines all)

pub all_taken : (opening : State) (trace : Trace) (ledger : Ledger) → Runs trace (opening_ledger opening) ledger → AllTaken ledger.closed
all_taken opening trace ledger runs = taken_on trace (opening_ledger opening) ledger runs (All-nil (λ (it : Entry × Fate). IsTaken it.1 it.0))

-- ---- one run of the core

notifies_after : (first before after notes : List Note) → Notifies Collects before notes after → Notifies Collects (first ++ before) notes (first ++ after)
notifies_after first before after [] same = ap (λ (ns : List Note). first ++ ns) same
notifies_after first before after (note ∷ notes) (mid, is, rest) =
    (first ++ mid, ap (λ (ns : List Note). first ++ ns) is ∙ sym (append_assoc first before (note ∷ [])), notifies_after first mid after notes rest)

comes_after : (first before after : List Note) (old new : State) (timed : Timed) (outcome : Outcome) → Comes Collects old before timed outcome new after → Comes Collects old (first ++ before) timed outcome new (first ++ after)
comes_after first before after old new timed outcome (notes, handled, notified) = (notes, handled, notifies_after first before after notes notified)

-- the observer that collects notes has all notes that it is notified
collected : (before notes : List Note) → Notifies Collects before notes (before ++ notes)
collected before [] = append-nil before
collected before (note ∷ notes) = (before ++ note ∷ [], refl, subst (λ (ns : List Note). Notifies Collects (before ++ note ∷ []) notes ns) (append_assoc before (note ∷ []) notes) (collected (before ++ note ∷ []) notes))

run_after : (first before after : List Note) (old new : State) (events : List Timed) (outcomes : List Outcome) → Run Collects old before events outcomes new after → Run Collects old (first ++ before) events outcomes new (first ++ after)
run_after first before after old new [] [] (same, silent) = (same, ap (λ (ns : List Note). first ++ ns) silent)
run_after first before after old new (timed ∷ events) (outcome ∷ outcomes) (mid, noted, comes, later) =
    (mid, first ++ noted, comes_after first before noted old mid timed outcome comes, run_after first noted after mid new events outcomes later)
run_after first before after old new [] (outcome ∷ outcomes) none = absurd none
run_after first before after old new (timed ∷ events) [] none = absurd none

run_then : (before noted more : List Note) (old mid new : State) (events later : List Timed) (outcomes others : List Outcome) → Run Collects old before events outcomes mid noted → Run Collects mid [] later others new more → Run Collects old before (events ++ later) (outcomes ++ others) new (noted ++ more)
run_then before noted more old mid new [] later [] others (same, silent) runs =
    subst (λ (s : State). Run Collects s before later others new (noted ++ more)) same
    (subst (λ (ns : List Note). Run Collects mid ns later others new (noted ++ more)) (append-nil noted ∙ silent)
    (run_after noted [] more mid new later others runs))
run_then before noted more old mid new (timed ∷ events) later (outcome ∷ outcomes) others (next, notified, comes, rest) runs =
    (next, notified, comes, run_then notified noted more next mid new events later outcomes others rest runs)
run_then before noted more old mid new [] later (outcome ∷ outcomes) others none runs = absurd none
run_then before noted more old mid new (timed ∷ events) later [] others none runs = absurd none

-- the happenings are a run of events at one moment
record IsRunAt (moment : ℕ) (l : Ledger) (hs : List Happening) (l' : Ledger) : Type 0 where
  events : List Timed
  outcomes : List Outcome
  timed : AreAt moment events
  run : Run Collects l.core [] events outcomes l'.core (core_notes hs)
  whole : has_refusal hs ≡ false → All IsWhole outcomes

-- if no memory was refused in two lists of happenings, none was refused to the events of both lists
whole_then : (hs ks : List Happening) (outcomes others : List Outcome) → (has_refusal hs ≡ false → All IsWhole outcomes) → (has_refusal ks ≡ false → All IsWhole others) → has_refusal (hs ++ ks) ≡ false → All IsWhole (outcomes ++ others)
whole_then hs ks outcomes others p q none = All-append IsWhole outcomes others (p (none_before (hs ++ ks) hs ks refl none)) (q (none_after (hs ++ ks) hs ks refl none))

no_event : (moment : ℕ) (l : Ledger) (hs : List Happening) (l' : Ledger) → l'.core ≡ l.core → core_notes hs ≡ [] → IsRunAt moment l hs l'
no_event moment l hs l' same notes = record { events = []; outcomes = []; timed = All-nil (λ (timed : Timed). timed.moment ≡ moment); run = (same, notes); whole = λ none. All-nil IsWhole }

is_run : (moment : ℕ) → Holds moment (IsRunAt moment)
is_run moment = record {
  calm = λ l hs l' it. no_event moment l hs l' it.core it.notes;
  event = λ l hs l' it.
      let timed : Timed = record { event = it.event; moment = moment } in
      record {
        events = timed ∷ [];
        outcomes = it.outcome ∷ [];
        timed = All-cons (λ (t : Timed). t.moment ≡ moment) timed [] refl (All-nil (λ (t : Timed). t.moment ≡ moment));
        run = (l'.core, core_notes hs, (core_notes hs, it.handled, collected [] (core_notes hs)), (refl, refl));
        whole = λ none. All-cons IsWhole it.outcome [] (it.whole none) (All-nil IsWhole);
      };
  leaves = λ fate key e l hs l' it. no_event moment l hs l' (ap (λ (x : Ledger). x.core) it.2) (ap core_notes it.0);
  chain = λ l prefix mid back l' p q.
      record {
        events = p.events ++ q.events;
        outcomes = p.outcomes ++ q.outcomes;
        timed = All-append (λ (t : Timed). t.moment ≡ moment) p.events q.events p.timed q.timed;
        run = subst (λ (ns : List Note). Run Collects l.core [] (p.events ++ q.events) (p.outcomes ++ q.outcomes) l'.core ns) (sym (notes_append prefix back))
            (run_then [] (core_notes prefix) (core_notes back) l.core mid.core l'.core p.events q.events p.outcomes q.outcomes p.run q.run);
        whole = λ none. whole_then prefix back p.outcomes q.outcomes p.whole q.whole none;
      };
}

pub one_run : (trace : Trace) (old new : Ledger) → Runs trace old new → IsOneRun trace old.core new.core
one_run [] old new same = record { events = []; outcomes = []; timed = refl; run = (ap (λ (x : Ledger). x.core) same, refl); whole = λ none. All-nil IsWhole }
one_run (action ∷ actions) old new (mid, refines, runs) =
    let first = action_in (IsRunAt (moment_of action)) action (is_run (moment_of action)) old mid refines in
    let later = one_run actions mid new runs in
    record {
      events = first.events ++ later.events;
      outcomes = first.outcomes ++ later.outcomes;
      timed = (first.events, later.events, refl, first.timed, later.timed);
      run = subst (λ (ns : List Note). Run Collects old.core [] (first.events ++ later.events) (first.outcomes ++ later.outcomes) new.core ns) (sym (notes_append (happenings_of action) (happenings_in actions)))
          (run_then [] (core_notes (happenings_of action)) (core_notes (happenings_in actions)) old.core mid.core new.core first.events later.events first.outcomes later.outcomes first.run later.run);
      whole = λ none. whole_then (happenings_of action) (happenings_in actions) first.outcomes later.outcomes first.whole later.whole none;
    }

-- ---- one event in an action

one_event : (moment : ℕ) (event : Event) (outcome : Outcome) (reply : Effects) (l : Ledger) (hs : List Happening) (l' : Ledger) → has_refusal hs ≡ false → IsWhole outcome → effects_of outcome ≡ Some reply → Happened moment event outcome l hs l' → IsOneEvent moment event reply l.core hs l'.core
one_event moment event outcome reply l hs l' none whole is it =
    record { outcome = outcome; notes = it.notes; answered = is; whole = whole; handled = it.handled; notified = happened_whole moment event outcome l hs l' it none }

-- an event has a reply if neither the event nor its dispatch was refused memory
reply_there : (outcome : Outcome) → IsWhole outcome → (reply : Effects) × (effects_of outcome ≡ Some reply)
reply_there (Some handled) whole = (handled.effects, refl)
reply_there None whole = absurd whole

-- the happenings of an event that takes no memory are one event
light_event : (moment : ℕ) (event : Event) (outcome : Outcome) (l : Ledger) (hs : List Happening) (l' : Ledger) → TakesNoMemory event moment l.core → has_refusal hs ≡ false → Happened moment event outcome l hs l' → (reply : Effects) × IsOneEvent moment event reply l.core hs l'.core
light_event moment event outcome l hs l' light none it =
    let whole = whole_light moment event outcome l hs l' it light none in
    let there = reply_there outcome whole in
    (there.0, one_event moment event outcome there.0 l hs l' none whole there.1 it)

-- the bytes of a reply, if no memory was refused
are_bytes : (request : ℕ) (reply : Option Effects) (bytes : List ℕ) (l : Ledger) (hs : List Happening) (l' : Ledger) → has_refusal hs ≡ false → Answers request reply bytes l hs l' → (it : Effects) × (reply ≡ Some it) × IsBytes request it.response bytes
are_bytes request (Some reply) bytes l hs l' none (inl (are, it)) = (reply, refl, are)
are_bytes request (Some reply) bytes l hs l' none (inr it) = no_refusal_notified hs At.Reply None none it.0
are_bytes request None bytes l hs l' none it = no_refusal_notified hs At.Event None none it.0

event_served : (moment request : ℕ) (event : Event) (bytes : List ℕ) (answer : Given) (l : Ledger) (hs : List Happening) (l' : Ledger) → has_refusal hs ≡ false → answer ≡ Replied bytes → Between.IsAnswered moment request event bytes l hs l' → IsServed moment (asks.Event request event) answer l.core hs l'.core
event_served moment request event bytes answer l hs l' none is (outcome, it) =
    let came = happened_then moment event outcome (Answers request (effects_of outcome) bytes) (calm_answers request (effects_of outcome) bytes) l hs l' it in
    let whole = whole_notified moment event outcome (λ reply. Answers request reply bytes) (λ a ks b notified. ap has_refusal notified.0) l hs l' it came none in
    let are = are_bytes request (effects_of outcome) bytes it.mid it.back l' (none_after hs it.prefix it.back it.whole none) it.second in
    (are.0, bytes, is, are.2, one_event moment event outcome are.0 l hs l' none whole are.1 came)

is_served : (moment : ℕ) (asked : ParsedRequest) (served answer : Given) (l : Ledger) (hs : List Happening) (l' : Ledger) → has_refusal hs ≡ false → answer ≡ served → BodyAsks moment asked served l hs l' → IsServed moment asked answer l.core hs l'.core
is_served moment asks.TooShort served answer l hs l' none same (is, it) = (same ∙ is, (ap seen it.0, ap (λ (x : Ledger). x.core) it.1))
is_served moment (asks.Refused status request) served answer l hs l' none same (is, inl it) = (same ∙ is, (ap seen it.0, ap (λ (x : Ledger). x.core) it.1))
is_served moment (asks.Refused status request) served answer l hs l' none same (is, inr it) = no_refusal_notified hs At.Reply None none it.0
is_served moment (asks.Event request event) served answer l hs l' none same (bytes, is, it) = event_served moment request event bytes answer l hs l' none (same ∙ is) it

-- if the outcome isn't out of memory, no memory was refused
not_refused : (refused : Bool) (served answer : Given) → answer ≡ (if refused then OutOfMemory else served) → answer ≢ OutOfMemory → (refused ≡ false) × (answer ≡ served)
not_refused true served answer is some = absurd (some is)
not_refused false served answer is some = (refl, is)

-- `IsServed` depends only on the happenings that a wire and an observer see
served_seen : (moment : ℕ) (asked : ParsedRequest) (answer : Given) (old : State) (hs ks : List Happening) (new : State) → seen ks ≡ seen hs → IsServed moment asked answer old hs new → IsServed moment asked answer old ks new
served_seen moment asks.TooShort answer old hs ks new same (is, it) = (is, (same ∙ it.0, it.1))
served_seen moment (asks.Refused status request) answer old hs ks new same (is, it) = (is, (same ∙ it.0, it.1))
served_seen moment (asks.Event request event) answer old hs ks new same (reply, bytes, is, are, one) =
    (reply, bytes, is, are, record { outcome = one.outcome; notes = one.notes; answered = one.answered; whole = one.whole; handled = one.handled; notified = same ∙ one.notified })

body_served : (moment : ℕ) (body : List ℕ) (served answer : Given) (l : Ledger) (hs : List Happening) (l' : Ledger) → has_refusal hs ≡ false → answer ≡ served → BodyComes moment body served l hs l' → (asked : ParsedRequest) × Asks body asked × IsServed moment asked answer l.core hs l'.core
body_served moment body served answer l hs l' none same (inl (asked, are, it)) =
    let after = is_served moment asked served answer it.mid it.back l' (none_after hs it.prefix it.back it.whole none) same it.second in
    let core : it.mid.core ≡ l.core = ap (λ (x : Ledger). x.core) it.first.1 in
    let sight : seen hs ≡ seen it.back = ap seen (it.whole ∙ ap (λ (ks : List Happening). ks ++ it.back) it.first.0) in
    (asked, are, served_seen moment asked answer l.core it.back hs l'.core sight (subst (λ (s : State). IsServed moment asked answer s it.back l'.core) core after))
body_served moment body served answer l hs l' none same (inr it) = no_refusal_notified hs At.Event None none it.0

pub at_most_one : (action : Action) (old new : Ledger) → DoesAction action old new → IsAtMostOne action old.core new.core
at_most_one (Turned moment hs) old new it = tt
at_most_one (Served_body moment body answer hs) old new (served, is, it) =
    λ some. let known = not_refused (has_refusal hs) served answer is some in body_served moment body served answer old hs new known.0 known.1 it
at_most_one (Reported moment device parsed hs) old new (report, is, (outcome, it)) =
    λ none. let one = light_event moment (Is.Report device report) outcome old hs new tt none (happened moment (Is.Report device report) outcome old hs new it) in (report, is, one.0, one.1)
at_most_one (Ticked moment hs) old new it = λ none. let tick = ticked moment old hs new it in light_event moment Is.Tick tick.0 old hs new tt none tick.1

-- ---- traces as a wire and an observer see them

seen_again : (hs : List Happening) → seen (seen hs) ≡ seen hs
seen_again [] = refl
seen_again (Polled poll ∷ hs) = ap (λ (xs : List Happening). Polled poll ∷ xs) (seen_again hs)
seen_again (Notified note ∷ hs) = ap (λ (xs : List Happening). Notified note ∷ xs) (seen_again hs)
seen_again (Chosen choice ∷ hs) = seen_again hs

event_seen : (moment : ℕ) (event : Event) (reply : Effects) (old : State) (hs : List Happening) (new : State) → IsOneEvent moment event reply old hs new → IsOneEvent moment event reply old (seen hs) new
event_seen moment event reply old hs new one = record { outcome = one.outcome; notes = one.notes; answered = one.answered; whole = one.whole; handled = one.handled; notified = seen_again hs ∙ one.notified }

one_seen : (action : Action) (old new : State) → IsAtMostOne action old new → IsAtMostOne (seen_of action) old new
one_seen (Turned moment hs) old new one = tt
one_seen (Served_body moment body answer hs) old new one = λ some. let it = one some in (it.0, it.1, served_seen moment it.0 answer old hs (seen hs) new (seen_again hs) it.2)
one_seen (Reported moment device parsed hs) old new one = λ none. let it = one (sym (seen_refusal hs) ∙ none) in (it.0, it.1, it.2, event_seen moment (Is.Report device it.0) it.2 old hs new it.3)
one_seen (Ticked moment hs) old new one = λ none. let it = one (sym (seen_refusal hs) ∙ none) in (it.0, event_seen moment Is.Tick it.0 old hs new it.1)

-- the law of an action, for a trace of one action
pub action_seen : (action : Action) (old new : Ledger) → Allows (action ∷ []) old new → IsAtMostOne action old.core new.core
action_seen action old new ([], is, runs) = let never : [] ≡ action ∷ [] = is in cc
action_seen action old new (whole ∷ [], is, (mid, refines, same)) =
    let one = one_seen whole old.core mid.core (at_most_one whole old mid refines) in
    let action_is : seen_of whole ≡ action = let both : seen_of whole ∷ [] ≡ action ∷ [] = is in cc in
    subst (λ (d : Action). IsAtMostOne d old.core new.core) action_is (subst (λ (l : Ledger). IsAtMostOne (seen_of whole) old.core l.core) (sym same) one)
action_seen action old new (whole ∷ (next ∷ more), is, runs) = let never : seen_of whole ∷ (seen_of next ∷ seen_in more) ≡ action ∷ [] = is in cc

-- the empty trace leaves the ledger unchanged
pub none_seen : (old new : Ledger) → Allows [] old new → new ≡ old
none_seen old new ([], is, same) = same
none_seen old new (whole ∷ more, is, runs) = let never : seen_of whole ∷ seen_in more ≡ [] = is in cc

-- two traces, one after the other, are seen one after the other
pub seen_apart : (here there : Trace) (old new : Ledger) → Allows (here ++ there) old new → (mid : Ledger) × Allows here old mid × Allows there mid new
seen_apart [] there old new allows = (old, ([], refl, refl), allows)
seen_apart (action ∷ here) there old new ([], is, runs) = let never : [] ≡ action ∷ (here ++ there) = is in cc
seen_apart (action ∷ here) there old new (whole ∷ more, is, (next, refines, runs)) =
    let head : seen_of whole ≡ action = let both : seen_of whole ∷ seen_in more ≡ action ∷ (here ++ there) = is in cc in
    let tail : seen_in more ≡ here ++ there = let both : seen_of whole ∷ seen_in more ≡ action ∷ (here ++ there) = is in cc in
    let parts = seen_apart here there next new (more, tail, runs) in
    (parts.0, (whole ∷ parts.1.0, ap (λ (d : Action). d ∷ seen_in parts.1.0) head ∙ ap (λ (t : Trace). action ∷ t) parts.1.1, (next, refines, parts.1.2)), parts.2)
