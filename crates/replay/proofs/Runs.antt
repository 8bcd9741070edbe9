-- The result of the lines of a trace without connections is the result of one run of the core over their events.
use Rattle.std.proofs.Common.{◌≡◌, ◌≢◌, ℕ, suc, Bool, true, false, List, [], ◌∷◌, ◌++◌, refl, ap, sym, ◌∙◌, subst, inl, inr, append-nil}
use Rattle.std.specs.Prelude.{map, Some}
use Rattle.std.specs.List.{concat}
use Rattle.std.proofs.lemmas.List.{append_assoc}
use Rattle.std.proofs.lemmas.List.Elements.{All-head, All-tail}
use Rattle.base_types.specs.declared.report.Report.{Report}
use Rattle.base_types.specs.Report.{ReportRecord, report_of}
use Rattle.settings_file.specs.Settings.{ServerSettings, device_names}
use Rattle.print_room.specs.Opening.{opening}
use Rattle.print_room.specs.State.{State}
use Rattle.events.specs.declared.event.Event.{Event}
use Rattle.events.specs.declared.event.Event.TheVariants as Is
use Rattle.events.specs.declared.effects.Effects.{Effects}
use Rattle.dispatcher.specs.declared.run.Timed.{Timed}
use Rattle.dispatcher.specs.Run.{Outcome, Comes, Run}
use Rattle.ipp_operations.specs.declared.parsed_request.ParsedRequest.{ParsedRequest}
use Rattle.ipp_operations.specs.declared.parsed_request.ParsedRequest.TheVariants as Body
use Rattle.ipp_operations.specs.ParsedRequest.{Asks}
use Rattle.ipp_operations.specs.Reply.{refusal_bytes}
use Rattle.server.specs.Ledger.{Ledger, opening_ledger}
use Rattle.server.specs.Law.{IsOneEvent, IsNoEvent, IsServed, IsAtMostOne}
use Rattle.dispatcher.specs.Notes.{Note, Notifies}
use Rattle.server.specs.Polls.{Happening, Polled, Notified, Chosen, seen}
use Rattle.server.specs.Turn.{Outcome as Given, Replied, BadRequest, OutOfMemory, Action, Served_body, Reported, Ticked, Trace, Allows}
use Rattle.server.proofs.Laws.{action_seen, none_seen, seen_apart}
use Rattle.program.specs.Output.{ProgramOutput, output_after}
use Rattle.traces.specs.declared.line.Line.{Line}
use Rattle.traces.specs.declared.line.Line.TheVariants as Form
use Rattle.replay.specs.Log.{note_text, happenings_text}
use Rattle.replay.specs.OneRun.{IsOfNoConnection, SpeaksOfNoConnection, PrintsEach, Part, nothing, then_part, IsOne, BodyMeans, Means, moment_after, IsNoLine, LinesMean, IsOneRun}
use Rattle.replay.specs.Playing.{Standing, IsReplyLine, Plays, may_come, IsBad, LinesPlay}
use Rattle.traces.specs.Printed.{reply_line}
use Rattle.replay.specs.Replay.{LinesGive, start}
use Rattle.traces.specs.TraceLine.{IsDeviceIn, IsLine}
use Rattle.replay.proofs.Requests.{body_replied}

-- ---- what a run observes doesn't depend on what was observed before

printed_after : (texts : Bool) (names : List (List ℕ)) (first before after : List (List ℕ)) (notes : List Note) → Notifies (PrintsEach texts names) before notes after → Notifies (PrintsEach texts names) (first ++ before) notes (first ++ after)
printed_after texts names first before after [] same = ap (λ h. first ++ h) same
printed_after texts names first before after (note ∷ notes) (mid, prints, rest) =
    (first ++ mid, ap (λ h. first ++ h) prints ∙ sym (append_assoc first before (note_text texts names note ∷ [])), printed_after texts names first mid after notes rest)

observed_after : (texts : Bool) (names : List (List ℕ)) (first : List (List ℕ)) (old new : State) (timed : Timed) (outcome : Outcome) (before after : List (List ℕ)) → Comes (PrintsEach texts names) old before timed outcome new after → Comes (PrintsEach texts names) old (first ++ before) timed outcome new (first ++ after)
observed_after texts names first old new timed outcome before after (notes, handled, notified) = (notes, handled, printed_after texts names first before after notes notified)

-- the texts of notes are kept
prints : (texts : Bool) (names : List (List ℕ)) (before : List (List ℕ)) (notes : List Note) → Notifies (PrintsEach texts names) before notes (before ++ map (note_text texts names) notes)
prints texts names before [] = append-nil before
prints texts names before (note ∷ notes) =
    let text = note_text texts names note in
    (before ++ text ∷ [], refl, subst (λ h. Notifies (PrintsEach texts names) (before ++ text ∷ []) notes h) (append_assoc before (text ∷ []) (map (note_text texts names) notes)) (prints texts names (before ++ text ∷ []) notes))

run_after : (texts : Bool) (names : List (List ℕ)) (first : List (List ℕ)) (old new : State) (events : List Timed) (outcomes : List Outcome) (before after : List (List ℕ)) → Run (PrintsEach texts names) old before events outcomes new after → Run (PrintsEach texts names) old (first ++ before) events outcomes new (first ++ after)
run_after texts names first old new [] [] before after (same, silent) = (same, ap (λ h. first ++ h) silent)
run_after texts names first old new (timed ∷ events) (outcome ∷ outcomes) before after (mid, observed, comes, later) =
    (mid, first ++ observed, observed_after texts names first old mid timed outcome before observed comes, run_after texts names first mid new events outcomes observed after later)
run_after texts names first old new [] (outcome ∷ outcomes) before after none = absurd none
run_after texts names first old new (timed ∷ events) [] before after none = absurd none

-- the change of the core by a part
abbrev TakesActions : Bool → List (List ℕ) → Part → State → State → Type 0
TakesActions texts names part old new = Run (PrintsEach texts names) old [] part.events part.outcomes new part.observed

-- one part after another
then_runs : (texts : Bool) (names : List (List ℕ)) (events : List Timed) (outcomes : List Outcome) (before observed : List (List ℕ)) (later : Part) (old mid new : State) → Run (PrintsEach texts names) old before events outcomes mid observed → TakesActions texts names later mid new → Run (PrintsEach texts names) old before (events ++ later.events) (outcomes ++ later.outcomes) new (observed ++ later.observed)
then_runs texts names [] [] before observed later old mid new (same, silent) runs =
    subst (λ s. Run (PrintsEach texts names) s before later.events later.outcomes new (observed ++ later.observed)) same
    (subst (λ h. Run (PrintsEach texts names) mid h later.events later.outcomes new (observed ++ later.observed)) (append-nil observed ∙ silent)
    (run_after texts names observed mid new later.events later.outcomes [] later.observed runs))
then_runs texts names (timed ∷ events) (outcome ∷ outcomes) before observed later old mid new (next, notified, comes, rest) runs =
    (next, notified, comes, then_runs texts names events outcomes notified observed later next mid new rest runs)
then_runs texts names [] (outcome ∷ outcomes) before observed later old mid new none runs = absurd none
then_runs texts names (timed ∷ events) [] before observed later old mid new none runs = absurd none

-- ---- the text printed for an event

notes_text : (texts : Bool) (names : List (List ℕ)) (notes : List Note) → happenings_text texts names (map Notified notes) ≡ concat (map (note_text texts names) notes)
notes_text texts names [] = refl
notes_text texts names (note ∷ notes) = ap (λ t. note_text texts names note ++ t) (notes_text texts names notes)

-- unseen happenings have no text
seen_text : (texts : Bool) (names : List (List ℕ)) (hs : List Happening) → happenings_text texts names (seen hs) ≡ happenings_text texts names hs
seen_text texts names [] = refl
seen_text texts names (Polled poll ∷ hs) = seen_text texts names hs
seen_text texts names (Notified note ∷ hs) = ap (λ t. note_text texts names note ++ t) (seen_text texts names hs)
seen_text texts names (Chosen choice ∷ hs) = seen_text texts names hs

-- an event, its step, and the text printed after its reply
record Happened (texts : Bool) (names : List (List ℕ)) (event : Event) (moment : ℕ) (reply : Effects) (old : State) (text : List ℕ) (new : State) : Type 0 where
  part : Part
  is_one : IsOne event moment reply part
  does : TakesActions texts names part old new
  printed : text ≡ concat part.observed

one_event : (texts : Bool) (names : List (List ℕ)) (event : Event) (moment : ℕ) (reply : Effects) (old : State) (hs : List Happening) (new : State) → IsOneEvent moment event reply old hs new → Happened texts names event moment reply old (happenings_text texts names hs) new
one_event texts names event moment reply old hs new it =
    let observed = map (note_text texts names) it.notes in record {
      part = record { events = record { event = event; moment = moment } ∷ []; outcomes = it.outcome ∷ []; observed = observed };
      is_one = record { outcome = it.outcome; observed = observed; answered = it.answered; whole = it.whole; is = refl };
      does = (new, observed, (it.notes, it.handled, prints texts names [] it.notes), (refl, refl));
      printed = sym (seen_text texts names hs) ∙ ap (happenings_text texts names) it.notified ∙ notes_text texts names it.notes;
    }

-- ---- a body

-- the meaning of a body, and its steps
record BodyMeant (texts : Bool) (names : List (List ℕ)) (asked : ParsedRequest) (moment : ℕ) (old : State) (text : List ℕ) (new : State) : Type 0 where
  part : Part
  answer : List ℕ
  means : BodyMeans asked moment part answer
  does : TakesActions texts names part old new
  printed : text ≡ answer ++ concat part.observed

-- a body that is no event changes nothing
silent : (texts : Bool) (names : List (List ℕ)) (asked : ParsedRequest) (moment : ℕ) (line : List ℕ) (old : State) (hs : List Happening) (new : State) → BodyMeans asked moment nothing line → IsNoEvent old hs new → BodyMeant texts names asked moment old (line ++ happenings_text texts names hs) new
silent texts names asked moment line old hs new means (none, same) = record { part = nothing; answer = line; means = means; does = (same, refl); printed = ap (λ t. line ++ t) (sym (seen_text texts names hs)) ∙ ap (λ h. line ++ happenings_text texts names h) none }

line_of : (line : List ℕ) (answer given : Given) → answer ≡ given → IsReplyLine answer line → IsReplyLine given line
line_of line answer given same replies = subst (λ o. IsReplyLine o line) same replies

body_meant : (texts : Bool) (names : List (List ℕ)) (body : List ℕ) (asked : ParsedRequest) (moment : ℕ) (answer : Given) (line : List ℕ) (old : State) (hs : List Happening) (new : State) → Asks body asked → IsReplyLine answer line → IsServed moment asked answer old hs new → BodyMeant texts names asked moment old (line ++ happenings_text texts names hs) new
body_meant texts names body Body.TooShort moment answer line old hs new asks replies (is, none) = silent texts names Body.TooShort moment line old hs new (refl, line_of line answer BadRequest is replies) none
body_meant texts names body (Body.Refused status request) moment answer line old hs new asks replies (is, none) = silent texts names (Body.Refused status request) moment line old hs new (refl, line_of line answer (Replied (refusal_bytes status request)) is replies) none
body_meant texts names body (Body.Event request event) moment answer line old hs new asks replies (reply, bytes, is, are, one) =
    let done = one_event texts names event moment reply old hs new one in
    let written : line ≡ reply_line bytes = line_of line answer (Replied bytes) is replies in
    record {
      part = done.part;
      answer = reply_line bytes;
      means = (reply, bytes, done.is_one, body_replied body moment request event one.outcome reply bytes old one.notes new asks one.answered one.handled are, refl);
      does = done.does;
      printed = ap (λ t. t ++ happenings_text texts names hs) written ∙ ap (λ t. reply_line bytes ++ t) done.printed;
    }

-- a reply that is printed wasn't refused memory
some_line : (answer : Given) (line : List ℕ) → IsReplyLine answer line → answer ≢ OutOfMemory
some_line answer line replies = λ is. line_of line answer OutOfMemory is replies

-- ---- a line

-- the meaning of the bytes of a line, and their steps
record IsMeant (texts : Bool) (names : List (List ℕ)) (bytes : List ℕ) (old : Standing) (before : State) (text : List ℕ) (new : Standing) (after : State) : Type 0 where
  line : Line
  is : IsLine names bytes line
  part : Part
  answer : List ℕ
  means : Means line old.moment part answer
  does : TakesActions texts names part before after
  moment : new.moment ≡ moment_after line old.moment
  printed : text ≡ answer ++ concat part.observed

-- an event that isn't answered
unanswered : (texts : Bool) (names : List (List ℕ)) (bytes : List ℕ) (event : Event) (line : Line) (reply : Effects) (old new : Standing) (before : State) (hs : List Happening) (after : State) (text : List ℕ) → IsLine names bytes line → text ≡ happenings_text texts names hs → IsOneEvent old.moment event reply before hs after → ((part : Part) → IsOne event old.moment reply part → Means line old.moment part []) → new.moment ≡ moment_after line old.moment → IsMeant texts names bytes old before text new after
unanswered texts names bytes event line reply old new before hs after text is printed one means moment =
    let done = one_event texts names event old.moment reply before hs after one in
    record { line = line; is = is; part = done.part; answer = []; means = means done.part done.is_one; does = done.does; moment = moment; printed = printed ∙ done.printed }

-- a line of a report is also a line of each other report with the same content
names_same : (names : List (List ℕ)) (text : List ℕ) (place : ℕ) (one other : Report) → report_of other ≡ report_of one → IsDeviceIn names text place one → IsDeviceIn names text place other
names_same names text place one other same is = record { name = is.name; line = is.line; cut = is.cut; known = is.known; is_report = is.is_report ∙ ap (λ (r : ReportRecord). Some r) (sym same) }

-- the one action of a line
action_of : (actions : Trace) (action : Action) (old new : Ledger) → actions ≡ action ∷ [] → Allows actions old new → IsAtMostOne action old.core new.core
action_of actions action old new is runs = action_seen action old new (subst (λ d. Allows d old new) is runs)

line_meant : (texts : Bool) (names : List (List ℕ)) (bytes : List ℕ) (line : Line) (old : Standing) (actions : Trace) (text : List ℕ) (new : Standing) (a b : Ledger) → IsOfNoConnection line → IsLine names bytes line → Plays texts names line old actions text new → Allows actions a b → IsMeant texts names bytes old a.core text new b.core
line_meant texts names bytes (Form.At moment) old actions text new a b plain is (none, empty, next) runs =
    let same : b ≡ a = none_seen a b (subst (λ d. Allows d a b) none runs) in
    record { line = Form.At moment; is = is; part = nothing; answer = []; means = (refl, refl); does = (ap (λ (l : Ledger). l.core) same, refl); moment = ap (λ (s : Standing). s.moment) next; printed = empty }
line_meant texts names bytes (Form.Ipp body) old actions text new a b plain is (serves, same) runs =
    let served = action_of actions (Served_body old.moment body.items serves.answer serves.happenings) a b serves.does runs (some_line serves.answer serves.line serves.replies) in
    let meant = body_meant texts names body.items served.0 old.moment serves.answer serves.line a.core serves.happenings b.core served.1 serves.replies served.2 in
    record { line = Form.Ipp body; is = is; part = meant.part; answer = meant.answer; means = (served.0, served.1, meant.means); does = meant.does; moment = ap (λ (s : Standing). s.moment) same; printed = serves.printed ∙ meant.printed }
line_meant texts names bytes (Form.Device device report) old actions text new a b plain (operands, cut, is) (calls, same) runs =
    let did = action_of actions (Reported old.moment device (report_of report) calls.happenings) a b calls.does runs calls.unrefused in
    unanswered texts names bytes (Is.Report device did.0) (Form.Device device did.0) did.2 old new a.core calls.happenings b.core text (operands, cut, names_same names operands device report did.0 did.1 is) calls.printed did.3 (λ part one. (did.2, one, refl)) (ap (λ (s : Standing). s.moment) same)
line_meant texts names bytes Form.Tick old actions text new a b plain is (calls, same) runs =
    let did = action_of actions (Ticked old.moment calls.happenings) a b calls.does runs calls.unrefused in
    unanswered texts names bytes Is.Tick Form.Tick did.0 old new a.core calls.happenings b.core text is calls.printed did.1 (λ part one. (did.0, one, refl)) (ap (λ (s : Standing). s.moment) same)
line_meant texts names bytes (Form.Open connection) old actions text new a b none is plays runs = absurd none
line_meant texts names bytes (Form.In input) old actions text new a b none is plays runs = absurd none
line_meant texts names bytes (Form.End number) old actions text new a b none is plays runs = absurd none

-- a line without a connection may come at any time
comes : (line : Line) (s : Standing) → IsOfNoConnection line → may_come line s ≡ true
comes (Form.At moment) s plain = refl
comes (Form.Ipp body) s plain = refl
comes (Form.Device device report) s plain = refl
comes Form.Tick s plain = refl
comes (Form.Open connection) s none = absurd none
comes (Form.In input) s none = absurd none
comes (Form.End number) s none = absurd none

never : (b : Bool) → b ≡ true → b ≡ false → ⊥
never b first later = let both : true ≡ false = sym first ∙ later in absurd (cc)

is_none : (names : List (List ℕ)) (bytes : List ℕ) (s : Standing) → ((line : Line) → IsLine names bytes line → IsOfNoConnection line) → IsBad names bytes s → IsNoLine names bytes
is_none names bytes s plain (inl none) = none
is_none names bytes s plain (inr (line, is, early)) = absurd (never (may_come line s) (comes line s (plain line is)) early)

-- ---- all lines

-- one run of the core from a state on, and the text printed for the run
record AreMeant (texts : Bool) (names : List (List ℕ)) (number : ℕ) (lines : List (List ℕ)) (moment : ℕ) (old : State) (output : ProgramOutput) : Type 0 where
  part : Part
  new : State
  run : Run (PrintsEach texts names) old [] part.events part.outcomes new part.observed
  printed : LinesMean names number lines moment part output

-- the meaning of a line in a trace without connections
abbrev IsPlain : List (List ℕ) → List ℕ → Type 0
IsPlain names bytes = (line : Line) → IsLine names bytes line → IsOfNoConnection line

lines_meant : (texts : Bool) (names : List (List ℕ)) (number : ℕ) (lines : List (List ℕ)) (old : Standing) (actions : Trace) (output : ProgramOutput) (a b : Ledger) → SpeaksOfNoConnection names lines → LinesPlay texts names number lines old actions output → Allows actions a b → AreMeant texts names number lines old.moment a.core output
lines_meant texts names number [] old actions output a b plain (none, ends) runs = record { part = nothing; new = a.core; run = (refl, refl); printed = (refl, ends) }
lines_meant texts names number (bytes ∷ more) old actions output a b plain (inl (bad, none, refused)) runs =
    record { part = nothing; new = a.core; run = (refl, refl); printed = inl (is_none names bytes old (All-head (IsPlain names) bytes more plain) bad, refl, refused) }
lines_meant texts names number (bytes ∷ more) old actions output a b plain (inr (line, here, text, new, there, rest, is, may, plays, later, whole, printed)) runs =
    let parts = seen_apart here there a b (subst (λ d. Allows d a b) whole runs) in
    let meant = line_meant texts names bytes line old here text new a parts.0 (All-head (IsPlain names) bytes more plain line is) is plays parts.1 in
    let run = lines_meant texts names (suc number) more new there rest parts.0 b (All-tail (IsPlain names) bytes more plain) later parts.2 in
    record {
      part = then_part meant.part run.part;
      new = run.new;
      run = then_runs texts names meant.part.events meant.part.outcomes [] meant.part.observed run.part a.core parts.0.core run.new meant.does run.run;
      printed = inr (
        meant.line,
        meant.part,
        meant.answer,
        run.part,
        rest,
        meant.is,
        meant.means,
        subst (λ m. LinesMean names (suc number) more m run.part rest) meant.moment run.printed,
        refl,
        printed ∙ ap (λ t. output_after t rest) meant.printed,
      );
    }

pub lines_run : (texts : Bool) (settings : ServerSettings) (number : ℕ) (lines : List (List ℕ)) (output : ProgramOutput) → SpeaksOfNoConnection (device_names settings) lines → LinesGive texts settings number lines output → IsOneRun texts settings number lines output
lines_run texts settings number lines output plain gives =
    let run = lines_meant texts (device_names settings) number lines start gives.actions output (opening_ledger (opening settings 1)) gives.ledger plain gives.plays gives.runs in
    record { part = run.part; new = run.new; run = run.run; printed = run.printed }
