-- The state of the reader is that of the contents of the lines so far, and it is in range.
use Rattle.std.proofs.Common.{◌≡◌, ◌==◌, ◌&&◌, ℕ, ℤ, zero, suc, ◌+◌, ◌-◌, ◌<◌, ◌≤◌, Bool, true, not, List, [], ◌∷◌, ◌++◌, length, take, All, IsTrue, IfOk, ◌↔◌, Option, Result, Ok, Err, if◌then◌else◌, nat_lt, slice_index_or, refl, sym, ap, ◌∙◌, subst, inl, inr, arith, append_assoc, append-nil, length-append}
use Rattle.std.specs.Str.{bytes_eq}
use Rattle.std.specs.List.{join_with_byte}
use Rattle.std.proofs.lemmas.Bool.{and_parts, eqb-true, not-false}
use Rattle.std.proofs.lemmas.Bool.Decides.{nat_tests}
use Rattle.std.proofs.lemmas.List.Elements.{All-append, All-cons, All-nil}
use Rattle.std.proofs.lemmas.List.Splits.{join_with_byte-slice_split}
use Rattle.base_types.specs.declared.limits.TheConstants.Limits.{HIGHEST_PRIORITY, DEFAULT_PRIORITY, UNFINISHED_JOBS, DEVICES, AMOUNT}
use Rattle.base_types.specs.declared.needs.Stranded.{Stranded}
use Rattle.base_types.specs.Forms.{is_name}
use Rattle.base_types.specs.Ranges.{IsJobId, IsPriority}
use Rattle.plan_prices.specs.declared.plan.PlannedClass.{PlannedClass}
use Rattle.text.specs.Steps.{◌>>=◌}
use Rattle.text.specs.Parts.{words_of, texts_of}
use Rattle.text.proofs.Chains.{went_on}
use Rattle.plan_text.specs.declared.fault.TextFault.{TextFault}
use Rattle.plan_text.specs.declared.fault.TextFault.TheVariants.{BadLine, OutOfRange, NoEnd}
use Rattle.plan_text.specs.declared.stage.Stage.{Stage}
use Rattle.plan_text.specs.declared.stage.Stage.TheVariants as stages
use Rattle.plan_text.specs.declared.fault.ReadError.{ReadError}
use Rattle.plan_text.specs.Reading.{Gives}
use Rattle.plan_text.specs.TextOf.{IsTextOf}
use Rattle.plan_text.specs.NamedPlan.{NamedPlan}
use Rattle.plan_text.specs.Line.{PlanLine, HeadLine, DeviceLine, ClassLine, JobLine, WaitLine, WayLine, TotalLine, JobPricesLine, PlacePricesLine, StrandedLine, EndLine, line_at}
use Rattle.plan_text.specs.Steps.{DraftRecord, Opened, stage_number, is_at, one_each, is_named, may_have, plan_next, device_next, is_problem, problem_of, planned, opened_at, opened_kept, closed, class_opened, class_next, job_next, wait_next, way_next, total_next, job_prices_next, place_prices_next, classes_over, stranded_added, stranded_next, end_next, next}
use Rattle.plan_text.specs.Whole.{line_next, lines_next, empty_draft, plan_of, ended, plan_from, plan_in, plan_at}
use Rattle.plan_text.specs.Writing.{line_text, lines_text, job_lines, way_lines, place_price_lines, class_lines, device_lines, stranded_lines, classes_lines, plan_lines, plan_text}
use Rattle.plan_text.specs.Ranges.{IsPrice, IsClassInRange, PrioritiesFall, StrandedRise, jobs_in, IsPlanInRange}
use Rattle.plan_text.proofs.Problems.{problem_from}
use Rattle.plan_text.proofs.Lines.{lines_append}
use Rattle.plan_text.proofs.Sound.{ok, ok_is, taken, passed, either}
use Rattle.plan_text.proofs.LinesReadBack.{ParsedInRange, feed}
use Rattle.plan_text.proofs.Back.{with_devices, plan_back}
use Rattle.plan_text.proofs.Spelt.{same_bytes, line_spelt}

-- ---- the stages

stage_of : ℕ → Stage
stage_of n =
    if n == 0 then stages.Start
    else if n == 1 then stages.Devices
    else if n == 2 then stages.Jobs
    else if n == 3 then stages.Ways
    else if n == 4 then stages.JobPrices
    else if n == 5 then stages.PlacePrices
    else if n == 6 then stages.Stranded
    else stages.Ended

stage_back : (stage : Stage) → stage_of (stage_number stage) ≡ stage
unfolding stage_of
stage_back stages.Start = refl
stage_back stages.Devices = refl
stage_back stages.Jobs = refl
stage_back stages.Ways = refl
stage_back stages.JobPrices = refl
stage_back stages.PlacePrices = refl
stage_back stages.Stranded = refl
stage_back stages.Ended = refl

stage_is : (draft : DraftRecord) (stage : Stage) → is_at draft stage ≡ true → draft.stage ≡ stage
stage_is draft stage h = sym (stage_back draft.stage) ∙ ap stage_of (eqb-true (stage_number draft.stage) (stage_number stage) h) ∙ stage_back stage

lower : (m n : ℕ) → nat_lt m n ≡ true → m < n
lower m n h = grind (arith, nat_tests)

-- ---- the lines of the reader's state

-- the devices and the classes
abbrev prefix : DraftRecord → List PlanLine
prefix draft = HeadLine ∷ (device_lines draft.devices ++ classes_lines draft.devices draft.classes)

-- the parts of the class that is being read
abbrev job_part : Opened → List PlanLine
job_part o = ClassLine o.priority ∷ job_lines o.ids o.rows

abbrev way_part : List (List ℕ) → Opened → List PlanLine
way_part devices o = WaitLine o.waits ∷ way_lines devices o.queues

abbrev drafted_at : Stage → DraftRecord → List PlanLine
drafted_at stages.Start h = []
drafted_at stages.Devices h = prefix h
drafted_at stages.Jobs h = prefix h ++ job_part h.opened
drafted_at stages.Ways h = prefix h ++ (job_part h.opened ++ way_part h.devices h.opened)
drafted_at stages.JobPrices h = prefix h ++ (job_part h.opened ++ (way_part h.devices h.opened ++ (TotalLine h.opened.total ∷ [])))
drafted_at stages.PlacePrices h = prefix h ++ (job_part h.opened ++ (way_part h.devices h.opened ++ (TotalLine h.opened.total ∷ JobPricesLine h.opened.job_prices ∷ place_price_lines h.devices h.opened.place_prices)))
drafted_at stages.Stranded h = prefix h ++ stranded_lines h.stranded
drafted_at stages.Ended h = prefix h ++ (stranded_lines h.stranded ++ (EndLine ∷ []))

-- ---- it is in range

-- the priorities fall, the first below a number, and another is below them all
abbrev FallsBefore : ℕ → List PlannedClass → ℕ → Type 0
FallsBefore top [] p = p < top
FallsBefore top (c ∷ classes) p = (c.priority < top) × FallsBefore c.priority classes p

-- the ids rise, the first above a number, and another is above them all
abbrev RisesBefore : ℕ → List Stranded → ℕ → Type 0
RisesBefore above [] id = above < id
RisesBefore above (s ∷ stranded) id = (above < s.job) × RisesBefore s.job stranded id

record IsPrefix (h : DraftRecord) : Type 0 where
  pub few_devices : length h.devices ≤ DEVICES
  pub names : All (λ name. IsTrue (is_name name)) h.devices
  pub classes : All (IsClassInRange (length h.devices)) h.classes
  pub fall : PrioritiesFall (HIGHEST_PRIORITY + 1) h.classes

record IsWithin (h : DraftRecord) : Type 0 where
  pub prefix : IsPrefix h
  pub priority : IsPriority h.opened.priority
  pub before : FallsBefore (HIGHEST_PRIORITY + 1) h.classes h.opened.priority
  pub below : h.below ≡ h.opened.priority
  pub ids : All IsJobId h.opened.ids
  pub rows : length h.opened.rows ≡ length h.opened.ids
  pub queues : All (All IsJobId) h.opened.queues
  pub total : h.opened.total ≤ AMOUNT
  pub job_prices : All IsPrice h.opened.job_prices
  pub place_prices : All (All IsPrice) h.opened.place_prices
  pub no_stranded : h.stranded ≡ []
  pub count : h.jobs ≡ jobs_in h.classes + length h.opened.ids
  pub few : h.jobs ≤ UNFINISHED_JOBS

record IsOver (h : DraftRecord) : Type 0 where
  pub prefix : IsPrefix h
  pub stranded : All (λ s. IsJobId s.job) h.stranded
  pub rise : StrandedRise 0 h.stranded
  pub above : (id : ℕ) → h.last < id → RisesBefore 0 h.stranded id
  pub count : h.jobs ≡ jobs_in h.classes + length h.stranded
  pub few : h.jobs ≤ UNFINISHED_JOBS

abbrev Facts : Stage → DraftRecord → Type 0
Facts stages.Start h = h ≡ empty_draft DEFAULT_PRIORITY
Facts stages.Devices h = (h ≡ with_devices h.devices) × (length h.devices ≤ DEVICES) × All (λ name. IsTrue (is_name name)) h.devices
Facts stages.Jobs h = IsWithin h × (h.opened.queues ≡ []) × (h.opened.place_prices ≡ [])
Facts stages.Ways h = IsWithin h × (length h.opened.waits ≡ length h.devices) × (h.opened.place_prices ≡ [])
Facts stages.JobPrices h = IsWithin h × (length h.opened.waits ≡ length h.devices) × (length h.opened.queues ≡ length h.devices) × (h.opened.place_prices ≡ [])
Facts stages.PlacePrices h = IsWithin h × (length h.opened.waits ≡ length h.devices) × (length h.opened.queues ≡ length h.devices)
Facts stages.Stranded h = IsOver h
Facts stages.Ended h = IsOver h

abbrev TellsAt : Stage → List PlanLine → DraftRecord → Type 0
TellsAt stage lines h = (lines ≡ drafted_at stage h) × Facts stage h

-- the state of the reader is that of exactly these lines
abbrev Drafts : List PlanLine → DraftRecord → Type 0
Drafts lines h = TellsAt h.stage lines h

tells_at : (stage : Stage) (lines : List PlanLine) (h : DraftRecord) → is_at h stage ≡ true → Drafts lines h → TellsAt stage lines h
tells_at stage lines h is t = subst (λ s. TellsAt s lines h) (stage_is h stage is) t

abbrev WouldDraft : List PlanLine → PlanLine → DraftRecord → Type 0
WouldDraft lines parsed new = Drafts (lines ++ parsed ∷ []) new

-- a line after this number of parts

behind1 : (a b : List PlanLine) (parsed : PlanLine) → (a ++ b) ++ parsed ∷ [] ≡ a ++ (b ++ parsed ∷ [])
behind1 a b parsed = append_assoc a b (parsed ∷ [])

behind2 : (a b c : List PlanLine) (parsed : PlanLine) → (a ++ (b ++ c)) ++ parsed ∷ [] ≡ a ++ (b ++ (c ++ parsed ∷ []))
behind2 a b c parsed = behind1 a (b ++ c) parsed ∙ ap (λ l. a ++ l) (behind1 b c parsed)

behind3 : (a b c d : List PlanLine) (parsed : PlanLine) → (a ++ (b ++ (c ++ d))) ++ parsed ∷ [] ≡ a ++ (b ++ (c ++ (d ++ parsed ∷ [])))
behind3 a b c d parsed = behind2 a b (c ++ d) parsed ∙ ap (λ l. a ++ (b ++ l)) (behind1 c d parsed)

-- ---- one more of each

devices_more : (names : List (List ℕ)) (name : List ℕ) → device_lines (names ++ name ∷ []) ≡ device_lines names ++ DeviceLine name ∷ []
devices_more [] name = refl
devices_more (first ∷ names) name = ap (λ l. DeviceLine first ∷ l) (devices_more names name)

classes_more : (devices : List (List ℕ)) (classes : List PlannedClass) (c : PlannedClass) → classes_lines devices (classes ++ c ∷ []) ≡ classes_lines devices classes ++ class_lines devices c
classes_more devices [] c = append-nil (class_lines devices c)
classes_more devices (first ∷ classes) c = ap (λ l. class_lines devices first ++ l) (classes_more devices classes c) ∙ sym (append_assoc (class_lines devices first) (classes_lines devices classes) (class_lines devices c))

jobs_more : (ids : List ℕ) (rows : List (List (Option ℕ))) (id : ℕ) (row : List (Option ℕ)) → length rows ≡ length ids → job_lines (ids ++ id ∷ []) (rows ++ row ∷ []) ≡ job_lines ids rows ++ JobLine id row ∷ []
jobs_more [] [] id row e = refl
jobs_more [] (first ∷ rows) id row e = absurd (omega (arith, e))
jobs_more (first ∷ ids) [] id row e = absurd (omega (arith, e))
jobs_more (first ∷ ids) (second ∷ rows) id row e = ap (λ l. JobLine first second ∷ l) (jobs_more ids rows id row (omega (arith, e)))

ways_none : (devices : List (List ℕ)) → way_lines devices [] ≡ []
ways_none [] = refl
ways_none (device ∷ devices) = refl

ways_more : (devices queues : List (List ℕ)) (jobs : List ℕ) → length queues < length devices → way_lines devices (queues ++ jobs ∷ []) ≡ way_lines devices queues ++ WayLine (slice_index_or devices (length queues) []) jobs ∷ []
ways_more [] queues jobs l = absurd (omega (arith, l))
ways_more (device ∷ devices) [] jobs l = ap (λ l. WayLine device jobs ∷ l) (ways_none devices)
ways_more (device ∷ devices) (queue ∷ queues) jobs l = ap (λ l. WayLine device queue ∷ l) (ways_more devices queues jobs (omega (arith, l)))

places_none : (devices : List (List ℕ)) → place_price_lines devices [] ≡ []
places_none [] = refl
places_none (device ∷ devices) = refl

places_more : (devices : List (List ℕ)) (lists : List (List ℤ)) (prices : List ℤ) → length lists < length devices → place_price_lines devices (lists ++ prices ∷ []) ≡ place_price_lines devices lists ++ PlacePricesLine (slice_index_or devices (length lists) []) prices ∷ []
places_more [] lists prices l = absurd (omega (arith, l))
places_more (device ∷ devices) [] prices l = ap (λ l. PlacePricesLine device prices ∷ l) (places_none devices)
places_more (device ∷ devices) (list ∷ lists) prices l = ap (λ l. PlacePricesLine device list ∷ l) (places_more devices lists prices (omega (arith, l)))

stranded_more : (stranded : List Stranded) (s : Stranded) → stranded_lines (stranded ++ s ∷ []) ≡ stranded_lines stranded ++ StrandedLine s ∷ []
stranded_more [] s = refl
stranded_more (first ∷ stranded) s = ap (λ l. StrandedLine first ∷ l) (stranded_more stranded s)

falls_more : (top : ℕ) (classes : List PlannedClass) (c : PlannedClass) (p : ℕ) → FallsBefore top classes c.priority → p < c.priority → FallsBefore top (classes ++ c ∷ []) p
falls_more top [] c p f l = (f, l)
falls_more top (first ∷ classes) c p f l = (f.0, falls_more first.priority classes c p f.1 l)

fall_all : (top : ℕ) (classes : List PlannedClass) (c : PlannedClass) → FallsBefore top classes c.priority → PrioritiesFall top (classes ++ c ∷ [])
fall_all top [] c f = (f, tt)
fall_all top (first ∷ classes) c f = (f.0, fall_all first.priority classes c f.1)

rises_more : (above : ℕ) (stranded : List Stranded) (s : Stranded) (id : ℕ) → RisesBefore above stranded s.job → s.job < id → RisesBefore above (stranded ++ s ∷ []) id
rises_more above [] s id r l = (r, l)
rises_more above (first ∷ stranded) s id r l = (r.0, rises_more first.job stranded s id r.1 l)

rise_all : (above : ℕ) (stranded : List Stranded) (s : Stranded) → RisesBefore above stranded s.job → StrandedRise above (stranded ++ s ∷ [])
rise_all above [] s r = (r, tt)
rise_all above (first ∷ stranded) s r = (r.0, rise_all first.job stranded s r.1)

jobs_in_more : (classes : List PlannedClass) (c : PlannedClass) → jobs_in (classes ++ c ∷ []) ≡ jobs_in classes + length c.problem.ids
jobs_in_more [] c = omega arith
jobs_in_more (first ∷ classes) c = omega (arith, jobs_in_more classes c)

all_more : {X : Type 0} (P : X → Type 0) (xs : List X) (x : X) → All P xs → P x → All P (xs ++ x ∷ [])
all_more P xs x all last = All-append P xs (x ∷ []) all (All-cons P x [] last (All-nil P))

-- ---- each line

plan_drafted : (draft new : DraftRecord) (lines : List PlanLine) → plan_next draft ≡ ok new → Drafts lines draft → WouldDraft lines HeadLine new
unfolding plan_next
plan_drafted draft new lines h tells =
    let t = taken (is_at draft stages.Start) (ok (record draft { stage = stages.Devices })) BadLine new h in
    let here = tells_at stages.Start lines draft t.0 tells in
    let P : DraftRecord → Type 0 = λ (x : DraftRecord). WouldDraft lines HeadLine (record x { stage = stages.Devices }) in
    let first : P (empty_draft DEFAULT_PRIORITY) = (ap (λ l. l ++ HeadLine ∷ []) here.0, (refl, omega arith, All-nil (λ name. IsTrue (is_name name)))) in
    subst (WouldDraft lines HeadLine) (ok_is (record draft { stage = stages.Devices }) new t.1) (subst P (sym here.1) first)

device_drafted : (draft new : DraftRecord) (lines : List PlanLine) (name : List ℕ) → device_next draft name ≡ ok new → is_name name ≡ true → Drafts lines draft → WouldDraft lines (DeviceLine name) new
unfolding device_next
device_drafted draft new lines name h named tells =
    let after : DraftRecord = record draft { devices = draft.devices ++ name ∷ [] } in
    let p = passed (not (is_at draft stages.Devices)) (if nat_lt (length draft.devices) DEVICES then ok after else Err OutOfRange) BadLine new h in
    let t = taken (nat_lt (length draft.devices) DEVICES) (ok after) OutOfRange new p.1 in
    let at : is_at draft stages.Devices ≡ true = not-false (is_at draft stages.Devices) p.0 in
    let here = tells_at stages.Devices lines draft at tells in
    let ds : List (List ℕ) = draft.devices in
    let more : List (List ℕ) = ds ++ name ∷ [] in
    let stage : draft.stage ≡ stages.Devices = stage_is draft stages.Devices at in
    let none : draft.classes ≡ [] = ap (λ (x : DraftRecord). x.classes) here.1.0 in
    let is : after ≡ with_devices more = ap (λ (x : DraftRecord). let y : DraftRecord = record x { devices = more } in y) here.1.0 in
    let less : length ds < DEVICES = lower (length ds) DEVICES t.0 in
    let text : lines ++ DeviceLine name ∷ [] ≡ prefix after =
    ap (λ l. l ++ DeviceLine name ∷ []) here.0
    ∙ ap (λ cs. HeadLine ∷ ((device_lines ds ++ classes_lines ds cs) ++ DeviceLine name ∷ [])) none
    ∙ ap (λ l. HeadLine ∷ (l ++ DeviceLine name ∷ [])) (append-nil (device_lines ds))
    ∙ ap (λ l. HeadLine ∷ l) (sym (devices_more ds name) ∙ sym (append-nil (device_lines more)))
    ∙ ap (λ cs. HeadLine ∷ (device_lines more ++ classes_lines more cs)) (sym none) in
    let facts : TellsAt stages.Devices (lines ++ DeviceLine name ∷ []) after = (text, (is, omega (arith, less, length-append ds (name ∷ [])), all_more (λ n. IsTrue (is_name n)) ds name here.1.2 named)) in
    subst (WouldDraft lines (DeviceLine name)) (ok_is after new t.1) (subst (λ s. TellsAt s (lines ++ DeviceLine name ∷ []) after) (sym stage) facts)

-- the draft has all classes, and nothing after them
record IsClosed (lines : List PlanLine) (h : DraftRecord) : Type 0 where
  pub text : lines ≡ prefix h
  pub prefix : IsPrefix h
  pub under : (p : ℕ) → p < h.below → FallsBefore (HIGHEST_PRIORITY + 1) h.classes p
  pub last : h.last ≡ 0
  pub no_stranded : h.stranded ≡ []
  pub count : h.jobs ≡ jobs_in h.classes
  pub few : h.jobs ≤ UNFINISHED_JOBS

devices_closed : (lines : List PlanLine) (draft : DraftRecord) → TellsAt stages.Devices lines draft → IsClosed lines draft
devices_closed lines draft here =
    let is = here.1.0 in
    let none : draft.classes ≡ [] = ap (λ (x : DraftRecord). x.classes) is in
    let below : draft.below ≡ HIGHEST_PRIORITY + 1 = ap (λ (x : DraftRecord). x.below) is in
    let jobs : draft.jobs ≡ 0 = ap (λ (x : DraftRecord). x.jobs) is in
    let n : ℕ = length draft.devices in
    record {
      text = here.0;
      prefix = record {
        few_devices = here.1.1;
        names = here.1.2;
        classes = subst (All (IsClassInRange n)) (sym none) (All-nil (IsClassInRange n));
        fall = subst (PrioritiesFall (HIGHEST_PRIORITY + 1)) (sym none) tt;
      };
      under = λ p l. subst (λ cs. FallsBefore (HIGHEST_PRIORITY + 1) cs p) (sym none) (subst (λ b. p < b) below l);
      last = ap (λ (x : DraftRecord). x.last) is;
      no_stranded = ap (λ (x : DraftRecord). x.stranded) is;
      count = jobs ∙ sym (ap jobs_in none);
      few = omega (arith, jobs);
    }

class_closed : (lines : List PlanLine) (draft : DraftRecord) → TellsAt stages.PlacePrices lines draft → length draft.opened.place_prices ≡ length draft.devices → is_problem (problem_of draft.opened) ≡ true → IsClosed lines (opened_kept draft)
unfolding class_lines
class_closed lines draft here places problem =
    let w : IsWithin draft = here.1.0 in
    let c : PlannedClass = planned draft.opened in
    let ds : List (List ℕ) = draft.devices in
    let n : ℕ = length ds in
    let in_range : IsClassInRange n c = record {
      priority = w.priority;
      problem = problem_from (problem_of draft.opened) problem;
      ids = w.ids;
      waits = here.1.1;
      ways = here.1.2;
      jobs = w.queues;
      total = w.total;
      job_prices = w.job_prices;
      places = places;
      place_prices = w.place_prices;
    } in
    record {
      text = here.0 ∙ append_assoc (HeadLine ∷ device_lines ds) (classes_lines ds draft.classes) (class_lines ds c) ∙ ap (λ l. HeadLine ∷ (device_lines ds ++ l)) (sym (classes_more ds draft.classes c));
      prefix = record {
        few_devices = w.prefix.few_devices;
        names = w.prefix.names;
        classes = all_more (IsClassInRange n) draft.classes c w.prefix.classes in_range;
        fall = fall_all (HIGHEST_PRIORITY + 1) draft.classes c w.before;
      };
      under = λ p l. falls_more (HIGHEST_PRIORITY + 1) draft.classes c p w.before (omega (arith, l, w.below));
      last = refl;
      no_stranded = w.no_stranded;
      count = w.count ∙ sym (jobs_in_more draft.classes c);
      few = w.few;
    }

closed_drafted : (draft whole : DraftRecord) (lines : List PlanLine) → closed draft ≡ ok whole → Drafts lines draft → IsClosed lines whole
unfolding closed
closed_drafted draft whole lines h tells =
    let good : Result DraftRecord TextFault = if is_problem (problem_of draft.opened) then ok (opened_kept draft) else Err OutOfRange in
    let last : Bool = is_at draft stages.PlacePrices && one_each draft draft.opened.place_prices in
    elim (either (is_at draft stages.Devices) (ok draft) (if last then good else Err BadLine) whole h) [
      | inl early ↦ subst (IsClosed lines) (ok_is draft whole early.1) (devices_closed lines draft (tells_at stages.Devices lines draft early.0 tells))
      | inr late ↦
          let t = taken last good BadLine whole late.1 in
          let b : (is_at draft stages.PlacePrices ≡ true) × (one_each draft draft.opened.place_prices ≡ true) = and_parts (is_at draft stages.PlacePrices) (one_each draft draft.opened.place_prices) t.0 in
          let p = taken (is_problem (problem_of draft.opened)) (ok (opened_kept draft)) OutOfRange whole t.1 in
          subst (IsClosed lines) (ok_is (opened_kept draft) whole p.1)
          (class_closed lines draft (tells_at stages.PlacePrices lines draft b.0 tells) (eqb-true (length draft.opened.place_prices) (length draft.devices) b.1) p.0)
    ]

class_drafted : (draft new : DraftRecord) (lines : List PlanLine) (priority : ℕ) → class_next draft priority ≡ ok new → IsPriority priority → Drafts lines draft → WouldDraft lines (ClassLine priority) new
unfolding class_next class_opened
class_drafted draft new lines priority h ranged tells =
    let w = went_on (closed draft) (λ whole. class_opened whole priority) new h in
    let whole : DraftRecord = w.0 in
    let after : DraftRecord = record whole { stage = stages.Jobs; below = priority; last = 0; opened = opened_at priority } in
    let t = taken (nat_lt priority whole.below) (ok after) OutOfRange new w.2 in
    let c : IsClosed lines whole = closed_drafted draft whole lines w.1 tells in
    let within : IsWithin after = record {
      prefix = record { few_devices = c.prefix.few_devices; names = c.prefix.names; classes = c.prefix.classes; fall = c.prefix.fall };
      priority = ranged;
      before = c.under priority (lower priority whole.below t.0);
      below = refl;
      ids = All-nil IsJobId;
      rows = refl;
      queues = All-nil (All IsJobId);
      total = omega arith;
      job_prices = All-nil IsPrice;
      place_prices = All-nil (All IsPrice);
      no_stranded = c.no_stranded;
      count = omega (arith, c.count);
      few = c.few;
    } in
    let facts : WouldDraft lines (ClassLine priority) after = (ap (λ l. l ++ ClassLine priority ∷ []) c.text, (within, refl, refl)) in
    subst (WouldDraft lines (ClassLine priority)) (ok_is after new t.1) facts

job_drafted : (draft new : DraftRecord) (lines : List PlanLine) (id : ℕ) (times : List (Option ℕ)) → job_next draft id times ≡ ok new → IsJobId id → Drafts lines draft → WouldDraft lines (JobLine id times) new
unfolding job_next
job_drafted draft new lines id times h ranged tells =
    let o : Opened = draft.opened in
    let after : DraftRecord = record draft { jobs = draft.jobs + 1; last = id; opened = record draft.opened { ids = draft.opened.ids ++ id ∷ []; rows = draft.opened.rows ++ times ∷ [] } } in
    let p = passed (not (is_at draft stages.Jobs && one_each draft times)) (if may_have draft id then ok after else Err OutOfRange) BadLine new h in
    let t = taken (may_have draft id) (ok after) OutOfRange new p.1 in
    let b : (is_at draft stages.Jobs ≡ true) × (one_each draft times ≡ true) = and_parts (is_at draft stages.Jobs) (one_each draft times) (not-false (is_at draft stages.Jobs && one_each draft times) p.0) in
    let m : (nat_lt draft.jobs UNFINISHED_JOBS ≡ true) × (nat_lt draft.last id ≡ true) = and_parts (nat_lt draft.jobs UNFINISHED_JOBS) (nat_lt draft.last id) t.0 in
    let stage : draft.stage ≡ stages.Jobs = stage_is draft stages.Jobs b.0 in
    let here = tells_at stages.Jobs lines draft b.0 tells in
    let w : IsWithin draft = here.1.0 in
    let within : IsWithin after = record {
      prefix = record { few_devices = w.prefix.few_devices; names = w.prefix.names; classes = w.prefix.classes; fall = w.prefix.fall };
      priority = w.priority;
      before = w.before;
      below = w.below;
      ids = all_more IsJobId o.ids id w.ids ranged;
      rows = omega (arith, w.rows, length-append o.ids (id ∷ []), length-append o.rows (times ∷ []));
      queues = w.queues;
      total = w.total;
      job_prices = w.job_prices;
      place_prices = w.place_prices;
      no_stranded = w.no_stranded;
      count = omega (arith, w.count, length-append o.ids (id ∷ []));
      few = omega (arith, lower draft.jobs UNFINISHED_JOBS m.0);
    } in
    let text : lines ++ JobLine id times ∷ [] ≡ drafted_at stages.Jobs after =
    ap (λ l. l ++ JobLine id times ∷ []) here.0
    ∙ behind1 (prefix draft) (job_part o) (JobLine id times)
    ∙ ap (λ l. prefix draft ++ (ClassLine o.priority ∷ l)) (sym (jobs_more o.ids o.rows id times w.rows)) in
    let facts : TellsAt stages.Jobs (lines ++ JobLine id times ∷ []) after = (text, (within, here.1.1, here.1.2)) in
    subst (WouldDraft lines (JobLine id times)) (ok_is after new t.1) (subst (λ s. TellsAt s (lines ++ JobLine id times ∷ []) after) (sym stage) facts)

wait_drafted : (draft new : DraftRecord) (lines : List PlanLine) (waits : List ℕ) → wait_next draft waits ≡ ok new → Drafts lines draft → WouldDraft lines (WaitLine waits) new
unfolding wait_next
wait_drafted draft new lines waits h tells =
    let after : DraftRecord = record draft { stage = stages.Ways; opened = record draft.opened { waits = waits } } in
    let t = taken (is_at draft stages.Jobs && one_each draft waits) (ok after) BadLine new h in
    let b : (is_at draft stages.Jobs ≡ true) × (one_each draft waits ≡ true) = and_parts (is_at draft stages.Jobs) (one_each draft waits) t.0 in
    let here = tells_at stages.Jobs lines draft b.0 tells in
    let w : IsWithin draft = here.1.0 in
    let within : IsWithin after = record { prefix = record { few_devices = w.prefix.few_devices; names = w.prefix.names; classes = w.prefix.classes; fall = w.prefix.fall }; priority = w.priority; before = w.before; below = w.below; ids = w.ids; rows = w.rows; queues = w.queues; total = w.total; job_prices = w.job_prices; place_prices = w.place_prices; no_stranded = w.no_stranded; count = w.count; few = w.few } in
    let no_ways : way_lines draft.devices draft.opened.queues ≡ [] = ap (way_lines draft.devices) here.1.1 ∙ ways_none draft.devices in
    let text : lines ++ WaitLine waits ∷ [] ≡ drafted_at stages.Ways after =
    ap (λ l. l ++ WaitLine waits ∷ []) here.0
    ∙ behind1 (prefix draft) (job_part draft.opened) (WaitLine waits)
    ∙ ap (λ l. prefix draft ++ (job_part draft.opened ++ (WaitLine waits ∷ l))) (sym no_ways) in
    let facts : WouldDraft lines (WaitLine waits) after = (text, (within, eqb-true (length waits) (length draft.devices) b.1, here.1.2)) in
    subst (WouldDraft lines (WaitLine waits)) (ok_is after new t.1) facts

-- the device at the place has this name
named_at : (devices : List (List ℕ)) (place : ℕ) (name : List ℕ) → (nat_lt place (length devices) && bytes_eq (slice_index_or devices place []) name) ≡ true → (place < length devices) × (slice_index_or devices place [] ≡ name)
named_at devices place name h =
    let p : (nat_lt place (length devices) ≡ true) × (bytes_eq (slice_index_or devices place []) name ≡ true) = and_parts (nat_lt place (length devices)) (bytes_eq (slice_index_or devices place []) name) h in
    (lower place (length devices) p.0, same_bytes (slice_index_or devices place []) name p.1)

way_drafted : (draft new : DraftRecord) (lines : List PlanLine) (name jobs : List ℕ) → way_next draft name jobs ≡ ok new → All IsJobId jobs → Drafts lines draft → WouldDraft lines (WayLine name jobs) new
unfolding way_next
way_drafted draft new lines name jobs h ranged tells =
    let o : Opened = draft.opened in
    let after : DraftRecord = record draft { opened = record draft.opened { queues = draft.opened.queues ++ jobs ∷ [] } } in
    let t = taken (is_at draft stages.Ways && is_named draft (length draft.opened.queues) name) (ok after) BadLine new h in
    let b : (is_at draft stages.Ways ≡ true) × (is_named draft (length draft.opened.queues) name ≡ true) = and_parts (is_at draft stages.Ways) (is_named draft (length draft.opened.queues) name) t.0 in
    let stage : draft.stage ≡ stages.Ways = stage_is draft stages.Ways b.0 in
    let here = tells_at stages.Ways lines draft b.0 tells in
    let w : IsWithin draft = here.1.0 in
    let device = named_at draft.devices (length o.queues) name b.1 in
    let within : IsWithin after = record { prefix = record { few_devices = w.prefix.few_devices; names = w.prefix.names; classes = w.prefix.classes; fall = w.prefix.fall }; priority = w.priority; before = w.before; below = w.below; ids = w.ids; rows = w.rows; queues = all_more (All IsJobId) o.queues jobs w.queues ranged; total = w.total; job_prices = w.job_prices; place_prices = w.place_prices; no_stranded = w.no_stranded; count = w.count; few = w.few } in
    let text : lines ++ WayLine name jobs ∷ [] ≡ drafted_at stages.Ways after =
    ap (λ l. l ++ WayLine name jobs ∷ []) here.0
    ∙ behind2 (prefix draft) (job_part o) (way_part draft.devices o) (WayLine name jobs)
    ∙ ap (λ n. prefix draft ++ (job_part o ++ (WaitLine o.waits ∷ (way_lines draft.devices o.queues ++ WayLine n jobs ∷ [])))) (sym device.1)
    ∙ ap (λ l. prefix draft ++ (job_part o ++ (WaitLine o.waits ∷ l))) (sym (ways_more draft.devices o.queues jobs device.0)) in
    let facts : TellsAt stages.Ways (lines ++ WayLine name jobs ∷ []) after = (text, (within, here.1.1, here.1.2)) in
    subst (WouldDraft lines (WayLine name jobs)) (ok_is after new t.1) (subst (λ s. TellsAt s (lines ++ WayLine name jobs ∷ []) after) (sym stage) facts)

total_drafted : (draft new : DraftRecord) (lines : List PlanLine) (total : ℕ) → total_next draft total ≡ ok new → total ≤ AMOUNT → Drafts lines draft → WouldDraft lines (TotalLine total) new
unfolding total_next
total_drafted draft new lines total h ranged tells =
    let o : Opened = draft.opened in
    let after : DraftRecord = record draft { stage = stages.JobPrices; opened = record draft.opened { total = total } } in
    let t = taken (is_at draft stages.Ways && one_each draft draft.opened.queues) (ok after) BadLine new h in
    let b : (is_at draft stages.Ways ≡ true) × (one_each draft draft.opened.queues ≡ true) = and_parts (is_at draft stages.Ways) (one_each draft draft.opened.queues) t.0 in
    let here = tells_at stages.Ways lines draft b.0 tells in
    let w : IsWithin draft = here.1.0 in
    let within : IsWithin after = record { prefix = record { few_devices = w.prefix.few_devices; names = w.prefix.names; classes = w.prefix.classes; fall = w.prefix.fall }; priority = w.priority; before = w.before; below = w.below; ids = w.ids; rows = w.rows; queues = w.queues; total = ranged; job_prices = w.job_prices; place_prices = w.place_prices; no_stranded = w.no_stranded; count = w.count; few = w.few } in
    let text : lines ++ TotalLine total ∷ [] ≡ drafted_at stages.JobPrices after = ap (λ l. l ++ TotalLine total ∷ []) here.0 ∙ behind2 (prefix draft) (job_part o) (way_part draft.devices o) (TotalLine total) in
    let facts : WouldDraft lines (TotalLine total) after = (text, (within, here.1.1, eqb-true (length o.queues) (length draft.devices) b.1, here.1.2)) in
    subst (WouldDraft lines (TotalLine total)) (ok_is after new t.1) facts

job_prices_drafted : (draft new : DraftRecord) (lines : List PlanLine) (prices : List ℤ) → job_prices_next draft prices ≡ ok new → All IsPrice prices → Drafts lines draft → WouldDraft lines (JobPricesLine prices) new
unfolding job_prices_next
job_prices_drafted draft new lines prices h ranged tells =
    let o : Opened = draft.opened in
    let after : DraftRecord = record draft { stage = stages.PlacePrices; opened = record draft.opened { job_prices = prices } } in
    let t = taken (is_at draft stages.JobPrices) (ok after) BadLine new h in
    let here = tells_at stages.JobPrices lines draft t.0 tells in
    let w : IsWithin draft = here.1.0 in
    let within : IsWithin after = record { prefix = record { few_devices = w.prefix.few_devices; names = w.prefix.names; classes = w.prefix.classes; fall = w.prefix.fall }; priority = w.priority; before = w.before; below = w.below; ids = w.ids; rows = w.rows; queues = w.queues; total = w.total; job_prices = ranged; place_prices = w.place_prices; no_stranded = w.no_stranded; count = w.count; few = w.few } in
    let no_places : place_price_lines draft.devices o.place_prices ≡ [] = ap (place_price_lines draft.devices) here.1.3 ∙ places_none draft.devices in
    let text : lines ++ JobPricesLine prices ∷ [] ≡ drafted_at stages.PlacePrices after =
    ap (λ l. l ++ JobPricesLine prices ∷ []) here.0
    ∙ behind3 (prefix draft) (job_part o) (way_part draft.devices o) (TotalLine o.total ∷ []) (JobPricesLine prices)
    ∙ ap (λ l. prefix draft ++ (job_part o ++ (way_part draft.devices o ++ (TotalLine o.total ∷ JobPricesLine prices ∷ l)))) (sym no_places) in
    let facts : WouldDraft lines (JobPricesLine prices) after = (text, (within, here.1.1, here.1.2)) in
    subst (WouldDraft lines (JobPricesLine prices)) (ok_is after new t.1) facts

place_prices_drafted : (draft new : DraftRecord) (lines : List PlanLine) (name : List ℕ) (prices : List ℤ) → place_prices_next draft name prices ≡ ok new → All IsPrice prices → Drafts lines draft → WouldDraft lines (PlacePricesLine name prices) new
unfolding place_prices_next
place_prices_drafted draft new lines name prices h ranged tells =
    let o : Opened = draft.opened in
    let after : DraftRecord = record draft { opened = record draft.opened { place_prices = draft.opened.place_prices ++ prices ∷ [] } } in
    let t = taken (is_at draft stages.PlacePrices && is_named draft (length draft.opened.place_prices) name) (ok after) BadLine new h in
    let b : (is_at draft stages.PlacePrices ≡ true) × (is_named draft (length draft.opened.place_prices) name ≡ true) = and_parts (is_at draft stages.PlacePrices) (is_named draft (length draft.opened.place_prices) name) t.0 in
    let stage : draft.stage ≡ stages.PlacePrices = stage_is draft stages.PlacePrices b.0 in
    let here = tells_at stages.PlacePrices lines draft b.0 tells in
    let w : IsWithin draft = here.1.0 in
    let device = named_at draft.devices (length o.place_prices) name b.1 in
    let within : IsWithin after = record { prefix = record { few_devices = w.prefix.few_devices; names = w.prefix.names; classes = w.prefix.classes; fall = w.prefix.fall }; priority = w.priority; before = w.before; below = w.below; ids = w.ids; rows = w.rows; queues = w.queues; total = w.total; job_prices = w.job_prices; place_prices = all_more (All IsPrice) o.place_prices prices w.place_prices ranged; no_stranded = w.no_stranded; count = w.count; few = w.few } in
    let totals : List (PlanLine) → List PlanLine = λ l. prefix draft ++ (job_part o ++ (way_part draft.devices o ++ (TotalLine o.total ∷ JobPricesLine o.job_prices ∷ l))) in
    let text : lines ++ PlacePricesLine name prices ∷ [] ≡ drafted_at stages.PlacePrices after =
    ap (λ l. l ++ PlacePricesLine name prices ∷ []) here.0
    ∙ behind3 (prefix draft) (job_part o) (way_part draft.devices o) (TotalLine o.total ∷ JobPricesLine o.job_prices ∷ place_price_lines draft.devices o.place_prices) (PlacePricesLine name prices)
    ∙ ap (λ n. totals (place_price_lines draft.devices o.place_prices ++ PlacePricesLine n prices ∷ [])) (sym device.1)
    ∙ ap totals (sym (places_more draft.devices o.place_prices prices device.0)) in
    let facts : TellsAt stages.PlacePrices (lines ++ PlacePricesLine name prices ∷ []) after = (text, (within, here.1.1, here.1.2)) in
    subst (WouldDraft lines (PlacePricesLine name prices)) (ok_is after new t.1) (subst (λ s. TellsAt s (lines ++ PlacePricesLine name prices ∷ []) after) (sym stage) facts)

-- ---- the stranded jobs and the end

abbrev OverDrafted : List PlanLine → DraftRecord → Type 0
OverDrafted lines h = (lines ≡ prefix h ++ stranded_lines h.stranded) × IsOver h

closed_over : (lines : List PlanLine) (h : DraftRecord) → IsClosed lines h → OverDrafted lines h
closed_over lines h c = (
  c.text ∙ sym (append-nil (prefix h)) ∙ ap (λ ss. prefix h ++ stranded_lines ss) (sym c.no_stranded),
  record {
    prefix = c.prefix;
    stranded = subst (All (λ s. IsJobId s.job)) (sym c.no_stranded) (All-nil (λ (s : Stranded). IsJobId s.job));
    rise = subst (StrandedRise 0) (sym c.no_stranded) tt;
    above = λ id l. subst (λ ss. RisesBefore 0 ss id) (sym c.no_stranded) (subst (λ n. n < id) c.last l);
    count = let none : length h.stranded ≡ 0 = ap (λ (ss : List Stranded). length ss) c.no_stranded in omega (arith, c.count, none);
    few = c.few;
  },
)

over_drafted : (draft whole : DraftRecord) (lines : List PlanLine) → classes_over draft ≡ ok whole → Drafts lines draft → OverDrafted lines whole
unfolding classes_over
over_drafted draft whole lines h tells = elim (either (is_at draft stages.Stranded) (ok draft) (closed draft) whole h) [
  | inl stays ↦ subst (OverDrafted lines) (ok_is draft whole stays.1) (tells_at stages.Stranded lines draft stays.0 tells)
  | inr closes ↦ closed_over lines whole (closed_drafted draft whole lines closes.1 tells)
]

stranded_drafted : (draft new : DraftRecord) (lines : List PlanLine) (s : Stranded) → stranded_next draft s ≡ ok new → IsJobId s.job → Drafts lines draft → WouldDraft lines (StrandedLine s) new
unfolding stranded_next stranded_added
stranded_drafted draft new lines s h ranged tells =
    let w = went_on (classes_over draft) (λ whole. stranded_added whole s) new h in
    let whole : DraftRecord = w.0 in
    let after : DraftRecord = record whole { stage = stages.Stranded; stranded = whole.stranded ++ s ∷ []; jobs = whole.jobs + 1; last = s.job } in
    let t = taken (may_have whole s.job) (ok after) OutOfRange new w.2 in
    let m : (nat_lt whole.jobs UNFINISHED_JOBS ≡ true) × (nat_lt whole.last s.job ≡ true) = and_parts (nat_lt whole.jobs UNFINISHED_JOBS) (nat_lt whole.last s.job) t.0 in
    let over : OverDrafted lines whole = over_drafted draft whole lines w.1 tells in
    let o : IsOver whole = over.1 in
    let before : RisesBefore 0 whole.stranded s.job = o.above s.job (lower whole.last s.job m.1) in
    let later : IsOver after = record {
      prefix = record { few_devices = o.prefix.few_devices; names = o.prefix.names; classes = o.prefix.classes; fall = o.prefix.fall };
      stranded = all_more (λ (x : Stranded). IsJobId x.job) whole.stranded s o.stranded ranged;
      rise = rise_all 0 whole.stranded s before;
      above = λ id l. rises_more 0 whole.stranded s id before l;
      count = omega (arith, o.count, length-append whole.stranded (s ∷ []));
      few = omega (arith, lower whole.jobs UNFINISHED_JOBS m.0);
    } in
    let text : lines ++ StrandedLine s ∷ [] ≡ drafted_at stages.Stranded after =
    ap (λ l. l ++ StrandedLine s ∷ []) over.0 ∙ behind1 (prefix whole) (stranded_lines whole.stranded) (StrandedLine s) ∙ ap (λ l. prefix whole ++ l) (sym (stranded_more whole.stranded s)) in
    let facts : WouldDraft lines (StrandedLine s) after = (text, later) in
    subst (WouldDraft lines (StrandedLine s)) (ok_is after new t.1) facts

end_drafted : (draft new : DraftRecord) (lines : List PlanLine) → end_next draft ≡ ok new → Drafts lines draft → WouldDraft lines EndLine new
unfolding end_next
end_drafted draft new lines h tells =
    let w = went_on (classes_over draft) (λ (whole : DraftRecord). ok (record whole { stage = stages.Ended })) new h in
    let whole : DraftRecord = w.0 in
    let after : DraftRecord = record whole { stage = stages.Ended } in
    let over : OverDrafted lines whole = over_drafted draft whole lines w.1 tells in
    let o : IsOver whole = over.1 in
    let later : IsOver after = record { prefix = record { few_devices = o.prefix.few_devices; names = o.prefix.names; classes = o.prefix.classes; fall = o.prefix.fall }; stranded = o.stranded; rise = o.rise; above = o.above; count = o.count; few = o.few } in
    let text : lines ++ EndLine ∷ [] ≡ drafted_at stages.Ended after = ap (λ l. l ++ EndLine ∷ []) over.0 ∙ behind1 (prefix whole) (stranded_lines whole.stranded) EndLine in
    let facts : WouldDraft lines EndLine after = (text, later) in
    subst (WouldDraft lines EndLine) (ok_is after new w.2) facts

next_drafted : (draft new : DraftRecord) (lines : List PlanLine) (parsed : PlanLine) → next draft parsed ≡ ok new → ParsedInRange parsed → Drafts lines draft → WouldDraft lines parsed new
next_drafted draft new lines HeadLine h r t = plan_drafted draft new lines h t
next_drafted draft new lines (DeviceLine name) h r t = device_drafted draft new lines name h r t
next_drafted draft new lines (ClassLine priority) h r t = class_drafted draft new lines priority h r t
next_drafted draft new lines (JobLine id times) h r t = job_drafted draft new lines id times h r.0 t
next_drafted draft new lines (WaitLine waits) h r t = wait_drafted draft new lines waits h t
next_drafted draft new lines (WayLine device jobs) h r t = way_drafted draft new lines device jobs h r.1 t
next_drafted draft new lines (TotalLine total) h r t = total_drafted draft new lines total h r t
next_drafted draft new lines (JobPricesLine prices) h r t = job_prices_drafted draft new lines prices h r t
next_drafted draft new lines (PlacePricesLine device prices) h r t = place_prices_drafted draft new lines device prices h r.1 t
next_drafted draft new lines (StrandedLine stranded) h r t = stranded_drafted draft new lines stranded h r t
next_drafted draft new lines EndLine h r t = end_drafted draft new lines h t

-- ---- the whole text

-- lines, each with its line feed
abbrev fed : List (List ℕ) → List ℕ
fed [] = []
fed (line ∷ lines) = line ++ (10 ∷ fed lines)

-- the lines that were read are the lines of the reader's state
record DraftRecord' (before : List PlanLine) (lines : List (List ℕ)) (new : DraftRecord) : Type 0 where
  pub parsed : List PlanLine
  pub tells : Drafts parsed new
  pub text : lines_text before ++ fed lines ≡ lines_text parsed

line_drafted : (draft new : DraftRecord) (before : List PlanLine) (line : List ℕ) (lines : List (List ℕ)) → lines_next draft (line ∷ lines) ≡ ok new → Drafts before draft
    → ((then' : DraftRecord) (more : List PlanLine) → lines_next then' lines ≡ ok new → Drafts more then' → DraftRecord' more lines new) → DraftRecord' before (line ∷ lines) new
unfolding line_next
line_drafted draft new before line lines h t later =
    let w = went_on (line_next draft line) (λ then'. lines_next then' lines) new h in
    let p = passed (is_at draft stages.Ended) (line_at (words_of line) >>= λ parsed. next draft parsed) BadLine w.0 w.1 in
    let s = went_on (line_at (words_of line)) (λ parsed. next draft parsed) w.0 p.1 in
    let spelt = line_spelt line s.0 s.1 in
    let more : List PlanLine = before ++ s.0 ∷ [] in
    let rest = later w.0 more w.2 (next_drafted draft w.0 before s.0 s.2 spelt.1 t) in
    let one : lines_text more ≡ lines_text before ++ (line ++ feed) = lines_append before (s.0 ∷ []) ∙ ap (λ l. lines_text before ++ l) (append-nil (line_text s.0) ∙ sym spelt.0) in
    record {
      parsed = rest.parsed;
      tells = rest.tells;
      text =
          ap (λ l. lines_text before ++ l) (sym (append_assoc line feed (fed lines)))
          ∙ sym (append_assoc (lines_text before) (line ++ feed) (fed lines))
          ∙ ap (λ l. l ++ fed lines) (sym one)
          ∙ rest.text;
    }

lines_drafted : (draft new : DraftRecord) (before : List PlanLine) (lines : List (List ℕ)) → lines_next draft lines ≡ ok new → Drafts before draft → DraftRecord' before lines new
lines_drafted draft new before [] h t = record { parsed = before; tells = subst (Drafts before) (ok_is draft new h) t; text = append-nil (lines_text before) }
lines_drafted draft new before (line ∷ lines) h t = line_drafted draft new before line lines h t (λ then' more later drafted. lines_drafted then' new more lines later drafted)

-- the parts of a text that ends with a line feed
parts_fed : (n : ℕ) (parts : List (List ℕ)) → n ≡ length parts - 1 → slice_index_or parts n [] ≡ [] → join_with_byte 10 parts ≡ fed (take n parts)
parts_fed n [] e last = subst (λ m. [] ≡ fed (take m [])) (sym e) refl
parts_fed zero (part ∷ []) e last = last
parts_fed (suc n) (part ∷ []) e last = absurd (omega (arith, e))
parts_fed zero (part ∷ next ∷ parts) e last = absurd (omega (arith, e))
parts_fed (suc n) (part ∷ next ∷ parts) e last = ap (λ rest. part ++ (10 ∷ rest)) (parts_fed n (next ∷ parts) (omega (arith, e)) last)

none_of : (xs : List ℕ) → (length xs == 0) ≡ true → xs ≡ []
none_of [] h = refl
none_of (x ∷ xs) h = absurd (omega (arith, eqb-true (length (x ∷ xs)) 0 h))

-- a drafted plan is in range, and its text is the lines
ended_drafted : (draft : DraftRecord) (parsed : List PlanLine) → is_at draft stages.Ended ≡ true → Drafts parsed draft → IsPlanInRange (plan_of draft) × (parsed ≡ plan_lines (plan_of draft))
ended_drafted draft parsed at tells =
    let here = tells_at stages.Ended parsed draft at tells in
    let o : IsOver draft = here.1 in (
      record {
        few_devices = o.prefix.few_devices;
        names = o.prefix.names;
        classes = o.prefix.classes;
        fall = o.prefix.fall;
        stranded = o.stranded;
        rise = o.rise;
        few_jobs = omega (arith, o.count, o.few);
      },
      here.0 ∙ append_assoc (HeadLine ∷ device_lines draft.devices) (classes_lines draft.devices draft.classes) (stranded_lines draft.stranded ++ (EndLine ∷ [])),
    )

-- a text that is read as a plan is the text of that plan
pub text_drafted : (text : List ℕ) (named : NamedPlan) → plan_at text ≡ ok named → IsTextOf text named
unfolding plan_in plan_from ended plan_text
text_drafted text named h =
    let parts : List (List ℕ) = texts_of text in
    let n : ℕ = length parts - 1 in
    let lines : List (List ℕ) = take n parts in
    let rest : List ℕ = slice_index_or parts n [] in
    let w = went_on (lines_next (empty_draft DEFAULT_PRIORITY) lines) (λ draft. ended draft rest) named h in
    let draft : DraftRecord = w.0 in
    let p = passed (not (is_at draft stages.Ended)) (if length rest == 0 then ok (plan_of draft) else Err BadLine) NoEnd named w.2 in
    let t = taken (length rest == 0) (ok (plan_of draft)) BadLine named p.1 in
    let drafted : DraftRecord' [] lines draft = lines_drafted (empty_draft DEFAULT_PRIORITY) draft [] lines w.1 (refl, refl) in
    let whole = ended_drafted draft drafted.parsed (not-false (is_at draft stages.Ended) p.0) drafted.tells in
    let is : text ≡ plan_text (plan_of draft) =
    sym (join_with_byte-slice_split 10 text)
    ∙ parts_fed n parts refl (none_of rest t.0)
    ∙ drafted.text
    ∙ ap lines_text whole.1 in
    subst (IsTextOf text) (ok_is (plan_of draft) named t.1) (record { in_range = whole.0; is = is })

pub is_one_text : (text : List ℕ) (named : NamedPlan) → (plan_at text ≡ ok named) ↔ IsTextOf text named
is_one_text text named = (text_drafted text named, λ t. ap plan_at t.is ∙ plan_back named t.in_range)

-- the same for the result of a function that gives the plan of a text
pub drafted_since : (result : Result NamedPlan ReadError) (text : List ℕ) → Gives (λ plan. plan) result (plan_at text) → IfOk result (λ named. IsTextOf text named)
drafted_since (Ok named) text h = text_drafted text named h
drafted_since (Err error) text h = tt
