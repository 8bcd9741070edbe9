-- The lines of a plan, read in turn, make the plan.
use Rattle.std.proofs.Common.{◌≡◌, ◌==◌, ◌&&◌, ℕ, ℤ, suc, ◌+◌, ◌<◌, ◌≤◌, Bool, true, false, List, [], ◌∷◌, ◌++◌, length, All, IfSome, Option, Result, IsTrue, slice_index_or, nat_lt, refl, sym, ap, ◌∙◌, subst, arith, append_assoc, append-nil, length-append, add-one}
use Rattle.std.specs.Str.{bytes_eq}
use Rattle.std.specs.List.Sorted.{IsStrictlyIncreasing}
use Rattle.std.proofs.lemmas.Bool.{and_from, lt-ltb, eq-eqb}
use Rattle.std.proofs.lemmas.List.Elements.{All-head, All-tail}
use Rattle.base_types.specs.declared.limits.TheConstants.Limits.{HIGHEST_PRIORITY, DEFAULT_PRIORITY, UNFINISHED_JOBS, DEVICES}
use Rattle.base_types.specs.Forms.{is_name}
use Rattle.base_types.specs.Ranges.{IsJobId}
use Rattle.plan_problem.specs.Time.{IsTime}
use Rattle.plan_prices.specs.declared.plan.PlannedClass.{PlannedClass}
use Rattle.base_types.specs.declared.needs.Stranded.{Stranded}
use Rattle.plan_text.specs.declared.fault.TextFault.{TextFault}
use Rattle.plan_text.specs.declared.stage.Stage.{Stage}
use Rattle.plan_text.specs.declared.stage.Stage.TheVariants as stages
use Rattle.plan_text.specs.NamedPlan.{NamedPlan}
use Rattle.text.specs.Steps.{◌>>=◌}
use Rattle.plan_text.specs.Line.{PlanLine, HeadLine, DeviceLine, ClassLine, JobLine, WaitLine, WayLine, TotalLine, JobPricesLine, PlacePricesLine, StrandedLine, EndLine}
use Rattle.plan_text.specs.Steps.{DraftRecord, Opened, is_at, plan_next, device_next, opened_at, closed, class_opened, class_next, job_next, wait_next, way_next, total_next, job_prices_next, place_prices_next, classes_over, stranded_added, stranded_next, end_next, next}
use Rattle.plan_text.specs.Whole.{empty_draft, ended, plan_at}
use Rattle.plan_text.specs.Writing.{job_lines, way_lines, place_price_lines, class_job_lines, class_way_lines, class_price_lines, class_lines, device_lines, stranded_lines, classes_lines, plan_lines, plan_text}
use Rattle.plan_text.specs.Ranges.{IsPrice, IsClassInRange, PrioritiesFall, StrandedRise, jobs_in, IsPlanInRange}
use Rattle.plan_text.proofs.Problems.{problem_is}
use Rattle.plan_text.proofs.Sound.{ok}
use Rattle.plan_text.proofs.LinesReadBack.{AllInRange, AllInRange-append, plan_lines_next, text_parsed}

true_is : (b : Bool) → IsTrue b → b ≡ true
true_is b h = h

-- ---- the lines are in range

devices_in_range : (names : List (List ℕ)) → All (λ name. IsTrue (is_name name)) names → AllInRange (device_lines names)
devices_in_range [] h = tt
devices_in_range (name ∷ names) h = (true_is (is_name name) (All-head (λ n. IsTrue (is_name n)) name names h), devices_in_range names (All-tail (λ n. IsTrue (is_name n)) name names h))

jobs_in_range : (ids : List ℕ) (rows : List (List (Option ℕ))) → All IsJobId ids → All (λ row. All (λ entry. IfSome entry IsTime) row) rows → AllInRange (job_lines ids rows)
jobs_in_range [] rows h r = tt
jobs_in_range (id ∷ ids) [] h r = tt
jobs_in_range (id ∷ ids) (row ∷ rows) h r =
    let P : List (Option ℕ) → Type 0 = λ row. All (λ entry. IfSome entry IsTime) row in
    ((All-head IsJobId id ids h, All-head P row rows r), jobs_in_range ids rows (All-tail IsJobId id ids h) (All-tail P row rows r))

ways_in_range : (names way : List (List ℕ)) → All (λ name. IsTrue (is_name name)) names → All (All IsJobId) way → AllInRange (way_lines names way)
ways_in_range [] way h w = tt
ways_in_range (name ∷ names) [] h w = tt
ways_in_range (name ∷ names) (jobs ∷ way) h w =
    ((true_is (is_name name) (All-head (λ n. IsTrue (is_name n)) name names h), All-head (All IsJobId) jobs way w), ways_in_range names way (All-tail (λ n. IsTrue (is_name n)) name names h) (All-tail (All IsJobId) jobs way w))

places_in_range : (names : List (List ℕ)) (lists : List (List ℤ)) → All (λ name. IsTrue (is_name name)) names → All (All IsPrice) lists → AllInRange (place_price_lines names lists)
places_in_range [] lists h p = tt
places_in_range (name ∷ names) [] h p = tt
places_in_range (name ∷ names) (prices ∷ lists) h p =
    ((true_is (is_name name) (All-head (λ n. IsTrue (is_name n)) name names h), All-head (All IsPrice) prices lists p), places_in_range names lists (All-tail (λ n. IsTrue (is_name n)) name names h) (All-tail (All IsPrice) prices lists p))

class_in_range : (names : List (List ℕ)) (c : PlannedClass) → All (λ name. IsTrue (is_name name)) names → IsClassInRange (length names) c → AllInRange (class_lines names c)
unfolding class_lines
class_in_range names c h r =
    AllInRange-append (class_job_lines c) (class_way_lines names c ++ class_price_lines names c)
    (r.priority, jobs_in_range c.problem.ids c.problem.rows r.ids r.problem.times)
    (AllInRange-append (class_way_lines names c) (class_price_lines names c)
    (r.problem.short_waits, ways_in_range names c.priced.way h r.jobs)
    (r.total, (r.job_prices, places_in_range names c.priced.prices.places h r.place_prices)))

classes_in_range : (names : List (List ℕ)) (classes : List PlannedClass) → All (λ name. IsTrue (is_name name)) names → All (IsClassInRange (length names)) classes → AllInRange (classes_lines names classes)
classes_in_range names [] h r = tt
classes_in_range names (c ∷ classes) h r =
    AllInRange-append (class_lines names c) (classes_lines names classes) (class_in_range names c h (All-head (IsClassInRange (length names)) c classes r)) (classes_in_range names classes h (All-tail (IsClassInRange (length names)) c classes r))

stranded_in_range : (stranded : List Stranded) → All (λ s. IsJobId s.job) stranded → AllInRange (stranded_lines stranded)
stranded_in_range [] h = tt
stranded_in_range (s ∷ stranded) h = (All-head (λ (x : Stranded). IsJobId x.job) s stranded h, stranded_in_range stranded (All-tail (λ (x : Stranded). IsJobId x.job) s stranded h))

plan_in_range : (named : NamedPlan) → IsPlanInRange named → AllInRange (plan_lines named)
plan_in_range named r = (
  tt,
  AllInRange-append (device_lines named.devices) (classes_lines named.devices named.plan.classes ++ (stranded_lines named.plan.stranded ++ (EndLine ∷ [])))
      (devices_in_range named.devices r.names)
      (AllInRange-append (classes_lines named.devices named.plan.classes) (stranded_lines named.plan.stranded ++ (EndLine ∷ []))
      (classes_in_range named.devices named.plan.classes r.names r.classes)
      (AllInRange-append (stranded_lines named.plan.stranded) (EndLine ∷ []) (stranded_in_range named.plan.stranded r.stranded) (tt, tt))),
)

-- ---- the devices

-- one step
stepped : (draft new : DraftRecord) (parsed : PlanLine) (rest : List PlanLine) → is_at draft stages.Ended ≡ false → next draft parsed ≡ ok new → plan_lines_next draft (parsed ∷ rest) ≡ plan_lines_next new rest
stepped draft new parsed rest live step = rw (live, step) refl

abbrev pub with_devices : List (List ℕ) → DraftRecord
with_devices devices = record { stage = stages.Devices; devices = devices; classes = []; stranded = []; jobs = 0; below = HIGHEST_PRIORITY + 1; last = 0; opened = opened_at DEFAULT_PRIORITY }

device_step : (devices : List (List ℕ)) (name : List ℕ) → length devices < DEVICES → device_next (with_devices devices) name ≡ ok (with_devices (devices ++ name ∷ []))
unfolding device_next
device_step devices name l = rw (lt-ltb (length devices) DEVICES l) refl

devices_run : (devices names : List (List ℕ)) (rest : List PlanLine) → length devices + length names ≤ DEVICES → plan_lines_next (with_devices devices) (device_lines names ++ rest) ≡ plan_lines_next (with_devices (devices ++ names)) rest
devices_run devices [] rest l = ap (λ ds. plan_lines_next (with_devices ds) rest) (sym (append-nil devices))
devices_run devices (name ∷ names) rest l =
    stepped (with_devices devices) (with_devices (devices ++ name ∷ [])) (DeviceLine name) (device_lines names ++ rest) refl (device_step devices name (omega (arith, l)))
    ∙ devices_run (devices ++ name ∷ []) names rest (omega (arith, l, length-append devices (name ∷ [])))
    ∙ ap (λ ds. plan_lines_next (with_devices ds) rest) (append_assoc devices (name ∷ []) names)

-- ---- the lines of a class

-- the state of the reader within a class
abbrev within : Stage → List (List ℕ) → List PlannedClass → ℕ → ℕ → ℕ → Opened → DraftRecord
within stage devices classes jobs below last opened = record { stage = stage; devices = devices; classes = classes; stranded = []; jobs = jobs; below = below; last = last; opened = opened }

abbrev last_of : ℕ → List ℕ → ℕ
last_of last [] = last
last_of last (id ∷ ids) = last_of id ids

abbrev RiseAbove : ℕ → List ℕ → Type 0
RiseAbove last [] = Unit {0}
RiseAbove last (id ∷ ids) = (last < id) × RiseAbove id ids

later_rise : (id : ℕ) (ids : List ℕ) → IsStrictlyIncreasing (id ∷ ids) → IsStrictlyIncreasing ids
later_rise id ids h = λ k l. simp add-one (simp add-one at (h (suc k) (omega (arith, l))))

rise_above : (last : ℕ) (ids : List ℕ) → IsStrictlyIncreasing (last ∷ ids) → RiseAbove last ids
rise_above last [] h = tt
rise_above last (id ∷ ids) h = (h 0 (omega arith), rise_above id ids (later_rise last (id ∷ ids) h))

rise_from : (ids : List ℕ) → IsStrictlyIncreasing ids → All IsJobId ids → RiseAbove 0 ids
rise_from [] h r = tt
rise_from (id ∷ ids) h r = (let first : IsJobId id = All-head IsJobId id ids r in omega (arith, first.0), rise_above id ids h)

abbrev with_jobs : Opened → List ℕ → List (List (Option ℕ)) → Opened
with_jobs o ids rows = record o { ids = o.ids ++ ids; rows = o.rows ++ rows }

job_step : (devices : List (List ℕ)) (classes : List PlannedClass) (jobs below last : ℕ) (o : Opened) (id : ℕ) (row : List (Option ℕ)) → length row ≡ length devices → jobs < UNFINISHED_JOBS → last < id
    → job_next (within stages.Jobs devices classes jobs below last o) id row ≡ ok (within stages.Jobs devices classes (jobs + 1) below id (with_jobs o (id ∷ []) (row ∷ [])))
unfolding job_next
job_step devices classes jobs below last o id row e l m = rw (eq-eqb (length row) (length devices) e, lt-ltb jobs UNFINISHED_JOBS l, lt-ltb last id m) refl

with_jobs_more : (o : Opened) (id : ℕ) (ids : List ℕ) (row : List (Option ℕ)) (rows : List (List (Option ℕ))) → with_jobs (with_jobs o (id ∷ []) (row ∷ [])) ids rows ≡ with_jobs o (id ∷ ids) (row ∷ rows)
with_jobs_more o id ids row rows =
    ap (λ xs. record o { ids = xs; rows = (o.rows ++ row ∷ []) ++ rows }) (append_assoc o.ids (id ∷ []) ids)
    ∙ ap (λ ys. record o { ids = o.ids ++ id ∷ ids; rows = ys }) (append_assoc o.rows (row ∷ []) rows)

jobs_run : (devices : List (List ℕ)) (classes : List PlannedClass) (jobs below last : ℕ) (o : Opened) (ids : List ℕ) (rows : List (List (Option ℕ))) (rest : List PlanLine)
    → length rows ≡ length ids → All (λ row. length row ≡ length devices) rows → RiseAbove last ids → jobs + length ids ≤ UNFINISHED_JOBS
    → plan_lines_next (within stages.Jobs devices classes jobs below last o) (job_lines ids rows ++ rest) ≡ plan_lines_next (within stages.Jobs devices classes (jobs + length ids) below (last_of last ids) (with_jobs o ids rows)) rest
jobs_run devices classes jobs below last o [] [] rest e all up few =
    ap (λ n. plan_lines_next (within stages.Jobs devices classes n below last o) rest) (let z : jobs ≡ jobs + length {A = ℕ} [] = omega arith in z)
    ∙ ap (λ xs. plan_lines_next (within stages.Jobs devices classes (jobs + length {A = ℕ} []) below last (record o { ids = xs })) rest) (sym (append-nil o.ids))
    ∙ ap (λ ys. plan_lines_next (within stages.Jobs devices classes (jobs + length {A = ℕ} []) below last (record o { ids = o.ids ++ []; rows = ys })) rest) (sym (append-nil o.rows))
jobs_run devices classes jobs below last o [] (row ∷ rows) rest e all up few = absurd (omega (arith, e))
jobs_run devices classes jobs below last o (id ∷ ids) [] rest e all up few = absurd (omega (arith, e))
jobs_run devices classes jobs below last o (id ∷ ids) (row ∷ rows) rest e all up few =
    let P : List (Option ℕ) → Type 0 = λ row. length row ≡ length devices in
    let more : (jobs + 1) + length ids ≡ jobs + length (id ∷ ids) = omega arith in
    stepped (within stages.Jobs devices classes jobs below last o) (within stages.Jobs devices classes (jobs + 1) below id (with_jobs o (id ∷ []) (row ∷ []))) (JobLine id row) (job_lines ids rows ++ rest) refl
    (job_step devices classes jobs below last o id row (All-head P row rows all) (omega (arith, few)) up.0)
    ∙ jobs_run devices classes (jobs + 1) below id (with_jobs o (id ∷ []) (row ∷ [])) ids rows rest (omega (arith, e)) (All-tail P row rows all) up.1 (omega (arith, few))
    ∙ ap (λ n. plan_lines_next (within stages.Jobs devices classes n below (last_of id ids) (with_jobs (with_jobs o (id ∷ []) (row ∷ [])) ids rows)) rest) more
    ∙ ap (λ x. plan_lines_next (within stages.Jobs devices classes (jobs + length (id ∷ ids)) below (last_of id ids) x) rest) (with_jobs_more o id ids row rows)

-- the device after those that were named
named_next : (done : List (List ℕ)) (name : List ℕ) (names : List (List ℕ)) → (nat_lt (length done) (length (done ++ name ∷ names)) && bytes_eq (slice_index_or (done ++ name ∷ names) (length done) []) name) ≡ true
named_next done name names =
    and_from (nat_lt (length done) (length (done ++ name ∷ names))) (bytes_eq (slice_index_or (done ++ name ∷ names) (length done) []) name)
    (lt-ltb (length done) (length (done ++ name ∷ names)) (omega (arith, length-append done (name ∷ names))))
    (ap (λ x. bytes_eq x name) (at_length done) ∙ same name)
  where
    at_length : (xs : List (List ℕ)) → slice_index_or (xs ++ name ∷ names) (length xs) [] ≡ name
    at_length [] = refl
    at_length (x ∷ xs) = at_length xs

    same : (x : List ℕ) → bytes_eq x x ≡ true
    same [] = refl
    same (b ∷ x) = and_from (b == b) (bytes_eq x x) (eq-eqb b b refl) (same x)

abbrev with_queues : Opened → List (List ℕ) → Opened
with_queues o queues = record o { queues = queues }

way_step : (done : List (List ℕ)) (name : List ℕ) (names : List (List ℕ)) (classes : List PlannedClass) (jobs below last : ℕ) (o : Opened) (queues : List (List ℕ)) (queue : List ℕ) → length queues ≡ length done
    → way_next (within stages.Ways (done ++ name ∷ names) classes jobs below last (with_queues o queues)) name queue ≡ ok (within stages.Ways (done ++ name ∷ names) classes jobs below last (with_queues o (queues ++ queue ∷ [])))
unfolding way_next
way_step done name names classes jobs below last o queues queue e = rw (e, named_next done name names) refl

ways_run : (done names : List (List ℕ)) (classes : List PlannedClass) (jobs below last : ℕ) (o : Opened) (queues way : List (List ℕ)) (rest : List PlanLine) → length queues ≡ length done → length way ≡ length names
    → plan_lines_next (within stages.Ways (done ++ names) classes jobs below last (with_queues o queues)) (way_lines names way ++ rest) ≡ plan_lines_next (within stages.Ways (done ++ names) classes jobs below last (with_queues o (queues ++ way))) rest
ways_run done [] classes jobs below last o queues [] rest e f = ap (λ qs. plan_lines_next (within stages.Ways (done ++ []) classes jobs below last (with_queues o qs)) rest) (sym (append-nil queues))
ways_run done [] classes jobs below last o queues (queue ∷ way) rest e f = absurd (omega (arith, f))
ways_run done (name ∷ names) classes jobs below last o queues [] rest e f = absurd (omega (arith, f))
ways_run done (name ∷ names) classes jobs below last o queues (queue ∷ way) rest e f =
    let all : (done ++ name ∷ []) ++ names ≡ done ++ name ∷ names = append_assoc done (name ∷ []) names in
    let S : List (List ℕ) → List (List ℕ) → DraftRecord = λ ds qs. within stages.Ways ds classes jobs below last (with_queues o qs) in
    stepped (S (done ++ name ∷ names) queues) (S (done ++ name ∷ names) (queues ++ queue ∷ [])) (WayLine name queue) (way_lines names way ++ rest) refl (way_step done name names classes jobs below last o queues queue e)
    ∙ ap (λ ds. plan_lines_next (S ds (queues ++ queue ∷ [])) (way_lines names way ++ rest)) (sym all)
    ∙ ways_run (done ++ name ∷ []) names classes jobs below last o (queues ++ queue ∷ []) way rest (omega (arith, e, length-append queues (queue ∷ []), length-append done (name ∷ []))) (omega (arith, f))
    ∙ ap (λ ds. plan_lines_next (S ds ((queues ++ queue ∷ []) ++ way)) rest) all
    ∙ ap (λ qs. plan_lines_next (S (done ++ name ∷ names) qs) rest) (append_assoc queues (queue ∷ []) way)

abbrev with_places : Opened → List (List ℤ) → Opened
with_places o lists = record o { place_prices = lists }

place_step : (done : List (List ℕ)) (name : List ℕ) (names : List (List ℕ)) (classes : List PlannedClass) (jobs below last : ℕ) (o : Opened) (lists : List (List ℤ)) (prices : List ℤ) → length lists ≡ length done
    → place_prices_next (within stages.PlacePrices (done ++ name ∷ names) classes jobs below last (with_places o lists)) name prices ≡ ok (within stages.PlacePrices (done ++ name ∷ names) classes jobs below last (with_places o (lists ++ prices ∷ [])))
unfolding place_prices_next
place_step done name names classes jobs below last o lists prices e = rw (e, named_next done name names) refl

places_run : (done names : List (List ℕ)) (classes : List PlannedClass) (jobs below last : ℕ) (o : Opened) (before lists : List (List ℤ)) (rest : List PlanLine) → length before ≡ length done → length lists ≡ length names
    → plan_lines_next (within stages.PlacePrices (done ++ names) classes jobs below last (with_places o before)) (place_price_lines names lists ++ rest) ≡ plan_lines_next (within stages.PlacePrices (done ++ names) classes jobs below last (with_places o (before ++ lists))) rest
places_run done [] classes jobs below last o before [] rest e f = ap (λ ps. plan_lines_next (within stages.PlacePrices (done ++ []) classes jobs below last (with_places o ps)) rest) (sym (append-nil before))
places_run done [] classes jobs below last o before (prices ∷ lists) rest e f = absurd (omega (arith, f))
places_run done (name ∷ names) classes jobs below last o before [] rest e f = absurd (omega (arith, f))
places_run done (name ∷ names) classes jobs below last o before (prices ∷ lists) rest e f =
    let all : (done ++ name ∷ []) ++ names ≡ done ++ name ∷ names = append_assoc done (name ∷ []) names in
    let S : List (List ℕ) → List (List ℤ) → DraftRecord = λ ds ps. within stages.PlacePrices ds classes jobs below last (with_places o ps) in
    stepped (S (done ++ name ∷ names) before) (S (done ++ name ∷ names) (before ++ prices ∷ [])) (PlacePricesLine name prices) (place_price_lines names lists ++ rest) refl (place_step done name names classes jobs below last o before prices e)
    ∙ ap (λ ds. plan_lines_next (S ds (before ++ prices ∷ [])) (place_price_lines names lists ++ rest)) (sym all)
    ∙ places_run (done ++ name ∷ []) names classes jobs below last o (before ++ prices ∷ []) lists rest (omega (arith, e, length-append before (prices ∷ []), length-append done (name ∷ []))) (omega (arith, f))
    ∙ ap (λ ds. plan_lines_next (S ds ((before ++ prices ∷ []) ++ lists)) rest) all
    ∙ ap (λ ps. plan_lines_next (S (done ++ name ∷ names) ps) rest) (append_assoc before (prices ∷ []) lists)

-- the class whose lines are all there
abbrev full : PlannedClass → Opened
full c = record {
  priority = c.priority;
  ids = c.problem.ids;
  rows = c.problem.rows;
  waits = c.problem.waits;
  queues = c.priced.way;
  total = c.priced.total;
  job_prices = c.priced.prices.jobs;
  place_prices = c.priced.prices.places;
}

-- these classes were read, the last class perhaps not closed yet
record IsBetween (devices : List (List ℕ)) (classes : List PlannedClass) (jobs below : ℕ) (draft : DraftRecord) : Type 0 where
  pub live : is_at draft stages.Ended ≡ false
  pub early : is_at draft stages.Stranded ≡ false
  pub stage : Stage
  pub opened : Opened
  pub closes : closed draft ≡ ok (within stage devices classes jobs below 0 opened)

class_step : (devices : List (List ℕ)) (classes : List PlannedClass) (jobs below priority : ℕ) (draft : DraftRecord) → IsBetween devices classes jobs below draft → priority < below
    → class_next draft priority ≡ ok (within stages.Jobs devices classes jobs priority 0 (opened_at priority))
unfolding class_next class_opened
class_step devices classes jobs below priority draft b l = rw (b.closes, lt-ltb priority below l) refl

wait_step : (devices : List (List ℕ)) (classes : List PlannedClass) (jobs below last : ℕ) (o : Opened) (waits : List ℕ) → length waits ≡ length devices
    → wait_next (within stages.Jobs devices classes jobs below last o) waits ≡ ok (within stages.Ways devices classes jobs below last (record o { waits = waits }))
unfolding wait_next
wait_step devices classes jobs below last o waits e = rw (eq-eqb (length waits) (length devices) e) refl

total_step : (devices : List (List ℕ)) (classes : List PlannedClass) (jobs below last : ℕ) (o : Opened) (total : ℕ) → length o.queues ≡ length devices
    → total_next (within stages.Ways devices classes jobs below last o) total ≡ ok (within stages.JobPrices devices classes jobs below last (record o { total = total }))
unfolding total_next
total_step devices classes jobs below last o total e = rw (eq-eqb (length o.queues) (length devices) e) refl

job_prices_step : (devices : List (List ℕ)) (classes : List PlannedClass) (jobs below last : ℕ) (o : Opened) (prices : List ℤ)
    → job_prices_next (within stages.JobPrices devices classes jobs below last o) prices ≡ ok (within stages.PlacePrices devices classes jobs below last (record o { job_prices = prices }))
unfolding job_prices_next
job_prices_step devices classes jobs below last o prices = refl

class_run : (devices : List (List ℕ)) (classes : List PlannedClass) (jobs below : ℕ) (draft : DraftRecord) (c : PlannedClass) (rest : List PlanLine) → IsBetween devices classes jobs below draft → c.priority < below → IsClassInRange (length devices) c → jobs + length c.problem.ids ≤ UNFINISHED_JOBS
    → plan_lines_next draft (class_lines devices c ++ rest) ≡ plan_lines_next (within stages.PlacePrices devices classes (jobs + length c.problem.ids) c.priority (last_of 0 c.problem.ids) (full c)) rest
unfolding class_lines
class_run devices classes jobs below draft c rest b l r few =
    let p : ℕ = c.priority in
    let ids : List ℕ = c.problem.ids in
    let rows : List (List (Option ℕ)) = c.problem.rows in
    let n : ℕ = jobs + length ids in
    let last : ℕ = last_of 0 ids in
    let J : List PlanLine = job_lines ids rows in
    let W : List PlanLine = class_way_lines devices c in
    let P : List PlanLine = class_price_lines devices c in
    let o1 : Opened = with_jobs (opened_at p) ids rows in
    let o2 : Opened = record o1 { waits = c.problem.waits } in
    let o3 : Opened = with_queues o2 c.priced.way in
    let o4 : Opened = record o3 { total = c.priced.total } in
    let o5 : Opened = record o4 { job_prices = c.priced.prices.jobs } in
    let prices : List PlanLine = place_price_lines devices c.priced.prices.places ++ rest in
    let totals : List PlanLine = TotalLine c.priced.total ∷ JobPricesLine c.priced.prices.jobs ∷ prices in
    stepped draft (within stages.Jobs devices classes jobs p 0 (opened_at p)) (ClassLine p) ((J ++ (W ++ P)) ++ rest) b.live (class_step devices classes jobs below p draft b l)
    ∙ ap (λ ls. plan_lines_next (within stages.Jobs devices classes jobs p 0 (opened_at p)) ls) (append_assoc J (W ++ P) rest ∙ ap (λ ls. J ++ ls) (append_assoc W P rest))
    ∙ jobs_run devices classes jobs p 0 (opened_at p) ids rows (W ++ (P ++ rest)) r.problem.one_row_each (λ k d m. r.problem.one_time_each k d m ∙ r.waits) (rise_from ids r.problem.rising r.ids) few
    ∙ stepped (within stages.Jobs devices classes n p last o1) (within stages.Ways devices classes n p last o2) (WaitLine c.problem.waits) (way_lines devices c.priced.way ++ totals) refl (wait_step devices classes n p last o1 c.problem.waits r.waits)
    ∙ ways_run [] devices classes n p last o2 [] c.priced.way totals refl r.ways
    ∙ stepped (within stages.Ways devices classes n p last o3) (within stages.JobPrices devices classes n p last o4) (TotalLine c.priced.total) (JobPricesLine c.priced.prices.jobs ∷ prices) refl (total_step devices classes n p last o3 c.priced.total r.ways)
    ∙ stepped (within stages.JobPrices devices classes n p last o4) (within stages.PlacePrices devices classes n p last o5) (JobPricesLine c.priced.prices.jobs) prices refl (job_prices_step devices classes n p last o4 c.priced.prices.jobs)
    ∙ places_run [] devices classes n p last o5 [] c.priced.prices.places rest refl r.places

class_closes : (devices : List (List ℕ)) (classes : List PlannedClass) (jobs last : ℕ) (c : PlannedClass) → IsClassInRange (length devices) c
    → closed (within stages.PlacePrices devices classes jobs c.priority last (full c)) ≡ ok (within stages.PlacePrices devices (classes ++ c ∷ []) jobs c.priority 0 (opened_at c.priority))
unfolding closed
class_closes devices classes jobs last c r = rw (eq-eqb (length c.priced.prices.places) (length devices) r.places, problem_is c.problem r.problem) refl

between_class : (devices : List (List ℕ)) (classes : List PlannedClass) (jobs last : ℕ) (c : PlannedClass) → IsClassInRange (length devices) c
    → IsBetween devices (classes ++ c ∷ []) jobs c.priority (within stages.PlacePrices devices classes jobs c.priority last (full c))
between_class devices classes jobs last c r = record { live = refl; early = refl; stage = stages.PlacePrices; opened = opened_at c.priority; closes = class_closes devices classes jobs last c r }

-- the state of the reader after these lines
record AfterClasses (devices : List (List ℕ)) (classes : List PlannedClass) (jobs : ℕ) (draft : DraftRecord) (lines rest : List PlanLine) : Type 0 where
  pub draft' : DraftRecord
  pub below : ℕ
  pub reads : plan_lines_next draft (lines ++ rest) ≡ plan_lines_next draft' rest
  pub between : IsBetween devices classes jobs below draft'

classes_run : (devices : List (List ℕ)) (before : List PlannedClass) (jobs below : ℕ) (draft : DraftRecord) (classes : List PlannedClass) (rest : List PlanLine) → IsBetween devices before jobs below draft → PrioritiesFall below classes → All (IsClassInRange (length devices)) classes → jobs + jobs_in classes ≤ UNFINISHED_JOBS
    → AfterClasses devices (before ++ classes) (jobs + jobs_in classes) draft (classes_lines devices classes) rest
classes_run devices before jobs below draft [] rest b fall r few =
    let none : jobs ≡ jobs + 0 = omega arith in
    record { draft' = draft; below = below; reads = refl; between = subst (λ cs. IsBetween devices cs (jobs + 0) below draft) (sym (append-nil before)) (subst (λ n. IsBetween devices before n below draft) none b) }
classes_run devices before jobs below draft (c ∷ classes) rest b fall r few =
    let first : IsClassInRange (length devices) c = All-head (IsClassInRange (length devices)) c classes r in
    let n : ℕ = jobs + length c.problem.ids in
    let then' : DraftRecord = within stages.PlacePrices devices before n c.priority (last_of 0 c.problem.ids) (full c) in
    let after : AfterClasses devices ((before ++ c ∷ []) ++ classes) (n + jobs_in classes) then' (classes_lines devices classes) rest =
    classes_run devices (before ++ c ∷ []) n c.priority then' classes rest (between_class devices before n (last_of 0 c.problem.ids) c first) fall.1 (All-tail (IsClassInRange (length devices)) c classes r) (omega (arith, few)) in
    let sum : n + jobs_in classes ≡ jobs + (length c.problem.ids + jobs_in classes) = omega arith in
    record {
      draft' = after.draft';
      below = after.below;
      reads = ap (λ ls. plan_lines_next draft ls) (append_assoc (class_lines devices c) (classes_lines devices classes) rest) ∙ class_run devices before jobs below draft c (classes_lines devices classes ++ rest) b fall.0 first (omega (arith, few)) ∙ after.reads;
      between = subst (λ cs. IsBetween devices cs (jobs + (length c.problem.ids + jobs_in classes)) after.below after.draft') (append_assoc before (c ∷ []) classes) (subst (λ m. IsBetween devices ((before ++ c ∷ []) ++ classes) m after.below after.draft') sum after.between);
    }

-- ---- the stranded jobs and the end

-- the draft has all classes and these stranded jobs
record IsReady (devices : List (List ℕ)) (classes : List PlannedClass) (stranded : List Stranded) (jobs last : ℕ) (draft : DraftRecord) : Type 0 where
  pub live : is_at draft stages.Ended ≡ false
  pub stage : Stage
  pub below : ℕ
  pub opened : Opened
  pub over : classes_over draft ≡ ok (record { stage = stage; devices = devices; classes = classes; stranded = stranded; jobs = jobs; below = below; last = last; opened = opened })

ready_from : (devices : List (List ℕ)) (classes : List PlannedClass) (jobs below : ℕ) (draft : DraftRecord) → IsBetween devices classes jobs below draft → IsReady devices classes [] jobs 0 draft
unfolding classes_over
ready_from devices classes jobs below draft b = record { live = b.live; stage = b.stage; below = below; opened = b.opened; over = rw (b.early) b.closes }

stranded_step : (devices : List (List ℕ)) (classes : List PlannedClass) (stranded : List Stranded) (jobs last : ℕ) (draft : DraftRecord) (s : Stranded) (r : IsReady devices classes stranded jobs last draft) → jobs < UNFINISHED_JOBS → last < s.job
    → stranded_next draft s ≡ ok (record { stage = stages.Stranded; devices = devices; classes = classes; stranded = stranded ++ s ∷ []; jobs = jobs + 1; below = r.below; last = s.job; opened = r.opened })
unfolding stranded_next stranded_added
stranded_step devices classes stranded jobs last draft s r l m = rw (r.over, lt-ltb jobs UNFINISHED_JOBS l, lt-ltb last s.job m) refl

ready_again : (devices : List (List ℕ)) (classes : List PlannedClass) (stranded : List Stranded) (jobs below last : ℕ) (opened : Opened)
    → IsReady devices classes stranded jobs last (record { stage = stages.Stranded; devices = devices; classes = classes; stranded = stranded; jobs = jobs; below = below; last = last; opened = opened })
unfolding classes_over
ready_again devices classes stranded jobs below last opened = record { live = refl; stage = stages.Stranded; below = below; opened = opened; over = refl }

record AfterStranded (devices : List (List ℕ)) (classes : List PlannedClass) (stranded : List Stranded) (draft : DraftRecord) (lines rest : List PlanLine) : Type 0 where
  pub draft' : DraftRecord
  pub jobs : ℕ
  pub last : ℕ
  pub reads : plan_lines_next draft (lines ++ rest) ≡ plan_lines_next draft' rest
  pub ready : IsReady devices classes stranded jobs last draft'

stranded_run : (devices : List (List ℕ)) (classes : List PlannedClass) (before : List Stranded) (jobs last : ℕ) (draft : DraftRecord) (stranded : List Stranded) (rest : List PlanLine) → IsReady devices classes before jobs last draft → StrandedRise last stranded → jobs + length stranded ≤ UNFINISHED_JOBS
    → AfterStranded devices classes (before ++ stranded) draft (stranded_lines stranded) rest
stranded_run devices classes before jobs last draft [] rest r rise few =
    record { draft' = draft; jobs = jobs; last = last; reads = refl; ready = subst (λ ss. IsReady devices classes ss jobs last draft) (sym (append-nil before)) r }
stranded_run devices classes before jobs last draft (s ∷ stranded) rest r rise few =
    let then' : DraftRecord = record { stage = stages.Stranded; devices = devices; classes = classes; stranded = before ++ s ∷ []; jobs = jobs + 1; below = r.below; last = s.job; opened = r.opened } in
    let after : AfterStranded devices classes ((before ++ s ∷ []) ++ stranded) then' (stranded_lines stranded) rest =
    stranded_run devices classes (before ++ s ∷ []) (jobs + 1) s.job then' stranded rest (ready_again devices classes (before ++ s ∷ []) (jobs + 1) r.below s.job r.opened) rise.1 (omega (arith, few)) in
    record {
      draft' = after.draft';
      jobs = after.jobs;
      last = after.last;
      reads = stepped draft then' (StrandedLine s) (stranded_lines stranded ++ rest) r.live (stranded_step devices classes before jobs last draft s r (omega (arith, few)) rise.0) ∙ after.reads;
      ready = subst (λ ss. IsReady devices classes ss after.jobs after.last after.draft') (append_assoc before (s ∷ []) stranded) after.ready;
    }

end_step : (devices : List (List ℕ)) (classes : List PlannedClass) (stranded : List Stranded) (jobs last : ℕ) (draft : DraftRecord) (r : IsReady devices classes stranded jobs last draft)
    → end_next draft ≡ ok (record { stage = stages.Ended; devices = devices; classes = classes; stranded = stranded; jobs = jobs; below = r.below; last = last; opened = r.opened })
unfolding end_next
end_step devices classes stranded jobs last draft r = rw (r.over) refl

ended_run : (devices : List (List ℕ)) (classes : List PlannedClass) (stranded : List Stranded) (jobs last : ℕ) (draft : DraftRecord) → IsReady devices classes stranded jobs last draft
    → (plan_lines_next draft (EndLine ∷ []) >>= λ h. ended h []) ≡ ok (record { devices = devices; plan = record { classes = classes; stranded = stranded } })
unfolding ended
ended_run devices classes stranded jobs last draft r = rw (r.live, end_step devices classes stranded jobs last draft r) refl

between_none : (devices : List (List ℕ)) → IsBetween devices [] 0 (HIGHEST_PRIORITY + 1) (with_devices devices)
unfolding closed
between_none devices = record { live = refl; early = refl; stage = stages.Devices; opened = opened_at DEFAULT_PRIORITY; closes = refl }

plan_step : plan_next (empty_draft DEFAULT_PRIORITY) ≡ ok (with_devices [])
unfolding plan_next
plan_step = refl

-- the plan is read back
pub plan_back : (named : NamedPlan) → IsPlanInRange named → plan_at (plan_text named) ≡ ok named
unfolding plan_text
plan_back named r =
    let devices : List (List ℕ) = named.devices in
    let classes : List PlannedClass = named.plan.classes in
    let stranded : List Stranded = named.plan.stranded in
    let last : List PlanLine = EndLine ∷ [] in
    let lines2 : List PlanLine = stranded_lines stranded ++ last in
    let lines1 : List PlanLine = classes_lines devices classes ++ lines2 in
    let finish : Result DraftRecord TextFault → Result NamedPlan TextFault = λ h. h >>= λ draft. ended draft [] in
    let c : AfterClasses devices classes (jobs_in classes) (with_devices devices) (classes_lines devices classes) lines2 =
    subst (λ n. AfterClasses devices classes n (with_devices devices) (classes_lines devices classes) lines2) (let z : 0 + jobs_in classes ≡ jobs_in classes = omega arith in z)
    (classes_run devices [] 0 (HIGHEST_PRIORITY + 1) (with_devices devices) classes lines2 (between_none devices) r.fall r.classes (omega (arith, r.few_jobs))) in
    let s : AfterStranded devices classes stranded c.draft' (stranded_lines stranded) last =
    stranded_run devices classes [] (jobs_in classes) 0 c.draft' stranded last (ready_from devices classes (jobs_in classes) c.below c.draft' c.between) r.rise r.few_jobs in
    text_parsed (plan_lines named) (plan_in_range named r)
    ∙ ap finish (stepped (empty_draft DEFAULT_PRIORITY) (with_devices []) HeadLine (device_lines devices ++ lines1) refl plan_step)
    ∙ ap finish (devices_run [] devices lines1 (omega (arith, r.few_devices)))
    ∙ ap finish c.reads
    ∙ ap finish s.reads
    ∙ ended_run devices classes stranded s.jobs s.last s.draft' s.ready
