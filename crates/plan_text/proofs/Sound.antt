-- Each class that a reader has kept has a wait, a way and place prices for each device.
use Rattle.std.proofs.Common.{◌≡◌, ◌==◌, ◌&&◌, ◌⊎◌, inl, inr, ℕ, ◌+◌, ◌≤◌, Bool, true, false, not, List, [], ◌∷◌, ◌++◌, length, All, IfOk, Result, Ok, Err, if◌then◌else◌, nat_lt, refl, sym, subst, ◌∙◌, arith, ℤ, Option, take, slice_index_or, ◌-◌}
use Rattle.std.proofs.lemmas.Bool.{and_parts, eqb-true, not-false}
use Rattle.std.proofs.lemmas.List.Elements.{All-append, All-cons, All-nil}
use Rattle.base_types.specs.declared.limits.TheConstants.Limits.{DEVICES, DEFAULT_PRIORITY}
use Rattle.plan_prices.specs.declared.plan.PlannedClass.{PlannedClass}
use Rattle.base_types.specs.declared.needs.Stranded.{Stranded}
use Rattle.plan_text.specs.declared.fault.TextFault.{TextFault}
use Rattle.plan_text.specs.declared.fault.TextFault.TheVariants.{BadLine, OutOfRange, NoEnd}
use Rattle.plan_text.specs.declared.stage.Stage.TheVariants as stages
use Rattle.plan_text.specs.declared.fault.ReadError.{ReadError}
use Rattle.text.specs.Steps.{◌>>=◌}
use Rattle.text.proofs.Chains.{went_on}
use Rattle.plan_text.specs.Reading.{Gives}
use Rattle.plan_text.specs.NamedPlan.{NamedPlan, HasOneEach}
use Rattle.plan_prices.specs.Plan.{HasOneListEach}
use Rattle.plan_text.specs.Line.{PlanLine, HeadLine, DeviceLine, ClassLine, JobLine, WaitLine, WayLine, TotalLine, JobPricesLine, PlacePricesLine, StrandedLine, EndLine, line_at}
use Rattle.plan_text.specs.Steps.{DraftRecord, stage_number, is_at, one_each, is_named, may_have, plan_next, device_next, is_problem, problem_of, planned, opened_at, opened_kept, closed, class_opened, class_next, job_next, wait_next, way_next, total_next, job_prices_next, place_prices_next, classes_over, stranded_added, stranded_next, end_next, next}
use Rattle.plan_text.specs.Whole.{line_next, lines_next, empty_draft, plan_of, ended, plan_from, plan_in, plan_at}
use Rattle.text.specs.Parts.{words_of, texts_of}

-- steps that end well

abbrev pub ok : {X : Type 0} → X → Result X TextFault
ok x = Ok x

pub ok_is : {X : Type 0} (x y : X) → ok x ≡ ok y → x ≡ y
ok_is x y h = cc

pub taken : {X : Type 0} (b : Bool) (r : Result X TextFault) (fault : TextFault) (x : X) → (if b then r else Err fault) ≡ ok x → (b ≡ true) × (r ≡ ok x)
taken true r fault x h = (refl, h)
taken false r fault x h = absurd (cc)

pub passed : {X : Type 0} (b : Bool) (r : Result X TextFault) (fault : TextFault) (x : X) → (if b then Err fault else r) ≡ ok x → (b ≡ false) × (r ≡ ok x)
passed true r fault x h = absurd (cc)
passed false r fault x h = (refl, h)

pub either : {X : Type 0} (b : Bool) (r q : Result X TextFault) (x : X) → (if b then r else q) ≡ ok x → ((b ≡ true) × (r ≡ ok x)) ⊎ ((b ≡ false) × (q ≡ ok x))
either true r q x h = inl (refl, h)
either false r q x h = inr (refl, h)

-- a class with a wait, a way and place prices for each of `devices` devices
pub record HasEach (devices : ℕ) (c : PlannedClass) : Type 0 where
  pub waits : length c.problem.waits ≡ devices
  pub ways : length c.priced.way ≡ devices
  pub places : length c.priced.prices.places ≡ devices

abbrev pub AllKept : DraftRecord → Type 0
AllKept draft = All (HasEach (length draft.devices)) draft.classes

-- the state of the reader between two lines
pub record IsSound (draft : DraftRecord) : Type 0 where
  pub kept : AllKept draft
  pub none_yet : stage_number draft.stage ≤ 1 → draft.classes ≡ []
  pub waits : 3 ≤ stage_number draft.stage → stage_number draft.stage ≤ 5 → length draft.opened.waits ≡ length draft.devices
  pub ways : 4 ≤ stage_number draft.stage → stage_number draft.stage ≤ 5 → length draft.opened.queues ≡ length draft.devices

plan_sound : (draft new : DraftRecord) → plan_next draft ≡ ok new → IsSound draft → IsSound new
unfolding plan_next
plan_sound draft new h s =
    let after : DraftRecord = record draft { stage = stages.Devices } in
    let t = taken (is_at draft stages.Start) (ok after) BadLine new h in
    let here : stage_number draft.stage ≡ 0 = eqb-true (stage_number draft.stage) 0 t.0 in
    let none : draft.classes ≡ [] = s.none_yet (omega arith) in
    let sound : IsSound after = record { kept = s.kept; none_yet = λ _. none; waits = λ l m. absurd (omega (arith, l)); ways = λ l m. absurd (omega (arith, l)) } in
    subst IsSound (ok_is after new t.1) sound

device_sound : (draft new : DraftRecord) (name : List ℕ) → device_next draft name ≡ ok new → IsSound draft → IsSound new
unfolding device_next
device_sound draft new name h s =
    let after : DraftRecord = record draft { devices = draft.devices ++ name ∷ [] } in
    let p = passed (not (is_at draft stages.Devices)) (if nat_lt (length draft.devices) DEVICES then ok after else Err OutOfRange) BadLine new h in
    let t = taken (nat_lt (length draft.devices) DEVICES) (ok after) OutOfRange new p.1 in
    let here : stage_number draft.stage ≡ 1 = eqb-true (stage_number draft.stage) 1 (not-false (is_at draft stages.Devices) p.0) in
    let none : draft.classes ≡ [] = s.none_yet (omega arith) in
    let n : ℕ = length (draft.devices ++ name ∷ []) in
    let kept : All (HasEach n) draft.classes = subst (All (HasEach n)) (sym none) (All-nil (HasEach n)) in
    let sound : IsSound after = record { kept = kept; none_yet = λ _. none; waits = λ l m. absurd (omega (arith, l, here)); ways = λ l m. absurd (omega (arith, l, here)) } in
    subst IsSound (ok_is after new t.1) sound

-- a closed class has the properties of each class
closed_kept : (draft whole : DraftRecord) → closed draft ≡ ok whole → IsSound draft → AllKept whole
unfolding closed
closed_kept draft whole h s =
    let good : Result DraftRecord TextFault = if is_problem (problem_of draft.opened) then ok (opened_kept draft) else Err OutOfRange in
    let last : Bool = is_at draft stages.PlacePrices && one_each draft draft.opened.place_prices in
    elim (either (is_at draft stages.Devices) (ok draft) (if last then good else Err BadLine) whole h) [
      | inl early ↦ subst AllKept (ok_is draft whole early.1) s.kept
      | inr late ↦
          let t = taken last good BadLine whole late.1 in
          let b : (is_at draft stages.PlacePrices ≡ true) × (one_each draft draft.opened.place_prices ≡ true) = and_parts (is_at draft stages.PlacePrices) (one_each draft draft.opened.place_prices) t.0 in
          let p = taken (is_problem (problem_of draft.opened)) (ok (opened_kept draft)) OutOfRange whole t.1 in
          let here : stage_number draft.stage ≡ 5 = eqb-true (stage_number draft.stage) 5 b.0 in
          let n : ℕ = length draft.devices in
          let last_kept : HasEach n (planned draft.opened) = record {
            waits = s.waits (omega arith) (omega arith);
            ways = s.ways (omega arith) (omega arith);
            places = eqb-true (length draft.opened.place_prices) n b.1;
          } in
          let all : AllKept (opened_kept draft) = All-append (HasEach n) draft.classes (planned draft.opened ∷ []) s.kept (All-cons (HasEach n) (planned draft.opened) [] last_kept (All-nil (HasEach n))) in
          subst AllKept (ok_is (opened_kept draft) whole p.1) all
    ]

class_sound : (draft new : DraftRecord) (priority : ℕ) → class_next draft priority ≡ ok new → IsSound draft → IsSound new
unfolding class_next class_opened
class_sound draft new priority h s =
    let w = went_on (closed draft) (λ whole. class_opened whole priority) new h in
    let whole : DraftRecord = w.0 in
    let after : DraftRecord = record whole { stage = stages.Jobs; below = priority; last = 0; opened = opened_at priority } in
    let t = taken (nat_lt priority whole.below) (ok after) OutOfRange new w.2 in
    let sound : IsSound after = record { kept = closed_kept draft whole w.1 s; none_yet = λ l. absurd (omega (arith, l)); waits = λ l m. absurd (omega (arith, l)); ways = λ l m. absurd (omega (arith, l)) } in
    subst IsSound (ok_is after new t.1) sound

job_sound : (draft new : DraftRecord) (id : ℕ) (times : List (Option ℕ)) → job_next draft id times ≡ ok new → IsSound draft → IsSound new
unfolding job_next
job_sound draft new id times h s =
    let after : DraftRecord = record draft { jobs = draft.jobs + 1; last = id; opened = record draft.opened { ids = draft.opened.ids ++ id ∷ []; rows = draft.opened.rows ++ times ∷ [] } } in
    let p = passed (not (is_at draft stages.Jobs && one_each draft times)) (if may_have draft id then ok after else Err OutOfRange) BadLine new h in
    let t = taken (may_have draft id) (ok after) OutOfRange new p.1 in
    let b : (is_at draft stages.Jobs ≡ true) × (one_each draft times ≡ true) = and_parts (is_at draft stages.Jobs) (one_each draft times) (not-false (is_at draft stages.Jobs && one_each draft times) p.0) in
    let here : stage_number draft.stage ≡ 2 = eqb-true (stage_number draft.stage) 2 b.0 in
    let sound : IsSound after = record { kept = s.kept; none_yet = λ l. absurd (omega (arith, l, here)); waits = λ l m. absurd (omega (arith, l, here)); ways = λ l m. absurd (omega (arith, l, here)) } in
    subst IsSound (ok_is after new t.1) sound

wait_sound : (draft new : DraftRecord) (waits : List ℕ) → wait_next draft waits ≡ ok new → IsSound draft → IsSound new
unfolding wait_next
wait_sound draft new waits h s =
    let after : DraftRecord = record draft { stage = stages.Ways; opened = record draft.opened { waits = waits } } in
    let t = taken (is_at draft stages.Jobs && one_each draft waits) (ok after) BadLine new h in
    let b : (is_at draft stages.Jobs ≡ true) × (one_each draft waits ≡ true) = and_parts (is_at draft stages.Jobs) (one_each draft waits) t.0 in
    let sound : IsSound after = record { kept = s.kept; none_yet = λ l. absurd (omega (arith, l)); waits = λ l m. eqb-true (length waits) (length draft.devices) b.1; ways = λ l m. absurd (omega (arith, l)) } in
    subst IsSound (ok_is after new t.1) sound

way_sound : (draft new : DraftRecord) (name jobs : List ℕ) → way_next draft name jobs ≡ ok new → IsSound draft → IsSound new
unfolding way_next
way_sound draft new name jobs h s =
    let after : DraftRecord = record draft { opened = record draft.opened { queues = draft.opened.queues ++ jobs ∷ [] } } in
    let t = taken (is_at draft stages.Ways && is_named draft (length draft.opened.queues) name) (ok after) BadLine new h in
    let b : (is_at draft stages.Ways ≡ true) × (is_named draft (length draft.opened.queues) name ≡ true) = and_parts (is_at draft stages.Ways) (is_named draft (length draft.opened.queues) name) t.0 in
    let here : stage_number draft.stage ≡ 3 = eqb-true (stage_number draft.stage) 3 b.0 in
    let sound : IsSound after = record { kept = s.kept; none_yet = λ l. absurd (omega (arith, l, here)); waits = s.waits; ways = λ l m. absurd (omega (arith, l, here)) } in
    subst IsSound (ok_is after new t.1) sound

total_sound : (draft new : DraftRecord) (total : ℕ) → total_next draft total ≡ ok new → IsSound draft → IsSound new
unfolding total_next
total_sound draft new total h s =
    let after : DraftRecord = record draft { stage = stages.JobPrices; opened = record draft.opened { total = total } } in
    let t = taken (is_at draft stages.Ways && one_each draft draft.opened.queues) (ok after) BadLine new h in
    let b : (is_at draft stages.Ways ≡ true) × (one_each draft draft.opened.queues ≡ true) = and_parts (is_at draft stages.Ways) (one_each draft draft.opened.queues) t.0 in
    let here : stage_number draft.stage ≡ 3 = eqb-true (stage_number draft.stage) 3 b.0 in
    let waits : length draft.opened.waits ≡ length draft.devices = s.waits (omega arith) (omega arith) in
    let sound : IsSound after = record { kept = s.kept; none_yet = λ l. absurd (omega (arith, l)); waits = λ l m. waits; ways = λ l m. eqb-true (length draft.opened.queues) (length draft.devices) b.1 } in
    subst IsSound (ok_is after new t.1) sound

job_prices_sound : (draft new : DraftRecord) (prices : List ℤ) → job_prices_next draft prices ≡ ok new → IsSound draft → IsSound new
unfolding job_prices_next
job_prices_sound draft new prices h s =
    let after : DraftRecord = record draft { stage = stages.PlacePrices; opened = record draft.opened { job_prices = prices } } in
    let t = taken (is_at draft stages.JobPrices) (ok after) BadLine new h in
    let here : stage_number draft.stage ≡ 4 = eqb-true (stage_number draft.stage) 4 t.0 in
    let waits : length draft.opened.waits ≡ length draft.devices = s.waits (omega arith) (omega arith) in
    let ways : length draft.opened.queues ≡ length draft.devices = s.ways (omega arith) (omega arith) in
    let sound : IsSound after = record { kept = s.kept; none_yet = λ l. absurd (omega (arith, l)); waits = λ l m. waits; ways = λ l m. ways } in
    subst IsSound (ok_is after new t.1) sound

place_prices_sound : (draft new : DraftRecord) (name : List ℕ) (prices : List ℤ) → place_prices_next draft name prices ≡ ok new → IsSound draft → IsSound new
unfolding place_prices_next
place_prices_sound draft new name prices h s =
    let after : DraftRecord = record draft { opened = record draft.opened { place_prices = draft.opened.place_prices ++ prices ∷ [] } } in
    let t = taken (is_at draft stages.PlacePrices && is_named draft (length draft.opened.place_prices) name) (ok after) BadLine new h in
    let sound : IsSound after = record { kept = s.kept; none_yet = s.none_yet; waits = s.waits; ways = s.ways } in
    subst IsSound (ok_is after new t.1) sound

over_kept : (draft whole : DraftRecord) → classes_over draft ≡ ok whole → IsSound draft → AllKept whole
unfolding classes_over
over_kept draft whole h s = elim (either (is_at draft stages.Stranded) (ok draft) (closed draft) whole h) [
  | inl stays ↦ subst AllKept (ok_is draft whole stays.1) s.kept
  | inr closes ↦ closed_kept draft whole closes.1 s
]

stranded_sound : (draft new : DraftRecord) (stranded : Stranded) → stranded_next draft stranded ≡ ok new → IsSound draft → IsSound new
unfolding stranded_next stranded_added
stranded_sound draft new stranded h s =
    let w = went_on (classes_over draft) (λ whole. stranded_added whole stranded) new h in
    let whole : DraftRecord = w.0 in
    let after : DraftRecord = record whole { stage = stages.Stranded; stranded = whole.stranded ++ stranded ∷ []; jobs = whole.jobs + 1; last = stranded.job } in
    let t = taken (may_have whole stranded.job) (ok after) OutOfRange new w.2 in
    let sound : IsSound after = record { kept = over_kept draft whole w.1 s; none_yet = λ l. absurd (omega (arith, l)); waits = λ l m. absurd (omega (arith, m)); ways = λ l m. absurd (omega (arith, m)) } in
    subst IsSound (ok_is after new t.1) sound

end_sound : (draft new : DraftRecord) → end_next draft ≡ ok new → IsSound draft → IsSound new
unfolding end_next
end_sound draft new h s =
    let w = went_on (classes_over draft) (λ (whole : DraftRecord). ok (record whole { stage = stages.Ended })) new h in
    let whole : DraftRecord = w.0 in
    let after : DraftRecord = record whole { stage = stages.Ended } in
    let sound : IsSound after = record { kept = over_kept draft whole w.1 s; none_yet = λ l. absurd (omega (arith, l)); waits = λ l m. absurd (omega (arith, m)); ways = λ l m. absurd (omega (arith, m)) } in
    subst IsSound (ok_is after new w.2) sound

next_sound : (draft new : DraftRecord) (parsed : PlanLine) → next draft parsed ≡ ok new → IsSound draft → IsSound new
next_sound draft new HeadLine h s = plan_sound draft new h s
next_sound draft new (DeviceLine name) h s = device_sound draft new name h s
next_sound draft new (ClassLine priority) h s = class_sound draft new priority h s
next_sound draft new (JobLine id times) h s = job_sound draft new id times h s
next_sound draft new (WaitLine waits) h s = wait_sound draft new waits h s
next_sound draft new (WayLine device jobs) h s = way_sound draft new device jobs h s
next_sound draft new (TotalLine total) h s = total_sound draft new total h s
next_sound draft new (JobPricesLine prices) h s = job_prices_sound draft new prices h s
next_sound draft new (PlacePricesLine device prices) h s = place_prices_sound draft new device prices h s
next_sound draft new (StrandedLine stranded) h s = stranded_sound draft new stranded h s
next_sound draft new EndLine h s = end_sound draft new h s

line_sound : (draft new : DraftRecord) (line : List ℕ) → line_next draft line ≡ ok new → IsSound draft → IsSound new
unfolding line_next
line_sound draft new line h s =
    let p = passed (is_at draft stages.Ended) (line_at (words_of line) >>= λ parsed. next draft parsed) BadLine new h in
    let w = went_on (line_at (words_of line)) (λ parsed. next draft parsed) new p.1 in
    next_sound draft new w.0 w.2 s

lines_sound : (draft new : DraftRecord) (lines : List (List ℕ)) → lines_next draft lines ≡ ok new → IsSound draft → IsSound new
lines_sound draft new [] h s = subst IsSound (ok_is draft new h) s
lines_sound draft new (line ∷ lines) h s =
    let w = went_on (line_next draft line) (λ then'. lines_next then' lines) new h in
    lines_sound w.0 new lines w.2 (line_sound draft w.0 line w.1 s)

start_sound : (priority : ℕ) → IsSound (empty_draft priority)
start_sound priority = record { kept = All-nil (HasEach 0); none_yet = λ _. refl; waits = λ l m. absurd (omega (arith, l)); ways = λ l m. absurd (omega (arith, l)) }

abbrev pub EachHasLists : NamedPlan → Type 0
EachHasLists named = All (HasEach (length named.devices)) named.plan.classes

ended_kept : (draft : DraftRecord) (rest : List ℕ) (named : NamedPlan) → ended draft rest ≡ ok named → IsSound draft → EachHasLists named
unfolding ended
ended_kept draft rest named h s =
    let p = passed (not (is_at draft stages.Ended)) (if length rest == 0 then ok (plan_of draft) else Err BadLine) NoEnd named h in
    let t = taken (length rest == 0) (ok (plan_of draft)) BadLine named p.1 in
    subst EachHasLists (ok_is (plan_of draft) named t.1) s.kept

-- the same for each plan that a text is
pub plan_kept : (text : List ℕ) (named : NamedPlan) → plan_at text ≡ ok named → EachHasLists named
unfolding plan_in plan_from
plan_kept text named h =
    let parts : List (List ℕ) = texts_of text in
    let lines : List (List ℕ) = take (length parts - 1) parts in
    let rest : List ℕ = slice_index_or parts (length parts - 1) [] in
    let w = went_on (lines_next (empty_draft DEFAULT_PRIORITY) lines) (λ draft. ended draft rest) named h in
    ended_kept w.0 rest named w.2 (lines_sound (empty_draft DEFAULT_PRIORITY) w.0 lines w.1 (start_sound DEFAULT_PRIORITY))

pub judged_lists : (named : NamedPlan) → EachHasLists named → All HasOneListEach named.plan.classes
judged_lists named h k d l = let e = h k d l in record { queues = e.ways ∙ sym e.waits; places = e.places ∙ sym e.waits }

pub written_lists : (named : NamedPlan) → EachHasLists named → All (HasOneEach named.devices) named.plan.classes
written_lists named h k d l = let e = h k d l in record { ways = e.ways; places = e.places }

-- the same for the result of a function that gives the plan of a text

pub judged_since : (result : Result NamedPlan ReadError) (text : List ℕ) → Gives (λ plan. plan) result (plan_at text) → IfOk result (λ named. All HasOneListEach named.plan.classes)
judged_since (Ok named) text h = judged_lists named (plan_kept text named h)
judged_since (Err error) text h = tt

pub written_since : (result : Result NamedPlan ReadError) (text : List ℕ) → Gives (λ plan. plan) result (plan_at text) → IfOk result (λ named. All (HasOneEach named.devices) named.plan.classes)
written_since (Ok named) text h = written_lists named (plan_kept text named h)
written_since (Err error) text h = tt
