-- How far the devices of a printer get among the filters.
use Rattle.std.proofs.Common.{◌≡◌, ℕ, zero, suc, max, min, ◌+◌, ◌<◌, ◌≤◌, length, get_or, drop, drop-cons, add-one, List, [], ◌∷◌, Bool, true, false, cond, Option, Some, None, map, filter, refl, sym, ap, ◌∙◌, arith}
use Rattle.std.specs.Prelude.{slice_get, Contains, IsSomeAnd}
use Rattle.std.specs.List.{cons_option}
use Rattle.std.proofs.lemmas.List.{drop_all}
use Rattle.base_types.specs.Needs.{JobNeeds}
use Rattle.base_types.specs.Device.{Device}
use Rattle.base_types.specs.declared.needs.Cause.{Cause}
use Rattle.base_types.specs.declared.needs.Cause.TheVariants.{NoDevice, Format, Sides, Finishings, Media, Running}
use Rattle.plan_problem.specs.Cause.{Filter, filters_of, first_failed, first_cause, cause_unless_some, devices_of, order_of, HasAbleDevice}
use Rattle.plan_problem.specs.Able.{IsAble}
use Rattle.plan_problem.proofs.Filters.{able_from_tests, tests_from_able}

-- the number of filters in a row that one device passes
pub passed_by : List Filter → Device → ℕ
passed_by [] device = 0
passed_by (f ∷ filters) device = cond (f.test device) (suc (passed_by filters device)) 0

zero_if_none : List Device → ℕ → ℕ
zero_if_none [] n = 0
zero_if_none (device ∷ devices) n = suc n

-- the number of filters in a row that leave some of the devices
pub stage_of : List Filter → List Device → ℕ
stage_of [] devices = 0
stage_of (f ∷ filters) devices = zero_if_none (filter f.test devices) (stage_of filters (filter f.test devices))

-- no devices get nowhere
pub stage_of-nil : (filters : List Filter) → stage_of filters [] ≡ 0
unfolding stage_of zero_if_none
stage_of-nil [] = refl
stage_of-nil (f ∷ filters) = refl

kept : (passes : Bool) (device : Device) (left : List Device) (passed : ℕ) (stage : List Device → ℕ) → stage [] ≡ 0 → stage (device ∷ left) ≡ max passed (stage left)
    → zero_if_none (cond passes (device ∷ left) left) (stage (cond passes (device ∷ left) left)) ≡ max (cond passes (suc passed) 0) (zero_if_none left (stage left))
unfolding zero_if_none
kept true device [] passed stage none more = omega (arith, more, none)
kept true device (d ∷ left) passed stage none more = omega (arith, more)
kept false device left passed stage none more = omega arith

-- the device that gets farthest decides
pub stage_of-cons : (filters : List Filter) (device : Device) (devices : List Device) → stage_of filters (device ∷ devices) ≡ max (passed_by filters device) (stage_of filters devices)
unfolding stage_of passed_by
stage_of-cons [] device devices = refl
stage_of-cons (f ∷ filters) device devices =
    kept (f.test device) device (filter f.test devices) (passed_by filters device) (stage_of filters) (stage_of-nil filters) (stage_of-cons filters device (filter f.test devices))

cause_at_left : (left : List Device) (cause : Cause) (causes : List Cause) (next : Option Cause) (stage : ℕ) → next ≡ slice_get causes stage → cause_unless_some left cause next ≡ slice_get (cause ∷ causes) (zero_if_none left stage)
unfolding zero_if_none
cause_at_left [] cause causes next stage e = refl
cause_at_left (device ∷ left) cause causes next stage e = e

-- the cause is that of the filter at this stage
pub first_cause_at : (filters : List Filter) (devices : List Device) → first_cause filters devices ≡ slice_get (map (λ f. f.cause) filters) (stage_of filters devices)
unfolding stage_of
first_cause_at [] devices = refl
first_cause_at (f ∷ filters) devices =
    cause_at_left (filter f.test devices) f.cause (map (λ f. f.cause) filters) (first_cause filters (filter f.test devices)) (stage_of filters (filter f.test devices)) (first_cause_at filters (filter f.test devices))

failed_at : (passes : Bool) (cause : Cause) (causes : List Cause) (next : Option Cause) (passed : ℕ) → next ≡ slice_get causes passed → cond passes next (Some cause) ≡ slice_get (cause ∷ causes) (cond passes (suc passed) 0)
failed_at true cause causes next passed e = e
failed_at false cause causes next passed e = refl

-- the failed filter is the one after those that were passed
pub first_failed_at : (filters : List Filter) (device : Device) → first_failed filters device ≡ slice_get (map (λ f. f.cause) filters) (passed_by filters device)
unfolding passed_by
first_failed_at [] device = refl
first_failed_at (f ∷ filters) device =
    failed_at (f.test device) f.cause (map (λ f. f.cause) filters) (first_failed filters device) (passed_by filters device) (first_failed_at filters device)

causes : List Cause
causes = NoDevice ∷ Format ∷ Sides ∷ Finishings ∷ Media ∷ Running ∷ []

cause_at_order : (cause : Cause) → slice_get causes (order_of cause) ≡ Some cause
unfolding causes
cause_at_order NoDevice = refl
cause_at_order Format = refl
cause_at_order Sides = refl
cause_at_order Finishings = refl
cause_at_order Media = refl
cause_at_order Running = refl

order_or_six : Option Cause → ℕ
order_or_six None = 6
order_or_six (Some cause) = order_of cause

at_most_six : (n : ℕ) → order_or_six (slice_get causes n) ≡ min n 6
unfolding causes order_or_six
at_most_six zero = refl
at_most_six (suc zero) = refl
at_most_six (suc (suc zero)) = refl
at_most_six (suc (suc (suc zero))) = refl
at_most_six (suc (suc (suc (suc zero)))) = refl
at_most_six (suc (suc (suc (suc (suc zero))))) = refl
at_most_six (suc (suc (suc (suc (suc (suc n)))))) = omega arith

-- a cause is one of six
pub order_at_most_five : (cause : Cause) → order_of cause ≤ 5
order_at_most_five NoDevice = omega arith
order_at_most_five Format = omega arith
order_at_most_five Sides = omega arith
order_at_most_five Finishings = omega arith
order_at_most_five Media = omega arith
order_at_most_five Running = omega arith

-- the order of the filter that one device fails
pub passed_if_failed : (needs : JobNeeds) (device : Device) (failed : Cause) → Some failed ≡ first_failed (filters_of needs) device → passed_by (filters_of needs) device ≡ order_of failed
unfolding order_or_six causes
passed_if_failed needs device failed e =
    let at : order_or_six (Some failed) ≡ min (passed_by (filters_of needs) device) 6 = ap order_or_six (e ∙ first_failed_at (filters_of needs) device) ∙ at_most_six (passed_by (filters_of needs) device) in
    omega (arith, at, order_at_most_five failed)

-- a device that fails no filter passes all
pub passed_if_none : (needs : JobNeeds) (device : Device) → None ≡ first_failed (filters_of needs) device → 6 ≤ passed_by (filters_of needs) device
unfolding order_or_six causes
passed_if_none needs device e =
    let at : order_or_six None ≡ min (passed_by (filters_of needs) device) 6 = ap order_or_six (e ∙ first_failed_at (filters_of needs) device) ∙ at_most_six (passed_by (filters_of needs) device) in
    omega (arith, at)

-- the cause at a stage
pub cause_at_stage : (needs : JobNeeds) (devices : List Device) (cause : Cause) → order_of cause ≡ stage_of (filters_of needs) devices → Some cause ≡ first_cause (filters_of needs) devices
unfolding causes
cause_at_stage needs devices cause e = sym (first_cause_at (filters_of needs) devices ∙ ap (slice_get causes) (sym e) ∙ cause_at_order cause)

past_causes : (n : ℕ) → 6 ≤ n → slice_get causes n ≡ None
unfolding causes
past_causes zero h = absurd (omega arith)
past_causes (suc zero) h = absurd (omega arith)
past_causes (suc (suc zero)) h = absurd (omega arith)
past_causes (suc (suc (suc zero))) h = absurd (omega arith)
past_causes (suc (suc (suc (suc zero)))) h = absurd (omega arith)
past_causes (suc (suc (suc (suc (suc zero))))) h = absurd (omega arith)
past_causes (suc (suc (suc (suc (suc (suc n)))))) h = refl

-- after the last stage there is no cause
pub none_past_stages : (needs : JobNeeds) (devices : List Device) → 6 ≤ stage_of (filters_of needs) devices → None ≡ first_cause (filters_of needs) devices
unfolding causes
none_past_stages needs devices h = sym (first_cause_at (filters_of needs) devices ∙ past_causes (stage_of (filters_of needs) devices) h)

-- the stage with one device more, if there is one at a place
abbrev pub stage_with : List Filter → Option Device → ℕ → ℕ
stage_with filters None stage = stage
stage_with filters (Some device) stage = max (passed_by filters device) stage

-- the stage with the first found device added
pub stage_of-cons_option : (filters : List Filter) (found : Option Device) (devices : List Device) → stage_of filters (cons_option found devices) ≡ stage_with filters found (stage_of filters devices)
stage_of-cons_option filters None devices = refl
stage_of-cons_option filters (Some device) devices = stage_of-cons filters device devices

-- one place of a printer more
pub stage_more : (filters : List Filter) (printer : List ℕ) (devices : List Device) (i place : ℕ) → i < length printer → place ≡ get_or printer i place
    → stage_of filters (devices_of (drop i printer) devices) ≡ stage_with filters (slice_get devices place) (stage_of filters (devices_of (drop (i + 1) printer) devices))
stage_more filters printer devices i place below at =
    let e : drop i printer ≡ place ∷ drop (i + 1) printer = rw (add-one, drop-cons printer i place below, ← at) refl in
    ap (λ places. stage_of filters (devices_of places devices)) e ∙ stage_of-cons_option filters (slice_get devices place) (devices_of (drop (i + 1) printer) devices)

stage_with_at_least : (filters : List Filter) (found : Option Device) (stage : ℕ) → stage ≤ stage_with filters found stage
stage_with_at_least filters None stage = omega arith
stage_with_at_least filters (Some device) stage = omega arith

-- a printer gets as far as each of its devices
stage_of_printer : (filters : List Filter) (printer : List ℕ) (devices : List Device) (k place : ℕ) (device : Device) → k < length printer → get_or printer k place ≡ place → slice_get devices place ≡ Some device
    → passed_by filters device ≤ stage_of filters (devices_of printer devices)
stage_of_printer filters [] devices k place device below at found = absurd (omega arith)
stage_of_printer filters (p ∷ printer) devices zero place device below at found =
    let e = stage_of-cons_option filters (slice_get devices p) (devices_of printer devices) in
    let f : slice_get devices p ≡ Some device = ap (slice_get devices) at ∙ found in
    omega (arith, e ∙ ap (λ o. stage_with filters o (stage_of filters (devices_of printer devices))) f)
stage_of_printer filters (p ∷ printer) devices (suc k) place device below at found =
    let e = stage_of-cons_option filters (slice_get devices p) (devices_of printer devices) in
    omega (arith, e, stage_with_at_least filters (slice_get devices p) (stage_of filters (devices_of printer devices)), stage_of_printer filters printer devices k place device (omega arith) at found)

-- if a device is able, the printer passes all filters
pub past_if_able : (needs : JobNeeds) (printer : List ℕ) (devices : List Device) → HasAbleDevice needs printer devices → 6 ≤ stage_of (filters_of needs) (devices_of printer devices)
past_if_able needs printer devices (place, able) = at_found (slice_get devices place) refl able where
  at_found : (found : Option Device) → found ≡ slice_get devices place → IsSomeAnd found (λ device. IsAble needs place device printer) → 6 ≤ stage_of (filters_of needs) (devices_of printer devices)
  at_found None e able = absurd able
  at_found (Some device) e able =
      let passed : 6 ≤ passed_by (filters_of needs) device = passed_if_none needs device (sym (tests_from_able needs place device printer able)) in
      let served : Contains printer place = able.of_printer in
      omega (arith, passed, stage_of_printer (filters_of needs) printer devices served.0 place device served.1 served.2 (sym e))

-- an able device, by the place at which a loop found it
pub has_able : (needs : JobNeeds) (printer : List ℕ) (devices : List Device) (i place : ℕ) (device : Device) → i < length printer → place ≡ get_or printer i place → slice_get devices place ≡ Some device → first_failed (filters_of needs) device ≡ None → HasAbleDevice needs printer devices
has_able needs printer devices i place device below at found passed =
    (place, rw found (able_from_tests needs place device printer (i, below, sym at) passed))

-- one step of the loop over a printer's places, which keeps the order of the cause so far
pub order_more : (needs : JobNeeds) (printer : List ℕ) (devices : List Device) (i place : ℕ) (found : Option Device) (all before after : ℕ) → i < length printer → place ≡ get_or printer i place → slice_get devices place ≡ found
    → after ≡ stage_with (filters_of needs) found before
    → max before (stage_of (filters_of needs) (devices_of (drop i printer) devices)) ≡ all
    → max after (stage_of (filters_of needs) (devices_of (drop (i + 1) printer) devices)) ≡ all
order_more needs printer devices i place None all before after below at found e h =
    omega (arith, e, h, stage_more (filters_of needs) printer devices i place below at ∙ ap (λ o. stage_with (filters_of needs) o (stage_of (filters_of needs) (devices_of (drop (i + 1) printer) devices))) found)
order_more needs printer devices i place (Some device) all before after below at found e h =
    omega (arith, e, h, stage_more (filters_of needs) printer devices i place below at ∙ ap (λ o. stage_with (filters_of needs) o (stage_of (filters_of needs) (devices_of (drop (i + 1) printer) devices))) found)

-- after a printer's last place the cause is that of all
pub order_at_end : (needs : JobNeeds) (printer : List ℕ) (devices : List Device) (i order : ℕ) → length printer ≤ i
    → max order (stage_of (filters_of needs) (devices_of (drop i printer) devices)) ≡ stage_of (filters_of needs) (devices_of printer devices)
    → order ≡ stage_of (filters_of needs) (devices_of printer devices)
order_at_end needs printer devices i order past h =
    let e : stage_of (filters_of needs) (devices_of (drop i printer) devices) ≡ 0 = ap (λ places. stage_of (filters_of needs) (devices_of places devices)) (drop_all i printer past) ∙ stage_of-nil (filters_of needs) in
    omega (arith, e, h)

-- a device that passes all filters fails none
pub none_failed : (needs : JobNeeds) (device : Device) → 6 ≤ passed_by (filters_of needs) device → first_failed (filters_of needs) device ≡ None
unfolding causes
none_failed needs device h = first_failed_at (filters_of needs) device ∙ past_causes (passed_by (filters_of needs) device) h

-- if there is no cause, the devices pass all filters
pub past_if_none : (needs : JobNeeds) (devices : List Device) → first_cause (filters_of needs) devices ≡ None → 6 ≤ stage_of (filters_of needs) devices
unfolding order_or_six causes
past_if_none needs devices e =
    let at : order_or_six None ≡ min (stage_of (filters_of needs) devices) 6 = ap order_or_six (sym e ∙ first_cause_at (filters_of needs) devices) ∙ at_most_six (stage_of (filters_of needs) devices) in
    omega (arith, at)
