-- The starts of jobs, device by device.
use Rattle.std.proofs.Common.{◌≡◌, ℕ, suc, ◌+◌, ◌<◌, Bool, true, false, if◌then◌else◌, List, [], ◌∷◌, ◌++◌, length, drop, get_or, Option, Some, None, option_to_list, refl, sym, ◌∙◌, ap, add-one, arith, append_assoc, All, IfSome}
use Rattle.std.proofs.Math.Seq.{drop-cons}
use Rattle.std.proofs.lemmas.List.Elements.{All-nil, All-cons, All-append, All-weaker}
use Rattle.base_types.specs.Device.{Device}
use Rattle.plan_prices.specs.declared.plan.PlannedClass.{PlannedClass}
use Rattle.plan_prices.specs.Way.{queue_of}
use Rattle.print_room.specs.declared.started.Started.{Started}
use Rattle.job_objects.specs.Job.{JobRecord}
use Rattle.print_room.specs.GoodPlan.{is_some_job}
use Rattle.print_room.specs.State.{State}
use Rattle.print_room.proofs.Devices.{length_with}
use Rattle.print_room.specs.Dispatch.{is_free, first_of, first_of_queue, or_next, starts_from, beginning, beginning_all}

pub split_at : {X : Type 0} (xs : List X) (i : ℕ) (x : X) → i < length xs → x ≡ get_or xs i x → drop i xs ≡ x ∷ drop (i + 1) xs
split_at xs i x inside is = rw (add-one, drop-cons xs i x, ← is) refl

-- ---- the first job of a device's list

-- ---- the starts

-- ---- beginning

-- one job more begins
pub begins_next : (now i : ℕ) (starts : List Started) (start : Started) (s t : State) → i < length starts → start ≡ get_or starts i start → beginning_all now (drop i starts) s ≡ t → beginning_all now (drop (i + 1) starts) (beginning now start s) ≡ t
begins_next now i starts start s t inside is so_far =
    let split = split_at starts i start inside is in
    rw split at so_far

pub begins_plan : (now : ℕ) (starts : List Started) (s : State) → (beginning_all now starts s).plan ≡ s.plan
begins_plan now [] s = refl
begins_plan now (start ∷ starts) s = begins_plan now starts (beginning now start s)

pub some_ready : (jobs : List JobRecord) → is_some_job jobs ≡ true → jobs ≡ [] → ⊥
some_ready [] h e = absurd (cc)
some_ready (job ∷ jobs) h e = absurd (cc)

pub begins_devices : (now : ℕ) (start : Started) (s : State) → length (beginning now start s).devices ≡ length s.devices
begins_devices now start s = length_with start.device (λ d. _) s.devices

-- ---- the devices of the starts

or_both : (P : Started → Type 0) (first next : Option Started) → IfSome first P → IfSome next P → IfSome (or_next first next) P
or_both P None next one other = other
or_both P (Some first) next one other = one

pub first_place : (classes : List PlannedClass) (place : ℕ) → IfSome (first_of classes place) (λ s. s.device ≡ place)
first_place [] place = tt
first_place (class ∷ classes) place = or_both (λ s. s.device ≡ place) (first_of_queue class place (queue_of class.priced.way place)) (first_of classes place) (queue_place class place (queue_of class.priced.way place)) (first_place classes place)
  where
    queue_place : (class : PlannedClass) (place : ℕ) (queue : List ℕ) → IfSome (first_of_queue class place queue) (λ s. s.device ≡ place)
    queue_place class place [] = tt
    queue_place class place (job ∷ jobs) = refl

pub all_option : (P : Started → Type 0) (o : Option Started) → IfSome o P → All P (option_to_list o)
all_option P None h = All-nil P
all_option P (Some s) h = All-cons P s [] h (All-nil P)

chosen : (P : Started → Type 0) (b : Bool) (o : Option Started) → IfSome o P → IfSome (if b then o else None) P
chosen P true o h = h
chosen P false o h = tt

pub starts_inside : (now : ℕ) (classes : List PlannedClass) (place : ℕ) (devices : List Device) → All (λ start. start.device < place + length devices) (starts_from now classes place devices)
starts_inside now classes place [] = All-nil (λ start. start.device < place + 0)
starts_inside now classes place (device ∷ devices) =
    let P : Started → Type 0 = λ start. start.device < place + suc (length devices) in
    All-append P (option_to_list (if is_free now device then first_of classes place else None)) (starts_from now classes (suc place) devices)
    (All-weaker (λ s. s.device ≡ place) P (λ s is. omega (arith, is)) (option_to_list (if is_free now device then first_of classes place else None)) (all_option (λ s. s.device ≡ place) (if is_free now device then first_of classes place else None) (chosen (λ s. s.device ≡ place) (is_free now device) (first_of classes place) (first_place classes place))))
    (All-weaker (λ s. s.device < suc place + length devices) P (λ s below. omega (arith, below)) (starts_from now classes (suc place) devices) (starts_inside now classes (suc place) devices))

-- one device further
pub starts_step : (now : ℕ) (classes : List PlannedClass) (devices : List Device) (place id : ℕ) (device : Device) (found : Option Started) (before after all : List Started)
    → place < length devices → device ≡ get_or devices place device → id ≡ place → found ≡ (if is_free now device then first_of classes id else None) → after ≡ before ++ option_to_list found
    → before ++ starts_from now classes place (drop place devices) ≡ all → after ++ starts_from now classes (place + 1) (drop (place + 1) devices) ≡ all
starts_step now classes devices place id device found before after all inside at same is grown so =
    let prefix = drop-cons devices place device inside ∙ ap (λ (x : Device). x ∷ drop (suc place) devices) (sym at) in
    rw (grown, is, same, add-one) (append_assoc before _ _ ∙ ap (λ (ds : List Device). before ++ starts_from now classes place ds) (sym prefix) ∙ so)
