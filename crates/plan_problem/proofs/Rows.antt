-- The rows of a class problem as a loop makes them.
use Rattle.std.proofs.Common.{◌≡◌, ◌↔◌, ℕ, ◌+◌, ◌<◌, List, [], ◌∷◌, ◌++◌, length, get_or, take, map, Option, Some, None, IsSome, IfSome, IsTrue, All, Contains, arith, refl, sym, ap, subst, ◌∙◌, inl, inr}
use Rattle.std.specs.Prelude.{slice_get}
use Rattle.std.specs.List.Sorted.{IsStrictlyIncreasing}
use Rattle.std.proofs.lemmas.Bool.{cases_lt}
use Rattle.std.proofs.lemmas.List.{get_or_push, get_or_append_left, length-append, length-map, map_more, take_all, get_or-map, get_or_default}
use Rattle.std.proofs.lemmas.List.Elements.{All-push}
use Rattle.std.proofs.lemmas.Option.{get_or_from_slice_get, slice_get_cases, slice_get_within, slice_get-get_or}
use Rattle.base_types.specs.Needs.{JobNeeds}
use Rattle.base_types.specs.Device.{Device, loaded_media}
use Rattle.base_types.specs.Finishings.{HasFinishings}
use Rattle.base_types.specs.declared.finishings.Finishings.{Finishings}
use Rattle.base_types.specs.declared.needs.Sides.{Sides}
use Rattle.plan_problem.specs.Able.{IsAble, is_two_sided}
use Rattle.plan_problem.specs.Time.{IsTime}
use Rattle.plan_problem.specs.Class.{IsClass, place_of}
use Rattle.plan_problem.specs.ClassJob.{JobOfClass, printer_of, IsPairTime, IsRowOf, CanBuild, IsClassOf}
use Rattle.plan_problem.specs.Alike.{NeedSame, FromAlike, TellsAble}
use Rattle.plan_problem.proofs.Places.{place_at, untimed}

-- the first times of a job's row
pub record RowSoFar (needs : JobNeeds) (devices : List Device) (printer : List ℕ) (count : ℕ) (times : List (Option ℕ)) : Type 0 where
  pub one_each : length times ≡ count
  pub pairs : (place : ℕ) (device : Device) → place < count → slice_get devices place ≡ Some device → IsPairTime needs place device printer (get_or times place None)
  pub in_range : All (λ entry. IfSome entry IsTime) times

-- one device more
pub row_more : (needs : JobNeeds) (devices : List Device) (printer : List ℕ) (count : ℕ) (times : List (Option ℕ)) (place : ℕ) (device : Device) (entry : Option ℕ)
    → RowSoFar needs devices printer count times → count < length devices → place ≡ count → device ≡ get_or devices count device → IsPairTime needs place device printer entry → IfSome entry IsTime
    → RowSoFar needs devices printer (count + 1) (times ++ entry ∷ [])
row_more needs devices printer count times at device entry row below here is pair range = record {
  one_each = omega (arith, length-append times (entry ∷ []), row.one_each);
  pairs = pairs_more;
  in_range = All-push (λ e. IfSome e IsTime) times entry row.in_range range;
}
  where
    pairs_more : (place : ℕ) (d : Device) → place < count + 1 → slice_get devices place ≡ Some d → IsPairTime needs place d printer (get_or (times ++ entry ∷ []) place None)
    pairs_more place d before found = elim (cases_lt place count) [
      | inl old ↦ rw (get_or_append_left times (entry ∷ []) None place (rw row.one_each old)) (row.pairs place d old found)
      | inr new ↦
          let last : place ≡ count = omega arith in
          let same : d ≡ device = sym (get_or_from_slice_get devices place d device found) ∙ ap (λ k. get_or devices k device) last ∙ sym is in
          rw (last, same, get_or_push times entry None count row.one_each) (rw here at pair)
    ]

-- the row of all devices
pub row_all : (needs : JobNeeds) (devices : List Device) (printer : List ℕ) (count : ℕ) (times : List (Option ℕ)) → RowSoFar needs devices printer count times → count ≡ length devices → IsRowOf needs devices printer times
row_all needs devices printer count times row all = record {
  one_each = row.one_each ∙ all;
  pairs = λ place device found. row.pairs place device (let below : place < length devices = slice_get_within devices place device found in omega arith) found;
  times = row.in_range;
}

-- the printer that the code read is the job's
pub printer_is : (needs : JobNeeds) (printers : List (List ℕ)) (place : ℕ) (printer : List ℕ) → place ≡ needs.printer → needs.printer < length printers → printer ≡ get_or printers place printer → printer ≡ printer_of needs printers
printer_is needs printers place printer same below at = at ∙ ap (λ k. get_or printers k printer) same ∙ get_or_default printers needs.printer printer [] below

-- the row of a job, whose needs and printer the code read
pub row_of_job : (needs : JobNeeds) (devices : List Device) (printers : List (List ℕ)) (read : JobNeeds) (printer : List ℕ) (count : ℕ) (times : List (Option ℕ)) → read ≡ needs → printer ≡ printer_of needs printers → RowSoFar read devices printer count times → count ≡ length devices
    → IsRowOf needs devices (printer_of needs printers) times
row_of_job needs devices printers read printer count times same at row all = rw (← at, ← same) (row_all read devices printer count times row all)

-- the first jobs and rows of a class problem
pub record RowsSoFar (jobs : List JobOfClass) (devices : List Device) (printers : List (List ℕ)) (count : ℕ) (ids : List ℕ) (rows : List (List (Option ℕ))) : Type 0 where
  pub ids_so_far : ids ≡ map (λ job. job.id) (take count jobs)
  pub one_each : length rows ≡ count
  pub rows_so_far : (place : ℕ) (job : JobOfClass) → place < count → slice_get jobs place ≡ Some job → IsRowOf job.needs devices (printer_of job.needs printers) (get_or rows place [])

-- one job more
pub rows_more : (jobs : List JobOfClass) (devices : List Device) (printers : List (List ℕ)) (count : ℕ) (ids : List ℕ) (rows : List (List (Option ℕ))) (id : ℕ) (job : JobOfClass) (row : List (Option ℕ))
    → RowsSoFar jobs devices printers count ids rows → count < length jobs → job ≡ get_or jobs count job → id ≡ job.id → IsRowOf job.needs devices (printer_of job.needs printers) row
    → RowsSoFar jobs devices printers (count + 1) (ids ++ id ∷ []) (rows ++ row ∷ [])
rows_more jobs devices printers count ids rows id job row so_far below at named is_row = record {
  ids_so_far = rw (map_more (λ j. j.id) jobs count job below, ← at, ← so_far.ids_so_far, named) refl;
  one_each = omega (arith, length-append rows (row ∷ []), so_far.one_each);
  rows_so_far = rows_all;
}
  where
    rows_all : (place : ℕ) (j : JobOfClass) → place < count + 1 → slice_get jobs place ≡ Some j → IsRowOf j.needs devices (printer_of j.needs printers) (get_or (rows ++ row ∷ []) place [])
    rows_all place j before found = elim (cases_lt place count) [
      | inl old ↦ rw (get_or_append_left rows (row ∷ []) [] place (rw so_far.one_each old)) (so_far.rows_so_far place j old found)
      | inr new ↦
          let here : place ≡ count = omega arith in
          let same : j ≡ job = sym (get_or_from_slice_get jobs place j job found) ∙ ap (λ k. get_or jobs k job) here ∙ sym at in
          rw (here, same, get_or_push rows row [] count so_far.one_each) is_row
    ]

-- ---- a job before that needs the same

able_same : (one other : JobNeeds) (place : ℕ) (device : Device) (printer : List ℕ) → NeedSame one other → IsAble one place device printer → IsAble other place device printer
able_same one other place device printer same able = record {
  of_printer = able.of_printer;
  formats = subst (λ (formats : List (List ℕ)). All (Contains device.formats) formats) same.formats able.formats;
  sides = subst (λ (sides : Sides). IsTrue (is_two_sided sides) → IsSome device.rate_two) same.sides able.sides;
  finishings = subst (λ (wanted : Finishings). HasFinishings device.finishings wanted) same.finishings able.finishings;
  media = subst (λ (medium : List ℕ). Contains (loaded_media device) medium) same.media able.media;
  runs = able.runs;
}

need_back : (one other : JobNeeds) → NeedSame one other → NeedSame other one
need_back one other same = record { printer = sym same.printer; formats = sym same.formats; sides = sym same.sides; finishings = sym same.finishings; media = sym same.media }

-- the times of a row say which devices are able
pub tells_alike : (jobs : List JobOfClass) (devices : List Device) (printers : List (List ℕ)) (count : ℕ) (ids : List ℕ) (rows : List (List (Option ℕ))) (needs : JobNeeds) (times : List (Option ℕ))
    → RowsSoFar jobs devices printers count ids rows → FromAlike jobs rows needs times
    → (place : ℕ) (device : Device) → slice_get devices place ≡ Some device → TellsAble needs place device (printer_of needs printers) times
tells_alike jobs devices printers count ids rows needs times so_far (inl none) place device found entry is = absurd (cc)
tells_alike jobs devices printers count ids rows needs times so_far (inr (k, job, at_job, at_row, same)) place device found entry is =
    let within : k < length rows = slice_get_within rows k times at_row in
    let row : IsRowOf job.needs devices (printer_of job.needs printers) times = subst (λ (r : List (Option ℕ)). IsRowOf job.needs devices (printer_of job.needs printers) r) (get_or_from_slice_get rows k times [] at_row) (so_far.rows_so_far k job (omega (arith, within, so_far.one_each)) at_job) in
    let pair : IsPairTime job.needs place device (printer_of job.needs printers) entry = subst (λ (e : Option ℕ). IsPairTime job.needs place device (printer_of job.needs printers) e) (get_or_from_slice_get times place entry None is) (row.pairs place device found) in
    let printer : printer_of job.needs printers ≡ printer_of needs printers = ap (λ (p : ℕ). get_or printers p []) same.printer in
    subst (λ (set : List ℕ). IsSome entry ↔ IsAble needs place device set) printer (
      (λ some. able_same job.needs needs place device (printer_of job.needs printers) same (pair.able.0 some)),
      (λ able. pair.able.1 (able_same needs job.needs place device (printer_of job.needs printers) (need_back job.needs needs same) able)),
    )

ids_of_all : (jobs : List JobOfClass) (devices : List Device) (printers : List (List ℕ)) (count : ℕ) (ids : List ℕ) (rows : List (List (Option ℕ))) → RowsSoFar jobs devices printers count ids rows → count ≡ length jobs → ids ≡ map (λ job. job.id) jobs
ids_of_all jobs devices printers count ids rows so_far all = so_far.ids_so_far ∙ ap (map (λ job. job.id)) (take_all count jobs (omega arith))

row_at : (jobs : List JobOfClass) (devices : List Device) (printers : List (List ℕ)) (count : ℕ) (ids : List ℕ) (rows : List (List (Option ℕ))) → RowsSoFar jobs devices printers count ids rows → count ≡ length jobs
    → (place : ℕ) (d : List (Option ℕ)) → place < length rows → (job : JobOfClass) × IsRowOf job.needs devices (printer_of job.needs printers) (get_or rows place d)
row_at jobs devices printers count ids rows so_far all place d below = elim (slice_get_cases jobs place).1 [
  | inl w ↦ (w.0, rw (get_or_default rows place d [] below) (so_far.rows_so_far place w.0 (omega (arith, so_far.one_each)) w.2))
  | inr w ↦ absurd (omega (arith, w.0, so_far.one_each))
]

-- the rows of all jobs make a class problem
pub built_is_class : (jobs : List JobOfClass) (devices : List Device) (printers : List (List ℕ)) (waits : List ℕ) (count : ℕ) (ids : List ℕ) (rows : List (List (Option ℕ)))
    → CanBuild jobs devices printers waits → RowsSoFar jobs devices printers count ids rows → count ≡ length jobs → IsClass (record { ids = ids; rows = rows; waits = waits })
built_is_class jobs devices printers waits count ids rows can so_far all =
    let same = ids_of_all jobs devices printers count ids rows so_far all in
    record {
      rising = rw same can.rising;
      one_row_each = omega (arith, so_far.one_each, ap length same, length-map jobs (λ (j : JobOfClass). j.id), all);
      one_time_each = λ place d below. let row = (row_at jobs devices printers count ids rows so_far all place d below).1 in row.one_each ∙ sym can.one_wait_each;
      times = λ place d below. let row = (row_at jobs devices printers count ids rows so_far all place d below).1 in row.times;
      short_waits = can.short_waits;
      few_jobs = omega (arith, can.few_jobs, ap length same, length-map jobs (λ (j : JobOfClass). j.id));
      few_devices = omega (arith, can.few_devices, can.one_wait_each);
    }

-- the problem that is built is the class problem of these jobs and devices
pub built_is_class_of : (jobs : List JobOfClass) (devices : List Device) (printers : List (List ℕ)) (waits : List ℕ) (count : ℕ) (ids : List ℕ) (rows : List (List (Option ℕ)))
    → CanBuild jobs devices printers waits → RowsSoFar jobs devices printers count ids rows → count ≡ length jobs → IsClassOf jobs devices printers waits (record { ids = ids; rows = rows; waits = waits })
built_is_class_of jobs devices printers waits count ids rows can so_far all =
    let same = ids_of_all jobs devices printers count ids rows so_far all in
    record {
      ids = same;
      waits_given = refl;
      pairs = λ job place device known found.
          let k = known.0 in
          let id_at : get_or ids k 0 ≡ job.id = ap (λ xs. get_or xs k 0) same ∙ get_or-map (λ j. j.id) jobs k job 0 known.1 ∙ ap (λ j. j.id) known.2 in
          let rising : IsStrictlyIncreasing ids = rw same can.rising in
          let within : k < length ids = omega (arith, ap length same, length-map jobs (λ (j : JobOfClass). j.id), known.1) in
          let here : place_of ids job.id ≡ k = ap (place_of ids) (sym id_at) ∙ place_at ids rising k within in
          let at : slice_get jobs k ≡ Some job = slice_get-get_or jobs k job known.1 ∙ ap Some known.2 in
          let row = so_far.rows_so_far k job (omega (arith, known.1)) at in
          rw here (row.pairs place device found);
      beyond = λ job place past. untimed (record { ids = ids; rows = rows; waits = waits }) (built_is_class jobs devices printers waits count ids rows can so_far all) job place (omega (arith, can.one_wait_each, past));
    }
