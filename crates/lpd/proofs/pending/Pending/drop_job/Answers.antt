use Rattle.std.proofs.Common.{◌≡◌, ◌∙◌, ℕ, ap, Option, Some, filter, remove, not}
use Rattle.std.specs.Prelude.{slice_get}
use Rattle.std.specs.Option.{option_map_or}
use Rattle.lpd.specs.Pending.{PendingRecord, JobFileRecord, prints, without}
use Rattle.lpd.proofs.pending.Pending.drop_job.Goals as goal

-- a control file was taken out, and the files that it prints left
dropped : (before taken after : PendingRecord) (place : ℕ) (control : JobFileRecord) → Some control ≡ slice_get before.controls place → taken ≡ record before { controls = remove before.controls place }
    → after ≡ record taken { files = filter (λ file. not (prints control file)) taken.files } → after ≡ without place before
dropped before taken after place control is left printed =
    printed
    ∙ (ap (λ (p : PendingRecord). record p { files = filter (λ file. not (prints control file)) p.files }) left
    ∙ ap (λ (o : Option JobFileRecord). option_map_or (λ c. record { controls = remove before.controls place; files = filter (λ file. not (prints c file)) before.files }) o before) is)

pub returns-in-Some : goal.returns-in-Some
returns-in-Some c = dropped _ c.take_control.new.self _ c.args.place _ c.in-Some.ensures.taken c.in-Some.ensures.left c.drop_printed.ensures
