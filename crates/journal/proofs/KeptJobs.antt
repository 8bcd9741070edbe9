-- Jobs that are kept under the ids that they got.
use Rattle.std.proofs.Common.{◌≡◌, ◌==◌, ◌∙◌, ℕ, Bool, true, false, cond, List, [], ◌∷◌, Option, Some, refl, sym, ap, subst}
use Rattle.std.specs.Prelude.{option_map}
use Rattle.std.specs.Option.{ForSome}
use Rattle.std.proofs.lemmas.Bool.{eqb-true}
use Rattle.std.proofs.lemmas.Option.{none-some, same_Some}
use Rattle.settings_file.specs.Settings.{ServerSettings}
use Rattle.spool.specs.Spooled.{SpooledRecord}
use Rattle.spool.specs.Jobs.{spooled_at}
use Rattle.journal.specs.Saved.{SavedRecord, saved_of}

-- a job that is found by its id has that id
found_id : (id : ℕ) (jobs : List SpooledRecord) (spooled : SpooledRecord) → spooled_at id jobs ≡ Some spooled → spooled.job.id ≡ id
found_id id [] spooled found = absurd (none-some spooled found)
found_id id (s ∷ jobs) spooled found = step (id == s.job.id) refl found (found_id id jobs spooled)
  where
    step : (b : Bool) → (id == s.job.id) ≡ b → cond b (Some s) (spooled_at id jobs) ≡ Some spooled → (spooled_at id jobs ≡ Some spooled → spooled.job.id ≡ id) → spooled.job.id ≡ id
    step true is here rest = ap (λ (x : SpooledRecord). x.job.id) (sym (same_Some s spooled here)) ∙ sym (eqb-true id s.job.id is)
    step false is later rest = rest later

-- the job of an id is the saved one under it
pub kept_as : (settings lent : ServerSettings) (jobs : List SpooledRecord) (job : SavedRecord) (id : ℕ) (spooled : SpooledRecord) → lent ≡ settings → Some spooled ≡ spooled_at id jobs → saved_of lent spooled ≡ record job { id = spooled.job.id } → option_map (saved_of settings) (spooled_at id jobs) ≡ Some (record job { id = id })
kept_as settings lent jobs job id spooled lends found same =
    let by : ServerSettings → Type 0 = λ (s : ServerSettings). saved_of s spooled ≡ record job { id = spooled.job.id } in
    ap (λ (o : Option SpooledRecord). option_map (saved_of settings) o) (sym found)
    ∙ (ap (λ (s : SavedRecord). Some s) (subst by lends same) ∙ ap (λ (n : ℕ). Some (record job { id = n })) (found_id id jobs spooled (sym found)))

pub kept_at : (settings lent : ServerSettings) (jobs : List SpooledRecord) (job : SavedRecord) (new : Option ℕ) (id : ℕ) (spooled : SpooledRecord) → new ≡ Some id → lent ≡ settings → Some spooled ≡ spooled_at id jobs → saved_of lent spooled ≡ record job { id = spooled.job.id } → ForSome new (λ id. option_map (saved_of settings) (spooled_at id jobs) ≡ Some (record job { id = id }))
kept_at settings lent jobs job new id spooled is lends found same x at =
    let by : ℕ → Type 0 = λ (n : ℕ). option_map (saved_of settings) (spooled_at n jobs) ≡ Some (record job { id = n }) in
    subst by (same_Some id x (sym is ∙ at)) (kept_as settings lent jobs job id spooled lends found same)
