-- Properties of every spool, from the entries of its map.
use Rattle.std.proofs.Common.{◌≡◌, ℕ, zero, suc, ◌+◌, ◌<◌, ◌≤◌, List, [], ◌∷◌, map, length, subst, arith, add-one, slice_index, All}
use Rattle.std.proofs.lemmas.List.Elements.{All-cons, All-nil}
use Rattle.base_types.specs.Ranges.{IsJobId}
use Rattle.base_types.specs.declared.limits.TheConstants.Limits.{LAST_JOB_ID}
use Rattle.spool.specs.Spooled.{SpooledRecord}
use Rattle.spool.specs.Jobs.{SpoolRecord, Keyed, jobs_of}
use Rattle.spool.specs.Spool.{IsSpool}
use Rattle.spool.proofs.Unfinished.{AreFew}
use Rattle.spool.proofs.Sound.{AreSound}

abbrev ids_of : List (ℕ × SpooledRecord) → List ℕ
ids_of es = map (λ s. s.job.id) (jobs_of es)

ids_rise : (low next : ℕ) (es : List (ℕ × SpooledRecord)) → Keyed es low next → (k : ℕ) → k + 1 < length (ids_of es) → slice_index (ids_of es) k < slice_index (ids_of es) (k + 1)
ids_rise low next [] keyed k within = absurd (omega (arith, within))
ids_rise low next (e ∷ []) keyed k within = absurd (omega (arith, within))
ids_rise low next (e ∷ f ∷ es) keyed zero within = omega (arith, keyed.0, keyed.3.0, keyed.3.1)
ids_rise low next (e ∷ f ∷ es) keyed (suc k) within =
    let later : slice_index (ids_of (f ∷ es)) k < slice_index (ids_of (f ∷ es)) (k + 1) = ids_rise e.0 next (f ∷ es) keyed.3 k (omega (arith, within)) in
    simp add-one (simp add-one at later)

ids_in_range : (low next : ℕ) (es : List (ℕ × SpooledRecord)) → Keyed es low next → next ≤ LAST_JOB_ID + 1 → All (λ s. IsJobId s.job.id) (jobs_of es)
ids_in_range low next [] keyed most = All-nil (λ s. IsJobId s.job.id)
ids_in_range low next (e ∷ es) keyed most = All-cons (λ s. IsJobId s.job.id) e.1 (jobs_of es) (omega (arith, keyed.0, keyed.1), omega (arith, keyed.0, keyed.2, most)) (ids_in_range e.0 next es keyed.3 most)

pub is_spool : (next : ℕ) (es : List (ℕ × SpooledRecord)) (spool : SpoolRecord) → Keyed es 0 next → next ≤ LAST_JOB_ID + 1 → AreFew es → AreSound es → record { jobs = jobs_of es; next = next } ≡ spool → IsSpool spool
is_spool next es spool keyed most few sound view =
    subst (λ (s : SpoolRecord). IsSpool s) view (record { rising = ids_rise 0 next es keyed; in_range = ids_in_range 0 next es keyed most; few_unfinished = few; sound = sound })
