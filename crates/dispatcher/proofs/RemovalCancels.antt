-- The cancels that are sent for the jobs of a removal, one job after the other.
use Rattle.std.proofs.Common.{◌≡◌, ◌∙◌, ◌<◌, ◌+◌, ℕ, suc, Bool, true, false, cond, List, [], ◌∷◌, ◌++◌, map, filter, drop, length, get_or, refl, sym, ap, arith, append_assoc, drop-cons}
use Rattle.std.specs.Prelude.{◌≢◌, OnErr, Result, Ok, Err}
use Rattle.spool.specs.Spooled.{SpooledRecord}
use Rattle.print_room.specs.State.{State}
use Rattle.events.specs.declared.queue.RemoveJobs.{RemoveJobs}
use Rattle.listings.specs.Removal.{is_named}
use Rattle.events.specs.declared.effects.Cancel.{Cancel}
use Rattle.dispatcher.specs.CancelJob.{cancels_of}
use Rattle.dispatcher.specs.RemoveJobs.{cancels_if_named, cancels_of_each}

-- a part of an empty list is empty
nothing_between : (a b c : List Cancel) → a ++ (b ++ c) ≡ [] → b ≡ []
nothing_between [] [] c is = refl
nothing_between [] (y ∷ b) c is = absurd (cc)
nothing_between (x ∷ a) b c is = absurd (cc)

pub on_err_so : {A E P : Type 0} (r : Result A E) → P → OnErr r P
on_err_so (Ok value) holds = tt
on_err_so (Err error) holds = holds

module _ (place : ℕ) (request : RemoveJobs) (state : State) where
  -- the cancels for the named jobs among these jobs
  abbrev each : List SpooledRecord → List Cancel
  each jobs = cancels_of_each (map (λ s. s.job.id) (filter (λ s. is_named place request s.job) jobs)) state

  one_more : (jobs : List SpooledRecord) (s : SpooledRecord) → each (s ∷ jobs) ≡ cancels_if_named place request state s.job ++ each jobs
  one_more jobs s = at (is_named place request s.job)
    where
      at : (b : Bool) → cancels_of_each (map (λ s. s.job.id) (cond b (s ∷ filter (λ s. is_named place request s.job) jobs) (filter (λ s. is_named place request s.job) jobs))) state ≡ cond b (cancels_of s.job.id state) [] ++ each jobs
      at true = refl
      at false = refl

  rest_is : (items : List SpooledRecord) (i : ℕ) (x : SpooledRecord) → i < length items → x ≡ get_or items i x → each (drop i items) ≡ cancels_if_named place request state x.job ++ each (drop (i + 1) items)
  rest_is items i x inside is =
      let one : suc i ≡ i + 1 = omega arith in
      ap each (drop-cons items i x inside)
      ∙ (ap (λ (y : SpooledRecord). each (y ∷ drop (suc i) items)) (sym is)
      ∙ (ap (λ (n : ℕ). each (x ∷ drop n items)) one ∙ one_more (drop (i + 1) items) x))

  -- the appended cancels and the cancels for the jobs that are left are all cancels
  pub added : (items : List SpooledRecord) (i : ℕ) (x : SpooledRecord) (before new whole : List Cancel) → i < length items → x ≡ get_or items i x → new ≡ before ++ cancels_if_named place request state x.job → before ++ each (drop i items) ≡ whole → new ++ each (drop (i + 1) items) ≡ whole
  added items i x before new whole inside is more all =
      ap (λ (cs : List Cancel). cs ++ each (drop (i + 1) items)) more
      ∙ (append_assoc before (cancels_if_named place request state x.job) (each (drop (i + 1) items))
      ∙ (ap (λ (cs : List Cancel). before ++ cs) (sym (rest_is items i x inside is)) ∙ all))

  -- if one cancel is sent, the list of cancels isn't empty
  pub some_sent : (items : List SpooledRecord) (i : ℕ) (x : SpooledRecord) (before whole : List Cancel) → i < length items → x ≡ get_or items i x → cancels_if_named place request state x.job ≢ [] → before ++ each (drop i items) ≡ whole → whole ≢ []
  some_sent items i x before whole inside is some all none =
      some (nothing_between before (cancels_if_named place request state x.job) (each (drop (i + 1) items)) (ap (λ (cs : List Cancel). before ++ cs) (sym (rest_is items i x inside is)) ∙ (all ∙ none)))
