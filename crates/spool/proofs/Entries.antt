-- The entries of the map of jobs, as the list of jobs.
use Rattle.std.proofs.Common.{◌≡◌, ℕ, ◌+◌, ◌<◌, Bool, true, false, cond, eqb, List, [], ◌∷◌, ◌++◌, Option, Some, None, refl, sym, ◌∙◌, ap, subst, arith, remove, slice_get, zero, suc}
use Rattle.std.specs.Prelude.{nat_eq, unwrap_or, Result, Ok, Err, OnOk, OnErr}
use Rattle.std.specs.Map.{lookup, set_value}
use Rattle.std.proofs.lemmas.Bool.Decides.{nat_tests}
use Rattle.indexmap.specs.IndexMap.{insert_entry, set_value_at}
use Rattle.spool.specs.Spooled.{SpooledRecord}
use Rattle.spool.specs.Jobs.{SpoolRecord, Keyed, jobs_of, spooled_at, with_job, map_at}

pub lookup_job : (id low next : ℕ) (es : List (ℕ × SpooledRecord)) → Keyed es low next → lookup (nat_eq id) es ≡ spooled_at id (jobs_of es)
lookup_job id low next [] keyed = refl
lookup_job id low next (e ∷ es) keyed = grind (arith, nat_tests, keyed.0, lookup_job id e.0 next es keyed.3)

pub no_job : (id : ℕ) (f : SpooledRecord → SpooledRecord) (jobs : List SpooledRecord) → spooled_at id jobs ≡ None → with_job id f jobs ≡ jobs
no_job id f [] none = refl
no_job id f (s ∷ jobs) none = grind (arith, nat_tests, none, no_job id f jobs)

pub set_job : (id low next : ℕ) (es : List (ℕ × SpooledRecord)) (s : SpooledRecord) (f : SpooledRecord → SpooledRecord) → Keyed es low next → lookup (nat_eq id) es ≡ Some s → jobs_of (set_value (nat_eq id) es (f s)) ≡ with_job id f (jobs_of es)
set_job id low next [] s f keyed is = refl
set_job id low next (e ∷ es) s f keyed is = grind (arith, nat_tests, keyed.0, is, set_job id e.0 next es s f keyed.3)

keyed_if : (t : Bool) (low next : ℕ) (e : ℕ × SpooledRecord) (es fs : List (ℕ × SpooledRecord)) (s w : SpooledRecord) → Keyed (e ∷ es) low next → w.job.id ≡ s.job.id → (t ≡ true → e.1 ≡ s) → (t ≡ false → Keyed fs e.0 next) → Keyed (cond t ((e.0, w) ∷ es) (e ∷ fs)) low next
keyed_if true low next e es fs s w keyed same here later = (keyed.0 ∙ (ap (λ (x : SpooledRecord). x.job.id) (here refl) ∙ sym same), keyed.1, keyed.2, keyed.3)
keyed_if false low next e es fs s w keyed same here later = (keyed.0, keyed.1, keyed.2, later refl)

pub keyed_set : (id low next : ℕ) (es : List (ℕ × SpooledRecord)) (s w : SpooledRecord) → Keyed es low next → lookup (nat_eq id) es ≡ Some s → w.job.id ≡ s.job.id → Keyed (set_value (nat_eq id) es w) low next
keyed_set id low next [] s w keyed is same = tt
keyed_set id low next (e ∷ es) s w keyed is same =
    keyed_if (eqb id e.0) low next e es (set_value (nat_eq id) es w) s w keyed same
    (λ t. let here = subst (λ (b : Bool). cond b (Some e.1) (lookup (nat_eq id) es) ≡ Some s) t is in cc)
    (λ t. keyed_set id e.0 next es s w keyed.3 (subst (λ (b : Bool). cond b (Some e.1) (lookup (nat_eq id) es) ≡ Some s) t is) same)

-- the job that a search by key finds is the job of that id
pub found_at : (id key next : ℕ) (es : List (ℕ × SpooledRecord)) (old : SpoolRecord) (o : Option SpooledRecord) → key ≡ id → Keyed es 0 next → record { jobs = jobs_of es; next = next } ≡ old → o ≡ lookup (nat_eq key) es → o ≡ spooled_at id old.jobs
found_at id key next es old o same keyed view is =
    is
    ∙ (lookup_job key 0 next es keyed
    ∙ (ap (λ (x : SpoolRecord). spooled_at key x.jobs) view ∙ ap (λ (k : ℕ). spooled_at k old.jobs) same))

-- a value written at a key: the job of that id is changed
pub changed_at : (id key next : ℕ) (es : List (ℕ × SpooledRecord)) (old : SpoolRecord) (s w : SpooledRecord) (f : SpooledRecord → SpooledRecord) → key ≡ id → Keyed es 0 next → record { jobs = jobs_of es; next = next } ≡ old → lookup (nat_eq key) es ≡ Some s → w ≡ f s → record { jobs = jobs_of (set_value (nat_eq key) es w); next = next } ≡ record old { jobs = with_job id f old.jobs }
changed_at id key next es old s w f same keyed view is written =
    rw written
    (ap (λ (js : List SpooledRecord). record { jobs = js; next = next }) (set_job key 0 next es s f keyed is)
    ∙ (ap (λ (o : SpoolRecord). record { jobs = with_job key f o.jobs; next = o.next }) view
    ∙ ap (λ (k : ℕ). record { jobs = with_job k f old.jobs; next = old.next }) same))

-- a key that isn't there: nothing is changed
pub unchanged_at : (id key next : ℕ) (es : List (ℕ × SpooledRecord)) (old : SpoolRecord) (f : SpooledRecord → SpooledRecord) → key ≡ id → Keyed es 0 next → record { jobs = jobs_of es; next = next } ≡ old → lookup (nat_eq key) es ≡ None → record { jobs = jobs_of es; next = next } ≡ record old { jobs = with_job id f old.jobs }
unchanged_at id key next es old f same keyed view none =
    let absent : spooled_at key (jobs_of es) ≡ None = sym (lookup_job key 0 next es keyed) ∙ none in
    ap (λ (js : List SpooledRecord). record { jobs = js; next = next }) (sym (no_job key f (jobs_of es) absent))
    ∙ (ap (λ (o : SpoolRecord). record { jobs = with_job key f o.jobs; next = o.next }) view
    ∙ ap (λ (k : ℕ). record { jobs = with_job k f old.jobs; next = old.next }) same)

-- the value at a key written as it was: nothing is changed
with_job_same : (id : ℕ) (jobs : List SpooledRecord) → with_job id (λ s. s) jobs ≡ jobs
with_job_same id [] = refl
with_job_same id (s ∷ jobs) = grind (arith, nat_tests, with_job_same id jobs)

pub same_at : (key next : ℕ) (es : List (ℕ × SpooledRecord)) (old : SpoolRecord) (s w : SpooledRecord) → Keyed es 0 next → record { jobs = jobs_of es; next = next } ≡ old → lookup (nat_eq key) es ≡ Some s → w ≡ s → record { jobs = jobs_of (set_value (nat_eq key) es w); next = next } ≡ old
same_at key next es old s w keyed view is written =
    changed_at key key next es old s w (λ x. x) refl keyed view is written
    ∙ ap (λ (js : List SpooledRecord). record { jobs = js; next = old.next }) (with_job_same key old.jobs)

pub ok_map : {A B : Type 0} (r : Result A B) {P Q : Type 0} → (P → Q) → OnOk r P → OnOk r Q
ok_map (Ok a) f p = f p
ok_map (Err b) f p = p

pub err_map : {A B : Type 0} (r : Result A B) {P Q : Type 0} → (P → Q) → OnErr r P → OnErr r Q
err_map (Ok a) f p = p
err_map (Err b) f p = f p

-- ---- by places

there_is : {x s : SpooledRecord} → Some x ≡ Some s → x ≡ s
there_is {x} {s} is = ap (λ (o : Option SpooledRecord). unwrap_or o s) is

pub keyed_at : (place low next : ℕ) (es : List (ℕ × SpooledRecord)) (s w : SpooledRecord) → Keyed es low next → slice_get (jobs_of es) place ≡ Some s → w.job.id ≡ s.job.id → Keyed (set_value_at es place w) low next
keyed_at place low next [] s w keyed is same = tt
keyed_at zero low next (e ∷ es) s w keyed is same = (keyed.0 ∙ (ap (λ (x : SpooledRecord). x.job.id) (there_is is) ∙ sym same), keyed.1, keyed.2, keyed.3)
keyed_at (suc place) low next (e ∷ es) s w keyed is same = (keyed.0, keyed.1, keyed.2, keyed_at place e.0 next es s w keyed.3 is same)

pub jobs_at : (place : ℕ) (es : List (ℕ × SpooledRecord)) (s : SpooledRecord) (f : SpooledRecord → SpooledRecord) → slice_get (jobs_of es) place ≡ Some s → jobs_of (set_value_at es place (f s)) ≡ map_at place f (jobs_of es)
jobs_at place [] s f is = refl
jobs_at zero (e ∷ es) s f is = ap (λ (x : SpooledRecord). f x ∷ jobs_of es) (sym (there_is is))
jobs_at (suc place) (e ∷ es) s f is = ap (λ (js : List SpooledRecord). e.1 ∷ js) (jobs_at place es s f is)

-- a value written at a place: the job there is changed
pub changed_place : (place next : ℕ) (es : List (ℕ × SpooledRecord)) (old : SpoolRecord) (s w : SpooledRecord) (f : SpooledRecord → SpooledRecord) → record { jobs = jobs_of es; next = next } ≡ old → slice_get (jobs_of es) place ≡ Some s → w ≡ f s → record { jobs = jobs_of (set_value_at es place w); next = next } ≡ record old { jobs = map_at place f old.jobs }
changed_place place next es old s w f view is written =
    rw written
    (ap (λ (js : List SpooledRecord). record { jobs = js; next = next }) (jobs_at place es s f is)
    ∙ ap (λ (o : SpoolRecord). record { jobs = map_at place f o.jobs; next = o.next }) view)

keyed_lower : (low more next : ℕ) (es : List (ℕ × SpooledRecord)) → Keyed es more next → low < more → Keyed es low next
keyed_lower low more next [] keyed less = tt
keyed_lower low more next (e ∷ es) keyed less = (keyed.0, omega (arith, keyed.1, less), keyed.2, keyed.3)

pub keyed_remove : (place low next : ℕ) (es : List (ℕ × SpooledRecord)) → Keyed es low next → Keyed (remove es place) low next
keyed_remove zero low next [] keyed = tt
keyed_remove (suc place) low next [] keyed = tt
keyed_remove zero low next (e ∷ es) keyed = keyed_lower low e.0 next es keyed.3 keyed.1
keyed_remove (suc place) low next (e ∷ es) keyed = (keyed.0, keyed.1, keyed.2, keyed_remove place e.0 next es keyed.3)

pub jobs_remove : (place : ℕ) (es : List (ℕ × SpooledRecord)) → jobs_of (remove es place) ≡ remove (jobs_of es) place
jobs_remove zero [] = refl
jobs_remove (suc place) [] = refl
jobs_remove zero (e ∷ es) = refl
jobs_remove (suc place) (e ∷ es) = ap (λ (js : List SpooledRecord). e.1 ∷ js) (jobs_remove place es)

-- ---- a new entry goes last

pub keyed_push : (low next : ℕ) (es : List (ℕ × SpooledRecord)) (s : SpooledRecord) → Keyed es low next → low < next → s.job.id ≡ next → Keyed (es ++ (next, s) ∷ []) low (next + 1)
keyed_push low next [] s keyed less is = (sym is, less, omega arith, tt)
keyed_push low next (e ∷ es) s keyed less is = (keyed.0, keyed.1, omega (arith, keyed.2), keyed_push e.0 next es s keyed.3 keyed.2 is)

pub new_entry : (low next : ℕ) (es : List (ℕ × SpooledRecord)) (s : SpooledRecord) → Keyed es low next → insert_entry nat_eq es next s ≡ es ++ (next, s) ∷ []
new_entry low next [] s keyed = refl
new_entry low next (e ∷ es) s keyed = grind (arith, nat_tests, keyed.2, new_entry e.0 next es s keyed.3)

pub jobs_push : (es : List (ℕ × SpooledRecord)) (id : ℕ) (s : SpooledRecord) → jobs_of (es ++ (id, s) ∷ []) ≡ jobs_of es ++ s ∷ []
jobs_push [] id s = refl
jobs_push (e ∷ es) id s = ap (λ (js : List SpooledRecord). e.1 ∷ js) (jobs_push es id s)

pub keyed_new : (number next : ℕ) (es fs : List (ℕ × SpooledRecord)) (s : SpooledRecord) → Keyed es 0 next → 0 < next → number ≡ next → s.job.id ≡ number → fs ≡ insert_entry nat_eq es number s → Keyed fs 0 (number + 1)
keyed_new number next es fs s keyed positive is same entries =
    let old : Keyed es 0 number = subst (λ (n : ℕ). Keyed es 0 n) (sym is) keyed in
    subst (λ (xs : List (ℕ × SpooledRecord)). Keyed xs 0 (number + 1)) (sym (entries ∙ new_entry 0 number es s old))
    (keyed_push 0 number es s old (subst (λ (n : ℕ). 0 < n) (sym is) positive) same)

-- a job under the next id goes last
pub appended : (number id next : ℕ) (es fs : List (ℕ × SpooledRecord)) (old : SpoolRecord) (s w : SpooledRecord) → Keyed es 0 next → record { jobs = jobs_of es; next = next } ≡ old → number ≡ next → number ≡ id → s ≡ w → fs ≡ insert_entry nat_eq es number s → ◌≡◌ {A = SpoolRecord} (record { jobs = jobs_of fs; next = number + 1 }) (record { jobs = old.jobs ++ w ∷ []; next = id + 1 })
appended number id next es fs old s w keyed view is same made entries =
    let before : Keyed es 0 number = subst (λ (n : ℕ). Keyed es 0 n) (sym is) keyed in
    let jobs : jobs_of fs ≡ old.jobs ++ w ∷ [] =
    ap jobs_of (entries ∙ new_entry 0 number es s before)
    ∙ (jobs_push es number s
    ∙ (ap (λ (x : SpooledRecord). jobs_of es ++ x ∷ []) made ∙ ap (λ (o : SpoolRecord). o.jobs ++ w ∷ []) view)) in
    ap (λ (js : List SpooledRecord). record { jobs = js; next = number + 1 }) jobs
    ∙ ap (λ (n : ℕ). record { jobs = old.jobs ++ w ∷ []; next = n + 1 }) same

pub ok_of : {A B : Type 0} (r : Result A B) (a : A) {P : Type 0} → r ≡ Ok a → OnOk r P → P
ok_of r a {P} is p = subst (λ x. OnOk x P) is p
