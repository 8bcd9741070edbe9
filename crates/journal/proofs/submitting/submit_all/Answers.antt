use Rattle.std.proofs.Common.{◌≡◌, ◌∙◌, ◌++◌, ◌∷◌, [], List, map, ap}
use Rattle.std.proofs.lemmas.List.{map_push}
use Rattle.journal.specs.Saved.{SavedRecord}
use Rattle.journal.specs.declared.resubmitted.Resubmitted.{Resubmitted}
use Rattle.journal.proofs.submitting.submit_all.Goals as goal

-- one more job was submitted
one_more : (before after : List Resubmitted) (one : Resubmitted) (jobs : List SavedRecord) (job : SavedRecord) → map (λ r. r.job) before ≡ jobs → after ≡ before ++ one ∷ [] → one.job ≡ job → map (λ r. r.job) after ≡ jobs ++ job ∷ []
one_more before after one jobs job were more is =
    let job_of : Resubmitted → SavedRecord = λ (r : Resubmitted). r.job in
    ap (λ (rs : List Resubmitted). map job_of rs) more
    ∙ (map_push job_of before one ∙ (ap (λ (js : List SavedRecord). js ++ one.job ∷ []) were ∙ ap (λ (j : SavedRecord). jobs ++ j ∷ []) is))

pub loop-job-preserved : goal.loop-job-preserved
loop-job-preserved g c = (
  tt,
  tt,
  one_more c.loop-job.resubmitted.items c.push.new.self.items c.in_ok-one.one c.loop-job.yielded c.in-Some.job c.loop-job.invariant.2 c.in_ok-push.ensures.items c.in_ok-one.ensures.job,
  λ opening played. c.in_ok-one.ensures.played opening (c.loop-job.invariant.3 opening played),
)
