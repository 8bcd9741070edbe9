use Rattle.std.proofs.Common.{◌≡◌, ◌∙◌, ◌∷◌, [], List, ℕ, Result, MatchResult, ap, subst, sym}
use Rattle.ipp_codec.specs.Message.{IppGroup}
use Rattle.job_objects.specs.Job.{JobRecord}
use Rattle.listings.specs.Groups.{job_group}
use Rattle.print_room.specs.State.{State}
use Rattle.dispatcher.specs.declared.checks.Rejection.{Rejection}
use Rattle.dispatcher.specs.Answers.{Refuses, Shows}
use Rattle.dispatcher.proofs.get_attributes.get_job_attributes.Goals as goal

pub returns-clause-ok : goal.returns-clause-ok
returns-clause-ok c =
    let old : State = c.args.room.now in
    let requested : List (List ℕ) = c.args.request.now.requested in
    let group : List (List ℕ) → List IppGroup = λ requested. job_group c.args.now requested old c.in-Ok.job.now ∷ [] in
    let are : c.in_ok-groups.groups ≡ group requested = c.in_ok-groups.ensures ∙ ap group c.names-requested.ensures in
    subst (λ (r : Result JobRecord Rejection). MatchResult r (λ job. Shows c.args.now old (job_group c.args.now requested old job ∷ []) c.show.result c.show.new.room) (λ refusal. Refuses c.args.now old refusal c.show.result c.show.new.room)) (sym c.in-Ok.ensures)
    (subst (λ (gs : List IppGroup). Shows c.args.now old gs c.show.result c.show.new.room) are c.show.ensures)
