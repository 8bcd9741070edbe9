use Rattle.std.proofs.Common.{◌≡◌, ◌∙◌, ◌∷◌, [], List, ℕ, Result, MatchResult, ap, subst, sym}
use Rattle.ipp_codec.specs.Message.{IppGroup}
use Rattle.listings.specs.Groups.{printer_group}
use Rattle.print_room.specs.State.{State}
use Rattle.dispatcher.specs.declared.checks.NamedPrinter.{NamedPrinter}
use Rattle.dispatcher.specs.declared.checks.Rejection.{Rejection}
use Rattle.dispatcher.specs.Answers.{Refuses, Shows}
use Rattle.dispatcher.proofs.get_attributes.get_printer_attributes.Goals as goal

pub returns-clause-ok : goal.returns-clause-ok
returns-clause-ok c =
    let old : State = c.args.room.now in
    let requested : List (List ℕ) = c.args.request.now.requested in
    let group : List (List ℕ) → List IppGroup = λ requested. printer_group c.in-Ok.printer.id c.in-Ok.printer.offer c.args.now requested old ∷ [] in
    let are : c.in_ok-groups.groups ≡ group requested = c.in_ok-groups.ensures ∙ ap group c.names-requested.ensures in
    subst (λ (r : Result NamedPrinter Rejection). MatchResult r (λ printer. Shows c.args.now old (printer_group printer.id printer.offer c.args.now requested old ∷ []) c.show.result c.show.new.room) (λ refusal. Refuses c.args.now old refusal c.show.result c.show.new.room)) (sym (sym c.named_printer.ensures ∙ c.in-Ok.is))
    (subst (λ (gs : List IppGroup). Shows c.args.now old gs c.show.result c.show.new.room) are c.show.ensures)
