use Rattle.std.proofs.Common.{rules, refl, sym, ap, ◌∙◌, ℕ, List, ◌++◌, Option}
use Rattle.std.specs.Prelude.{option_map}
use Rattle.std.proofs.Common.{[]}
use Rattle.daemon.proofs.Journal.{keeps_stored, kept_lines}
use Rattle.daemon.proofs.serving.Server.store.Goals as goal

pub returns-clause-filed : goal.returns-clause-filed
returns-clause-filed g c =
    let old = c.args.self.now in
    let (kept, is) = kept_lines old.wire.notes.lines (sym c.is_recorded.ensures ∙ c.if-not-is_recorded.false) in
    keeps_stored old _ _ _ kept (refl, refl, refl) (ap (λ n. n.heads) c.clear.ensures) is
    (ap (λ n. n.lines) c.clear.ensures ∙ ap (λ (o : Option (List ℕ)). option_map (λ text. []) o) is)
    (c.append.ensures.yes (search rules) ∙ ap (λ (t : List ℕ). g.T.Storage.stored c.args.storage.now ++ t) (c.text.ensures kept is))
