use Rattle.std.proofs.Common.{◌∙◌, Bool, List, ap, filter, not, rules}
use Rattle.std.proofs.lemmas.Fn.{filter_same}
use Rattle.lpd.specs.Pending.{DataRecord, PendingRecord, prints}
use Rattle.lpd.proofs.pending.Pending.drop_printed.Goals as goal

pub returns : goal.returns
returns c =
    let test : DataRecord → Bool = λ file. not (prints c.args.control.now file) in
    ap (λ (files : List DataRecord). record { controls = c.self.inside.controls.items; files = files }) (filter_same _ test _ (λ x b f' k. search rules) _ _ c.retain.ensures.filtered)
    ∙ ap (λ (p : PendingRecord). record { controls = p.controls; files = filter (λ file. not (prints c.args.control.now file)) p.files }) c.self.view_is
