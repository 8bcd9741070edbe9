use Rattle.std.proofs.Common.{◌++◌, ℕ, List, ap, sym, ◌∙◌}
use Rattle.wires.proofs.Prefixes.{first_part}
use Rattle.wires.proofs.memory_wire.first_of.Goals as goal

pub returns-in-len1-up : goal.returns-in-len1-up
returns-in-len1-up c =
    let first = first_part c.args.bytes.now _ c.in-len1-up.len_at_least in
    (first.0, first.1 ∙ ap (λ (l : List ℕ). l ++ first.0) (sym c.as_slice.ensures))
