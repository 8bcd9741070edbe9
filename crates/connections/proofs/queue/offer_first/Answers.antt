use Rattle.std.proofs.Common.{[], length, ap, arith, ◌∙◌}
use Rattle.std.proofs.lemmas.List.{get_or_default}
use Rattle.std.specs.Io.Slices.{io_slices_bytes}
use Rattle.connections.proofs.Prefixes.{prefix_at_most}
use Rattle.connections.proofs.queue.offer_first.Goals as goal

pub pass-requires-clause-within : goal.pass-requires-clause-within
pass-requires-clause-within g c =
    let within = prefix_at_most (io_slices_bytes c.prefix.result) c.index.result.now c.prefix.ensures.prefix in
    let first = c.index.ensures ∙ get_or_default c.args.shared.now.items 0 c.index.result.now [] c.requires.there in
    omega (arith, c.in-Done.ensures.count, within, ap length first)
