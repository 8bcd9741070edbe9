use Rattle.std.proofs.Common.{◌++◌, [], List, ℕ, subst}
use Rattle.std.specs.Io.Slices.{io_slice_bytes}
use Rattle.octets.specs.Document.{IsPrefixOf}
use Rattle.connections.proofs.Prefixes.{part_alone, part_more}
use Rattle.connections.proofs.queue.Rest.prefix.Goals as goal

pub returns-clause-prefix : goal.returns-clause-prefix
returns-clause-prefix c =
    let octets = c.self.inside.octets in
    let fourth = io_slice_bytes c.part.result.0 ++ [] in
    let third = io_slice_bytes c.part-fourth_at.result.0 ++ fourth in
    let second = io_slice_bytes c.part-third_at.result.0 ++ third in
    let one = part_alone octets (io_slice_bytes c.part.result.0) c.part-fourth_at.result.1 c.part.ensures.prefix in
    let two = part_more octets (io_slice_bytes c.part-fourth_at.result.0) fourth c.part-third_at.result.1 c.part-fourth_at.result.1 c.part-fourth_at.ensures.prefix c.part-fourth_at.ensures.tail one in
    let three = part_more octets (io_slice_bytes c.part-third_at.result.0) third c.part-second_at.result.1 c.part-third_at.result.1 c.part-third_at.ensures.prefix c.part-third_at.ensures.tail two in
    let four = part_more octets (io_slice_bytes c.part-second_at.result.0) second c.self.inside.start c.part-second_at.result.1 c.part-second_at.ensures.prefix c.part-second_at.ensures.tail three in
    subst (λ (l : List ℕ). IsPrefixOf (io_slice_bytes c.part-second_at.result.0 ++ second) l) c.self.view_is four
