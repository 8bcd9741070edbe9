use Rattle.std.proofs.Common.{◌≡◌, ◌+◌, length}
use Rattle.std.specs.Prelude.{All, IsTrue, sum_by}
use Rattle.base_types.specs.Forms.{is_media}
use Rattle.ipp_requests.proofs.media.names_of.Given as goal

abbrev pub invariant-loop-value : goal.invariant-loop-value
invariant-loop-value l =
    (goal.iterator-loop-value).can_next l.value-iterator
    × (goal.iterator-loop-value).is_finite l.value-iterator
    × All (λ name. IsTrue (is_media name)) l.names.items
    × (sum_by (λ name. length name + 1) l.names.items + l.room ≡ 1018)
