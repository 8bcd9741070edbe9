use Rattle.std.proofs.Common.{◌≡◌, ◌≤◌, ◌+◌, List, ℕ, ◌++◌, take, length}
use Rattle.ipp_codec.specs.Decoder.{TakesIn}
use Rattle.ipp_codec.proofs.decoder.Decoder.take.Given as goal

-- the taken part of the segment
abbrev pub invariant-loop-self : goal.invariant-loop-self
invariant-loop-self l =
    (taken : List ℕ) × (l.segment ≡ taken ++ l.rest) × TakesIn l.fn.self taken l.self
    × (take (length l.fn.self.head) l.self.head ≡ l.fn.self.head) × (length l.self.head ≤ length l.fn.self.head + length taken)

abbrev pub decreases-loop-self : goal.decreases-loop-self
decreases-loop-self l = length l.rest
