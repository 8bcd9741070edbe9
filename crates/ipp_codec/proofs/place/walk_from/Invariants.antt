use Rattle.std.proofs.Common.{◌≡◌, List, ◌++◌, length}
use Rattle.ipp_codec.specs.Spelling.{Element, bytes_of}
use Rattle.ipp_codec.specs.Place.{place_from, Follows}
use Rattle.ipp_codec.proofs.place.walk_from.Given as goal

abbrev pub invariant-loop-next_place : goal.invariant-loop-next_place
invariant-loop-next_place l = (es : List Element) × Follows l.fn.place es × (l.bytes ≡ bytes_of es ++ l.rest) × (l.reached ≡ place_from l.fn.place es)

abbrev pub decreases-loop-next_place : goal.decreases-loop-next_place
decreases-loop-next_place l = length l.rest
