use Rattle.std.proofs.Common.{◌≡◌, map, take}
use Rattle.ipp_requests.specs.Group.{values_of}
use Rattle.ipp_requests.proofs.group.values_of.Given as goal

abbrev pub invariant-loop-bytes : goal.invariant-loop-bytes
invariant-loop-bytes l = l.attribute ≡ values_of l.tag l.name l.first (map (λ value. value.now) (take l.bytes-index l.others))
