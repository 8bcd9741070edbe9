use Rattle.std.proofs.Common.{◌≡◌, drop}
use Rattle.std.specs.List.{list_all}
use Rattle.ipp_codec.specs.Views.{group_shown}
use Rattle.ipp_operations.specs.Attributes.{is_tagged}
use Rattle.ipp_operations.proofs.attributes.are_tagged.Given as goal

abbrev pub invariant-loop-which : goal.invariant-loop-which
invariant-loop-which l =
    list_all (is_tagged (group_shown l.group)) (drop l.which-index l.read) ≡ list_all (is_tagged (group_shown l.group)) l.read
