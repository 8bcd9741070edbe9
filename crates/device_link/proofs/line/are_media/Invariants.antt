use Rattle.std.proofs.Common.{◌≡◌, map, drop}
use Rattle.std.specs.List.{list_all}
use Rattle.base_types.specs.Forms.{is_media}
use Rattle.device_link.proofs.line.are_media.Given as goal

abbrev pub invariant-loop-name : goal.invariant-loop-name
invariant-loop-name l = list_all is_media (map (λ name. name.now) (drop l.name-index l.names)) ≡ list_all is_media (map (λ name. name.now) l.names)
