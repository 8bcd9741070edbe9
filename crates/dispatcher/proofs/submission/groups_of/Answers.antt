use Rattle.std.proofs.Common.{sym, subst}
use Rattle.ipp_codec.specs.Grammar.{IsGroup}
use Rattle.printer_objects.proofs.Spelt.{created_spelt}
use Rattle.dispatcher.proofs.submission.groups_of.Goals as goal

pub one-requires : goal.one-requires
one-requires c = subst IsGroup (sym c.in_ok-group.ensures) (created_spelt _ _ _ _)
