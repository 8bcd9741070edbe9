use Rattle.std.proofs.Common.{◌∙◌, ◌++◌, ap, sym, is_none}
use Rattle.replay.proofs.PlayedTrace.{found_line}
use Rattle.replay.proofs.play.Play.act.Goals as goal

pub returns : goal.returns
returns c = record {
  ok = (
    c.in-Some.line,
    c.in_ok-text.text.items,
    found_line _ _ _ _ c.in-Some.line (c.in_ok-line.ensures {u = tt}) c.in-Some.is c.names.ensures,
    sym c.objection.ensures ∙ ap is_none c.in_default-objection.is,
    c.in_ok-text.ensures {u = tt},
    c.in_ok-extend_from_slice.ensures.items ∙ ap (λ t. c.args.output.now.items ++ t) c.deref.ensures.value,
  );
  err = tt;
}
