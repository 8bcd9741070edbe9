use Rattle.std.proofs.Common.{◌≡◌, sym, ap, ◌∙◌, Ok, slice_index_or}
use Rattle.lpd.specs.Control.{line_in}
use Rattle.lpd.specs.ControlLine.{line_record, parsed_line}
use Rattle.lpd.proofs.Drafts.{lines_step}
use Rattle.lpd.proofs.control.read_lines.Goals as goal

pub loop-line-preserved : goal.loop-line-preserved
loop-line-preserved c =
    let parses : line_in (slice_index_or c.args.lines.now c.loop-line.line-index _).now ≡ Ok (line_record c.in_ok-line.line) =
    sym (c.in_ok-read_line.ensures {u = tt}) ∙ ap parsed_line (c.in_ok-line.was {u = tt}) in
    lines_step c.loop-line.draft c.add.new.self c.args.lines.now c.loop-line.line-index _ (line_record c.in_ok-line.line) c.loop-line-test.true parses (c.in_ok-add.ensures {u = tt})
    ∙ c.loop-line.invariant
