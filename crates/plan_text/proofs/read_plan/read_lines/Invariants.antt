use Rattle.std.proofs.Common.{◌≡◌, map, drop}
use Rattle.base_types.specs.declared.limits.TheConstants.Limits.{DEFAULT_PRIORITY}
use Rattle.plan_text.specs.Steps.{draft_record}
use Rattle.plan_text.specs.Whole.{empty_draft, lines_next}
use Rattle.plan_text.proofs.read_plan.read_lines.Given as goal

abbrev pub invariant-loop-line : goal.invariant-loop-line
invariant-loop-line l = lines_next (draft_record l.draft) (map (λ line. line.now) (drop l.line-index l.lines)) ≡ lines_next (empty_draft DEFAULT_PRIORITY) (map (λ line. line.now) l.lines)
