use Rattle.std.proofs.Common.{rules, arith, ◌≡◌, ◌<◌, length, false}
use Rattle.std.specs.Prelude.{codes}
use Rattle.traces.specs.Lines.{is_stop}
use Rattle.traces.proofs.Texts.{no_lines}
use Rattle.traces.proofs.Settings.{passed_nothing, passed_line, passed_all, stopped}
use Rattle.traces.proofs.lines.split_settings.Goals as goal

pub loop-cut-init : goal.loop-cut-init
loop-cut-init c = record { within = omega arith; passed = passed_nothing c.args.trace.now }

pub loop-cut-preserved : goal.loop-cut-preserved
loop-cut-preserved c =
    let cut = c.in-Some.cut in
    let facts = c.in-Some.ensures in
    let some : 0 < length c.loop-cut.rest.now = omega (arith, facts.shorter) in
    let other : is_stop cut.line.now ≡ false = search rules in record {
      within = omega (arith, facts.shorter, c.loop-cut.invariant.within);
      passed = passed_line c.args.trace.now c.loop-cut.rest.now cut.line.now cut.later.now c.loop-cut.count c.loop-cut.invariant.passed facts.one_line some facts.cut other;
    }

pub returns-then-eq-clause-some : goal.returns-then-eq-clause-some
returns-then-eq-clause-some c =
    let cut = c.in-Some.cut in
    let facts = c.in-Some.ensures in
    let some : 0 < length c.loop-cut.rest.now = omega (arith, facts.shorter) in
    let stop : cut.line.now ≡ codes "." = search rules in
    stopped c.args.trace.now c.loop-cut.rest.now cut.line.now cut.later.now c.loop-cut.count c.loop-cut.invariant.passed some facts.lines stop

pub returns-clause-none : goal.returns-clause-none
returns-clause-none c = λ none. passed_all c.args.trace.now c.loop-cut.rest.now c.loop-cut.count c.loop-cut.invariant.passed (no_lines c.loop-cut.rest.now (search rules))
