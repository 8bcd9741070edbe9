use Rattle.std.proofs.Common.{rules, arith, subst, sym, ◌≡◌, ◌<◌, ◌≤◌, ◌+◌, take, Some, None}
use Rattle.std.specs.Prelude.{◌-◌}
use Rattle.base_types.specs.declared.limits.TheConstants.Limits.{HTTP_BODY_BYTES}
use Rattle.http_front.specs.declared.awaited.Awaited.TheVariants.{Trailer}
use Rattle.http_front.specs.declared.reader.Step.TheVariants as step
use Rattle.http_front.specs.Chunk.{IsSizeOf}
use Rattle.http_front.specs.Stream.{Steps, is_last}
use Rattle.http_front.proofs.Prefixes.{tail, refuses_size, last_size, large_size, some_size}
use Rattle.http_front.proofs.reader.HttpReader.take_size.Goals as goal

pub returns-in_default : goal.returns-in_default
returns-in_default c =
    let old = c.args.self.now in
    let tells : IsSizeOf (take (c.args.count + 1) old.rest) None = rw (sym c.rest.ensures) c.in_default.ensures in
    rw (c.refuse.ensures.state, c.refuse.ensures.answer) (refuses_size old c.args.count c.args.room c.args.closes c.requires.size c.requires.whole tells)

pub returns-then-size-eq0 : goal.returns-then-size-eq0
returns-then-size-eq0 c =
    let old = c.args.self.now in
    let tells : IsSizeOf (take (c.args.count + 1) old.rest) (Some c.in-Some.size) = rw (sym c.rest.ensures) c.in-Some.ensures in
    let new : c.pass.new.self ≡ tail old (c.args.count + 1) (Trailer (is_last c.args.closes (HTTP_BODY_BYTES - c.args.room))) = search (rules, c.pass.ensures, c.is_last.ensures) in
    subst (λ new. Steps old step.Passes new) (sym new) (last_size old c.args.count c.args.room c.args.closes c.in-Some.size c.requires.size c.requires.whole tells c.if-size-eq0.true)

pub returns-then-size-from : goal.returns-then-size-from
returns-then-size-from c =
    let old = c.args.self.now in
    let tells : IsSizeOf (take (c.args.count + 1) old.rest) (Some c.in-Some.size) = rw (sym c.rest.ensures) c.in-Some.ensures in
    let large : c.args.room < c.in-Some.size = rw (sym c.from.ensures) c.if-size-from.true in
    rw (c.refuse-then-size-from.ensures.state, c.refuse-then-size-from.ensures.answer) (large_size old c.args.count c.args.room c.args.closes c.in-Some.size c.requires.size c.requires.whole tells large)

pub returns : goal.returns
returns c =
    let old = c.args.self.now in
    let tells : IsSizeOf (take (c.args.count + 1) old.rest) (Some c.in-Some.size) = rw (sym c.rest.ensures) c.in-Some.ensures in
    let fits : c.in-Some.size ≤ c.args.room = rw (sym c.from.ensures) c.if-size-from.false in
    let some : 0 < c.in-Some.size = omega (arith, c.if-size-eq0.false) in
    subst (λ new. Steps old step.Passes new) (sym c.pass-2.ensures) (some_size old c.args.count c.args.room c.args.closes c.in-Some.size c.requires.size c.requires.whole tells some fits)
