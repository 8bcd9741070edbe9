use Rattle.std.proofs.Common.{◌≡◌, ◌<◌, ◌+◌, length, get_or, max, drop, Some, None, refl, sym, ap, ◌∙◌, rules, arith}
use Rattle.std.specs.Prelude.{slice_get}
use Rattle.std.specs.Option.{option_copied}
use Rattle.plan_problem.specs.Cause.{devices_of, filters_of, order_of}
use Rattle.plan_problem.proofs.Stages.{stage_of, stage_with, stage_more, order_more, order_at_end, passed_if_failed, passed_if_none, passed_by, cause_at_stage, none_past_stages, past_if_able, has_able, order_at_most_five}
use Rattle.plan_problem.proofs.cause.stranded_cause.Goals.{in-Some+in-Some-first_failed, in_default}
use Rattle.plan_problem.proofs.cause.stranded_cause.Goals as goal

pub returns-in-None-clause-cause : goal.returns-in-None-clause-cause
returns-in-None-clause-cause c =
    let found : slice_get c.args.devices.now c.place.result ≡ Some c.in-Some.now.now = sym c.device_at.ensures ∙ ap option_copied c.in-Some.is in
    let more = stage_more (filters_of c.args.needs.now) c.args.printer.now c.args.devices.now c.loop-device.device-index c.place.result (search rules) (search rules) in
    let passed = passed_if_none c.args.needs.now c.in-Some.now.now (sym c.in-None.is ∙ c.first_failed.ensures) in
    let here = more ∙ ap (λ o. stage_with (filters_of c.args.needs.now) o (stage_of (filters_of c.args.needs.now) (devices_of (drop (c.loop-device.device-index + 1) c.args.printer.now) c.args.devices.now))) found in
    none_past_stages c.args.needs.now (devices_of c.args.printer.now c.args.devices.now) (omega (arith, c.loop-device.invariant, here, passed))

pub returns-in-None-clause-none : goal.returns-in-None-clause-none
returns-in-None-clause-none c =
    let found : slice_get c.args.devices.now c.place.result ≡ Some c.in-Some.now.now = sym c.device_at.ensures ∙ ap option_copied c.in-Some.is in
    (λ _. has_able c.args.needs.now c.args.printer.now c.args.devices.now c.loop-device.device-index c.place.result c.in-Some.now.now (search rules) (search rules) found (sym c.first_failed.ensures ∙ c.in-None.is), λ _. refl)

pub loop-device-preserved : goal.loop-device-preserved
loop-device-preserved c =
    let all = stage_of (filters_of c.args.needs.now) (devices_of c.args.printer.now c.args.devices.now) in
    let below : c.loop-device.device-index < length c.args.printer.now = search rules in
    let at : c.place.result ≡ get_or c.args.printer.now c.loop-device.device-index c.place.result = search rules in
    elim c.match-device_at.branch [
      | in-Some+in-Some-first_failed w ↦
          let passed = passed_if_failed c.args.needs.now w.in-Some.now.now w.in-Some-first_failed.failed (sym w.in-Some-first_failed.is ∙ w.first_failed.ensures) in
          let later : order_of c.match-device_at.cause ≡ max (passed_by (filters_of c.args.needs.now) w.in-Some.now.now) (order_of c.loop-device.cause) = omega (arith, ap order_of w.cause-is, w.later-cause.ensures, passed) in
          order_more c.args.needs.now c.args.printer.now c.args.devices.now c.loop-device.device-index c.place.result (Some w.in-Some.now.now) all (order_of c.loop-device.cause) (order_of c.match-device_at.cause) below at
          (sym c.device_at.ensures ∙ ap option_copied w.in-Some.is) later c.loop-device.invariant
      | in_default w ↦
          order_more c.args.needs.now c.args.printer.now c.args.devices.now c.loop-device.device-index c.place.result None all (order_of c.loop-device.cause) (order_of c.match-device_at.cause) below at
          (sym c.device_at.ensures ∙ ap option_copied w.in_default.is) (ap order_of w.cause-is) c.loop-device.invariant
    ]

pub returns-clause-cause : goal.returns-clause-cause
returns-clause-cause c = cause_at_stage c.args.needs.now (devices_of c.args.printer.now c.args.devices.now) c.loop-device.cause (order_at_end c.args.needs.now c.args.printer.now c.args.devices.now c.loop-device.device-index (order_of c.loop-device.cause) (search rules) c.loop-device.invariant)

pub returns-clause-none : goal.returns-clause-none
returns-clause-none c =
    let order = order_at_end c.args.needs.now c.args.printer.now c.args.devices.now c.loop-device.device-index (order_of c.loop-device.cause) (search rules) c.loop-device.invariant in
    (λ e. absurd (cc), λ able. absurd (omega (arith, order, order_at_most_five c.loop-device.cause, past_if_able c.args.needs.now c.args.printer.now c.args.devices.now able)))
