use Rattle.std.proofs.Common.{arith, subst, sym, ◌≡◌, ◌<◌, ◌∙◌, List, ℕ, length, false, ◌==◌}
use Rattle.http_front.specs.declared.reader.Step.TheVariants as step
use Rattle.http_front.specs.Stream.{Steps, begins_head}
use Rattle.http_front.proofs.Prefixes.{passes_blank}
use Rattle.http_front.proofs.reader.HttpReader.step_head.Goals as goal

not_empty : (bytes : List ℕ) → (length bytes == 0) ≡ false → 0 < length bytes
not_empty bytes is = grind (arith, is)

pub returns-then-not-begins_head : goal.returns-then-not-begins_head
returns-then-not-begins_head c =
    let old = c.args.self.now in
    let some : 0 < length old.rest = rw (sym c.rest.ensures) (not_empty c.rest.result.now (sym c.is_empty.ensures ∙ c.if-is_empty.false)) in
    let blank : begins_head old.rest ≡ false = rw (sym c.rest-2.ensures) (sym c.begins_head.ensures ∙ c.if-not-begins_head.true) in
    subst (λ new. Steps old step.Passes new) (sym c.pass.ensures) (passes_blank old c.requires some blank)
