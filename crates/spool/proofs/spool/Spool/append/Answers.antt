use Rattle.std.proofs.Common.{◌≡◌, ◌∙◌, ap, sym, subst, ℕ, List, [], ◌∷◌, arith}
use Rattle.std.specs.Prelude.{nat_eq}
use Rattle.indexmap.specs.IndexMap.{insert_entry}
use Rattle.spool.specs.Spooled.{SpooledRecord}
use Rattle.spool.specs.Submission.{spooled_of}
use Rattle.spool.specs.Jobs.{SpoolRecord}
use Rattle.spool.proofs.Entries.{keyed_new, appended, ok_of}
use Rattle.spool.proofs.Unfinished.{few_new}
use Rattle.spool.proofs.FinishedFirst.{first_new}
use Rattle.spool.proofs.Sound.{new_sound, sound_new}
use Rattle.spool.proofs.OnDevice.{stay_before}
use Rattle.spool.specs.OnDevice.{AllStay}
use Rattle.spool.specs.Sound.{IsSound}
use Rattle.spool.proofs.spool.Spool.append.Goals as goal

pub invariant_of-self-2 : goal.invariant_of-self-2
invariant_of-self-2 c =
    let next : c.number-number.result ≡ c.self.inside.next = c.number-number.ensures.value ∙ (c.requires.next ∙ sym (ap (λ (s : SpoolRecord). s.next) c.self.view_is)) in
    let same : c.taken-spooled.result.job.id ≡ c.number-number.result = ap (λ (s : SpooledRecord). s.job.id) c.taken-spooled.ensures ∙ sym c.number-number.ensures.value in
    let entries : c.insert.new.self.entries ≡ insert_entry nat_eq c.self.inside.entries.entries c.number-number.result c.taken-spooled.result =
    ok_of c.insert.result _ c.unwrap-none.ensures c.insert.ensures.entries ∙ ap (λ (es : List (ℕ × SpooledRecord)). insert_entry nat_eq es c.number-number.result c.taken-spooled.result) c.reserve.ensures.entries in (
      keyed_new c.number-number.result c.self.inside.next c.self.inside.entries.entries c.insert.new.self.entries c.taken-spooled.result c.self.invariant.0 c.self.invariant.1 next same entries,
      omega arith,
      omega (arith, c.number-number.ensures.in_range.1, c.number-number.ensures.value),
      few_new c.number-number.result c.self.inside.next c.self.inside.entries.entries c.insert.new.self.entries c.args.self.now c.taken-spooled.result c.self.invariant.0 c.self.view_is next entries c.requires.room,
      sound_new c.number-number.result c.self.inside.next c.self.inside.entries.entries c.insert.new.self.entries c.taken-spooled.result c.self.invariant.0 next entries (subst (λ (s : SpooledRecord). IsSound s) (sym c.taken-spooled.ensures) (new_sound c.args.new c.args.id c.args.incoming)) c.self.invariant.4,
      first_new c.self.inside.leading c.number-number.result c.self.inside.next c.self.inside.entries.entries c.insert.new.self.entries c.taken-spooled.result c.self.invariant.0 next entries c.self.invariant.5,
    )

pub returns-clause-ok : goal.returns-clause-ok
returns-clause-ok c =
    let next : c.number-number.result ≡ c.self.inside.next = c.number-number.ensures.value ∙ (c.requires.next ∙ sym (ap (λ (s : SpoolRecord). s.next) c.self.view_is)) in
    let entries : c.insert.new.self.entries ≡ insert_entry nat_eq c.self.inside.entries.entries c.number-number.result c.taken-spooled.result =
    ok_of c.insert.result _ c.unwrap-none.ensures c.insert.ensures.entries ∙ ap (λ (es : List (ℕ × SpooledRecord)). insert_entry nat_eq es c.number-number.result c.taken-spooled.result) c.reserve.ensures.entries in
    appended c.number-number.result c.args.id c.self.inside.next c.self.inside.entries.entries c.insert.new.self.entries c.args.self.now c.taken-spooled.result _ c.self.invariant.0 c.self.view_is next c.number-number.ensures.value c.taken-spooled.ensures entries

pub returns-clause-stay : goal.returns-clause-stay
returns-clause-stay c =
    subst (λ (s : SpoolRecord). AllStay c.args.self.now.jobs s.jobs) (sym (returns-clause-ok c)) (stay_before c.args.self.now.jobs (spooled_of c.args.new c.args.id c.args.incoming ∷ []))
