use Rattle.std.proofs.Common.{◌≡◌, ◌∙◌, ℕ, Bool, false, List, None, find, is_some, sym, ap}
use Rattle.std.specs.Option.{option_copied}
use Rattle.std.specs.Str.{bytes_eq}
use Rattle.printer_objects.specs.declared.together.Listed.TheVariants.{Media}
use Rattle.printer_objects.specs.Offer.{listed_of, media_of, medium_named}
use Rattle.printer_objects.proofs.ListedOnce.{none_offered}
use Rattle.printer_objects.proofs.Taken.{medium_taken}
use Rattle.printer_objects.proofs.offer.Offer.medium_named.Goals as goal

pub returns-in-None-2-clause-taken : goal.returns-in-None-2-clause-taken
unfolding media_of medium_named
returns-in-None-2-clause-taken c shown =
    let test : List ℕ → Bool = bytes_eq c.args.name.now in
    let none : None ≡ find test (listed_of Media c.args.self.now) = ap option_copied (sym c.in-None-2.is) ∙ c.first_medium.ensures in
    let fails : test c.args.self.now.printer.media_default ≡ false = ap test (sym (c.as_bytes.ensures ∙ c.default_medium-default.ensures)) ∙ (sym c.eq.ensures ∙ c.if-eq.false) in
    ap is_some (none_offered test (listed_of Media c.args.self.now) c.args.self.now.printer.media_default none fails) ∙ medium_taken c.args.self.now c.args.name.now shown
