use Rattle.std.proofs.Common.{◌≡◌, ◌∙◌, ℕ, Bool, false, List, None, find, is_some, sym, ap}
use Rattle.std.specs.Option.{option_copied}
use Rattle.printer_objects.specs.DocumentFormat.{is_same_format}
use Rattle.printer_objects.specs.declared.together.Listed.TheVariants.{Formats}
use Rattle.printer_objects.specs.Offer.{listed_of, formats_of, format_named}
use Rattle.printer_objects.proofs.ListedOnce.{none_offered}
use Rattle.printer_objects.proofs.Taken.{format_taken}
use Rattle.printer_objects.proofs.offer.Offer.format_named.Goals as goal

pub returns-in-None-2-clause-taken : goal.returns-in-None-2-clause-taken
unfolding formats_of format_named
returns-in-None-2-clause-taken c shown =
    let test : List ℕ → Bool = is_same_format c.args.asked.now in
    let none : None ≡ find test (listed_of Formats c.args.self.now) = ap option_copied (sym c.in-None-2.is) ∙ c.first_format.ensures in
    let fails : test c.args.self.now.printer.format_default ≡ false = ap test (sym (c.as_bytes.ensures ∙ c.default_format-default.ensures)) ∙ (sym c.is_same_format.ensures ∙ c.if-is_same_format.false) in
    ap is_some (none_offered test (listed_of Formats c.args.self.now) c.args.self.now.printer.format_default none fails) ∙ format_taken c.args.self.now c.args.asked.now shown
