use Rattle.std.proofs.Common.{◌≡◌, ◌++◌, map, drop}
use Rattle.plan_prices.specs.Timetable.{slots_from}
use Rattle.listings.specs.Expected.{completion, completions_in}
use Rattle.listings.proofs.expected.add_class.Given as goal

-- the appended entries and the entries of the devices that are left are all entries
abbrev pub invariant-loop-place : goal.invariant-loop-place
invariant-loop-place l = l.expected.items ++ map (completion l.class.problem) (slots_from l.class.problem l.place (drop l.place l.class.priced.way)) ≡ l.initial.expected.items ++ completions_in l.class
