-- The results of the tests of a device.
use Rattle.std.proofs.Common.{◌≡◌, ℕ, List, [], ◌∷◌, Bool, true, false, cond, ◌||◌, ◌&&◌, not, Option, Some, None, IsSome, is_some, IsTrue, Contains, map, filter, refl, sym, ap, ◌∙◌}
use Rattle.std.specs.Bool.{Decides, if◌then◌else◌}
use Rattle.std.specs.List.{list_any, list_all}
use Rattle.std.specs.Str.{bytes_eq}
use Rattle.std.proofs.lemmas.Bool.Decides.{Decides-by_and, Decides-by_or, Decides-like}
use Rattle.std.proofs.lemmas.List.Elements.{Decides-contains}
use Rattle.std.proofs.lemmas.Slice.Eq.{bytes_eq-Decides}
use Rattle.std.proofs.lemmas.Bool.{not-false}
use Rattle.base_types.specs.Finishings.{HasFinishings, has_finishings}
use Rattle.base_types.specs.Needs.{JobNeeds}
use Rattle.base_types.specs.Device.{Device, loaded_media}
use Rattle.base_types.specs.declared.device.Medium.{Medium}
use Rattle.base_types.specs.declared.finishings.Finishings.{Finishings}
use Rattle.base_types.specs.declared.needs.Cause.{Cause}
use Rattle.base_types.specs.declared.needs.Cause.TheVariants as causes
use Rattle.plan_problem.specs.Able.{IsAble, PrintsFormats, is_two_sided, is_running}
use Rattle.plan_problem.specs.Cause.{prints_formats, prints_sides, finishes, has_media, filters_of, first_failed}

any_by_mark : (loaded : Bool) (p : List ℕ → Bool) (m : Medium) (rest : List Medium) (any : Bool) → list_any p (map (λ n. n.name) rest) ≡ any → list_any p (map (λ n. n.name) (cond loaded (m ∷ rest) rest)) ≡ ((loaded && p m.name) || any)
any_by_mark true p m rest any e = ap (λ b. p m.name || b) e
any_by_mark false p m rest any e = e

any_loaded : (p : List ℕ → Bool) (media : List Medium) → list_any p (map (λ m. m.name) (filter (λ m. m.loaded) media)) ≡ list_any (λ m. m.loaded && p m.name) media
any_loaded p [] = refl
any_loaded p (m ∷ media) = any_by_mark m.loaded p m (filter (λ n. n.loaded) media) (list_any (λ n. n.loaded && p n.name) media) (any_loaded p media)

-- the media of a job are searched among the loaded media
pub has_media_from : (needs : JobNeeds) (device : Device) (media : List Medium) (wanted : List ℕ) (found : Bool) → media ≡ device.media → wanted ≡ needs.media → found ≡ list_any (λ m. m.loaded && bytes_eq wanted m.name) media → found ≡ has_media needs device
has_media_from needs device media wanted found d e f =
    f ∙ ap (λ w. list_any (λ m. m.loaded && bytes_eq w m.name) media) e ∙ ap (list_any (λ m. m.loaded && bytes_eq needs.media m.name)) d ∙ sym (any_loaded (bytes_eq needs.media) device.media)

text_decides : (text : List ℕ) (texts : List (List ℕ)) → Decides (list_any (bytes_eq text) texts) (Contains texts text)
text_decides text texts =
    Decides-contains texts text (list_any (bytes_eq text) texts)
    (Decides-by_or (bytes_eq text) (λ known. known ≡ text) (list_any (bytes_eq text)) (λ known. Decides-like (bytes_eq text known) (λ e. sym e) (λ e. sym e) (bytes_eq-Decides text known)) refl (λ _ _. refl) texts)

formats_decides : (needs : JobNeeds) (device : Device) → Decides (prints_formats needs device) (PrintsFormats needs device)
formats_decides needs device =
    Decides-by_and (λ format. list_any (bytes_eq format) device.formats) (Contains device.formats) (list_all (λ format. list_any (bytes_eq format) device.formats)) (λ format. text_decides format device.formats) refl (λ _ _. refl) needs.formats

sides_decide : (two : Bool) (rate : Option ℕ) → Decides (not two || is_some rate) (IsTrue two → IsSome rate)
sides_decide true (Some rate) = (λ _ _. refl, λ _. refl)
sides_decide true None = (λ e _. e, λ h. h refl)
sides_decide false rate = (λ _ e. absurd (cc), λ _. refl)

all_three : (a b c : Bool) → (a && (b && c)) ≡ true → (a ≡ true) × (b ≡ true) × (c ≡ true)
all_three true true true e = (refl, refl, refl)
all_three true true false e = absurd (cc)
all_three true false c e = absurd (cc)
all_three false b c e = absurd (cc)

wanted_is_there : (there wanted : Bool) → Decides (not wanted || there) (IsTrue wanted → IsTrue there)
wanted_is_there true true = (λ _ _. refl, λ _. refl)
wanted_is_there false true = (λ e _. e, λ h. h refl)
wanted_is_there there false = (λ _ e. absurd (cc), λ _. refl)

finishings_decide : (there wanted : Finishings) → Decides (has_finishings there wanted) (HasFinishings there wanted)
finishings_decide there wanted = (
  λ e. let each = all_three (not wanted.staple || there.staple) (not wanted.punch || there.punch) (not wanted.bind || there.bind) e in record {
    staple = (wanted_is_there there.staple wanted.staple).0 each.0;
    punch = (wanted_is_there there.punch wanted.punch).0 each.1;
    bind = (wanted_is_there there.bind wanted.bind).0 each.2;
  },
  λ has. rw ((wanted_is_there there.staple wanted.staple).1 has.staple, (wanted_is_there there.punch wanted.punch).1 has.punch, (wanted_is_there there.bind wanted.bind).1 has.bind) refl,
)

-- the five tests in a row
all_passed : (a b c d f : Bool) → (if a then (if b then (if c then (if d then (if f then None else Some causes.Running) else Some causes.Media) else Some causes.Finishings) else Some causes.Sides) else Some causes.Format) ≡ None → (a ≡ true) × (b ≡ true) × (c ≡ true) × (d ≡ true) × (f ≡ true)
all_passed true true true true true e = (refl, refl, refl, refl, refl)
all_passed true true true true false e = absurd (cc)
all_passed true true true false f e = absurd (cc)
all_passed true true false d f e = absurd (cc)
all_passed true false c d f e = absurd (cc)
all_passed false b c d f e = absurd (cc)

-- an option that is no value
pub none_since : (o : Option Cause) → is_some o ≡ false → o ≡ None
none_since None e = refl
none_since (Some cause) e = absurd (cc)

-- a device that fails no test is able on each printer that has it
pub able_from_tests : (needs : JobNeeds) (place : ℕ) (device : Device) (printer : List ℕ) → Contains printer place → first_failed (filters_of needs) device ≡ None → IsAble needs place device printer
able_from_tests needs place device printer served passed =
    let tests = all_passed (prints_formats needs device) (prints_sides needs device) (finishes needs device) (has_media needs device) (is_running device.activity) passed in
    record {
      of_printer = served;
      formats = (formats_decides needs device).0 tests.0;
      sides = (sides_decide (is_two_sided needs.sides) device.rate_two).0 tests.1;
      finishings = (finishings_decide device.finishings needs.finishings).0 tests.2;
      media = (text_decides needs.media (loaded_media device)).0 tests.3;
      runs = tests.4;
    }

-- an able device fails no test
pub tests_from_able : (needs : JobNeeds) (place : ℕ) (device : Device) (printer : List ℕ) → IsAble needs place device printer → first_failed (filters_of needs) device ≡ None
tests_from_able needs place device printer able =
    rw ((formats_decides needs device).1 able.formats, (sides_decide (is_two_sided needs.sides) device.rate_two).1 able.sides, (finishings_decide device.finishings needs.finishings).1 able.finishings, (text_decides needs.media (loaded_media device)).1 able.media, able.runs) refl

-- the answer of `able` for a device of the printer
pub none_is_able : (needs : JobNeeds) (place : ℕ) (device : Device) (printer : List ℕ) (none : Bool) → Contains printer place → is_some (first_failed (filters_of needs) device) ≡ not none → (IsTrue none → IsAble needs place device printer) × (IsAble needs place device printer → IsTrue none)
none_is_able needs place device printer none served e = (
  λ t. able_from_tests needs place device printer served (none_since _ (e ∙ ap not t)),
  λ able. not-false none (sym e ∙ ap is_some (tests_from_able needs place device printer able)),
)
