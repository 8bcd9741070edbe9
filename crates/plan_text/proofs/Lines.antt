-- The text of lines, part by part.
use Rattle.std.proofs.Common.{◌≡◌, ℕ, ℤ, List, [], ◌∷◌, ◌++◌, refl, sym, ap, ◌∙◌, append_assoc, codes, length, drop, get_or, ◌<◌, ◌+◌, add-one, drop-cons}
use Rattle.plan_prices.specs.declared.plan.PlannedClass.{PlannedClass}
use Rattle.plan_text.specs.NamedPlan.{NamedPlan}
use Rattle.plan_text.specs.Line.{PlanLine, HeadLine, EndLine, PlacePricesLine}
use Rattle.plan_text.specs.Writing.{line_text, lines_text, class_job_lines, class_way_lines, class_price_lines, class_lines, classes_lines, device_lines, stranded_lines, plan_text, prices_text}

pub lines_append : (lines more : List PlanLine) → lines_text (lines ++ more) ≡ lines_text lines ++ lines_text more
lines_append [] more = refl
lines_append (line ∷ lines) more = rw (lines_append lines more) (sym (append_assoc (line_text line) (lines_text lines) (lines_text more)))

pub class_text_is : (devices : List (List ℕ)) (c : PlannedClass) →
    lines_text (class_lines devices c) ≡ lines_text (class_job_lines c) ++ (lines_text (class_way_lines devices c) ++ lines_text (class_price_lines devices c))
unfolding class_lines
class_text_is devices c =
    lines_append (class_job_lines c) (class_way_lines devices c ++ class_price_lines devices c)
    ∙ ap (λ rest. lines_text (class_job_lines c) ++ rest) (lines_append (class_way_lines devices c) (class_price_lines devices c))

pub classes_text_is : (devices : List (List ℕ)) (c : PlannedClass) (classes : List PlannedClass) →
    lines_text (classes_lines devices (c ∷ classes)) ≡ lines_text (class_lines devices c) ++ lines_text (classes_lines devices classes)
classes_text_is devices c classes = lines_append (class_lines devices c) (classes_lines devices classes)

plan_first : line_text HeadLine ≡ codes "plan\n"
unfolding line_text
plan_first = refl

end_last : lines_text (EndLine ∷ []) ≡ codes "end\n"
unfolding line_text
end_last = refl

pub plan_text_is : (named : NamedPlan) →
    plan_text named ≡ codes "plan\n" ++ (lines_text (device_lines named.devices) ++ (lines_text (classes_lines named.devices named.plan.classes) ++ (lines_text (stranded_lines named.plan.stranded) ++ codes "end\n")))
unfolding plan_text
plan_text_is named =
    ap (λ first. first ++ lines_text (device_lines named.devices ++ (classes_lines named.devices named.plan.classes ++ (stranded_lines named.plan.stranded ++ (EndLine ∷ []))))) plan_first
    ∙ ap (λ rest. codes "plan\n" ++ rest)
    (lines_append (device_lines named.devices) (classes_lines named.devices named.plan.classes ++ (stranded_lines named.plan.stranded ++ (EndLine ∷ [])))
    ∙ ap (λ rest. lines_text (device_lines named.devices) ++ rest)
    (lines_append (classes_lines named.devices named.plan.classes) (stranded_lines named.plan.stranded ++ (EndLine ∷ []))
    ∙ ap (λ rest. lines_text (classes_lines named.devices named.plan.classes) ++ rest)
    (lines_append (stranded_lines named.plan.stranded) (EndLine ∷ [])
    ∙ ap (λ rest. lines_text (stranded_lines named.plan.stranded) ++ rest) end_last)))

-- the texts that were appended in turn

pub joined3 : (old x y z a b new t : List ℕ) → a ≡ old ++ x → b ≡ a ++ y → new ≡ b ++ z → t ≡ x ++ (y ++ z) → new ≡ old ++ t
joined3 old x y z a b new t ea eb en et =
    en ∙ ap (λ s. s ++ z) (eb ∙ ap (λ s. s ++ y) ea) ∙ append_assoc (old ++ x) y z ∙ append_assoc old x (y ++ z) ∙ ap (λ s. old ++ s) (sym et)

pub joined4 : (old x y z w a b d new t : List ℕ) → a ≡ old ++ x → b ≡ a ++ y → d ≡ b ++ z → new ≡ d ++ w → t ≡ x ++ (y ++ (z ++ w)) → new ≡ old ++ t
joined4 old x y z w a b d new t ea eb ed en et =
    en ∙ ap (λ s. s ++ w) (joined3 old x y z a b d (x ++ (y ++ z)) ea eb ed refl)
    ∙ append_assoc old (x ++ (y ++ z)) w
    ∙ ap (λ s. old ++ s) (append_assoc x (y ++ z) w ∙ ap (λ s. x ++ s) (append_assoc y z w) ∙ sym et)

pub joined5 : (p x y z w o a b d new t : List ℕ) → o ≡ p → a ≡ o ++ x → b ≡ a ++ y → d ≡ b ++ z → new ≡ d ++ w → t ≡ p ++ (x ++ (y ++ (z ++ w))) → new ≡ t
joined5 p x y z w o a b d new t eo ea eb ed en et =
    joined4 o x y z w a b d new (x ++ (y ++ (z ++ w))) ea eb ed en refl ∙ ap (λ s. s ++ (x ++ (y ++ (z ++ w)))) eo ∙ sym et

pub place_prices_text_is : (device : List ℕ) (prices : List ℤ) (name : List ℕ) (each : List ℤ) → name ≡ device → each ≡ prices →
    line_text (PlacePricesLine device prices) ≡ codes "placeprices " ++ (name ++ (prices_text each ++ codes "\n"))
unfolding line_text
place_prices_text_is device prices name each en ee = rw (en, ee) refl

pub classes_step : (devices : List (List ℕ)) (classes : List PlannedClass) (i : ℕ) (item : PlannedClass) (old out new : List ℕ) →
    i < length classes → item ≡ get_or classes i item → new ≡ out ++ lines_text (class_lines devices item) →
    out ++ lines_text (classes_lines devices (drop i classes)) ≡ old →
    new ++ lines_text (classes_lines devices (drop (i + 1) classes)) ≡ old
classes_step devices classes i item old out new l is e h =
    let cut : drop i classes ≡ get_or classes i item ∷ drop (i + 1) classes = rw add-one (drop-cons classes i item l) in
    let here : drop i classes ≡ item ∷ drop (i + 1) classes = cut ∙ ap (λ first. first ∷ drop (i + 1) classes) (sym is) in
    let rest = lines_text (classes_lines devices (drop (i + 1) classes)) in
    let all : lines_text (classes_lines devices (drop i classes)) ≡ lines_text (class_lines devices item) ++ rest = ap (λ cs. lines_text (classes_lines devices cs)) here ∙ classes_text_is devices item (drop (i + 1) classes) in
    ap (λ s. s ++ rest) e ∙ append_assoc out (lines_text (class_lines devices item)) rest ∙ sym (ap (λ s. out ++ s) all) ∙ h
