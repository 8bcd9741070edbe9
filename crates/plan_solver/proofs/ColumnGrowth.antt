-- The columns of each device, as they grow.
use Rattle.std.proofs.Common.{◌≡◌, ◌≢◌, ℕ, ◌+◌, ◌<◌, List, [], ◌∷◌, ◌++◌, length, get_or, set, ap, sym, inl, inr, ◌∙◌, refl, arith}
use Rattle.std.proofs.lemmas.Bool.{cases_eq}
use Rattle.std.proofs.lemmas.List.{get_or_push, get_or_append_left, get_or-set_same, get_or-set_other, length_push}
use Rattle.std.proofs.Math.ListN.{length-set}
use Rattle.plan_solver.specs.declared.costs.Place.{Place}
use Rattle.plan_solver.specs.Costs.{nowhere}
use Rattle.plan_solver.specs.Layout.{taken}
use Rattle.plan_solver.specs.DeviceColumns.{AreColumnsOf, AreByDevice}
use Rattle.plan_solver.specs.AllPlaces.{place_on}
use Rattle.plan_solver.proofs.Laid.{on-same, on-other, taken-none, taken-push}

-- no column on any device
pub by_device_none : (devices : ℕ) (columns : List Place) (by_device : List (List ℕ)) → columns ≡ [] → length by_device ≡ devices → ((d : ℕ) → d < devices → get_or by_device d [] ≡ []) → AreByDevice devices columns by_device
by_device_none devices columns by_device e len empty = record {
  one_each = len;
  known = λ c lt. absurd (omega (arith, lt, ap length e));
  counts = λ d lt. rw (e, empty d lt, taken-none) refl;
  device_columns = λ d lt. record {
    known = λ k below. absurd (omega (arith, below, ap length (empty d lt)));
    places = λ k below. absurd (omega (arith, below, ap length (empty d lt)));
    within = λ c below is. absurd (omega (arith, below, ap length e));
    there = λ c below is. absurd (omega (arith, below, ap length e));
  };
}

-- the columns of a device that has one more
device_columns_more : (device : ℕ) (columns : List Place) (device_columns : List ℕ) → AreColumnsOf device columns device_columns → AreColumnsOf device (columns ++ place_on device (length device_columns) ∷ []) (device_columns ++ length columns ∷ [])
device_columns_more device columns device_columns h =
    let p = place_on device (length device_columns) in
    let n = length columns in
    let m = length device_columns in
    let long : length (columns ++ p ∷ []) ≡ n + 1 = length_push columns p in
    let wide : length (device_columns ++ n ∷ []) ≡ m + 1 = length_push device_columns n in
    let column_new : get_or (columns ++ p ∷ []) n nowhere ≡ p = get_or_push columns p nowhere n refl in
    let device_columns_new : get_or (device_columns ++ n ∷ []) m 0 ≡ n = get_or_push device_columns n 0 m refl in
    let column_old : (c : ℕ) → c < n → get_or (columns ++ p ∷ []) c nowhere ≡ get_or columns c nowhere = λ c lt. get_or_append_left columns (p ∷ []) nowhere c lt in
    let device_columns_old : (k : ℕ) → k < m → get_or (device_columns ++ n ∷ []) k 0 ≡ get_or device_columns k 0 = λ k lt. get_or_append_left device_columns (n ∷ []) 0 k lt in
    record {
      known = λ k below. elim (cases_eq k m) [
        | inl e ↦ rw (e, device_columns_new, long) (omega arith)
        | inr d ↦ let lt : k < m = omega (arith, below, wide) in rw (device_columns_old k lt, long) (omega (arith, h.known k lt))
      ];
      places = λ k below. elim (cases_eq k m) [
        | inl e ↦ rw (e, device_columns_new, column_new) refl
        | inr d ↦ let lt : k < m = omega (arith, below, wide) in rw (device_columns_old k lt, column_old (get_or device_columns k 0) (h.known k lt)) (h.places k lt)
      ];
      within = λ c below is. elim (cases_eq c n) [
        | inl e ↦ rw (e, column_new, wide) (omega arith)
        | inr d ↦ let lt : c < n = omega (arith, below, long) in rw (column_old c lt, wide) (omega (arith, h.within c lt (sym (ap (λ (x : Place). x.device) (column_old c lt)) ∙ is)))
      ];
      there = λ c below is. elim (cases_eq c n) [
        | inl e ↦ rw (e, column_new) device_columns_new
        | inr d ↦
            let lt : c < n = omega (arith, below, long) in
            let on : (get_or columns c nowhere).device ≡ device = sym (ap (λ (x : Place). x.device) (column_old c lt)) ∙ is in
            rw (column_old c lt) (device_columns_old (get_or columns c nowhere).after (h.within c lt on) ∙ h.there c lt on)
      ];
    }

-- the same for another device
device_columns_same : (device : ℕ) (columns : List Place) (p : Place) (device_columns : List ℕ) → AreColumnsOf device columns device_columns → p.device ≢ device → AreColumnsOf device (columns ++ p ∷ []) device_columns
device_columns_same device columns p device_columns h ne =
    let n = length columns in
    let long : length (columns ++ p ∷ []) ≡ n + 1 = length_push columns p in
    let column_new : get_or (columns ++ p ∷ []) n nowhere ≡ p = get_or_push columns p nowhere n refl in
    let column_old : (c : ℕ) → c < n → get_or (columns ++ p ∷ []) c nowhere ≡ get_or columns c nowhere = λ c lt. get_or_append_left columns (p ∷ []) nowhere c lt in
    let before : (c : ℕ) → c < length (columns ++ p ∷ []) → (get_or (columns ++ p ∷ []) c nowhere).device ≡ device → c < n = λ c below is. elim (cases_eq c n) [
      | inl e ↦ absurd (ne (sym (ap (λ (x : Place). x.device) (ap (λ k. get_or (columns ++ p ∷ []) k nowhere) e ∙ column_new)) ∙ is))
      | inr d ↦ omega (arith, below, long)
    ] in
    let on : (c : ℕ) → (lt : c < n) → (get_or (columns ++ p ∷ []) c nowhere).device ≡ device → (get_or columns c nowhere).device ≡ device = λ c lt is. sym (ap (λ (x : Place). x.device) (column_old c lt)) ∙ is in
    record {
      known = λ k below. omega (arith, h.known k below, long);
      places = λ k below. rw (column_old (get_or device_columns k 0) (h.known k below)) (h.places k below);
      within = λ c below is. let lt = before c below is in rw (column_old c lt) (h.within c lt (on c lt is));
      there = λ c below is. let lt = before c below is in rw (column_old c lt) (h.there c lt (on c lt is));
    }

more_at : (devices d : ℕ) (columns : List Place) (by_device : List (List ℕ)) → AreByDevice devices columns by_device → d < devices → (p : Place) → p ≡ place_on d (length (get_or by_device d [])) → AreByDevice devices (columns ++ p ∷ []) (set by_device d (get_or by_device d [] ++ length columns ∷ []))
more_at devices d columns by_device h lt p ep =
    let device_columns = get_or by_device d [] in
    let long : length (columns ++ p ∷ []) ≡ length columns + 1 = length_push columns p in
    let here : get_or (set by_device d (device_columns ++ length columns ∷ [])) d [] ≡ device_columns ++ length columns ∷ [] = get_or-set_same by_device d (device_columns ++ length columns ∷ []) [] (omega (arith, lt, h.one_each)) in
    let other : (k : ℕ) → k ≢ d → get_or (set by_device d (device_columns ++ length columns ∷ [])) k [] ≡ get_or by_device k [] = λ k ne. get_or-set_other by_device d k (device_columns ++ length columns ∷ []) [] ne in
    let device : p.device ≡ d = ap (λ (x : Place). x.device) ep in
    record {
      one_each = rw length-set h.one_each;
      known = λ c below. elim (cases_eq c (length columns)) [
        | inl e ↦ rw (e, get_or_push columns p nowhere (length columns) refl, device) lt
        | inr ne ↦ let before : c < length columns = omega (arith, below, long) in rw (get_or_append_left columns (p ∷ []) nowhere c before) (h.known c before)
      ];
      counts = λ k below. elim (cases_eq k d) [
        | inl e ↦ rw (e, here, taken-push, on-same d p device, length_push) (ap (λ x. x + 1) (h.counts d lt))
        | inr ne ↦ rw (other k ne, taken-push, on-other k p (λ x. ne (sym x ∙ device))) (h.counts k below ∙ omega arith)
      ];
      device_columns = λ k below. elim (cases_eq k d) [
        | inl e ↦ rw (e, here, ep) (device_columns_more d columns device_columns (h.device_columns d lt))
        | inr ne ↦ rw (other k ne) (device_columns_same k columns p (get_or by_device k []) (h.device_columns k below) (λ x. ne (sym x ∙ device)))
      ];
    }

-- one column more, laid on the next place of its device
pub by_device_more : (devices : ℕ) (columns columns' : List Place) (p : Place) (by_device by_device' : List (List ℕ)) → AreByDevice devices columns by_device → p.device < devices → p.after ≡ taken p.device columns → columns' ≡ columns ++ p ∷ [] → by_device' ≡ set by_device p.device (get_or by_device p.device [] ++ length columns ∷ []) → AreByDevice devices columns' by_device'
by_device_more devices columns columns' p by_device by_device' h lt after es el =
    rw (es, el) (more_at devices p.device columns by_device h lt p (ap (λ k. place_on p.device k) (after ∙ sym (h.counts p.device lt))))
