-- The changes of a connection between one ledger and the next, and the reports of a device that the core was notified by then.
use Rattle.std.proofs.Common.{◌≡◌, ◌≢◌, ℕ, Bool, true, false, List, [], ◌∷◌, ◌++◌, map, filter, cond, refl, sym, ◌∙◌, ap, subst, append_assoc, append-nil, Option, Some, None, ◌⊎◌, inl, inr, All}
use Rattle.std.specs.Prelude.{◌==◌, if◌then◌else◌}
use Rattle.std.specs.List.{flat_map}
use Rattle.std.proofs.lemmas.Grind.{flat_map-append}
use Rattle.std.proofs.lemmas.List.{map-append}
use Rattle.std.proofs.lemmas.List.Elements.{All-append, All-cons, All-nil, All-weaker, filter-append}
use Rattle.base_types.specs.Report.{ReportRecord, HelloReport, GoneReport}
use Rattle.device_link.specs.Stream.{ParsesFirst}
use Rattle.connections.specs.Entry.{PeerRecord, Http, Queue, Link, Entry, device_of, reading, unnamed}
use Rattle.server.specs.Ledger.{Ledger, Fate, at_key, without}
use Rattle.server.specs.Enqueuing.{IsDevice}
use Rattle.server.specs.Hello.{IsAlone}
use Rattle.promises.specs.Orders.{names}
use Rattle.promises.specs.Delivered.{reports_given, life_of, is_of, progress_of, HasBroken, IsGivenUp, IsNow, IsReported, IsGreeted, IsRead}
use Rattle.promises.proofs.SentToDevices.{same_key, other_key, is_key, not_key, one_entry, no_true}

-- ---- a connection

-- a connection without a name that isn't broken has no report
abbrev pub FreshOf : Entry → Type 0
FreshOf e = (reports : List ReportRecord) → e.progress ≡ Link reports None → e.broken ≡ false → reports ≡ []

-- the connection had no device, and has none
pub record Unnamed (d e : Entry) : Type 0 where
  pub sound : d.broken ≡ false
  pub before : device_of d.progress ≡ None
  pub after : device_of e.progress ≡ None
  pub fresh : FreshOf e

-- the changes of a connection, except for the reports of a device on it
pub record Grows (d e : Entry) : Type 0 where
  pub progress : (e.progress ≡ d.progress) ⊎ Unnamed d e
  pub broken : d.broken ≡ true → e.broken ≡ true
  pub reads : IsRead d → IsRead e

pub false_before : (s t : Bool) → (s ≡ true → t ≡ true) → t ≡ false → s ≡ false
false_before false t f is = refl
false_before true t f is = absurd (no_true t (f refl) is)

pub no_both : (o : Option ℕ) (device : ℕ) → o ≡ None → o ≡ Some device → ⊥
no_both o device p q = cc

pub no_entry : (o : Option Entry) (e : Entry) → o ≡ None → o ≡ Some e → ⊥
no_entry o e p q = cc

pub read_as : (d e : Entry) → reports_given e.progress ≡ reports_given d.progress → e.read ≡ d.read → IsRead d → IsRead e
read_as d e parsed read (prefix, rest, whole, reads_as) = (prefix, rest, read ∙ whole, subst (λ (reports : List ReportRecord). ParsesFirst prefix reports) (sym parsed) reads_as)

pub grows_as : (d e : Entry) → e.progress ≡ d.progress → e.read ≡ d.read → (d.broken ≡ true → e.broken ≡ true) → Grows d e
grows_as d e progress read broken = record { progress = inl progress; broken = broken; reads = read_as d e (ap reports_given progress) read }

pub grows_reading : (d : Entry) (segment : List ℕ) → Grows d (reading segment d)
grows_reading d segment = record {
  progress = inl refl;
  broken = λ is. is;
  reads = λ (prefix, rest, whole, reads_as). (prefix, rest ++ segment, ap (λ (bytes : List ℕ). bytes ++ segment) whole ∙ append_assoc prefix rest segment, reads_as);
}

grows_then : (d e f : Entry) → Grows d e → Grows e f → Grows d f
grows_then d e f g h = record { progress = by g.progress h.progress; broken = λ is. h.broken (g.broken is); reads = λ is. h.reads (g.reads is) }
  where
    by : (e.progress ≡ d.progress) ⊎ Unnamed d e → (f.progress ≡ e.progress) ⊎ Unnamed e f → (f.progress ≡ d.progress) ⊎ Unnamed d f
    by (inl p) (inl q) = inl (q ∙ p)
    by (inl p) (inr u) = inr (record { sound = false_before d.broken e.broken g.broken u.sound; before = ap device_of (sym p) ∙ u.before; after = u.after; fresh = u.fresh })
    by (inr u) (inl q) = inr (record {
      sound = u.sound;
      before = u.before;
      after = ap device_of q ∙ u.after;
      fresh = λ reports is unbroken. u.fresh reports (sym q ∙ is) (false_before e.broken f.broken h.broken unbroken);
    })
    by (inr u) (inr v) = inr (record { sound = u.sound; before = u.before; after = v.after; fresh = v.fresh })

-- a connection with a device keeps the device
pub named_stays : (device : ℕ) (d e : Entry) → device_of d.progress ≡ Some device → Grows d e → e.progress ≡ d.progress
named_stays device d e named g = by g.progress
  where
    by : (e.progress ≡ d.progress) ⊎ Unnamed d e → e.progress ≡ d.progress
    by (inl same) = same
    by (inr u) = absurd (no_both (device_of d.progress) device u.before named)

pub broken_stays : (d e : Entry) → d.broken ≡ true → Grows d e → e.progress ≡ d.progress
broken_stays d e broken g = by g.progress
  where
    by : (e.progress ≡ d.progress) ⊎ Unnamed d e → e.progress ≡ d.progress
    by (inl same) = same
    by (inr u) = absurd (no_true d.broken broken u.sound)

-- a connection that was accepted
pub record IsNew (e : Entry) : Type 0 where
  pub nameless : device_of e.progress ≡ None
  pub fresh : FreshOf e
  pub read : IsRead e

new_grows : (e f : Entry) → Grows e f → IsNew e → IsNew f
new_grows e f g new = by g.progress
  where
    by : (f.progress ≡ e.progress) ⊎ Unnamed e f → IsNew f
    by (inl same) = record { nameless = ap device_of same ∙ new.nameless; fresh = λ reports is unbroken. new.fresh reports (sym same ∙ is) (false_before e.broken f.broken g.broken unbroken); read = g.reads new.read }
    by (inr u) = record { nameless = u.after; fresh = u.fresh; read = g.reads new.read }

-- ---- under a key

abbrev pub Kept : Option Entry → Option Entry → Type 0
Kept None y = (y ≡ None) ⊎ ((e : Entry) × (y ≡ Some e) × IsNew e)
Kept (Some d) y = (e : Entry) × (y ≡ Some e) × Grows d e

pub kept_same : (x : Option Entry) → Kept x x
kept_same None = inl refl
kept_same (Some d) = (d, refl, grows_as d d refl refl (λ is. is))

pub kept_then : (x y z : Option Entry) → Kept x y → Kept y z → Kept x z
kept_then None y z (inl is) q = subst (λ (o : Option Entry). Kept o z) is q
kept_then None y z (inr (e, is, new)) q =
    let r : Kept (Some e) z = subst (λ (o : Option Entry). Kept o z) is q in
    inr (r.0, r.1, new_grows e r.0 r.2 new)
kept_then (Some d) y z (e, is, g) q =
    let r : Kept (Some e) z = subst (λ (o : Option Entry). Kept o z) is q in
    (r.0, r.1, grows_then d e r.0 g r.2)

-- of an open one
pub kept_open : (d : Entry) (x y : Option Entry) → x ≡ Some d → Kept x y → Kept (Some d) y
kept_open d x y there kept = subst (λ (o : Option Entry). Kept o y) there kept

-- no connection has a device that it didn't have before
pub named_was : (device : ℕ) (x y : Option Entry) → Kept x y → IsDevice device y → IsDevice device x
named_was device None y (inl is) named = subst (IsDevice device) is named
named_was device None y (inr (e, is, new)) named = absurd (no_both (device_of e.progress) device new.nameless (subst (IsDevice device) is named))
named_was device (Some d) y (e, is, g) named = by g.progress
  where
    now : device_of e.progress ≡ Some device
    now = subst (IsDevice device) is named

    by : (e.progress ≡ d.progress) ⊎ Unnamed d e → device_of d.progress ≡ Some device
    by (inl same) = ap device_of (sym same) ∙ now
    by (inr u) = absurd (no_both (device_of e.progress) device u.after now)

-- a broken connection without a device stays, until it is closed
abbrev pub Passes : Option Entry → Option Entry → Type 0
Passes x y = (e : Entry) → x ≡ Some e → device_of e.progress ≡ None → e.broken ≡ true → (f : Entry) × (y ≡ Some f) × (f.progress ≡ e.progress) × (f.broken ≡ true)

pub kept_passes : (x y : Option Entry) → Kept x y → Passes x y
kept_passes x y kept e there nameless broken =
    let it : Kept (Some e) y = kept_open e x y there kept in
    (it.0, it.1, broken_stays e it.0 broken it.2, it.2.broken broken)

-- a connection with a device, or an unbroken connection, isn't a broken connection without a device
pub passes_named : (device : ℕ) (d : Entry) (x y : Option Entry) → x ≡ Some d → device_of d.progress ≡ Some device → Passes x y
passes_named device d x y there named e is nameless broken =
    absurd (no_both (device_of d.progress) device (ap (λ (z : Entry). device_of z.progress) (one_entry d e (sym there ∙ is)) ∙ nameless) named)

pub passes_sound : (d : Entry) (x y : Option Entry) → x ≡ Some d → d.broken ≡ false → Passes x y
passes_sound d x y there sound e is nameless broken = absurd (no_true d.broken (ap (λ (z : Entry). z.broken) (one_entry d e (sym there ∙ is)) ∙ broken) sound)

-- the reports of a device on its connection stay
pub record Keeps (device : ℕ) (x y : Option Entry) : Type 0 where
  pub named : (now : List ReportRecord) (e : Entry) → x ≡ Some e → e.progress ≡ Link now (Some device) → (f : Entry) × (y ≡ Some f) × (f.progress ≡ Link now (Some device))
  pub was : IsDevice device y → IsDevice device x
  pub passes : Passes x y

pub kept_keeps : (device : ℕ) (x y : Option Entry) → Kept x y → Keeps device x y
kept_keeps device x y kept = record {
  named = λ now e there progress.
      let it : Kept (Some e) y = kept_open e x y there kept in
      (it.0, it.1, named_stays device e it.0 (ap device_of progress) it.2 ∙ progress);
  was = named_was device x y kept;
  passes = kept_passes x y kept;
}

-- of another device
pub keeps_neither : (device : ℕ) (x y : Option Entry) → (IsDevice device x → ⊥) → (IsDevice device y → ⊥) → Passes x y → Keeps device x y
keeps_neither device x y before after passes = record {
  named = λ now e there progress. absurd (before (subst (IsDevice device) (sym there) (ap device_of progress)));
  was = λ is. absurd (after is);
  passes = passes;
}

-- ---- ledgers

pub here : (key : ℕ) (o : Option Entry) (entries : ℕ → Option Entry) (k : ℕ) → k ≡ key → at_key key o entries k ≡ o
here key o entries k same = ap (λ (t : Bool). if t then o else entries k) (ap (λ (j : ℕ). j == key) same ∙ is_key key)

pub aside : (key : ℕ) (o : Option Entry) (entries : ℕ → Option Entry) (k : ℕ) → k ≢ key → at_key key o entries k ≡ entries k
aside key o entries k apart = ap (λ (t : Bool). if t then o else entries k) (not_key k key apart)

-- under this key, or another
pub by_key : {A : Type 0} (k key : ℕ) → (k ≡ key → A) → (k ≢ key → A) → A
by_key {A} k key same other = by (k == key) refl
  where
    by : (t : Bool) → (k == key) ≡ t → A
    by true is = same (same_key k key is)
    by false is = other (other_key k key is)

-- no other connection became a device's
pub record KeptAll (l l' : Ledger) : Type 0 where
  pub closed : l'.closed ≡ l.closed
  pub each : (key : ℕ) → Kept (l.entries key) (l'.entries key)

now_keeps : (device : ℕ) (now : List ReportRecord) (l l' : Ledger) → ((k : ℕ) → Keeps device (l.entries k) (l'.entries k)) → IsNow device now l → IsNow device now l'
now_keeps device now l l' keeps (inl (absent, none)) = inl (λ k is. absent k ((keeps k).was is), none)
now_keeps device now l l' keeps (inr (key, e, there, progress, alone)) =
    let it = (keeps key).named now e there progress in
    inr (key, it.0, it.1, it.2, λ k apart is. alone k apart ((keeps k).was is))

pub broken_passes : (progress : PeerRecord) (l l' : Ledger) → device_of progress ≡ None → l'.closed ≡ l.closed → ((k : ℕ) → Passes (l.entries k) (l'.entries k)) → HasBroken progress l → HasBroken progress l'
broken_passes progress l l' nameless closed passes (inl (key, e, there, is, broken)) =
    let it = passes key e there (ap device_of is ∙ nameless) broken in
    inl (key, it.0, it.1, it.2 ∙ is, it.3)
broken_passes progress l l' nameless closed passes (inr (before, it, tail, whole, is, broken)) = inr (before, it, tail, closed ∙ whole, is, broken)

pub given_passes : (device : ℕ) (past : List PeerRecord) (l l' : Ledger) → l'.closed ≡ l.closed → ((k : ℕ) → Passes (l.entries k) (l'.entries k)) → All (λ (progress : PeerRecord). is_of device progress ≡ false → IsGivenUp progress l) past → All (λ (progress : PeerRecord). is_of device progress ≡ false → IsGivenUp progress l') past
given_passes device past l l' closed passes all =
    All-weaker (λ (progress : PeerRecord). is_of device progress ≡ false → IsGivenUp progress l) (λ (progress : PeerRecord). is_of device progress ≡ false → IsGivenUp progress l') (λ progress up isnt. let it = up isnt in (it.0, broken_passes progress l l' it.0 closed passes it.1)) past all

closed_same : (device : ℕ) (past : List PeerRecord) (l l' : Ledger) → l'.closed ≡ l.closed → filter (is_of device) past ≡ filter (is_of device) (map progress_of l.closed) → filter (is_of device) past ≡ filter (is_of device) (map progress_of l'.closed)
closed_same device past l l' same is = is ∙ ap (λ (closed : List (Entry × Fate)). filter (is_of device) (map progress_of closed)) (sym same)

pub reported_keeps : (device : ℕ) (notified : List ReportRecord) (l l' : Ledger) → l'.closed ≡ l.closed → ((k : ℕ) → Keeps device (l.entries k) (l'.entries k)) → IsReported device notified l → IsReported device notified l'
reported_keeps device notified l l' closed keeps r = record {
  past = r.past;
  now = r.now;
  whole = r.whole;
  closed = closed_same device r.past l l' closed r.closed;
  superseded_entry = given_passes device r.past l l' closed (λ k. (keeps k).passes) r.superseded_entry;
  is_now = now_keeps device r.now l l' keeps r.is_now;
}

pub reported_kept : (device : ℕ) (notified : List ReportRecord) (l l' : Ledger) → KeptAll l l' → IsReported device notified l → IsReported device notified l'
reported_kept device notified l l' kept r = reported_keeps device notified l l' kept.closed (λ k. kept_keeps device (l.entries k) (l'.entries k) (kept.each k)) r

pub reported_as : (device : ℕ) (notified other : List ReportRecord) (l : Ledger) → notified ≡ other → IsReported device notified l → IsReported device other l
reported_as device notified other l same r = subst (λ (reports : List ReportRecord). IsReported device reports l) same r

-- ---- a connection's end

-- a connection ended on which these reports came
past_more : (past : List PeerRecord) (progress : PeerRecord) (now notified : List ReportRecord) → notified ≡ flat_map life_of past ++ now → reports_given progress ≡ now → notified ++ GoneReport ∷ [] ≡ flat_map life_of (past ++ progress ∷ []) ++ []
past_more past progress now notified whole parsed =
    ap (λ (reports : List ReportRecord). reports ++ GoneReport ∷ []) whole
    ∙ (append_assoc (flat_map life_of past) now (GoneReport ∷ [])
    ∙ (ap (λ (reports : List ReportRecord). flat_map life_of past ++ (reports ++ GoneReport ∷ [])) (sym parsed)
    ∙ sym (append-nil (flat_map life_of (past ++ progress ∷ [])) ∙ (flat_map-append life_of past (progress ∷ []) ∙ ap (λ (reports : List ReportRecord). flat_map life_of past ++ reports) (append-nil (life_of progress))))))

closed_more : (device : ℕ) (closed : List (Entry × Fate)) (it : Entry × Fate) → filter (is_of device) (map progress_of (closed ++ it ∷ [])) ≡ filter (is_of device) (map progress_of closed) ++ filter (is_of device) (progress_of it ∷ [])
closed_more device closed it = ap (filter (is_of device)) (map-append progress_of closed (it ∷ [])) ∙ filter-append (is_of device) (map progress_of closed) (progress_of it ∷ [])

-- a broken connection is closed, or still open
broken_left : (progress : PeerRecord) (key : ℕ) (e : Entry) (fate : Fate) (l : Ledger) → l.entries key ≡ Some e → HasBroken progress l → HasBroken progress (without key e fate l)
broken_left progress key e fate l there (inl (k, d, at, is, broken)) =
    by_key k key
    (λ same.
    let this : d ≡ e = one_entry d e (sym at ∙ (ap l.entries same ∙ there)) in
    inr (l.closed, (e, fate), [], refl, ap (λ (x : Entry). x.progress) (sym this) ∙ is, ap (λ (x : Entry). x.broken) (sym this) ∙ broken))
    (λ apart. inl (k, d, aside key None l.entries k apart ∙ at, is, broken))
broken_left progress key e fate l there (inr (before, it, tail, whole, is, broken)) =
    inr (before, it, tail ++ (e, fate) ∷ [], ap (λ (closed : List (Entry × Fate)). closed ++ (e, fate) ∷ []) whole ∙ append_assoc before (it ∷ tail) ((e, fate) ∷ []), is, broken)

given_left : (device key : ℕ) (e : Entry) (fate : Fate) (past : List PeerRecord) (l : Ledger) → l.entries key ≡ Some e → All (λ (progress : PeerRecord). is_of device progress ≡ false → IsGivenUp progress l) past → All (λ (progress : PeerRecord). is_of device progress ≡ false → IsGivenUp progress (without key e fate l)) past
given_left device key e fate past l there all =
    All-weaker (λ (progress : PeerRecord). is_of device progress ≡ false → IsGivenUp progress l) (λ (progress : PeerRecord). is_of device progress ≡ false → IsGivenUp progress (without key e fate l))
    (λ progress up isnt. let it = up isnt in (it.0, broken_left progress key e fate l there it.1)) past all

-- the reports that the core is notified as a connection ends
abbrev pub gone_notified : ℕ → Option ℕ → List ReportRecord
gone_notified device None = []
gone_notified device (Some other) = if other == device then GoneReport ∷ [] else []

-- the one open connection that bears a device's name
pub record OneOf (device : ℕ) (now : List ReportRecord) (key : ℕ) (e : Entry) (l : Ledger) : Type 0 where
  pub progress : e.progress ≡ Link now (Some device)
  pub alone : IsAlone device key l

pub only_one : (device : ℕ) (now : List ReportRecord) (key : ℕ) (e : Entry) (l : Ledger) → l.entries key ≡ Some e → device_of e.progress ≡ Some device → IsNow device now l → OneOf device now key e l
only_one device now key e l there named (inl (absent, none)) = absurd (absent key (subst (IsDevice device) (sym there) named))
only_one device now key e l there named (inr (k, d, at, progress, alone)) = by_key key k same other
  where
    same : key ≡ k → OneOf device now key e l
    same is = record {
      progress = ap (λ (x : Entry). x.progress) (one_entry e d (sym there ∙ (ap l.entries is ∙ at))) ∙ progress;
      alone = subst (λ (j : ℕ). IsAlone device j l) (sym is) alone;
    }

    other : key ≢ k → OneOf device now key e l
    other apart = absurd (alone key apart (subst (IsDevice device) (sym there) named))

left_named : (device key : ℕ) (e : Entry) (fate : Fate) (notified : List ReportRecord) (l : Ledger) → l.entries key ≡ Some e → device_of e.progress ≡ Some device → IsReported device notified l → IsReported device (notified ++ GoneReport ∷ []) (without key e fate l)
left_named device key e fate notified l there named r = record {
  past = r.past ++ e.progress ∷ [];
  now = [];
  whole = past_more r.past e.progress r.now notified r.whole (ap reports_given one.progress);
  closed = filter-append (is_of device) r.past (e.progress ∷ []) ∙ (ap (λ (progresses : List PeerRecord). progresses ++ filter (is_of device) (e.progress ∷ [])) r.closed ∙ sym (closed_more device l.closed (e, fate)));
  superseded_entry = All-append (λ (progress : PeerRecord). is_of device progress ≡ false → IsGivenUp progress (without key e fate l)) r.past (e.progress ∷ []) (given_left device key e fate r.past l there r.superseded_entry)
      (All-cons (λ (progress : PeerRecord). is_of device progress ≡ false → IsGivenUp progress (without key e fate l)) e.progress [] (λ isnt. absurd (no_true (is_of device e.progress) this isnt)) (All-nil (λ (progress : PeerRecord). is_of device progress ≡ false → IsGivenUp progress (without key e fate l))));
  is_now = inl (λ k is. by_key k key (λ same. subst (IsDevice device) (here key None l.entries k same) is) (λ apart. one.alone k apart (subst (IsDevice device) (aside key None l.entries k apart) is)), refl);
}
  where
    one : OneOf device r.now key e l
    one = only_one device r.now key e l there named r.is_now

    this : is_of device e.progress ≡ true
    this = ap (names device) named ∙ is_key device

left_other : (device key : ℕ) (e : Entry) (fate : Fate) (notified : List ReportRecord) (l : Ledger) → l.entries key ≡ Some e → is_of device e.progress ≡ false → IsReported device notified l → IsReported device notified (without key e fate l)
left_other device key e fate notified l there isnt r = record {
  past = r.past;
  now = r.now;
  whole = r.whole;
  closed = r.closed ∙ (sym (append-nil (filter (is_of device) (map progress_of l.closed))) ∙ (ap (λ (progresses : List PeerRecord). filter (is_of device) (map progress_of l.closed) ++ progresses) (sym none) ∙ sym (closed_more device l.closed (e, fate))));
  superseded_entry = given_left device key e fate r.past l there r.superseded_entry;
  is_now = by r.is_now;
}
  where
    none : filter (is_of device) (e.progress ∷ []) ≡ []
    none = ap (λ (t : Bool). cond t (e.progress ∷ []) []) isnt

    never : device_of e.progress ≡ Some device → ⊥
    never named = no_true (is_of device e.progress) (ap (names device) named ∙ is_key device) isnt

    was : (k : ℕ) → IsDevice device (at_key key None l.entries k) → IsDevice device (l.entries k)
    was k is = by_key k key (λ same. absurd (subst (IsDevice device) (here key None l.entries k same) is)) (λ apart. subst (IsDevice device) (aside key None l.entries k apart) is)

    by : IsNow device r.now l → IsNow device r.now (without key e fate l)
    by (inl (absent, nothing)) = inl (λ k is. absent k (was k is), nothing)
    by (inr (k, d, at, progress, alone)) =
        inr (k, d, aside key None l.entries k (λ same. never (ap (λ (x : Entry). device_of x.progress) (one_entry e d (sym there ∙ (ap l.entries (sym same) ∙ at))) ∙ ap device_of progress)) ∙ at, progress, λ j apart is. alone j apart (was j is))

pub reported_left : (device key : ℕ) (o : Option ℕ) (e : Entry) (fate : Fate) (notified : List ReportRecord) (l : Ledger) → l.entries key ≡ Some e → device_of e.progress ≡ o → IsReported device notified l → IsReported device (notified ++ gone_notified device o) (without key e fate l)
reported_left device key None e fate notified l there is r =
    reported_as device notified (notified ++ []) (without key e fate l) (sym (append-nil notified)) (left_other device key e fate notified l there (ap (names device) is) r)
reported_left device key (Some other) e fate notified l there is r = by (other == device) refl
  where
    by : (t : Bool) → (other == device) ≡ t → IsReported device (notified ++ (if t then GoneReport ∷ [] else [])) (without key e fate l)
    by true same = left_named device key e fate notified l there (is ∙ ap (λ (d : ℕ). Some d) (same_key other device same)) r
    by false apart = reported_as device notified (notified ++ []) (without key e fate l) (sym (append-nil notified)) (left_other device key e fate notified l there (ap (names device) is ∙ apart) r)

-- ---- more reports of a device

-- of a device, where it is this one
abbrev pub notified_if : ℕ → ℕ → List ReportRecord → List ReportRecord
notified_if device dev reports = if dev == device then reports else []

more_notified : (past : List PeerRecord) (now notified : List ReportRecord) (parsed : ReportRecord) → notified ≡ flat_map life_of past ++ now → notified ++ parsed ∷ [] ≡ flat_map life_of past ++ (now ++ parsed ∷ [])
more_notified past now notified parsed whole = ap (λ (reports : List ReportRecord). reports ++ parsed ∷ []) whole ∙ append_assoc (flat_map life_of past) now (parsed ∷ [])

-- the other device's
other_device : (device dev : ℕ) → (dev == device) ≡ false → (o : Option Entry) (e : Entry) → o ≡ Some e → device_of e.progress ≡ Some dev → IsDevice device o → ⊥
other_device device dev apart o e there named is =
    let same : Some dev ≡ Some device = sym named ∙ subst (IsDevice device) there is in
    let this : dev ≡ device = cc in
    other_key dev device apart this

nameless_none : (device : ℕ) (o : Option Entry) (e : Entry) → o ≡ Some e → device_of e.progress ≡ None → IsDevice device o → ⊥
nameless_none device o e there nameless is = no_both (device_of e.progress) device nameless (subst (IsDevice device) there is)

same_reports : (one other : List ReportRecord) (device dev : ℕ) → Link one (Some device) ≡ Link other (Some dev) → one ≡ other
same_reports one other device dev same = cc

-- one more report on the device's connection
pub record More (dev key : ℕ) (parsed : ReportRecord) (l l' : Ledger) : Type 0 where
  pub d : Entry
  pub f : Entry
  pub reports : List ReportRecord
  pub there : l.entries key ≡ Some d
  pub progress : d.progress ≡ Link reports (Some dev)
  pub now : l'.entries key ≡ Some f
  pub after : f.progress ≡ Link (reports ++ parsed ∷ []) (Some dev)
  pub others : (k : ℕ) → k ≢ key → Kept (l.entries k) (l'.entries k)
  pub closed : l'.closed ≡ l.closed

pub reported_more : (device dev key : ℕ) (parsed : ReportRecord) (notified : List ReportRecord) (l l' : Ledger) → More dev key parsed l l' → IsReported device notified l → IsReported device (notified ++ notified_if device dev (parsed ∷ [])) l'
reported_more device dev key parsed notified l l' m r = by (dev == device) refl
  where
    passes : (k : ℕ) → Passes (l.entries k) (l'.entries k)
    passes k = by_key k key (λ same. passes_named dev m.d (l.entries k) (l'.entries k) (ap l.entries same ∙ m.there) (ap device_of m.progress)) (λ apart. kept_passes (l.entries k) (l'.entries k) (m.others k apart))

    this : dev ≡ device → IsReported device (notified ++ parsed ∷ []) l'
    this same =
        let one = only_one device r.now key m.d l m.there (ap device_of m.progress ∙ ap (λ (x : ℕ). Some x) same) r.is_now in
        let are : m.reports ≡ r.now = same_reports m.reports r.now dev device (sym m.progress ∙ one.progress) in
        record {
          past = r.past;
          now = r.now ++ parsed ∷ [];
          whole = more_notified r.past r.now notified parsed r.whole;
          closed = closed_same device r.past l l' m.closed r.closed;
          superseded_entry = given_passes device r.past l l' m.closed passes r.superseded_entry;
          is_now = inr (
            key,
            m.f,
            m.now,
            m.after ∙ (ap (λ (reports : List ReportRecord). Link (reports ++ parsed ∷ []) (Some dev)) are ∙ ap (λ (x : ℕ). Link (r.now ++ parsed ∷ []) (Some x)) same),
            λ k apart is. one.alone k apart (named_was device (l.entries k) (l'.entries k) (m.others k apart) is),
          );
        }

    by : (t : Bool) → (dev == device) ≡ t → IsReported device (notified ++ (if t then parsed ∷ [] else [])) l'
    by true same = this (same_key dev device same)
    by false apart =
        reported_as device notified (notified ++ []) l' (sym (append-nil notified))
        (reported_keeps device notified l l' m.closed
        (λ k.
        by_key k key
        (λ same.
        keeps_neither device (l.entries k) (l'.entries k) (other_device device dev apart (l.entries k) m.d (ap l.entries same ∙ m.there) (ap device_of m.progress))
        (other_device device dev apart (l'.entries k) m.f (ap l'.entries same ∙ m.now) (ap device_of m.after)) (passes k))
        (λ other. kept_keeps device (l.entries k) (l'.entries k) (m.others k other))) r)

-- ---- a device gives its name

pub record Named (dev key : ℕ) (name : List ℕ) (l l' : Ledger) : Type 0 where
  pub d : Entry
  pub f : Entry
  pub there : l.entries key ≡ Some d
  pub nameless : device_of d.progress ≡ None
  pub sound : d.broken ≡ false
  pub now : l'.entries key ≡ Some f
  pub after : f.progress ≡ Link (HelloReport name ∷ []) (Some dev)
  pub closed : l'.closed ≡ l.closed

-- on the first connection that it has
pub reported_named : (device dev key : ℕ) (name : List ℕ) (notified : List ReportRecord) (l l' : Ledger) → Named dev key name l l' → IsAlone dev key l → ((k : ℕ) → k ≢ key → Kept (l.entries k) (l'.entries k)) → IsReported device notified l
    → IsReported device (notified ++ notified_if device dev (HelloReport name ∷ [])) l'
reported_named device dev key name notified l l' m alone others r = by (dev == device) refl
  where
    passes : (k : ℕ) → Passes (l.entries k) (l'.entries k)
    passes k = by_key k key (λ same. passes_sound m.d (l.entries k) (l'.entries k) (ap l.entries same ∙ m.there) m.sound) (λ apart. kept_passes (l.entries k) (l'.entries k) (others k apart))

    none : dev ≡ device → IsNow device r.now l → r.now ≡ []
    none same (inl (absent, is)) = is
    none same (inr (k, e, at, progress, only)) =
        let is : IsDevice device (l.entries k) = subst (IsDevice device) (sym at) (ap device_of progress) in
        by_key k key (λ here. absurd (nameless_none device (l.entries k) m.d (ap l.entries here ∙ m.there) m.nameless is)) (λ apart. absurd (alone k apart (subst (λ (x : ℕ). IsDevice x (l.entries k)) (sym same) is)))

    this : dev ≡ device → IsReported device (notified ++ HelloReport name ∷ []) l'
    this same = record {
      past = r.past;
      now = HelloReport name ∷ [];
      whole = more_notified r.past r.now notified (HelloReport name) r.whole ∙ ap (λ (reports : List ReportRecord). flat_map life_of r.past ++ (reports ++ HelloReport name ∷ [])) (none same r.is_now);
      closed = closed_same device r.past l l' m.closed r.closed;
      superseded_entry = given_passes device r.past l l' m.closed passes r.superseded_entry;
      is_now = inr (
        key,
        m.f,
        m.now,
        m.after ∙ ap (λ (x : ℕ). Link (HelloReport name ∷ []) (Some x)) same,
        λ k apart is. alone k apart (subst (λ (x : ℕ). IsDevice x (l.entries k)) (sym same) (named_was device (l.entries k) (l'.entries k) (others k apart) is)),
      );
    }

    by : (t : Bool) → (dev == device) ≡ t → IsReported device (notified ++ (if t then HelloReport name ∷ [] else [])) l'
    by true same = this (same_key dev device same)
    by false apart =
        reported_as device notified (notified ++ []) l' (sym (append-nil notified))
        (reported_keeps device notified l l' m.closed
        (λ k.
        by_key k key
        (λ same.
        keeps_neither device (l.entries k) (l'.entries k) (nameless_none device (l.entries k) m.d (ap l.entries same ∙ m.there) m.nameless)
        (other_device device dev apart (l'.entries k) m.f (ap l'.entries same ∙ m.now) (ap device_of m.after)) (passes k))
        (λ other. kept_keeps device (l.entries k) (l'.entries k) (others k other))) r)

-- on another connection: the device gave up the connection that it had
pub record Over (dev key other : ℕ) (l l' : Ledger) : Type 0 where
  pub o : Entry
  pub g : Entry
  pub apart : other ≢ key
  pub there : l.entries other ≡ Some o
  pub named : device_of o.progress ≡ Some dev
  pub now : l'.entries other ≡ Some g
  pub after : g.progress ≡ unnamed o.progress
  pub broke : g.broken ≡ true
  pub others : (k : ℕ) → k ≢ key → k ≢ other → Kept (l.entries k) (l'.entries k)

pub unnamed_nameless : (progress : PeerRecord) → device_of (unnamed progress) ≡ None
unnamed_nameless (Http parsed closes body) = refl
unnamed_nameless (Queue items session) = refl
unnamed_nameless (Link reports device) = refl

pub reported_over : (device dev key other : ℕ) (name : List ℕ) (notified : List ReportRecord) (l l' : Ledger) → Named dev key name l l' → Over dev key other l l' → IsReported device notified l → IsReported device (notified ++ notified_if device dev (GoneReport ∷ HelloReport name ∷ [])) l'
reported_over device dev key other name notified l l' m v r = by (dev == device) refl
  where
    nameless : device_of v.g.progress ≡ None
    nameless = ap device_of v.after ∙ unnamed_nameless v.o.progress

    passes : (k : ℕ) → Passes (l.entries k) (l'.entries k)
    passes k =
        by_key k key (λ same. passes_sound m.d (l.entries k) (l'.entries k) (ap l.entries same ∙ m.there) m.sound)
        (λ apart. by_key k other (λ same. passes_named dev v.o (l.entries k) (l'.entries k) (ap l.entries same ∙ v.there) v.named) (λ away. kept_passes (l.entries k) (l'.entries k) (v.others k apart away)))

    this : dev ≡ device → IsReported device (notified ++ GoneReport ∷ HelloReport name ∷ []) l'
    this same =
        let one = only_one device r.now other v.o l v.there (v.named ∙ ap (λ (x : ℕ). Some x) same) r.is_now in
        let progress : v.g.progress ≡ Link r.now None = v.after ∙ ap unnamed one.progress in
        record {
          past = r.past ++ Link r.now None ∷ [];
          now = HelloReport name ∷ [];
          whole = sym (append_assoc notified (GoneReport ∷ []) (HelloReport name ∷ []))
              ∙ ap (λ (reports : List ReportRecord). reports ++ HelloReport name ∷ []) (past_more r.past (Link r.now None) r.now notified r.whole refl ∙ append-nil (flat_map life_of (r.past ++ Link r.now None ∷ [])));
          closed = filter-append (is_of device) r.past (Link r.now None ∷ []) ∙ (append-nil (filter (is_of device) r.past) ∙ closed_same device r.past l l' m.closed r.closed);
          superseded_entry = All-append (λ (it : PeerRecord). is_of device it ≡ false → IsGivenUp it l') r.past (Link r.now None ∷ []) (given_passes device r.past l l' m.closed passes r.superseded_entry)
              (All-cons (λ (it : PeerRecord). is_of device it ≡ false → IsGivenUp it l') (Link r.now None) [] (λ isnt. (refl, inl (other, v.g, v.now, progress, v.broke))) (All-nil (λ (it : PeerRecord). is_of device it ≡ false → IsGivenUp it l')));
          is_now = inr (
            key,
            m.f,
            m.now,
            m.after ∙ ap (λ (x : ℕ). Link (HelloReport name ∷ []) (Some x)) same,
            λ k apart is.
                by_key k other (λ at. nameless_none device (l'.entries k) v.g (ap l'.entries at ∙ v.now) nameless is) (λ away. one.alone k away (named_was device (l.entries k) (l'.entries k) (v.others k apart away) is)),
          );
        }

    by : (t : Bool) → (dev == device) ≡ t → IsReported device (notified ++ (if t then GoneReport ∷ HelloReport name ∷ [] else [])) l'
    by true same = this (same_key dev device same)
    by false apart =
        reported_as device notified (notified ++ []) l' (sym (append-nil notified))
        (reported_keeps device notified l l' m.closed
        (λ k.
        by_key k key
        (λ same.
        keeps_neither device (l.entries k) (l'.entries k) (nameless_none device (l.entries k) m.d (ap l.entries same ∙ m.there) m.nameless)
        (other_device device dev apart (l'.entries k) m.f (ap l'.entries same ∙ m.now) (ap device_of m.after)) (passes k))
        (λ away.
        by_key k other
        (λ at.
        keeps_neither device (l.entries k) (l'.entries k) (other_device device dev apart (l.entries k) v.o (ap l.entries at ∙ v.there) v.named)
        (nameless_none device (l'.entries k) v.g (ap l'.entries at ∙ v.now) nameless) (passes k))
        (λ far. kept_keeps device (l.entries k) (l'.entries k) (v.others k away far)))) r)

-- ---- the bytes that were read

abbrev pub SoundAt : Option Entry → Type 0
SoundAt None = Unit {0}
SoundAt (Some e) = FreshOf e × IsRead e

pub kept_sound : (x y : Option Entry) → Kept x y → SoundAt x → SoundAt y
kept_sound None y (inl is) sound = subst SoundAt (sym is) tt
kept_sound None y (inr (e, is, new)) sound = subst SoundAt (sym is) (new.fresh, new.read)
kept_sound (Some d) y (e, is, g) sound = subst SoundAt (sym is) (by g.progress, g.reads sound.1)
  where
    by : (e.progress ≡ d.progress) ⊎ Unnamed d e → FreshOf e
    by (inl same) = λ reports progress unbroken. sound.0 reports (sym same ∙ progress) (false_before d.broken e.broken g.broken unbroken)
    by (inr u) = u.fresh

-- of all connections
pub record Sound (l : Ledger) : Type 0 where
  pub each : (key : ℕ) → SoundAt (l.entries key)
  pub closed : All (λ (it : Entry × Fate). IsRead it.0) l.closed

pub sound_by : (l l' : Ledger) → l'.closed ≡ l.closed → Sound l → ((key : ℕ) → SoundAt (l'.entries key)) → Sound l'
sound_by l l' same sound each = record { each = each; closed = subst (λ (closed : List (Entry × Fate)). All (λ (it : Entry × Fate). IsRead it.0) closed) (sym same) sound.closed }

pub sound_kept : (l l' : Ledger) → KeptAll l l' → Sound l → Sound l'
sound_kept l l' kept sound = sound_by l l' kept.closed sound (λ key. kept_sound (l.entries key) (l'.entries key) (kept.each key) (sound.each key))

pub sound_left : (key : ℕ) (e : Entry) (fate : Fate) (l : Ledger) → l.entries key ≡ Some e → Sound l → Sound (without key e fate l)
sound_left key e fate l there sound = record {
  each = λ k. by_key k key (λ same. subst SoundAt (sym (here key None l.entries k same)) tt) (λ apart. subst SoundAt (sym (aside key None l.entries k apart)) (sound.each k));
  closed = All-append (λ (it : Entry × Fate). IsRead it.0) l.closed ((e, fate) ∷ []) sound.closed (All-cons (λ (it : Entry × Fate). IsRead it.0) (e, fate) [] (subst SoundAt there (sound.each key)).1 (All-nil (λ (it : Entry × Fate). IsRead it.0)));
}

pub first_read : (e : Entry) (read : List ℕ) (reports : List ReportRecord) → ParsesFirst read reports → e.read ≡ read → reports_given e.progress ≡ reports → IsRead e
first_read e read reports reads_as same parsed = (read, [], same ∙ sym (append-nil read), subst (λ (its : List ReportRecord). ParsesFirst read its) (sym parsed) reads_as)

-- the connection has no report
pub none_read : (e : Entry) → reports_given e.progress ≡ [] → IsRead e
none_read e parsed = first_read e e.read [] (record { next = false; left = e.read; leads = (refl, refl) }) refl parsed

-- ---- whose name was given

pub record AllGreeted (Name : List ℕ → ℕ → Type 0) (l : Ledger) : Type 0 where
  pub each : (key : ℕ) (e : Entry) → l.entries key ≡ Some e → IsGreeted Name e
  pub closed : All (λ (it : Entry × Fate). IsGreeted Name it.0) l.closed

greeted_grows : (Name : List ℕ → ℕ → Type 0) (d e : Entry) → Grows d e → IsGreeted Name d → IsGreeted Name e
greeted_grows Name d e g was device reports progress = by g.progress
  where
    by : (e.progress ≡ d.progress) ⊎ Unnamed d e → (name : List ℕ) × (rest : List ReportRecord) × (reports ≡ HelloReport name ∷ rest) × Name name device
    by (inl same) = was device reports (sym same ∙ progress)
    by (inr u) = absurd (no_both (device_of e.progress) device u.after (ap device_of progress))

-- a connection without a device
pub greeted_nameless : (Name : List ℕ → ℕ → Type 0) (e : Entry) → device_of e.progress ≡ None → IsGreeted Name e
greeted_nameless Name e nameless device reports progress = absurd (no_both (device_of e.progress) device nameless (ap device_of progress))

greeted_at : (Name : List ℕ → ℕ → Type 0) (x y : Option Entry) → Kept x y → ((d : Entry) → x ≡ Some d → IsGreeted Name d) → (e : Entry) → y ≡ Some e → IsGreeted Name e
greeted_at Name None y (inl is) was e there = absurd (no_entry y e is there)
greeted_at Name None y (inr (f, is, new)) was e there = greeted_nameless Name e (ap (λ (z : Entry). device_of z.progress) (sym (one_entry f e (sym is ∙ there))) ∙ new.nameless)
greeted_at Name (Some d) y (f, is, g) was e there = subst (λ (z : Entry). IsGreeted Name z) (one_entry f e (sym is ∙ there)) (greeted_grows Name d f g (was d refl))

-- of all but one key
pub greeted_but : (Name : List ℕ → ℕ → Type 0) (key : ℕ) (f : Entry) (l l' : Ledger) → l'.closed ≡ l.closed → ((k : ℕ) → k ≢ key → (e : Entry) → l'.entries k ≡ Some e → IsGreeted Name e) → l'.entries key ≡ Some f → IsGreeted Name f → AllGreeted Name l → AllGreeted Name l'
greeted_but Name key f l l' same others now greeted all = record {
  each = λ k e there. by_key k key (λ at. subst (λ (z : Entry). IsGreeted Name z) (one_entry f e (sym now ∙ (ap l'.entries (sym at) ∙ there))) greeted) (λ apart. others k apart e there);
  closed = subst (λ (closed : List (Entry × Fate)). All (λ (it : Entry × Fate). IsGreeted Name it.0) closed) (sym same) all.closed;
}

pub greeted_on : (Name : List ℕ → ℕ → Type 0) (l l' : Ledger) (k : ℕ) → Kept (l.entries k) (l'.entries k) → AllGreeted Name l → (e : Entry) → l'.entries k ≡ Some e → IsGreeted Name e
greeted_on Name l l' k kept all e there = greeted_at Name (l.entries k) (l'.entries k) kept (all.each k) e there

pub greeted_kept : (Name : List ℕ → ℕ → Type 0) (l l' : Ledger) → KeptAll l l' → AllGreeted Name l → AllGreeted Name l'
greeted_kept Name l l' kept all = record {
  each = λ k e there. greeted_on Name l l' k (kept.each k) all e there;
  closed = subst (λ (closed : List (Entry × Fate)). All (λ (it : Entry × Fate). IsGreeted Name it.0) closed) (sym kept.closed) all.closed;
}

pub greeted_left : (Name : List ℕ → ℕ → Type 0) (key : ℕ) (e : Entry) (fate : Fate) (l : Ledger) → l.entries key ≡ Some e → AllGreeted Name l → AllGreeted Name (without key e fate l)
greeted_left Name key e fate l there all = record {
  each = λ k d at. by_key k key (λ same. absurd (no_entry (at_key key None l.entries k) d (here key None l.entries k same) at)) (λ apart. all.each k d (sym (aside key None l.entries k apart) ∙ at));
  closed = All-append (λ (it : Entry × Fate). IsGreeted Name it.0) l.closed ((e, fate) ∷ []) all.closed (All-cons (λ (it : Entry × Fate). IsGreeted Name it.0) (e, fate) [] (all.each key e there) (All-nil (λ (it : Entry × Fate). IsGreeted Name it.0)));
}

same_link : (one other : List ReportRecord) (dev device : ℕ) → Link one (Some dev) ≡ Link other (Some device) → (one ≡ other) × (dev ≡ device)
same_link one other dev device same = (cc, cc)

-- with its name alone, and with one more report
pub greeted_first : (Name : List ℕ → ℕ → Type 0) (dev : ℕ) (name : List ℕ) (e : Entry) → e.progress ≡ Link (HelloReport name ∷ []) (Some dev) → Name name dev → IsGreeted Name e
greeted_first Name dev name e progress is device reports same =
    let both = same_link (HelloReport name ∷ []) reports dev device (sym progress ∙ same) in
    (name, [], sym both.0, subst (Name name) both.1 is)

pub greeted_more : (Name : List ℕ → ℕ → Type 0) (dev : ℕ) (parsed : ReportRecord) (before : List ReportRecord) (d e : Entry) → d.progress ≡ Link before (Some dev) → e.progress ≡ Link (before ++ parsed ∷ []) (Some dev) → IsGreeted Name d → IsGreeted Name e
greeted_more Name dev parsed before d e was progress greeted device reports same =
    let both = same_link (before ++ parsed ∷ []) reports dev device (sym progress ∙ same) in
    let it = greeted dev before was in
    (it.0, it.1 ++ parsed ∷ [], sym both.0 ∙ ap (λ (its : List ReportRecord). its ++ parsed ∷ []) it.2, subst (Name it.0) both.1 it.3)
