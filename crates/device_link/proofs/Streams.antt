-- The state of a reader after a segment, a line, or a fault.
use Rattle.std.specs.Prelude.{ℕ, ◌≡◌, ◌==◌, ◌+◌, ◌<◌, ◌≤◌, Bool, true, false, List, [], ◌∷◌, ◌++◌, length, take, drop, Option, Some, None, IsSome, Result, Ok, Err, OnOk}
use Rattle.std.proofs.Common.{rules, arith, refl, subst, sym, ap, ◌∙◌}
use Rattle.std.proofs.lemmas.List.{append-nil, drop-append-le, take-append-le, length-append}
use Rattle.std.proofs.Math.Seq.{take-append_seam}
use Rattle.std.proofs.lemmas.List.Quantifiers.{position-Some}
use Rattle.std.specs.declared.alloc.AllocError.{AllocError}
use Rattle.base_types.specs.declared.limits.TheConstants.Limits.{DEVICE_LINE_BYTES}
use Rattle.base_types.specs.declared.report.Report.{Report}
use Rattle.base_types.specs.Report.{ReportRecord, report_of}
use Rattle.device_link.specs.declared.fault.LinkFault.{LinkFault}
use Rattle.device_link.specs.declared.fault.LinkFault.TheVariants.{BadLine, LineTooLong}
use Rattle.device_link.specs.declared.fault.LinkError.TheVariants.{Fault}
use Rattle.device_link.specs.Line.{report_in}
use Rattle.device_link.specs.Stream.{Ending, Unfinished, Faulty, ParsedLines, LinkState, ParsesAtPrefix, Leads, ParsesFirst, IsLeft, HasRead, Answers, ahead, device_reports, parsed_on, silence, with_prefix, parsed_after, parsed_in}
use Rattle.text.specs.Parts.{texts_of}
use Rattle.text.specs.FirstLine.{first_line_of}
use Rattle.text.specs.declared.line.FirstLine.{FirstLine}
use Rattle.text.specs.declared.line.FirstLine.TheVariants as Prefix
use Rattle.text.proofs.FirstLines.{whole_line, line_grown, unfinished_line, endless_line, endless_grown}
use Rattle.text.proofs.Splits.{parts, split_before, split_nowhere, first_is_long}

parsed_first_of : (greeted : Bool) (line : List ℕ) (texts next : List ℕ) (more : List (List ℕ)) (parts : List (List ℕ)) → length line < DEVICE_LINE_BYTES → parts ≡ next ∷ more → parsed_in greeted (line ∷ parts) ≡ parsed_after (report_in greeted line) (parsed_in true parts)
parsed_first_of greeted line texts next more parts short cut = rw cut (search (rules, short))

-- a whole line is parsed before the bytes after it
pub parsed_line : (greeted : Bool) (bytes coming : List ℕ) (count : ℕ) → first_line_of DEVICE_LINE_BYTES bytes ≡ Prefix.Whole count → parsed_in greeted (texts_of (bytes ++ coming)) ≡ parsed_after (report_in greeted (take count bytes)) (parsed_in true (texts_of (drop (count + 1) bytes ++ coming)))
parsed_line greeted bytes coming count line =
    let later = parts (λ byte. byte == 10) (drop (count + 1) bytes ++ coming) in
    let whole = whole_line DEVICE_LINE_BYTES bytes count line in
    let short : length (take count bytes) < DEVICE_LINE_BYTES = search (rules, whole.1) in
    rw (split_before (λ byte. byte == 10) bytes coming count whole.0) (parsed_first_of greeted (take count bytes) [] later.first later.later (texts_of (drop (count + 1) bytes ++ coming)) short later.cut)

parsed_long : (greeted : Bool) (text : List ℕ) (later : List (List ℕ)) → DEVICE_LINE_BYTES ≤ length text → parsed_in greeted (text ∷ later) ≡ silence (Faulty LineTooLong)
parsed_long greeted text [] long = search (rules, long)
parsed_long greeted text (next ∷ more) long = search (rules, long)

pub parsed_too_long : (greeted : Bool) (bytes coming : List ℕ) → first_line_of DEVICE_LINE_BYTES bytes ≡ Prefix.TooLong → parsed_in greeted (texts_of (bytes ++ coming)) ≡ silence (Faulty LineTooLong)
parsed_too_long greeted bytes coming long =
    let endless = endless_grown DEVICE_LINE_BYTES bytes coming (endless_line DEVICE_LINE_BYTES bytes long) in
    let it = first_is_long (λ byte. byte == 10) (bytes ++ coming) DEVICE_LINE_BYTES endless.many endless.none in
    rw it.0.cut (parsed_long greeted it.0.first it.0.later it.1)

pub parsed_nothing : (greeted : Bool) (bytes : List ℕ) → first_line_of DEVICE_LINE_BYTES bytes ≡ Prefix.Unfinished → parsed_in greeted (texts_of bytes) ≡ silence Unfinished
parsed_nothing greeted bytes begun =
    let parts = unfinished_line DEVICE_LINE_BYTES bytes begun in
    rw (split_nowhere (λ byte. byte == 10) bytes parts.0) (search (rules, parts.1))

-- ---- reports, one after the other

leads_then : (greeted : Bool) (bytes : List ℕ) (first : List ReportRecord) (b : Bool) (mid : List ℕ) (later : List ReportRecord) (next : Bool) (left : List ℕ) → Leads greeted bytes first b mid → Leads b mid later next left → Leads greeted bytes (first ++ later) next left
leads_then greeted bytes [] b mid later next left x y = subst (λ (q : Bool). Leads q bytes later next left) x.0 (subst (λ (r : List ℕ). Leads b r later next left) x.1 y)
leads_then greeted bytes (report ∷ first) b mid later next left x y = (x.0, x.1, leads_then true x.0 first b mid later next left x.2 y)

line_more : (greeted : Bool) (bytes more : List ℕ) (report : ReportRecord) (rest : List ℕ) → ParsesAtPrefix greeted bytes report rest → ParsesAtPrefix greeted (bytes ++ more) report (rest ++ more)
line_more greeted bytes more report rest x =
    let at = whole_line DEVICE_LINE_BYTES bytes x.count x.line in
    let within : x.count < length bytes = search (rules, position-Some (λ byte. byte == 10) bytes x.count 0 at.0) in
    let first : take x.count (bytes ++ more) ≡ take x.count bytes = take-append-le x.count bytes more (omega (arith, within)) in
    let rest : drop (x.count + 1) (bytes ++ more) ≡ drop (x.count + 1) bytes ++ more = drop-append-le (x.count + 1) bytes more (omega (arith, within)) in
    record {
      count = x.count;
      line = line_grown DEVICE_LINE_BYTES bytes more x.count x.line;
      parses = ap (λ (l : List ℕ). report_in greeted l) first ∙ x.parses;
      rest_is = ap (λ (r : List ℕ). r ++ more) x.rest_is ∙ sym rest;
    }

leads_more : (greeted : Bool) (bytes more : List ℕ) (reports : List ReportRecord) (next : Bool) (left : List ℕ) → Leads greeted bytes reports next left → Leads greeted (bytes ++ more) reports next (left ++ more)
leads_more greeted bytes more [] next left x = (x.0, ap (λ l. l ++ more) x.1)
leads_more greeted bytes more (report ∷ reports) next left x = (x.0 ++ more, line_more greeted bytes more report x.0 x.1, leads_more true x.0 more reports next left x.2)

with_none : (reports_read : ParsedLines) → with_prefix [] reports_read ≡ reports_read
with_none reports_read = refl

-- the reports of bytes: the reports that they say first, and then the reports of the bytes that are left
parsed_leads : (greeted : Bool) (bytes coming : List ℕ) (reports : List ReportRecord) (next : Bool) (left : List ℕ) → Leads greeted bytes reports next left → parsed_in greeted (texts_of (bytes ++ coming)) ≡ with_prefix reports (parsed_in next (texts_of (left ++ coming)))
parsed_leads greeted bytes coming [] next left x = rw (x.0, x.1) (sym (with_none (parsed_in greeted (texts_of (bytes ++ coming)))))
parsed_leads greeted bytes coming (report ∷ reports) next left x =
    let later = parsed_leads true x.0 coming reports next left x.2 in
    let prefix = parsed_line greeted bytes coming x.1.count x.1.line in
    let parses : parsed_after (report_in greeted (take x.1.count bytes)) (parsed_in true (texts_of (drop (x.1.count + 1) bytes ++ coming))) ≡ with_prefix (report ∷ []) (parsed_in true (texts_of (x.0 ++ coming))) = rw (x.1.parses, x.1.rest_is) refl in
    prefix ∙ parses ∙ ap (λ (h : ParsedLines). with_prefix (report ∷ []) h) later

-- ---- a fault stays

no_report : (report : ReportRecord) (later : ParsedLines) (fault : LinkFault) → with_prefix (report ∷ []) later ≡ silence (Faulty fault) → ⊥
no_report report later fault is = let none : report ∷ later.reports ≡ [] = ap (λ (h : ParsedLines). h.reports) is in (cc)

after_stays : (parsed : Option ReportRecord) (later grown : ParsedLines) (fault : LinkFault) → parsed_after parsed later ≡ silence (Faulty fault) → parsed_after parsed grown ≡ silence (Faulty fault)
after_stays None later grown fault is = is
after_stays (Some report) later grown fault is = absurd (no_report report later fault is)

faulty_by : (greeted : Bool) (bytes more : List ℕ) (fault : LinkFault) (prefix : FirstLine) → first_line_of DEVICE_LINE_BYTES bytes ≡ prefix → parsed_in greeted (texts_of bytes) ≡ silence (Faulty fault) → parsed_in greeted (texts_of (bytes ++ more)) ≡ silence (Faulty fault)
faulty_by greeted bytes more fault (Prefix.Whole count) line is =
    let here = parsed_line greeted bytes [] count line in
    let same : parsed_in greeted (texts_of (bytes ++ [])) ≡ silence (Faulty fault) = subst (λ (b : List ℕ). parsed_in greeted (texts_of b) ≡ silence (Faulty fault)) (sym (append-nil bytes)) is in
    parsed_line greeted bytes more count line ∙ after_stays (report_in greeted (take count bytes)) _ _ fault (sym here ∙ same)
faulty_by greeted bytes more fault Prefix.TooLong line is =
    let here = parsed_too_long greeted bytes [] line in
    let same : parsed_in greeted (texts_of (bytes ++ [])) ≡ silence (Faulty fault) = subst (λ (b : List ℕ). parsed_in greeted (texts_of b) ≡ silence (Faulty fault)) (sym (append-nil bytes)) is in
    parsed_too_long greeted bytes more line ∙ (sym here ∙ same)
faulty_by greeted bytes more fault Prefix.Unfinished line is =
    let no : silence Unfinished ≡ silence (Faulty fault) = sym (parsed_nothing greeted bytes line) ∙ is in
    let endings : Unfinished ≡ Faulty fault = ap (λ (h : ParsedLines). h.ending) no in
    absurd (cc endings)

faulty_more : (greeted : Bool) (bytes more : List ℕ) (fault : LinkFault) → parsed_in greeted (texts_of bytes) ≡ silence (Faulty fault) → parsed_in greeted (texts_of (bytes ++ more)) ≡ silence (Faulty fault)
faulty_more greeted bytes more fault is = faulty_by greeted bytes more fault (first_line_of DEVICE_LINE_BYTES bytes) refl is

-- ---- segments

left_fed : (fault : Option LinkFault) (greeted : Bool) (rest left segment : List ℕ) → IsLeft fault greeted rest left → IsLeft fault greeted (rest ++ segment) (left ++ segment)
left_fed (Some fault) greeted rest left segment is = faulty_more greeted left segment fault is
left_fed None greeted rest left segment is = ap (λ l. l ++ segment) is

reaches_fed : (stream : List ℕ) (given : List ReportRecord) (segment : List ℕ) (reader : LinkState) → HasRead stream given reader → HasRead (stream ++ segment) given (record reader { rest = reader.rest ++ segment })
reaches_fed stream given segment reader reaches = record {
  left = reaches.left ++ segment;
  leads = leads_more false stream segment given reader.greeted reaches.left reaches.leads;
  kept = left_fed reader.fault reader.greeted reader.rest reaches.left segment reaches.kept;
}

-- a segment of which nothing is read yet
pub fed_by : (old new : LinkState) (segment : List ℕ) (answer : Result (Unit {0}) AllocError) → OnOk answer (new ≡ record old { rest = old.rest ++ segment }) → OnOk answer ((stream : List ℕ) (given : List ReportRecord) → HasRead stream given old → HasRead (stream ++ segment) given new)
fed_by old new segment (Ok done) is = λ stream given reaches. subst (λ n. HasRead (stream ++ segment) given n) (sym is) (reaches_fed stream given segment old reaches)
fed_by old new segment (Err error) is = tt

left_still : (fault : Option LinkFault) (greeted : Bool) (rest left segment : List ℕ) → IsSome fault → IsLeft fault greeted rest left → IsLeft fault greeted rest (left ++ segment)
left_still (Some fault) greeted rest left segment some is = faulty_more greeted left segment fault is
left_still None greeted rest left segment some is = absurd (let no : false ≡ true = some in (cc))

-- after a fault nothing counts
pub reaches_still : (stream : List ℕ) (given : List ReportRecord) (segment : List ℕ) (reader : LinkState) → IsSome reader.fault → HasRead stream given reader → HasRead (stream ++ segment) given reader
reaches_still stream given segment reader faulty reaches = record {
  left = reaches.left ++ segment;
  leads = leads_more false stream segment given reader.greeted reaches.left reaches.leads;
  kept = left_still reader.fault reader.greeted reader.rest reaches.left segment faulty reaches.kept;
}

-- ---- answers

-- the reports of a stream that a reader has read up to the bytes that are left
parsed_so : (stream : List ℕ) (given : List ReportRecord) (next : Bool) (left : List ℕ) (ending : Ending) → Leads false stream given next left → parsed_in next (texts_of left) ≡ silence ending → device_reports stream ≡ record { reports = given; ending = ending }
parsed_so stream given next left ending leads is =
    let all : parsed_in false (texts_of (stream ++ [])) ≡ with_prefix given (parsed_in next (texts_of (left ++ []))) = parsed_leads false stream [] given next left leads in
    let here : parsed_in false (texts_of stream) ≡ with_prefix given (parsed_in next (texts_of left)) = subst (λ (b : List ℕ). parsed_in false (texts_of b) ≡ with_prefix given (parsed_in next (texts_of left))) (append-nil stream) (subst (λ (l : List ℕ). parsed_in false (texts_of (stream ++ [])) ≡ with_prefix given (parsed_in next (texts_of l))) (append-nil left) all) in
    let none : with_prefix given (silence ending) ≡ record { reports = given; ending = ending } = ap (λ (r : List ReportRecord). record { reports = r; ending = ending }) (append-nil given) in
    here ∙ ap (λ (h : ParsedLines). with_prefix given h) is ∙ none

-- the answer for the line of a report
pub answers_report : (old : LinkState) (count : ℕ) (report : Report) → old.fault ≡ None → first_line_of DEVICE_LINE_BYTES old.rest ≡ Prefix.Whole count → report_in old.greeted (take count old.rest) ≡ Some (report_of report) → Answers old (Ok (Some report)) (record { rest = drop (count + 1) old.rest; greeted = true; fault = None })
answers_report old count report faultless line parses stream given reaches =
    let same : reaches.left ≡ old.rest = subst (λ (f : Option LinkFault). IsLeft f old.greeted old.rest reaches.left) faultless reaches.kept in
    let here : Leads false stream given old.greeted old.rest = subst (λ (l : List ℕ). Leads false stream given old.greeted l) same reaches.leads in
    let at : ParsesAtPrefix old.greeted old.rest (report_of report) (drop (count + 1) old.rest) = record { count = count; line = line; parses = parses; rest_is = refl } in
    let on : Leads old.greeted old.rest (report_of report ∷ []) true (drop (count + 1) old.rest) = (drop (count + 1) old.rest, at, (refl, refl)) in
    record { left = drop (count + 1) old.rest; leads = leads_then false stream given old.greeted old.rest (report_of report ∷ []) true (drop (count + 1) old.rest) here on; kept = refl }

-- the answer for a fault at the beginning of the bytes that are left
fault_reaches : (old : LinkState) (fault : LinkFault) → ((left : List ℕ) → IsLeft old.fault old.greeted old.rest left → parsed_in old.greeted (texts_of left) ≡ silence (Faulty fault)) → Answers old (Err (Fault fault)) (record old { fault = Some fault })
fault_reaches old fault faulty = (
  refl,
  λ stream given reaches.
      let here = faulty reaches.left reaches.kept in (
        parsed_so stream given old.greeted reaches.left (Faulty fault) reaches.leads here,
        record { left = reaches.left; leads = reaches.leads; kept = here },
      ),
)

answers_fault : (old : LinkState) (fault : LinkFault) → old.fault ≡ None → parsed_in old.greeted (texts_of old.rest) ≡ silence (Faulty fault) → Answers old (Err (Fault fault)) (record old { fault = Some fault })
answers_fault old fault faultless faulty =
    fault_reaches old fault
    (λ left kept.
    let same : left ≡ old.rest = subst (λ (f : Option LinkFault). IsLeft f old.greeted old.rest left) faultless kept in
    subst (λ (l : List ℕ). parsed_in old.greeted (texts_of l) ≡ silence (Faulty fault)) (sym same) faulty)

pub answers_bad_line : (old : LinkState) (count : ℕ) → old.fault ≡ None → first_line_of DEVICE_LINE_BYTES old.rest ≡ Prefix.Whole count → report_in old.greeted (take count old.rest) ≡ None → Answers old (Err (Fault BadLine)) (record old { fault = Some BadLine })
answers_bad_line old count faultless line parses =
    let prefix = parsed_line old.greeted old.rest [] count line in
    let silent : parsed_in old.greeted (texts_of (old.rest ++ [])) ≡ silence (Faulty BadLine) = prefix ∙ rw parses refl in
    answers_fault old BadLine faultless (subst (λ (b : List ℕ). parsed_in old.greeted (texts_of b) ≡ silence (Faulty BadLine)) (append-nil old.rest) silent)

pub answers_too_long : (old : LinkState) → old.fault ≡ None → first_line_of DEVICE_LINE_BYTES old.rest ≡ Prefix.TooLong → Answers old (Err (Fault LineTooLong)) (record old { fault = Some LineTooLong })
answers_too_long old faultless long =
    answers_fault old LineTooLong faultless (subst (λ (b : List ℕ). parsed_in old.greeted (texts_of b) ≡ silence (Faulty LineTooLong)) (append-nil old.rest) (parsed_too_long old.greeted old.rest [] long))

pub answers_again : (old : LinkState) (fault : LinkFault) → old.fault ≡ Some fault → Answers old (Err (Fault fault)) old
answers_again old fault faulty =
    let same : record old { fault = Some fault } ≡ old = search (rules, faulty) in
    subst (λ new. Answers old (Err (Fault fault)) new) same
    (fault_reaches old fault (λ left kept. subst (λ (f : Option LinkFault). IsLeft f old.greeted old.rest left) faulty kept))

-- the answer while no line is whole
pub answers_nothing : (old : LinkState) → old.fault ≡ None → first_line_of DEVICE_LINE_BYTES old.rest ≡ Prefix.Unfinished → Answers old (Ok None) old
answers_nothing old faultless begun = (
  refl,
  λ stream given reaches.
      let same : reaches.left ≡ old.rest = subst (λ (f : Option LinkFault). IsLeft f old.greeted old.rest reaches.left) faultless reaches.kept in
      let here : parsed_in old.greeted (texts_of reaches.left) ≡ silence Unfinished = subst (λ (l : List ℕ). parsed_in old.greeted (texts_of l) ≡ silence Unfinished) (sym same) (parsed_nothing old.greeted old.rest begun) in
      parsed_so stream given old.greeted reaches.left Unfinished reaches.leads here,
)

-- ---- laws

parsed_left : (fault : Option LinkFault) (greeted : Bool) (rest left coming : List ℕ) → IsLeft fault greeted rest left → parsed_in greeted (texts_of (left ++ coming)) ≡ parsed_on fault greeted (rest ++ coming)
parsed_left (Some fault) greeted rest left coming is = faulty_more greeted left coming fault is
parsed_left None greeted rest left coming is = ap (λ (l : List ℕ). parsed_in greeted (texts_of (l ++ coming))) is

pub reads_rest : (stream coming : List ℕ) (given : List ReportRecord) (reader : LinkState) → HasRead stream given reader → device_reports (stream ++ coming) ≡ with_prefix given (ahead reader coming)
reads_rest stream coming given reader reaches =
    parsed_leads false stream coming given reader.greeted reaches.left reaches.leads
    ∙ ap (λ (h : ParsedLines). with_prefix given h) (parsed_left reader.fault reader.greeted reader.rest reaches.left coming reaches.kept)

pub first_stays : (stream more : List ℕ) (first : List ReportRecord) → ParsesFirst stream first → (later : ParsedLines) × (device_reports (stream ++ more) ≡ with_prefix first later)
first_stays stream more first x = (parsed_in x.next (texts_of (x.left ++ more)), parsed_leads false stream more first x.next x.left x.leads)

-- the reports of a stream begin with its first reports
begins_so : (stream : List ℕ) (first : List ReportRecord) → ParsesFirst stream first → (later : ParsedLines) × (device_reports stream ≡ with_prefix first later)
begins_so stream first x =
    let all = first_stays stream [] first x in
    (all.0, subst (λ (b : List ℕ). device_reports b ≡ with_prefix first all.0) (append-nil stream) all.1)

pub first_one : (stream : List ℕ) (one other : List ReportRecord) → ParsesFirst stream one → ParsesFirst stream other → length one ≡ length other → one ≡ other
first_one stream one other x y long =
    let a = begins_so stream one x in
    let b = begins_so stream other y in
    let all : one ++ a.0.reports ≡ other ++ b.0.reports = ap (λ (h : ParsedLines). h.reports) (sym a.1 ∙ b.1) in
    sym (take-append_seam one a.0.reports) ∙ ap (λ (r : List ReportRecord). take (length one) r) all ∙ ap (λ n. take n (other ++ b.0.reports)) long ∙ take-append_seam other b.0.reports

pub none_follows : (stream : List ℕ) (reports : List ReportRecord) (parsed : ReportRecord) (ending : Ending) → ParsesFirst stream (reports ++ parsed ∷ []) → device_reports stream ≡ record { reports = reports; ending = ending } → ⊥
none_follows stream reports parsed ending x is =
    let a = begins_so stream (reports ++ parsed ∷ []) x in
    let all : (reports ++ parsed ∷ []) ++ a.0.reports ≡ reports = ap (λ (h : ParsedLines). h.reports) (sym a.1 ∙ is) in
    let long : length ((reports ++ parsed ∷ []) ++ a.0.reports) ≡ length reports = ap (λ (r : List ReportRecord). length r) all in
    omega (arith, long, length-append (reports ++ parsed ∷ []) a.0.reports, length-append reports (parsed ∷ []))
