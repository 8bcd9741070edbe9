-- The server reads the line of a device as the device's report.
use Rattle.std.specs.Prelude.{ℕ, ◌≡◌, ◌==◌, ◌≤◌, true, false, All, IsTrue, List, [], ◌∷◌, ◌++◌, Option, Some, option_map, codes}
use Rattle.std.specs.List.{list_all}
use Rattle.std.specs.Fmt.{decimal}
use Rattle.std.proofs.Common.{arith, refl, sym, ap, ◌∙◌}
use Rattle.std.proofs.lemmas.Bool.{and_from}
use Rattle.std.proofs.lemmas.List.{append_assoc, append-nil}
use Rattle.std.proofs.lemmas.List.Elements.{All-cons, All-head, All-tail}
use Rattle.base_types.specs.declared.limits.TheConstants.Limits.{LAST_JOB_ID, BUSY, NAME_BYTES}
use Rattle.base_types.specs.Forms.{is_name, is_media, is_name_byte, is_media_byte, has_length}
use Rattle.base_types.specs.Report.{ReportRecord, HelloReport, MediaReport, ReadyReport, StopReport, BusyReport, PagesReport, DoneReport, FailReport, GoneReport}
use Rattle.text.specs.Parts.{parts_at, words_of, Lacks}
use Rattle.text.proofs.Cuts.{parts_cut, parts_uncut}
use Rattle.device_link.specs.declared.number.TheConstants.{MOST_PRINTED}
use Rattle.device_link.specs.Line.{media_in, name_in, parsed_alone, parsed_of_one, parsed_of_two, parsed}
use Rattle.adapter_core.specs.Reports.{listed, report_line, HasLine}
use Rattle.adapter_core.proofs.Written.{isnt, lacks_by, joined_lacks, decimal_lacks, number_back, word_then, word_alone, media_all, if_true}

-- a word and its one operand
one_parsed : (word operand : List ℕ) → Lacks 32 word → Lacks 32 operand → parsed (words_of (word ++ (32 ∷ operand))) ≡ parsed_of_one word operand
one_parsed word operand w o = ap parsed (word_then word operand w ∙ ap (λ (r : List (List ℕ)). word ∷ r) (word_alone operand o))

record ReadsBack (text : List ℕ) (report : ReportRecord) : Type 0 where
  line : List ℕ
  spelled : text ≡ line ++ codes "\n"
  parses : parsed (words_of line) ≡ Some report

-- ---- names

name_all : (name : List ℕ) → is_name name ≡ true → list_all is_name_byte name ≡ true
unfolding is_name
name_all name is = if_true (has_length NAME_BYTES name) (list_all is_name_byte name) is

hello_read : (name : List ℕ) → is_name name ≡ true → ReadsBack (report_line (HelloReport name)) (HelloReport name)
unfolding parsed_of_one name_in
hello_read name is = record {
  line = codes "HELLO" ++ (32 ∷ name);
  spelled = sym (append_assoc (codes "HELLO ") name (codes "\n"));
  parses = one_parsed (codes "HELLO") name (lacks_by (isnt 32) 32 refl (codes "HELLO") refl) (lacks_by is_name_byte 32 refl name (name_all name is)) ∙ rw is refl;
}

-- the names after the first
abbrev joined : List ℕ → List (List ℕ) → List ℕ
joined name names = name ++ listed 44 names

abbrev AreMedia : List (List ℕ) → Type 0
AreMedia names = All (λ name. IsTrue (is_media name)) names

media_lacks : (byte : ℕ) (name : List ℕ) → is_media_byte byte ≡ false → is_media name ≡ true → Lacks byte name
media_lacks byte name other is = lacks_by is_media_byte byte other name (media_all name is)

listed_lacks : (names : List (List ℕ)) → AreMedia names → Lacks 32 (listed 44 names)
listed_lacks [] all = lacks_by (isnt 32) 32 refl [] refl
listed_lacks (name ∷ names) all =
    let P : List ℕ → Type 0 = λ n. IsTrue (is_media n) in
    All-cons (λ b. (b == 32) ≡ false) 44 (name ++ listed 44 names) refl (joined_lacks 32 name (listed 44 names) (media_lacks 32 name refl (All-head P name names all)) (listed_lacks names (All-tail P name names all)))

joined_parts : (name : List ℕ) (names : List (List ℕ)) → AreMedia (name ∷ names) → parts_at 44 (joined name names) ≡ name ∷ names
joined_parts name [] all =
    let P : List ℕ → Type 0 = λ n. IsTrue (is_media n) in
    ap (parts_at 44) (append-nil name) ∙ parts_uncut 44 name (media_lacks 44 name refl (All-head P name [] all))
joined_parts name (next ∷ names) all =
    let P : List ℕ → Type 0 = λ n. IsTrue (is_media n) in
    parts_cut 44 (joined name (next ∷ names)) name (joined next names) (record { lacks = media_lacks 44 name refl (All-head P name (next ∷ names) all); joined = refl })
    ∙ ap (λ (r : List (List ℕ)). name ∷ r) (joined_parts next names (All-tail P name (next ∷ names) all))

all_media : (names : List (List ℕ)) → AreMedia names → list_all is_media names ≡ true
all_media [] all = refl
all_media (name ∷ names) all =
    let P : List ℕ → Type 0 = λ n. IsTrue (is_media n) in
    and_from (is_media name) (list_all is_media names) (All-head P name names all) (all_media names (All-tail P name names all))

media_back : (name : List ℕ) (names : List (List ℕ)) → AreMedia (name ∷ names) → media_in (joined name names) ≡ Some (name ∷ names)
unfolding media_in
media_back name names all = rw (joined_parts name names all, all_media (name ∷ names) all) refl

media_parsed : (operand : List ℕ) (names : List (List ℕ)) → media_in operand ≡ Some names → parsed_of_one (codes "MEDIA") operand ≡ Some (MediaReport names)
unfolding parsed_of_one
media_parsed operand names is = ap (λ (m : Option (List (List ℕ))). option_map MediaReport m) is

nothing_loaded : parsed (words_of (codes "MEDIA")) ≡ Some (MediaReport [])
unfolding parsed_alone
nothing_loaded = ap parsed (word_alone (codes "MEDIA") (lacks_by (isnt 32) 32 refl (codes "MEDIA") refl))

media_read : (names : List (List ℕ)) → AreMedia names → ReadsBack (report_line (MediaReport names)) (MediaReport names)
media_read [] all = record { line = codes "MEDIA"; spelled = refl; parses = nothing_loaded }
media_read (name ∷ names) all =
    let P : List ℕ → Type 0 = λ n. IsTrue (is_media n) in
    record {
      line = codes "MEDIA" ++ (32 ∷ joined name names);
      spelled = sym (append_assoc (codes "MEDIA ") (joined name names) (codes "\n"));
      parses = one_parsed (codes "MEDIA") (joined name names) (lacks_by (isnt 32) 32 refl (codes "MEDIA") refl) (joined_lacks 32 name (listed 44 names) (media_lacks 32 name refl (All-head P name names all)) (listed_lacks names (All-tail P name names all))) ∙ media_parsed (joined name names) (name ∷ names) (media_back name names all);
    }

-- ---- words alone

ready_read : ReadsBack (report_line ReadyReport) ReadyReport
unfolding parsed_alone
ready_read = record { line = codes "READY"; spelled = refl; parses = ap parsed (word_alone (codes "READY") (lacks_by (isnt 32) 32 refl (codes "READY") refl)) }

stop_read : ReadsBack (report_line StopReport) StopReport
unfolding parsed_alone
stop_read = record { line = codes "STOP"; spelled = refl; parses = ap parsed (word_alone (codes "STOP") (lacks_by (isnt 32) 32 refl (codes "STOP") refl)) }

-- ---- numbers

number_space : (number : ℕ) → number ≤ LAST_JOB_ID → Lacks 32 (decimal number)
number_space number few = decimal_lacks 32 number refl (omega (arith, few))

number_line_is : (word : List ℕ) (number : ℕ) → word ++ (codes " " ++ (decimal number ++ codes "\n")) ≡ (word ++ (32 ∷ decimal number)) ++ codes "\n"
number_line_is word number = sym (append_assoc word (32 ∷ decimal number) (codes "\n"))

busy_read : (time : ℕ) → time ≤ BUSY → ReadsBack (report_line (BusyReport time)) (BusyReport time)
unfolding parsed_of_one
busy_read time few = record {
  line = codes "BUSY" ++ (32 ∷ decimal time);
  spelled = number_line_is (codes "BUSY") time;
  parses = one_parsed (codes "BUSY") (decimal time) (lacks_by (isnt 32) 32 refl (codes "BUSY") refl) (number_space time few) ∙ ap (λ (n : Option ℕ). option_map BusyReport n) (number_back BUSY time few (omega (arith, few)));
}

done_read : (job : ℕ) → job ≤ LAST_JOB_ID → ReadsBack (report_line (DoneReport job)) (DoneReport job)
unfolding parsed_of_one
done_read job few = record {
  line = codes "DONE" ++ (32 ∷ decimal job);
  spelled = number_line_is (codes "DONE") job;
  parses = one_parsed (codes "DONE") (decimal job) (lacks_by (isnt 32) 32 refl (codes "DONE") refl) (number_space job few) ∙ ap (λ (n : Option ℕ). option_map DoneReport n) (number_back LAST_JOB_ID job few (omega (arith, few)));
}

fail_read : (job : ℕ) → job ≤ LAST_JOB_ID → ReadsBack (report_line (FailReport job)) (FailReport job)
unfolding parsed_of_one
fail_read job few = record {
  line = codes "FAIL" ++ (32 ∷ decimal job);
  spelled = number_line_is (codes "FAIL") job;
  parses = one_parsed (codes "FAIL") (decimal job) (lacks_by (isnt 32) 32 refl (codes "FAIL") refl) (number_space job few) ∙ ap (λ (n : Option ℕ). option_map FailReport n) (number_back LAST_JOB_ID job few (omega (arith, few)));
}

pages_parsed : (job printed : ℕ) → job ≤ LAST_JOB_ID → printed ≤ MOST_PRINTED → parsed_of_two (codes "PAGES") (decimal job) (decimal printed) ≡ Some (PagesReport job printed)
unfolding parsed_of_two
pages_parsed job printed few also = rw (number_back LAST_JOB_ID job few (omega (arith, few)), number_back MOST_PRINTED printed also (omega (arith, also))) refl

pages_read : (job printed : ℕ) → job ≤ LAST_JOB_ID → printed ≤ MOST_PRINTED → ReadsBack (report_line (PagesReport job printed)) (PagesReport job printed)
pages_read job printed few also =
    let a = decimal job in
    let b = decimal printed in
    let words : words_of (codes "PAGES" ++ (32 ∷ (a ++ (32 ∷ b)))) ≡ codes "PAGES" ∷ a ∷ b ∷ [] = word_then (codes "PAGES") (a ++ (32 ∷ b)) (lacks_by (isnt 32) 32 refl (codes "PAGES") refl) ∙ ap (λ (r : List (List ℕ)). codes "PAGES" ∷ r) (word_then a b (number_space job few) ∙ ap (λ (r : List (List ℕ)). a ∷ r) (word_alone b (number_space printed (omega (arith, also))))) in
    record {
      line = codes "PAGES" ++ (32 ∷ (a ++ (32 ∷ b)));
      spelled = ap (λ (r : List ℕ). codes "PAGES " ++ r) (sym (append_assoc a (32 ∷ b) (codes "\n"))) ∙ sym (append_assoc (codes "PAGES ") (a ++ (32 ∷ b)) (codes "\n"));
      parses = ap parsed words ∙ pages_parsed job printed few also;
    }

-- ---- any report

each_read : (report : ReportRecord) → HasLine report → ReadsBack (report_line report) report
each_read (HelloReport name) has = hello_read name has
each_read (MediaReport names) has = media_read names has
each_read ReadyReport has = ready_read
each_read StopReport has = stop_read
each_read (BusyReport time) has = busy_read time has
each_read (PagesReport job printed) has = pages_read job printed has.0 has.1
each_read (DoneReport job) has = done_read job has
each_read (FailReport job) has = fail_read job has
each_read GoneReport has = absurd has

pub read_back : (report : ReportRecord) → HasLine report → (line : List ℕ) × (report_line report ≡ line ++ codes "\n") × (parsed (words_of line) ≡ Some report)
read_back report has = let it = each_read report has in (it.line, it.spelled, it.parses)
