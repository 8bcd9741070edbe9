-- A line has one form.
use Rattle.std.specs.Prelude.{ℕ, ◌≡◌, ◌==◌, List, [], ◌∷◌, ◌++◌, length, drop, Option, Some, None, option_map, position, slice_index_or, suc, codes}
use Rattle.std.specs.Str.{bytes_eq}
use Rattle.std.specs.List.{slice_split}
use Rattle.std.proofs.lemmas.List.Splits.{slice_split_none, slice_split_at, length-slice_split}
use Rattle.std.proofs.Math.Seq.{drop-append_seam}
use Rattle.std.proofs.Common.{arith, refl, sym, ap, ◌∙◌, subst}
use Rattle.base_types.specs.declared.report.Report.{Report}
use Rattle.base_types.specs.Report.{report_of}
use Rattle.device_link.specs.Line.{reported_by}
use Rattle.wires.specs.declared.wire.Door.{Door}
use Rattle.wires.specs.Door.{IsWordOf}
use Rattle.std.specs.declared.alloc.Global.{Global}
use Rattle.std.specs.Prelude.{Vec}
use Rattle.traces.specs.declared.line.Line.{Line}
use Rattle.traces.specs.declared.line.Opening.{Opening}
use Rattle.traces.specs.declared.line.Input.{Input}
use Rattle.traces.specs.declared.line.Line.TheVariants.{At, Ipp, Device, Tick, Open, In, End}
use Rattle.text.specs.Parts.{Lacks, IsCut}
use Rattle.traces.specs.TraceLine.{Finds, IsLine, IsDeviceIn, IsReportIn, IsNumberIn, IsOpeningIn, IsInputIn, IsBodyIn}

-- texts whose first bytes differ
other_word : (text other : List ℕ) → text ≡ other → (slice_index_or text 0 0 ≡ slice_index_or other 0 0 → ⊥) → ⊥
other_word text other same differs = differs (ap (λ t. slice_index_or t 0 0) same)

-- a text that is cut at a space nowhere, or at one place
uncut : (operands name line : List ℕ) → Lacks 32 operands → Lacks 32 name → operands ≡ name ++ (32 ∷ line) → ⊥
uncut operands name line lacks word cut =
    let one : slice_split (λ byte. byte == 32) operands ≡ operands ∷ [] = slice_split_none (λ byte. byte == 32) operands lacks in
    let two : slice_split (λ byte. byte == 32) operands ≡ name ∷ slice_split (λ byte. byte == 32) line =
    ap (slice_split (λ byte. byte == 32)) cut ∙ slice_split_at (λ byte. byte == 32) name 32 line word refl in
    let some = length-slice_split (λ byte. byte == 32) line in
    let lengths : 1 ≡ suc (length (slice_split (λ byte. byte == 32) line)) = ap length (sym one ∙ two) in
    absurd (omega (arith, some, lengths))

pub same_cut : (name line other later : List ℕ) → Lacks 32 name → Lacks 32 other → name ++ (32 ∷ line) ≡ other ++ (32 ∷ later) → (name ≡ other) × (line ≡ later)
same_cut name line other later word another same =
    let left = slice_split_at (λ byte. byte == 32) name 32 line word refl in
    let right = slice_split_at (λ byte. byte == 32) other 32 later another refl in
    let both : name ∷ slice_split (λ byte. byte == 32) line ≡ other ∷ slice_split (λ byte. byte == 32) later = sym left ∙ ap (slice_split (λ byte. byte == 32)) same ∙ right in
    let names : name ≡ other = cc both in
    let rests : 32 ∷ line ≡ 32 ∷ later = sym (drop-append_seam name (32 ∷ line)) ∙ rw (same, names) (drop-append_seam other (32 ∷ later)) in
    (names, cc rests)

-- a device's line that no device writes
no_device : (names : List (List ℕ)) (operands : List ℕ) → ((place : ℕ) (report : Report) → IsDeviceIn names operands place report → ⊥) → (line : Line) → IsLine names (codes "dev " ++ operands) line → ⊥
no_device names operands none (At moment) it = other_word (codes "dev " ++ operands) (codes "at " ++ it.0) it.1 (λ first. omega (arith, first))
no_device names operands none (Ipp body) it = other_word (codes "dev " ++ operands) (codes "ipp " ++ it.0) it.1 (λ first. omega (arith, first))
no_device names operands none (Device place report) it =
    let same : operands ≡ it.0 = ap (drop 4) it.1 in
    none place report (rw same it.2)
no_device names operands none Tick it = other_word (codes "dev " ++ operands) (codes "tick") it (λ first. omega (arith, first))
no_device names operands none (Open opening) it = other_word (codes "dev " ++ operands) (codes "open " ++ it.0) it.1 (λ first. omega (arith, first))
no_device names operands none (In input) it = other_word (codes "dev " ++ operands) (codes "in " ++ it.0) it.1 (λ first. omega (arith, first))
no_device names operands none (End number) it = other_word (codes "dev " ++ operands) (codes "end " ++ it.0) it.1 (λ first. omega (arith, first))

pub no_space : (names : List (List ℕ)) (operands : List ℕ) → Lacks 32 operands → (line : Line) → IsLine names (codes "dev " ++ operands) line → ⊥
no_space names operands lacks = no_device names operands (λ place report it. uncut operands it.name it.line lacks it.cut.lacks it.cut.joined)

pub no_name : (names : List (List ℕ)) (operands name rest : List ℕ) → IsCut 32 operands name rest → position (λ device. bytes_eq device name) names ≡ None → (line : Line) → IsLine names (codes "dev " ++ operands) line → ⊥
no_name names operands name rest cut unknown = no_device names operands (λ place report it.
    let same = same_cut name rest it.name it.line cut.lacks it.cut.lacks (sym cut.joined ∙ it.cut.joined) in
    let known : position (λ device. bytes_eq device name) names ≡ Some place = rw same.0 it.known in
    cc (sym known ∙ unknown))

-- the report of a line is found, or the line has no report
pub found_report : (line : List ℕ) (found : Option Report) → option_map report_of found ≡ reported_by line → Finds (IsReportIn line) found
found_report line (Some report) is = sym is
found_report line None is = λ report reports. let no : None ≡ Some (report_of report) = is ∙ reports in cc

pub found_device : (names : List (List ℕ)) (operands name rest : List ℕ) (place : ℕ) (found : Option Report) → IsCut 32 operands name rest → position (λ device. bytes_eq device name) names ≡ Some place → Finds (IsReportIn rest) found → Finds (IsLine names (codes "dev " ++ operands)) (option_map (Device place) found)
found_device names operands name rest place (Some report) cut known is =
    (operands, refl, record { name = name; line = rest; cut = cut; known = known; is_report = is })
found_device names operands name rest place None cut known none = no_device names operands (λ other report it.
    let same = same_cut name rest it.name it.line cut.lacks it.cut.lacks (sym cut.joined ∙ it.cut.joined) in
    none report (rw same.1 it.is_report))

-- ---- lines of connections

-- texts of which another byte differs
other_byte : (place : ℕ) (text other : List ℕ) → text ≡ other → (slice_index_or text place 0 ≡ slice_index_or other place 0 → ⊥) → ⊥
other_byte place text other same differs = differs (ap (λ t. slice_index_or t place 0) same)

same_parts : (operands a b c d : List ℕ) → IsCut 32 operands a b → IsCut 32 operands c d → (a ≡ c) × (b ≡ d)
same_parts operands a b c d one two = same_cut a b c d one.lacks two.lacks (sym one.joined ∙ two.joined)

pub uncut_opening : (operands : List ℕ) → Lacks 32 operands → (opening : Opening) → IsOpeningIn operands opening.number opening.door → ⊥
uncut_opening operands lacks opening is = uncut operands is.digits is.word lacks is.cut.lacks is.cut.joined

pub unnumbered_opening : (operands a b : List ℕ) → IsCut 32 operands a b → ((number : ℕ) → IsNumberIn a number → ⊥) → (opening : Opening) → IsOpeningIn operands opening.number opening.door → ⊥
unnumbered_opening operands a b cut none opening is = none opening.number (subst (λ t. IsNumberIn t opening.number) (sym (same_parts operands a b is.digits is.word cut is.cut).0) is.numbered)

pub unnamed_opening : (operands a b : List ℕ) → IsCut 32 operands a b → ((door : Door) → IsWordOf b door → ⊥) → (opening : Opening) → IsOpeningIn operands opening.number opening.door → ⊥
unnamed_opening operands a b cut none opening is = none opening.door (subst (λ t. IsWordOf t opening.door) (sym (same_parts operands a b is.digits is.word cut is.cut).1) is.named)

pub uncut_input : (operands : List ℕ) → Lacks 32 operands → (input : Input) → IsInputIn operands input.number input.bytes.items → ⊥
uncut_input operands lacks input is = uncut operands is.digits is.written lacks is.cut.lacks is.cut.joined

pub unnumbered_input : (operands a b : List ℕ) → IsCut 32 operands a b → ((number : ℕ) → IsNumberIn a number → ⊥) → (input : Input) → IsInputIn operands input.number input.bytes.items → ⊥
unnumbered_input operands a b cut none input is = none input.number (subst (λ t. IsNumberIn t input.number) (sym (same_parts operands a b is.digits is.written cut is.cut).0) is.numbered)

-- bytes and their number, if there are bytes
pub found_input : (operands a b : List ℕ) (number : ℕ) (bytes : Option (Vec ℕ Global)) → IsCut 32 operands a b → IsNumberIn a number → Finds (λ body. IsBodyIn b body.items) bytes → Finds (λ (input : Input). IsInputIn operands input.number input.bytes.items) (option_map (λ body. record { number = number; bytes = body }) bytes)
found_input operands a b number (Some body) cut numbered is = record { digits = a; written = b; cut = cut; numbered = numbered; body = is }
found_input operands a b number None cut numbered none = λ input is. none input.bytes (subst (λ t. IsBodyIn t input.bytes.items) (sym (same_parts operands a b is.digits is.written cut is.cut).1) is.body)

-- a line that begins with this word is one of its kind
no_opening : (names : List (List ℕ)) (operands : List ℕ) → ((opening : Opening) → IsOpeningIn operands opening.number opening.door → ⊥) → (line : Line) → IsLine names (codes "open " ++ operands) line → ⊥
no_opening names operands none (At moment) it = other_word (codes "open " ++ operands) (codes "at " ++ it.0) it.1 (λ first. omega (arith, first))
no_opening names operands none (Ipp body) it = other_word (codes "open " ++ operands) (codes "ipp " ++ it.0) it.1 (λ first. omega (arith, first))
no_opening names operands none (Device place report) it = other_word (codes "open " ++ operands) (codes "dev " ++ it.0) it.1 (λ first. omega (arith, first))
no_opening names operands none Tick it = other_word (codes "open " ++ operands) (codes "tick") it (λ first. omega (arith, first))
no_opening names operands none (Open opening) it =
    let same : operands ≡ it.0 = ap (drop 5) it.1 in
    none opening (rw same it.2)
no_opening names operands none (In input) it = other_word (codes "open " ++ operands) (codes "in " ++ it.0) it.1 (λ first. omega (arith, first))
no_opening names operands none (End number) it = other_word (codes "open " ++ operands) (codes "end " ++ it.0) it.1 (λ first. omega (arith, first))

pub found_opening : (names : List (List ℕ)) (text operands : List ℕ) (found : Option Opening) → text ≡ codes "open " ++ operands → Finds (λ (opening : Opening). IsOpeningIn operands opening.number opening.door) found → Finds (IsLine names text) (option_map Open found)
found_opening names text operands (Some opening) same is = (operands, same, is)
found_opening names text operands None same none = λ line it. no_opening names operands none line (subst (λ t. IsLine names t line) same it)

no_input : (names : List (List ℕ)) (operands : List ℕ) → ((input : Input) → IsInputIn operands input.number input.bytes.items → ⊥) → (line : Line) → IsLine names (codes "in " ++ operands) line → ⊥
no_input names operands none (At moment) it = other_word (codes "in " ++ operands) (codes "at " ++ it.0) it.1 (λ first. omega (arith, first))
no_input names operands none (Ipp body) it = other_byte 1 (codes "in " ++ operands) (codes "ipp " ++ it.0) it.1 (λ second. omega (arith, second))
no_input names operands none (Device place report) it = other_word (codes "in " ++ operands) (codes "dev " ++ it.0) it.1 (λ first. omega (arith, first))
no_input names operands none Tick it = other_word (codes "in " ++ operands) (codes "tick") it (λ first. omega (arith, first))
no_input names operands none (Open opening) it = other_word (codes "in " ++ operands) (codes "open " ++ it.0) it.1 (λ first. omega (arith, first))
no_input names operands none (In input) it =
    let same : operands ≡ it.0 = ap (drop 3) it.1 in
    none input (rw same it.2)
no_input names operands none (End number) it = other_word (codes "in " ++ operands) (codes "end " ++ it.0) it.1 (λ first. omega (arith, first))

pub found_in : (names : List (List ℕ)) (text operands : List ℕ) (found : Option Input) → text ≡ codes "in " ++ operands → Finds (λ (input : Input). IsInputIn operands input.number input.bytes.items) found → Finds (IsLine names text) (option_map In found)
found_in names text operands (Some input) same is = (operands, same, is)
found_in names text operands None same none = λ line it. no_input names operands none line (subst (λ t. IsLine names t line) same it)

no_end : (names : List (List ℕ)) (operands : List ℕ) → ((number : ℕ) → IsNumberIn operands number → ⊥) → (line : Line) → IsLine names (codes "end " ++ operands) line → ⊥
no_end names operands none (At moment) it = other_word (codes "end " ++ operands) (codes "at " ++ it.0) it.1 (λ first. omega (arith, first))
no_end names operands none (Ipp body) it = other_word (codes "end " ++ operands) (codes "ipp " ++ it.0) it.1 (λ first. omega (arith, first))
no_end names operands none (Device place report) it = other_word (codes "end " ++ operands) (codes "dev " ++ it.0) it.1 (λ first. omega (arith, first))
no_end names operands none Tick it = other_word (codes "end " ++ operands) (codes "tick") it (λ first. omega (arith, first))
no_end names operands none (Open opening) it = other_word (codes "end " ++ operands) (codes "open " ++ it.0) it.1 (λ first. omega (arith, first))
no_end names operands none (In input) it = other_word (codes "end " ++ operands) (codes "in " ++ it.0) it.1 (λ first. omega (arith, first))
no_end names operands none (End number) it =
    let same : operands ≡ it.0 = ap (drop 4) it.1 in
    none number (rw same it.2)

pub found_end : (names : List (List ℕ)) (text operands : List ℕ) (found : Option ℕ) → text ≡ codes "end " ++ operands → Finds (IsNumberIn operands) found → Finds (IsLine names text) (option_map End found)
found_end names text operands (Some number) same is = (operands, same, is)
found_end names text operands None same none = λ line it. no_end names operands none line (subst (λ t. IsLine names t line) same it)
