-- The next ask of a connection is one, if the choices are.
use Rattle.std.proofs.Common.{◌≡◌, ◌⊎◌, ℕ, ◌+◌, Bool, true, false, List, [], ◌∷◌, ◌++◌, length, map, refl, sym, ◌∙◌, ap, subst, Option, Some, None, inl, inr}
use Rattle.std.proofs.lemmas.List.{append_cancel_left, length-append, length-map}
use Rattle.base_types.specs.declared.report.Report.{Report}
use Rattle.base_types.specs.Report.{ReportRecord, HelloReport, report_of}
use Rattle.settings_file.specs.Settings.{ServerSettings, device_named}
use Rattle.device_link.specs.Stream as Link
use Rattle.http_front.specs.declared.item.HttpItem.{HttpItem}
use Rattle.http_front.specs.declared.item.HttpItem.TheVariants as item
use Rattle.http_front.specs.Stream.{HttpElement, HasHead, Invites, HasByte, EndsBody, IsRefused, elements_of}
use Rattle.http_front.specs.Stream as Http
use Rattle.lpd.specs.Items.{CommandRecord, ListsShort, ListsLong, RemovesJobs, ItemRecord, HasCommand, Aborts, Announces, HasFile}
use Rattle.lpd.specs.Stream as Lpd
use Rattle.lpd.specs.Session.{SessionState, SentRecord}
use Rattle.events.specs.declared.event.Event.{Event}
use Rattle.events.specs.declared.event.Event.TheVariants as Is
use Rattle.events.specs.SameEvent.{SameEvent}
use Rattle.events.proofs.Sames.{same_self}
use Rattle.ipp_operations.specs.declared.parsed_request.ParsedRequest.{ParsedRequest}
use Rattle.ipp_operations.specs.declared.parsed_request.ParsedRequest.TheVariants as asks
use Rattle.ipp_operations.specs.ParsedRequest.{Asks}
use Rattle.connections.specs.declared.ask.Ask.{Ask}
use Rattle.connections.specs.declared.ask.Ask.TheVariants as ask
use Rattle.connections.specs.declared.ask.Client.TheVariants as client
use Rattle.connections.specs.declared.ask.AllocFailure.TheVariants as growth
use Rattle.connections.specs.declared.ask.Part.TheVariants as part
use Rattle.connections.specs.declared.step.Due.{Due}
use Rattle.connections.specs.declared.step.Due.TheVariants as due
use Rattle.connections.specs.declared.step.Step.{Step}
use Rattle.connections.specs.declared.step.Step.TheVariants as step
use Rattle.connections.specs.Session.{ItemResult, Goes, Stops, Submits, Commands, result_of, file_lost, is_queue}
use Rattle.connections.specs.Commands.{SubmitsJob, IsCommand}
use Rattle.connections.specs.Entry.{PeerRecord, Http as OfIpp, Queue as OfLpd, Link as OfDevice, Entry, with_progress, finishing}
use Rattle.connections.specs.Steps.{silent, no_memory, asked_step, EndsBody as EndsSo, StepsIpp, closes_after, body_after, byte_due, refused, AsksAs, AsksForFile, StepsLpd, StepsHello, StepsDevice, faulty, due_bytes}
use Rattle.connections.specs.Asking.{IppItemComes, LpdItemComes, FindsFault, LosesLine, ReportComes, FindsLinkFault, ItemComes, Owes, StepsTo, AsksNext}
use Rattle.connections.specs.Choice.{part_taken, part_acted_on, part_of, Loss, OfGrowth, OfPart, OfBody, lost_of, SameAsk}

-- the laws of the elements of streams and of the contents of bodies
pub record Laws : Type 0 where
  pub http : Http.FirstIsOne
  pub lpd : Lpd.FirstIsOne
  pub lpd_ends : Lpd.NoneFollows
  pub link : Link.FirstIsOne
  pub link_ends : Link.NoneFollows
  pub asked : (body : List ℕ) (given parsed : ParsedRequest) → Asks body given → Asks body parsed → given ≡ parsed

-- ---- asks with the same content

ask_self : (what : Ask) → SameAsk what what
ask_self (ask.Event client event) = (refl, same_self event)
ask_self (ask.Report device report) = (refl, refl)
ask_self what = refl

ask_as : (asked what parsed : Ask) → what ≡ asked → parsed ≡ asked → SameAsk what parsed
ask_as asked what parsed a b = subst (λ (x : Ask). SameAsk what x) (a ∙ sym b) (ask_self what)

-- ---- steps that agree

-- wherever both lose the same, they ask the same and leave one entry
abbrev Agree : Step → Entry → Step → Entry → Type 0
Agree one mid other mid' = (what parsed : Ask) (new after : Entry) → StepsTo one mid what new → StepsTo other mid' parsed after → lost_of what ≡ lost_of parsed → SameAsk what parsed × (new ≡ after)

no_loss : (loss : Loss) → None ≡ Some loss → ⊥
no_loss loss is = cc

output_lost : (what : Ask) → what ≡ ask.Broke growth.Output → lost_of what ≡ Some (OfGrowth growth.Output)
output_lost what is = ap lost_of is

nothing_lost : (what : Ask) → what ≡ ask.Nothing → lost_of what ≡ None
nothing_lost what is = ap lost_of is

owes_one : (bytes : List ℕ) (e : Entry) (what parsed : Ask) (new after : Entry) → Owes bytes e what new → Owes bytes e parsed after → lost_of what ≡ lost_of parsed → SameAsk what parsed × (new ≡ after)
owes_one bytes e what parsed new after (inl a) (inl b) same = (ask_as ask.Nothing what parsed a.0 b.0, a.1 ∙ sym b.1)
owes_one bytes e what parsed new after (inl a) (inr b) same = absurd (no_loss (OfGrowth growth.Output) (sym (nothing_lost what a.0) ∙ same ∙ output_lost parsed b.0))
owes_one bytes e what parsed new after (inr a) (inl b) same = absurd (no_loss (OfGrowth growth.Output) (sym (nothing_lost parsed b.0) ∙ sym same ∙ output_lost what a.0))
owes_one bytes e what parsed new after (inr a) (inr b) same = (ask_as (ask.Broke growth.Output) what parsed a.0 b.0, a.2 ∙ sym b.2)

-- a step agrees with itself
agree_self : (comes : Step) (mid : Entry) → Agree comes mid comes mid
agree_self (step.Due due last) mid what parsed new after a b same = owes_one (due_bytes due) (finishing last mid) what parsed new after a b same
agree_self (step.Asks asked last) mid what parsed new after a b same = (ask_as asked what parsed a.0 b.0, a.1 ∙ sym b.1)
agree_self (step.Breaks asked) mid what parsed new after a b same = (ask_as asked what parsed a.0 b.0, a.1 ∙ sym b.1)

agree_asks : (asked other : Ask) (last : Bool) (mid : Entry) → SameAsk asked other → Agree (step.Asks asked last) mid (step.Asks other last) mid
agree_asks asked other last mid is what parsed new after a b same =
    (subst (λ (x : Ask). SameAsk x parsed) (sym a.0) (subst (λ (x : Ask). SameAsk asked x) (sym b.0) is), a.1 ∙ sym b.1)

-- steps that are these, at entries that are these
agree_as : (comes comes' one other : Step) (mid mid' e : Entry) → comes ≡ one → comes' ≡ other → mid ≡ e → mid' ≡ e → Agree one e other e → Agree comes mid comes' mid'
agree_as comes comes' one other mid mid' e is is' at at' agree =
    subst (λ (c : Step). Agree c mid comes' mid') (sym is)
    (subst (λ (c : Step). Agree one mid c mid') (sym is')
    (subst (λ (m : Entry). Agree one m other mid') (sym at) (subst (λ (m : Entry). Agree one e other m) (sym at') agree)))

-- two steps that equal one step, at one entry, agree
agree_at : (comes comes' one : Step) (mid mid' e : Entry) → comes ≡ one → comes' ≡ one → mid ≡ e → mid' ≡ e → Agree comes mid comes' mid'
agree_at comes comes' one mid mid' e is is' at at' = agree_as comes comes' one one mid mid' e is is' at at' (agree_self one e)

-- ---- the losses of a step

abbrev Loses : Step → Option Loss → Type 0
Loses (step.Due due last) loss = (loss ≡ None) ⊎ (loss ≡ Some (OfGrowth growth.Output))
Loses (step.Asks asked last) loss = loss ≡ lost_of asked
Loses (step.Breaks asked) loss = loss ≡ lost_of asked

owes_loses : (bytes : List ℕ) (e : Entry) (what : Ask) (new : Entry) → Owes bytes e what new → (lost_of what ≡ None) ⊎ (lost_of what ≡ Some (OfGrowth growth.Output))
owes_loses bytes e what new (inl a) = inl (nothing_lost what a.0)
owes_loses bytes e what new (inr a) = inr (output_lost what a.0)

loses : (comes : Step) (mid : Entry) (what : Ask) (new : Entry) → StepsTo comes mid what new → Loses comes (lost_of what)
loses (step.Due due last) mid what new a = owes_loses (due_bytes due) (finishing last mid) what new a
loses (step.Asks asked last) mid what new a = ap lost_of a.0
loses (step.Breaks asked) mid what new a = ap lost_of a.0

-- two steps without a common loss agree
agree_never : (comes comes' : Step) (mid mid' : Entry) → ((loss : Option Loss) → Loses comes loss → Loses comes' loss → ⊥) → Agree comes mid comes' mid'
agree_never comes comes' mid mid' never what parsed new after a b same =
    absurd (never (lost_of what) (loses comes mid what new a) (subst (λ (l : Option Loss). Loses comes' l) (sym same) (loses comes' mid' parsed after b)))

-- at most the growth of its output, or a job
abbrev IsUsual : Option Loss → Type 0
IsUsual loss = (loss ≡ None) ⊎ ((loss ≡ Some (OfGrowth growth.Output)) ⊎ (loss ≡ Some (OfPart part.Job)))

due_usual : (loss : Option Loss) → (loss ≡ None) ⊎ (loss ≡ Some (OfGrowth growth.Output)) → IsUsual loss
due_usual loss (inl a) = inl a
due_usual loss (inr a) = inr (inl a)

loses_usual : (comes one : Step) (loss : Option Loss) → comes ≡ one → Loses comes loss → ((loss : Option Loss) → Loses one loss → IsUsual loss) → IsUsual loss
loses_usual comes one loss is a usual = usual loss (subst (λ (c : Step). Loses c loss) is a)

not_input : (loss : Option Loss) → IsUsual loss → loss ≡ Some (OfGrowth growth.Input) → ⊥
not_input loss (inl a) is = let no : None ≡ Some (OfGrowth growth.Input) = sym a ∙ is in cc
not_input loss (inr (inl a)) is = let no : Some (OfGrowth growth.Output) ≡ Some (OfGrowth growth.Input) = sym a ∙ is in cc
not_input loss (inr (inr a)) is = let no : Some (OfPart part.Job) ≡ Some (OfGrowth growth.Input) = sym a ∙ is in cc

not_body : (loss : Option Loss) → IsUsual loss → loss ≡ Some OfBody → ⊥
not_body loss (inl a) is = let no : None ≡ Some OfBody = sym a ∙ is in cc
not_body loss (inr (inl a)) is = let no : Some (OfGrowth growth.Output) ≡ Some OfBody = sym a ∙ is in cc
not_body loss (inr (inr a)) is = let no : Some (OfPart part.Job) ≡ Some OfBody = sym a ∙ is in cc

not_file : (loss : Option Loss) → IsUsual loss → loss ≡ Some (OfPart part.File) → ⊥
not_file loss (inl a) is = let no : None ≡ Some (OfPart part.File) = sym a ∙ is in cc
not_file loss (inr (inl a)) is = let no : Some (OfGrowth growth.Output) ≡ Some (OfPart part.File) = sym a ∙ is in cc
not_file loss (inr (inr a)) is = let no : Some (OfPart part.Job) ≡ Some (OfPart part.File) = sym a ∙ is in cc

-- a step with a usual loss, and a step that lacks memory for a line
agree_no_memory : (comes comes' : Step) (mid mid' : Entry) → ((loss : Option Loss) → Loses comes loss → IsUsual loss) → comes' ≡ no_memory → Agree comes mid comes' mid'
agree_no_memory comes comes' mid mid' usual is =
    agree_never comes comes' mid mid' (λ loss a b. not_input loss (usual loss a) (subst (λ (c : Step). Loses c loss) is b))

no_memory_agrees : (comes comes' : Step) (mid mid' : Entry) → comes ≡ no_memory → ((loss : Option Loss) → Loses comes' loss → IsUsual loss) → Agree comes mid comes' mid'
no_memory_agrees comes comes' mid mid' is usual =
    agree_never comes comes' mid mid' (λ loss a b. not_input loss (usual loss b) (subst (λ (c : Step). Loses c loss) is a))

-- ---- an IPP client

-- an item and its part, by their elements

abbrev parsed_long : Option ℕ → ℕ
parsed_long None = 1
parsed_long (Some long) = long

long_is : (it : HttpItem) (part : List ℕ) → length (elements_of it part) ≡ parsed_long (part_taken it part)
long_is (item.Head closes) part = refl
long_is item.Continue part = refl
long_is item.BodyPart part = length-map part HasByte
long_is item.BodyEnd part = refl
long_is (item.Refuse refusal) part = refl

abbrev item_parsed : List HttpElement → HttpItem
item_parsed (HasHead closes ∷ later) = item.Head closes
item_parsed (Invites ∷ later) = item.Continue
item_parsed (EndsBody ∷ later) = item.BodyEnd
item_parsed (IsRefused refusal ∷ later) = item.Refuse refusal
item_parsed (HasByte byte ∷ later) = item.BodyPart
item_parsed [] = item.BodyPart

abbrev item_of : Option ℕ → List HttpElement → HttpItem
item_of None parsed = item_parsed parsed
item_of (Some long) parsed = item.BodyPart

item_is : (it : HttpItem) (part : List ℕ) → item_of (part_taken it part) (elements_of it part) ≡ it
item_is (item.Head closes) part = refl
item_is item.Continue part = refl
item_is item.BodyPart part = refl
item_is item.BodyEnd part = refl
item_is (item.Refuse refusal) part = refl

abbrev bytes_parsed : List HttpElement → List ℕ
bytes_parsed [] = []
bytes_parsed (HasByte byte ∷ later) = byte ∷ bytes_parsed later
bytes_parsed (HasHead closes ∷ later) = []
bytes_parsed (Invites ∷ later) = []
bytes_parsed (EndsBody ∷ later) = []
bytes_parsed (IsRefused refusal ∷ later) = []

bytes_are : (part : List ℕ) → bytes_parsed (map HasByte part) ≡ part
bytes_are [] = refl
bytes_are (byte ∷ part) = ap (λ (bytes : List ℕ). byte ∷ bytes) (bytes_are part)

-- the entry after an item with these elements
abbrev after_item : HttpItem → List HttpElement → Entry → List HttpElement → Bool → List ℕ → Step → Entry
after_item it added e parsed closes body what = with_progress (OfIpp (parsed ++ added) (closes_after it closes) (body_after it what (bytes_parsed added) body)) e

after_is : (it : HttpItem) (part : List ℕ) (e : Entry) (parsed : List HttpElement) (closes : Bool) (body : List ℕ) (what : Step)
    → with_progress (OfIpp (parsed ++ elements_of it part) (closes_after it closes) (body_after it what part body)) e ≡ after_item it (elements_of it part) e parsed closes body what
after_is (item.Head next) part e parsed closes body what = refl
after_is item.Continue part e parsed closes body what = refl
after_is item.BodyPart part e parsed closes body what = ap (λ (bytes : List ℕ). with_progress (OfIpp (parsed ++ map HasByte part) closes (body_after item.BodyPart what bytes body)) e) (sym (bytes_are part))
after_is item.BodyEnd part e parsed closes body what = refl
after_is (item.Refuse refusal) part e parsed closes body what = refl

silent_usual : (comes : Step) → comes ≡ silent → (loss : Option Loss) → Loses comes loss → IsUsual loss
silent_usual comes is loss a = loses_usual comes silent loss is a due_usual

asked_usual : (closes : Bool) (asked : ParsedRequest) (loss : Option Loss) → Loses (asked_step closes asked) loss → IsUsual loss
asked_usual closes asks.TooShort loss a = due_usual loss a
asked_usual closes (asks.Refused status request) loss a = due_usual loss a
asked_usual closes (asks.Event request event) loss a = inl a

-- the ask of a whole body, or the refusal of memory to read the body
ends_agree : Laws → (closes : Bool) (body : List ℕ) (comes comes' : Step) (e : Entry) → EndsSo closes body comes → EndsSo closes body comes' → Agree comes e comes' e
ends_agree laws closes body comes comes' e (inl a) (inl b) =
    let same : b.0 ≡ a.0 = laws.asked body b.0 a.0 b.1 a.1 in
    agree_at comes comes' (asked_step closes a.0) e e e a.2 (b.2 ∙ ap (λ (x : ParsedRequest). asked_step closes x) same) refl refl
ends_agree laws closes body comes comes' e (inl a) (inr b) =
    agree_never comes comes' e e (λ loss x y. not_body loss (loses_usual comes (asked_step closes a.0) loss a.2 x (asked_usual closes a.0)) (subst (λ (c : Step). Loses c loss) b.2 y))
ends_agree laws closes body comes comes' e (inr a) (inl b) =
    agree_never comes comes' e e (λ loss x y. not_body loss (loses_usual comes' (asked_step closes b.0) loss b.2 y (asked_usual closes b.0)) (subst (λ (c : Step). Loses c loss) a.2 x))
ends_agree laws closes body comes comes' e (inr a) (inr b) =
    let both : Some a.0 ≡ Some b.0 = sym a.1 ∙ b.1 in
    let same : b.0 ≡ a.0 = cc both in
    agree_at comes comes' (step.Asks (ask.Unread a.0) closes) e e e a.2 (b.2 ∙ ap (λ (request : ℕ). step.Asks (ask.Unread request) closes) same) refl refl

part_agrees : (comes comes' : Step) (after : Step → Entry) → (comes ≡ silent) ⊎ (comes ≡ no_memory) → (comes' ≡ silent) ⊎ (comes' ≡ no_memory) → Agree comes (after comes) comes' (after comes')
part_agrees comes comes' after (inl a) (inl b) = agree_at comes comes' silent (after comes) (after comes') (after silent) a b (ap after a) (ap after b)
part_agrees comes comes' after (inl a) (inr b) = agree_no_memory comes comes' (after comes) (after comes') (silent_usual comes a) b
part_agrees comes comes' after (inr a) (inl b) = no_memory_agrees comes comes' (after comes) (after comes') a (silent_usual comes' b)
part_agrees comes comes' after (inr a) (inr b) = agree_at comes comes' no_memory (after comes) (after comes') (after no_memory) a b (ap after a) (ap after b)

-- two steps of one item agree
item_agrees : Laws → (it : HttpItem) (added : List HttpElement) (e : Entry) (parsed : List HttpElement) (closes : Bool) (body : List ℕ) (comes comes' : Step) → StepsIpp it closes body comes → StepsIpp it closes body comes'
    → Agree comes (after_item it added e parsed closes body comes) comes' (after_item it added e parsed closes body comes')
item_agrees laws (item.Head next) added e parsed closes body comes comes' a b = agree_at comes comes' silent _ _ (after_item (item.Head next) added e parsed closes body silent) a b refl refl
item_agrees laws item.Continue added e parsed closes body comes comes' a b = agree_at comes comes' (step.Due due.Continue false) _ _ (after_item item.Continue added e parsed closes body silent) a b refl refl
item_agrees laws item.BodyPart added e parsed closes body comes comes' a b = part_agrees comes comes' (after_item item.BodyPart added e parsed closes body) a b
item_agrees laws item.BodyEnd added e parsed closes body comes comes' a b = ends_agree laws closes body comes comes' (after_item item.BodyEnd added e parsed closes body silent) a b
item_agrees laws (item.Refuse refusal) added e parsed closes body comes comes' a b = agree_at comes comes' (step.Due (due.Refusal refusal) true) _ _ (after_item (item.Refuse refusal) added e parsed closes body silent) a b refl refl

ipp_agrees : Laws → (e : Entry) (parsed : List HttpElement) (closes : Bool) (body : List ℕ) (comes comes' : Step) (mid mid' : Entry) (a : IppItemComes e parsed closes body comes mid) (b : IppItemComes e parsed closes body comes' mid')
    → part_taken a.item a.part ≡ part_taken b.item b.part → Agree comes mid comes' mid'
ipp_agrees laws e parsed closes body comes comes' mid mid' a b parts =
    let long : length (elements_of a.item a.part) ≡ length (elements_of b.item b.part) = long_is a.item a.part ∙ ap parsed_long parts ∙ sym (long_is b.item b.part) in
    let all : length (parsed ++ elements_of a.item a.part) ≡ length (parsed ++ elements_of b.item b.part) = length-append parsed (elements_of a.item a.part) ∙ ap (λ (n : ℕ). length parsed + n) long ∙ sym (length-append parsed (elements_of b.item b.part)) in
    let added : elements_of b.item b.part ≡ elements_of a.item a.part = append_cancel_left parsed (elements_of b.item b.part) (elements_of a.item a.part) (sym (laws.http e.read (parsed ++ elements_of a.item a.part) (parsed ++ elements_of b.item b.part) a.next b.next all)) in
    let same : b.item ≡ a.item = sym (item_is b.item b.part) ∙ ap (λ (o : Option ℕ). item_of o (elements_of b.item b.part)) (sym parts) ∙ ap (λ (s : List HttpElement). item_of (part_taken a.item a.part) s) added ∙ item_is a.item a.part in
    let there : StepsIpp a.item closes body comes' = subst (λ (it : HttpItem). StepsIpp it closes body comes') same b.comes in
    let at : mid ≡ after_item a.item (elements_of a.item a.part) e parsed closes body comes = a.after ∙ after_is a.item a.part e parsed closes body comes in
    let at' : mid' ≡ after_item a.item (elements_of a.item a.part) e parsed closes body comes' =
    b.after ∙ after_is b.item b.part e parsed closes body comes' ∙ ap (λ (s : List HttpElement). after_item b.item s e parsed closes body comes') added ∙ ap (λ (it : HttpItem). after_item it (elements_of a.item a.part) e parsed closes body comes') same in
    subst (λ (m : Entry). Agree comes m comes' mid') (sym at)
    (subst (λ (m : Entry). Agree comes (after_item a.item (elements_of a.item a.part) e parsed closes body comes) comes' m) (sym at') (item_agrees laws a.item (elements_of a.item a.part) e parsed closes body comes comes' a.comes there))

-- ---- an LPD client

-- an event is fixed by the job or the command, up to equal content

job_one : (job : SentRecord) (one other : Event) → SubmitsJob job one → SubmitsJob job other → SameEvent one other
job_one job (Is.SubmitFiles one) (Is.SubmitFiles other) a b = record { queue = a.0 ∙ sym b.0; owner = a.1 ∙ sym b.1; name = a.2 ∙ sym b.2; documents = a.3 ∙ sym b.3 }
job_one job (Is.SubmitFiles one) other a b = absurd b
job_one job one other a b = absurd a

command_one : (command : CommandRecord) (one other : Event) → IsCommand command one → IsCommand command other → SameEvent one other
command_one (ListsShort queue operands) (Is.ListQueue one) (Is.ListQueue other) a b = record { queue = a.0 ∙ sym b.0; form = a.1 ∙ sym b.1; operands = a.2 ∙ sym b.2 }
command_one (ListsLong queue operands) (Is.ListQueue one) (Is.ListQueue other) a b = record { queue = a.0 ∙ sym b.0; form = a.1 ∙ sym b.1; operands = a.2 ∙ sym b.2 }
command_one (RemovesJobs queue agent operands) (Is.RemoveJobs one) (Is.RemoveJobs other) a b = record { queue = a.0 ∙ sym b.0; agent = a.1 ∙ sym b.1; operands = a.2 ∙ sym b.2 }
command_one (ListsShort queue operands) (Is.ListQueue one) other a b = absurd b
command_one (ListsLong queue operands) (Is.ListQueue one) other a b = absurd b
command_one (RemovesJobs queue agent operands) (Is.RemoveJobs one) other a b = absurd b
command_one command one other a b = absurd a

-- the ask, by the items that were acted on

abbrev TakesJob : SentRecord → Step → Type 0
TakesJob job comes = ((event : Event) × SubmitsJob job event × (comes ≡ step.Asks (ask.Event client.LpdJob event) false)) ⊎ (comes ≡ step.Asks (ask.Lost part.Job) false)

abbrev Obeys : CommandRecord → Step → Type 0
Obeys command comes = (event : Event) × IsCommand command event × (comes ≡ step.Asks (ask.Event client.LpdCommand event) true)

due_is : (what due : Due) (last end : Bool) → what ≡ due → last ≡ end → step.Due what last ≡ step.Due due end
due_is what due last end is ends = ap (λ (d : Due). step.Due d last) is ∙ ap (λ (b : Bool). step.Due due b) ends

goes_as : (answer : Option ℕ) (next : Option SessionState) (comes : Step) (after : Option SessionState) → AsksAs (Goes answer next) comes after → (comes ≡ step.Due (byte_due answer) false) × (after ≡ next)
goes_as answer next (step.Due what last) after a = (due_is what (byte_due answer) last false a.0 a.1, a.2)
goes_as answer next comes after a = absurd a

stops_as : (answer : Option ℕ) (comes : Step) (after : Option SessionState) → AsksAs (Stops answer) comes after → (comes ≡ step.Due (byte_due answer) true) × (after ≡ None)
stops_as answer (step.Due what last) after a = (due_is what (byte_due answer) last true a.0 a.1, a.2)
stops_as answer comes after a = absurd a

submits_as : (job : SentRecord) (next : SessionState) (comes : Step) (after : Option SessionState) → AsksAs (Submits job next) comes after → TakesJob job comes × (after ≡ Some next)
submits_as job next (step.Asks (ask.Event client.LpdJob event) last) after a = (inl (event, a.0, ap (λ (b : Bool). step.Asks (ask.Event client.LpdJob event) b) a.1), a.2)
submits_as job next (step.Asks (ask.Lost part.Job) last) after a = (inr (ap (λ (b : Bool). step.Asks (ask.Lost part.Job) b) a.0), a.1)
submits_as job next comes after a = absurd a

commands_as : (command : CommandRecord) (comes : Step) (after : Option SessionState) → AsksAs (Commands command) comes after → Obeys command comes × (after ≡ None)
commands_as command (step.Asks (ask.Event client.LpdCommand event) last) after a = ((event, a.0, ap (λ (b : Bool). step.Asks (ask.Event client.LpdCommand event) b) a.1), a.2)
commands_as command comes after a = absurd a

takes_usual : (job : SentRecord) (comes : Step) → TakesJob job comes → (loss : Option Loss) → Loses comes loss → IsUsual loss
takes_usual job comes (inl a) loss x = loses_usual comes (step.Asks (ask.Event client.LpdJob a.0) false) loss a.2 x (λ loss none. inl none)
takes_usual job comes (inr a) loss x = loses_usual comes (step.Asks (ask.Lost part.Job) false) loss a x (λ loss lost. inr (inr lost))

asks_usual : (result : ItemResult) (comes : Step) (after : Option SessionState) → AsksAs result comes after → (loss : Option Loss) → Loses comes loss → IsUsual loss
asks_usual (Goes answer next) comes after a loss x = loses_usual comes (step.Due (byte_due answer) false) loss (goes_as answer next comes after a).0 x due_usual
asks_usual (Stops answer) comes after a loss x = loses_usual comes (step.Due (byte_due answer) true) loss (stops_as answer comes after a).0 x due_usual
asks_usual (Submits job next) comes after a loss x = takes_usual job comes (submits_as job next comes after a).0 loss x
asks_usual (Commands command) comes after a loss x =
    let it = (commands_as command comes after a).0 in
    loses_usual comes (step.Asks (ask.Event client.LpdCommand it.0) true) loss it.2 x (λ loss none. inl none)

-- a job is taken, or lost
jobs_agree : (job : SentRecord) (comes comes' : Step) (mid mid' e : Entry) → TakesJob job comes → TakesJob job comes' → mid ≡ e → mid' ≡ e → Agree comes mid comes' mid'
jobs_agree job comes comes' mid mid' e (inl a) (inl b) at at' =
    agree_as comes comes' (step.Asks (ask.Event client.LpdJob a.0) false) (step.Asks (ask.Event client.LpdJob b.0) false) mid mid' e a.2 b.2 at at'
    (agree_asks (ask.Event client.LpdJob a.0) (ask.Event client.LpdJob b.0) false e (refl, job_one job a.0 b.0 a.1 b.1))
jobs_agree job comes comes' mid mid' e (inl a) (inr b) at at' =
    agree_never comes comes' mid mid'
    (λ loss x y. no_loss (OfPart part.Job) (sym (subst (λ (c : Step). Loses c loss) a.2 x) ∙ subst (λ (c : Step). Loses c loss) b y))
jobs_agree job comes comes' mid mid' e (inr a) (inl b) at at' =
    agree_never comes comes' mid mid'
    (λ loss x y. no_loss (OfPart part.Job) (sym (subst (λ (c : Step). Loses c loss) b.2 y) ∙ subst (λ (c : Step). Loses c loss) a x))
jobs_agree job comes comes' mid mid' e (inr a) (inr b) at at' = agree_at comes comes' (step.Asks (ask.Lost part.Job) false) mid mid' e a b at at'

asks_agree : (result : ItemResult) (comes comes' : Step) (after after' : Option SessionState) (entry : Option SessionState → Entry) → AsksAs result comes after → AsksAs result comes' after' → Agree comes (entry after) comes' (entry after')
asks_agree (Goes answer next) comes comes' after after' entry a b =
    let x = goes_as answer next comes after a in
    let y = goes_as answer next comes' after' b in
    agree_at comes comes' (step.Due (byte_due answer) false) (entry after) (entry after') (entry next) x.0 y.0 (ap entry x.1) (ap entry y.1)
asks_agree (Stops answer) comes comes' after after' entry a b =
    let x = stops_as answer comes after a in
    let y = stops_as answer comes' after' b in
    agree_at comes comes' (step.Due (byte_due answer) true) (entry after) (entry after') (entry None) x.0 y.0 (ap entry x.1) (ap entry y.1)
asks_agree (Submits job next) comes comes' after after' entry a b =
    let x = submits_as job next comes after a in
    let y = submits_as job next comes' after' b in
    jobs_agree job comes comes' (entry after) (entry after') (entry (Some next)) x.0 y.0 (ap entry x.1) (ap entry y.1)
asks_agree (Commands command) comes comes' after after' entry a b =
    let x = commands_as command comes after a in
    let y = commands_as command comes' after' b in
    agree_as comes comes' (step.Asks (ask.Event client.LpdCommand x.0.0) true) (step.Asks (ask.Event client.LpdCommand y.0.0) true) (entry after) (entry after') (entry None) x.0.2 y.0.2 (ap entry x.1) (ap entry y.1)
    (agree_asks (ask.Event client.LpdCommand x.0.0) (ask.Event client.LpdCommand y.0.0) true (entry None) (refl, command_one command x.0.0 y.0.0 x.0.1 y.0.1))

-- a file is kept, or lost
files_agree : (result : ItemResult) (before : Option SessionState) (comes comes' : Step) (after after' : Option SessionState) (entry : Option SessionState → Entry) → AsksForFile result before comes after → AsksForFile result before comes' after' → Agree comes (entry after) comes' (entry after')
files_agree result before comes comes' after after' entry (inl a) (inl b) = agree_at comes comes' (step.Asks (ask.Lost part.File) false) (entry after) (entry after') (entry (file_lost before)) a.0 b.0 (ap entry a.1) (ap entry b.1)
files_agree result before comes comes' after after' entry (inl a) (inr b) =
    agree_never comes comes' (entry after) (entry after') (λ loss x y. not_file loss (asks_usual result comes' after' b loss y) (subst (λ (c : Step). Loses c loss) a.0 x))
files_agree result before comes comes' after after' entry (inr a) (inl b) =
    agree_never comes comes' (entry after) (entry after') (λ loss x y. not_file loss (asks_usual result comes after a loss x) (subst (λ (c : Step). Loses c loss) b.0 y))
files_agree result before comes comes' after after' entry (inr a) (inr b) = asks_agree result comes comes' after after' entry a b

lpd_agrees : (queues : List ℕ → Bool) (before : Option SessionState) (parsed : ItemRecord) (comes comes' : Step) (after after' : Option SessionState) (entry : Option SessionState → Entry) → StepsLpd queues before parsed comes after → StepsLpd queues before parsed comes' after' → Agree comes (entry after) comes' (entry after')
lpd_agrees queues before (HasFile contents) comes comes' after after' entry a b = files_agree (result_of queues before (HasFile contents)) before comes comes' after after' entry a b
lpd_agrees queues before (HasCommand command) comes comes' after after' entry a b = asks_agree (result_of queues before (HasCommand command)) comes comes' after after' entry a b
lpd_agrees queues before Aborts comes comes' after after' entry a b = asks_agree (result_of queues before Aborts) comes comes' after after' entry a b
lpd_agrees queues before (Announces head) comes comes' after after' entry a b = asks_agree (result_of queues before (Announces head)) comes comes' after after' entry a b

-- no step for a file lacks memory for a line
file_no_line : (result : ItemResult) (before : Option SessionState) (comes : Step) (after : Option SessionState) → AsksForFile result before comes after → (loss : Option Loss) → Loses comes loss → loss ≡ Some (OfGrowth growth.Input) → ⊥
file_no_line result before comes after (inl a) loss x is = let no : Some (OfPart part.File) ≡ Some (OfGrowth growth.Input) = sym (subst (λ (c : Step). Loses c loss) a.0 x) ∙ is in cc
file_no_line result before comes after (inr a) loss x is = not_input loss (asks_usual result comes after a loss x) is

item_no_line : (queues : List ℕ → Bool) (before : Option SessionState) (parsed : ItemRecord) (comes : Step) (after : Option SessionState) → StepsLpd queues before parsed comes after → (loss : Option Loss) → Loses comes loss → loss ≡ Some (OfGrowth growth.Input) → ⊥
item_no_line queues before (HasFile contents) comes after a loss x is = file_no_line (result_of queues before (HasFile contents)) before comes after a loss x is
item_no_line queues before (HasCommand command) comes after a loss x is = not_input loss (asks_usual (result_of queues before (HasCommand command)) comes after a loss x) is
item_no_line queues before Aborts comes after a loss x is = not_input loss (asks_usual (result_of queues before Aborts) comes after a loss x) is
item_no_line queues before (Announces head) comes after a loss x is = not_input loss (asks_usual (result_of queues before (Announces head)) comes after a loss x) is

-- of one length, so that the last is one
last_one : {X : Type 0} (xs : List X) (x y : X) → xs ++ x ∷ [] ≡ xs ++ y ∷ [] → x ≡ y
last_one xs x y is = let ends : x ∷ [] ≡ y ∷ [] = append_cancel_left xs (x ∷ []) (y ∷ []) is in cc ends

one_longer : {X : Type 0} (xs : List X) (x y : X) → length (xs ++ x ∷ []) ≡ length (xs ++ y ∷ [])
one_longer xs x y = length-append xs (x ∷ []) ∙ sym (length-append xs (y ∷ []))

items_agree : Laws → (queues : List ℕ → Bool) (e : Entry) (items : List ItemRecord) (session : Option SessionState) (comes comes' : Step) (mid mid' : Entry) → LpdItemComes queues e items session comes mid → LpdItemComes queues e items session comes' mid' → Agree comes mid comes' mid'
items_agree laws queues e items session comes comes' mid mid' a b =
    let same : b.parsed ≡ a.parsed = last_one items b.parsed a.parsed (laws.lpd e.read (items ++ b.parsed ∷ []) (items ++ a.parsed ∷ []) b.next a.next (one_longer items b.parsed a.parsed)) in
    let there : StepsLpd queues session a.parsed comes' b.session_after = subst (λ (x : ItemRecord). StepsLpd queues session x comes' b.session_after) same b.comes in
    let at' : mid' ≡ with_progress (OfLpd (items ++ a.parsed ∷ []) b.session_after) e = b.after ∙ ap (λ (x : ItemRecord). with_progress (OfLpd (items ++ x ∷ []) b.session_after) e) same in
    subst (λ (m : Entry). Agree comes m comes' mid') (sym a.after)
    (subst (λ (m : Entry). Agree comes (with_progress (OfLpd (items ++ a.parsed ∷ []) a.session_after) e) comes' m) (sym at')
    (lpd_agrees queues session a.parsed comes comes' a.session_after b.session_after (λ after. with_progress (OfLpd (items ++ a.parsed ∷ []) after) e) a.comes there))

-- an item, a fault, or no memory for a line
abbrev NextItem : (List ℕ → Bool) → Entry → List ItemRecord → Option SessionState → Step → Entry → Type 0
NextItem queues e items session comes mid = LpdItemComes queues e items session comes mid ⊎ (FindsFault e items comes mid ⊎ LosesLine e comes mid)

refused_usual : (comes : Step) → comes ≡ refused → (loss : Option Loss) → Loses comes loss → IsUsual loss
refused_usual comes is loss x = loses_usual comes refused loss is x due_usual

queue_agrees : Laws → (queues : List ℕ → Bool) (e : Entry) (items : List ItemRecord) (session : Option SessionState) (comes comes' : Step) (mid mid' : Entry) → NextItem queues e items session comes mid → NextItem queues e items session comes' mid' → Agree comes mid comes' mid'
queue_agrees laws queues e items session comes comes' mid mid' (inl a) (inl b) = items_agree laws queues e items session comes comes' mid mid' a b
queue_agrees laws queues e items session comes comes' mid mid' (inl a) (inr (inl b)) = absurd (laws.lpd_ends e.read items a.parsed (Lpd.Faulty b.fault) a.next b.is)
queue_agrees laws queues e items session comes comes' mid mid' (inl a) (inr (inr b)) =
    agree_never comes comes' mid mid' (λ loss x y. item_no_line queues session a.parsed comes a.session_after a.comes loss x (subst (λ (c : Step). Loses c loss) b.0 y))
queue_agrees laws queues e items session comes comes' mid mid' (inr (inl a)) (inl b) = absurd (laws.lpd_ends e.read items b.parsed (Lpd.Faulty a.fault) b.next a.is)
queue_agrees laws queues e items session comes comes' mid mid' (inr (inl a)) (inr (inl b)) = agree_at comes comes' refused mid mid' e a.comes b.comes a.after b.after
queue_agrees laws queues e items session comes comes' mid mid' (inr (inl a)) (inr (inr b)) = agree_no_memory comes comes' mid mid' (refused_usual comes a.comes) b.0
queue_agrees laws queues e items session comes comes' mid mid' (inr (inr a)) (inl b) =
    agree_never comes comes' mid mid' (λ loss x y. item_no_line queues session b.parsed comes' b.session_after b.comes loss y (subst (λ (c : Step). Loses c loss) a.0 x))
queue_agrees laws queues e items session comes comes' mid mid' (inr (inr a)) (inr (inl b)) = no_memory_agrees comes comes' mid mid' a.0 (refused_usual comes' b.comes)
queue_agrees laws queues e items session comes comes' mid mid' (inr (inr a)) (inr (inr b)) = agree_at comes comes' no_memory mid mid' e a.0 b.0 a.1 b.1

-- ---- a device

abbrev Reported : ℕ → ReportRecord → Step → Type 0
Reported device parsed comes = (it : Report) × (report_of it ≡ parsed) × (comes ≡ step.Asks (ask.Report device it) false)

hello_agrees : (name : List ℕ) (named : Option ℕ) (comes comes' : Step) (after after' : Option ℕ) (entry : Option ℕ → Entry) → StepsHello name named comes after → StepsHello name named comes' after' → Agree comes (entry after) comes' (entry after')
hello_agrees name None comes comes' after after' entry a b = agree_at comes comes' (step.Breaks (ask.UnknownDevice name)) (entry after) (entry after') (entry None) a.0 b.0 (ap entry a.1) (ap entry b.1)
hello_agrees name (Some device) comes comes' after after' entry a b = agree_at comes comes' (step.Asks (ask.Hello device name) false) (entry after) (entry after') (entry (Some device)) a.0 b.0 (ap entry a.1) (ap entry b.1)

hello_usual : (name : List ℕ) (named : Option ℕ) (comes : Step) (after : Option ℕ) → StepsHello name named comes after → (loss : Option Loss) → Loses comes loss → IsUsual loss
hello_usual name None comes after a loss x = loses_usual comes (step.Breaks (ask.UnknownDevice name)) loss a.0 x (λ loss none. inl none)
hello_usual name (Some device) comes after a loss x = loses_usual comes (step.Asks (ask.Hello device name) false) loss a.0 x (λ loss none. inl none)

reported_usual : (device : ℕ) (parsed : ReportRecord) (comes : Step) → Reported device parsed comes → (loss : Option Loss) → Loses comes loss → IsUsual loss
reported_usual device parsed comes a loss x = loses_usual comes (step.Asks (ask.Report device a.0) false) loss a.2 x (λ loss none. inl none)

device_agrees : (named : List ℕ → Option ℕ) (device : Option ℕ) (parsed : ReportRecord) (comes comes' : Step) (after after' : Option ℕ) (entry : Option ℕ → Entry) → StepsDevice named device parsed comes after → StepsDevice named device parsed comes' after' → Agree comes (entry after) comes' (entry after')
device_agrees named None (HelloReport name) comes comes' after after' entry a b = hello_agrees name (named name) comes comes' after after' entry a b
device_agrees named None parsed comes comes' after after' entry a b = absurd a
device_agrees named (Some device) parsed comes comes' after after' entry a b =
    agree_as comes comes' (step.Asks (ask.Report device a.0.0) false) (step.Asks (ask.Report device b.0.0) false) (entry after) (entry after') (entry (Some device)) a.0.2 b.0.2 (ap entry a.1) (ap entry b.1)
    (agree_asks (ask.Report device a.0.0) (ask.Report device b.0.0) false (entry (Some device)) (refl, a.0.1 ∙ sym b.0.1))

device_usual : (named : List ℕ → Option ℕ) (device : Option ℕ) (parsed : ReportRecord) (comes : Step) (after : Option ℕ) → StepsDevice named device parsed comes after → (loss : Option Loss) → Loses comes loss → IsUsual loss
device_usual named None (HelloReport name) comes after a loss x = hello_usual name (named name) comes after a loss x
device_usual named None parsed comes after a loss x = absurd a
device_usual named (Some device) parsed comes after a loss x = reported_usual device parsed comes a.0 loss x

reports_agree : Laws → (named : List ℕ → Option ℕ) (e : Entry) (reports : List ReportRecord) (device : Option ℕ) (comes comes' : Step) (mid mid' : Entry) → ReportComes named e reports device comes mid → ReportComes named e reports device comes' mid' → Agree comes mid comes' mid'
reports_agree laws named e reports device comes comes' mid mid' a b =
    let same : b.parsed ≡ a.parsed = last_one reports b.parsed a.parsed (laws.link e.read (reports ++ b.parsed ∷ []) (reports ++ a.parsed ∷ []) b.next a.next (one_longer reports b.parsed a.parsed)) in
    let there : StepsDevice named device a.parsed comes' b.device_after = subst (λ (x : ReportRecord). StepsDevice named device x comes' b.device_after) same b.comes in
    let at' : mid' ≡ with_progress (OfDevice (reports ++ a.parsed ∷ []) b.device_after) e = b.after ∙ ap (λ (x : ReportRecord). with_progress (OfDevice (reports ++ x ∷ []) b.device_after) e) same in
    subst (λ (m : Entry). Agree comes m comes' mid') (sym a.after)
    (subst (λ (m : Entry). Agree comes (with_progress (OfDevice (reports ++ a.parsed ∷ []) a.device_after) e) comes' m) (sym at')
    (device_agrees named device a.parsed comes comes' a.device_after b.device_after (λ after. with_progress (OfDevice (reports ++ a.parsed ∷ []) after) e) a.comes there))

-- a report, a fault, or no memory for a line
abbrev NextReport : (List ℕ → Option ℕ) → Entry → List ReportRecord → Option ℕ → Step → Entry → Type 0
NextReport named e reports device comes mid = ReportComes named e reports device comes mid ⊎ (FindsLinkFault e reports device comes mid ⊎ LosesLine e comes mid)

faulty_usual : (device : Option ℕ) (comes : Step) → comes ≡ faulty device → (loss : Option Loss) → Loses comes loss → IsUsual loss
faulty_usual device comes is loss x = loses_usual comes (faulty device) loss is x (λ loss none. inl none)

link_agrees : Laws → (named : List ℕ → Option ℕ) (e : Entry) (reports : List ReportRecord) (device : Option ℕ) (comes comes' : Step) (mid mid' : Entry) → NextReport named e reports device comes mid → NextReport named e reports device comes' mid' → Agree comes mid comes' mid'
link_agrees laws named e reports device comes comes' mid mid' (inl a) (inl b) = reports_agree laws named e reports device comes comes' mid mid' a b
link_agrees laws named e reports device comes comes' mid mid' (inl a) (inr (inl b)) = absurd (laws.link_ends e.read reports a.parsed (Link.Faulty b.fault) a.next b.is)
link_agrees laws named e reports device comes comes' mid mid' (inl a) (inr (inr b)) = agree_no_memory comes comes' mid mid' (device_usual named device a.parsed comes a.device_after a.comes) b.0
link_agrees laws named e reports device comes comes' mid mid' (inr (inl a)) (inl b) = absurd (laws.link_ends e.read reports b.parsed (Link.Faulty a.fault) b.next a.is)
link_agrees laws named e reports device comes comes' mid mid' (inr (inl a)) (inr (inl b)) = agree_at comes comes' (faulty device) mid mid' e a.comes b.comes a.after b.after
link_agrees laws named e reports device comes comes' mid mid' (inr (inl a)) (inr (inr b)) = agree_no_memory comes comes' mid mid' (faulty_usual device comes a.comes) b.0
link_agrees laws named e reports device comes comes' mid mid' (inr (inr a)) (inl b) = no_memory_agrees comes comes' mid mid' a.0 (device_usual named device b.parsed comes' b.device_after b.comes)
link_agrees laws named e reports device comes comes' mid mid' (inr (inr a)) (inr (inl b)) = no_memory_agrees comes comes' mid mid' a.0 (faulty_usual device comes' b.comes)
link_agrees laws named e reports device comes comes' mid mid' (inr (inr a)) (inr (inr b)) = agree_at comes comes' no_memory mid mid' e a.0 b.0 a.1 b.1

-- ---- each peer

item_steps_agree : Laws → (settings : ServerSettings) (progress : PeerRecord) (e : Entry) (comes comes' : Step) (mid mid' : Entry) (a : ItemComes settings progress e comes mid) (b : ItemComes settings progress e comes' mid')
    → part_acted_on settings progress e comes mid a ≡ part_acted_on settings progress e comes' mid' b → Agree comes mid comes' mid'
item_steps_agree laws settings (OfIpp parsed closes body) e comes comes' mid mid' a b parts = ipp_agrees laws e parsed closes body comes comes' mid mid' a b parts
item_steps_agree laws settings (OfLpd items session) e comes comes' mid mid' a b parts = queue_agrees laws (is_queue settings) e items session comes comes' mid mid' a b
item_steps_agree laws settings (OfDevice reports device) e comes comes' mid mid' a b parts = link_agrees laws (device_named settings) e reports device comes comes' mid mid' a b

pub asks_one : Laws → (settings : ServerSettings) (e : Entry) (what parsed : Ask) (new after : Entry) (one : AsksNext settings what e new) (other : AsksNext settings parsed e after)
    → part_of one ≡ part_of other → lost_of what ≡ lost_of parsed → SameAsk what parsed × (new ≡ after)
asks_one laws settings e what parsed new after one other parts lost =
    item_steps_agree laws settings e.progress e one.comes other.comes one.mid other.mid one.takes_item other.takes_item parts what parsed new after one.steps other.steps lost
