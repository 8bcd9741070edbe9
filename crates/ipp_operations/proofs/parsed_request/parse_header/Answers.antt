use Rattle.std.proofs.Common.{Result, Err, subst, sym, ap, ◌∙◌}
use Rattle.ipp_codec.specs.Views.{message_shown}
use Rattle.events.specs.declared.event.Event.{Event}
use Rattle.events.specs.declared.status.Status.{Status}
use Rattle.ipp_operations.specs.ParsedRequest.{header_of, answered, Requests}
use Rattle.ipp_operations.specs.Reader.{AsksOf}
use Rattle.ipp_operations.proofs.BodyInParts.{asks_under, asks_none, asks_short, asks_answered, found_requests, fault_requests}
use Rattle.ipp_operations.proofs.parsed_request.parse_header.Goals as goal

pub returns-in_default-clause-asked : goal.returns-in_default-clause-asked
returns-in_default-clause-asked c = asks_short c.args.decoder.now c.args.document.now (ap header_of (sym c.head.ensures) ∙ sym c.header_of.ensures ∙ c.in_default.is)

pub returns-in-Err-clause-asked : goal.returns-in-Err-clause-asked
returns-in-Err-clause-asked c =
    asks_under c.args.decoder.now c.args.document.now c.in-Some.header _ (ap header_of (sym c.head.ensures) ∙ sym c.header_of.ensures ∙ c.in-Some.is)
    (asks_none c.args.decoder.now c.args.document.now c.in-Some.header c.in-Err.status (sym c.operation_of.ensures ∙ c.in-Err.is))

pub returns-in-Err-finish-clause-asked : goal.returns-in-Err-finish-clause-asked
returns-in-Err-finish-clause-asked c =
    asks_answered c.args.decoder.now c.args.document.now c.in-Some.header c.in-Ok.operation (Err c.status_of.result) (ap header_of (sym c.head.ensures) ∙ sym c.header_of.ensures ∙ c.in-Some.is) (sym c.operation_of.ensures ∙ c.in-Ok.is)
    (λ bytes reaches holds. subst (λ (s : Status). Requests c.in-Ok.operation bytes (Err s)) (sym c.status_of.ensures) (fault_requests c.in-Ok.operation c.in-Err-finish.fault bytes ((c.in-Err-finish.ensures {u = tt}).decoded bytes reaches)))

pub returns-in-Ok-2-clause-asked : goal.returns-in-Ok-2-clause-asked
returns-in-Ok-2-clause-asked c =
    let found = c.in-Ok-finish.ensures {u = tt} in
    subst (λ (r : Result Event Status). AsksOf c.args.decoder.now c.args.document.now (answered c.in-Some.header.request_id r)) c.in-Ok-2.is
    (asks_answered c.args.decoder.now c.args.document.now c.in-Some.header c.in-Ok.operation c.in_ok-event.field-0 (ap header_of (sym c.head.ensures) ∙ sym c.header_of.ensures ∙ c.in-Some.is) (sym c.operation_of.ensures ∙ c.in-Ok.is)
    (λ bytes reaches holds. found_requests c.in-Ok.operation (message_shown c.in-Ok-finish.message) c.in-Ok-finish.field-0-1 bytes c.args.document.now c.args.decoder.now c.in_ok-event.field-0 (found.decoded bytes reaches) found.length found.whole holds ((c.in_ok-event.ensures {u = tt}).event)))

pub returns-in-Err-2-clause-asked : goal.returns-in-Err-2-clause-asked
returns-in-Err-2-clause-asked c =
    let found = c.in-Ok-finish.ensures {u = tt} in
    subst (λ (r : Result Event Status). AsksOf c.args.decoder.now c.args.document.now (answered c.in-Some.header.request_id r)) c.in-Err-2.is
    (asks_answered c.args.decoder.now c.args.document.now c.in-Some.header c.in-Ok.operation c.in_ok-event.field-0 (ap header_of (sym c.head.ensures) ∙ sym c.header_of.ensures ∙ c.in-Some.is) (sym c.operation_of.ensures ∙ c.in-Ok.is)
    (λ bytes reaches holds. found_requests c.in-Ok.operation (message_shown c.in-Ok-finish.message) c.in-Ok-finish.field-0-1 bytes c.args.document.now c.args.decoder.now c.in_ok-event.field-0 (found.decoded bytes reaches) found.length found.whole holds ((c.in_ok-event.ensures {u = tt}).event)))

pub event_of-requires : goal.event_of-requires
event_of-requires c = ((c.in-Ok-finish.ensures {u = tt}).decoded c.requires.0 c.requires.1).2.0
