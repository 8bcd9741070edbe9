use Rattle.server.proofs.LastWords.{status_kept, status_owed, refusal_owed, continue_owed, byte_kept, byte_owed}
use Rattle.server.proofs.law.last_words_are_kept.Goals as goal

pub returns-clause-status : goal.returns-clause-status
returns-clause-status c closes status request = status_kept closes status request

pub returns-clause-own_status : goal.returns-clause-own_status
returns-clause-own_status c closes status request = status_owed closes status request

pub returns-clause-refusal : goal.returns-clause-refusal
returns-clause-refusal c refusal = refusal_owed refusal

pub returns-clause-going_on : goal.returns-clause-going_on
returns-clause-going_on c = continue_owed

pub returns-clause-byte : goal.returns-clause-byte
returns-clause-byte c byte = byte_kept byte

pub returns-clause-own_byte : goal.returns-clause-own_byte
returns-clause-own_byte c byte = byte_owed byte
