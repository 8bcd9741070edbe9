use Rattle.http_front.proofs.WrittenRequest.{length_parses, chunks_say}
use Rattle.http_front.proofs.law.written_is_parsed.Goals as goal

pub returns-clause-length : goal.returns-clause-length
returns-clause-length c = length_parses

pub returns-clause-chunks : goal.returns-clause-chunks
returns-clause-chunks c = chunks_say
