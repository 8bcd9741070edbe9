use Rattle.ipp_operations.proofs.BodyInParts.{read_nothing}
use Rattle.ipp_operations.proofs.request_parser.RequestParser.new.Goals as goal

pub returns : goal.returns
returns c = read_nothing c.new.result c.new-2.result c.new.ensures c.new-2.ensures
