use Rattle.std.proofs.Common.{Ok, Err, refl}
use Rattle.ipp_codec.proofs.Once.{limited_only, limited_found, limited_fault}
use Rattle.ipp_codec.proofs.head.head_length.Goals as goal

pub returns-in-Ok-clause-found : goal.returns-in-Ok-clause-found
returns-in-Ok-clause-found c = limited_found c.args.bytes.now c.min.result c.in-Ok.length c.min.ensures c.in-Ok.ensures

pub returns-in-Ok-clause-only : goal.returns-in-Ok-clause-only
returns-in-Ok-clause-only c = limited_only c.args.bytes.now c.min.result (Ok c.in-Ok.length) c.min.ensures c.in-Ok.ensures

pub returns-in-Err-clause-only : goal.returns-in-Err-clause-only
returns-in-Err-clause-only c = limited_only c.args.bytes.now c.min.result (Err c.in-Err.fault) c.min.ensures c.in-Err.ensures

pub returns-in-Err-clause-fault : goal.returns-in-Err-clause-fault
returns-in-Err-clause-fault c = rw c.limited_fault.ensures (limited_fault c.args.bytes.now c.min.result c.in-Err.fault _ c.min.ensures refl c.in-Err.ensures)
