use Rattle.std.proofs.Common.{refl, subst}
use Rattle.spool.specs.Jobs.{SpoolRecord}
use Rattle.spool.specs.Spool.{IsSpool}
use Rattle.print_room.specs.State.{State}
use Rattle.print_room.proofs.DocumentsStay.{submits_keep, sends_keep, changes_keep, cancels_keep, removes_keep, expires_keep, reports_keep}
use Rattle.print_room.proofs.JobsCanBegin.{dispatches_keep}
use Rattle.print_room.proofs.room.PrintRoom.documents_stay.Goals as goal

pub returns : goal.returns
returns c =
    let s : State = c.args.self.now in
    let agree = c.devices-devices.ensures.kept.agree in
    let spool : IsSpool s.spool = subst (λ (x : SpoolRecord). IsSpool x) c.spool.ensures c.jobs-jobs.ensures.kept in
    record {
      submits = λ now job incoming. submits_keep now job incoming s agree;
      sends = λ now id name document last free. sends_keep now id name document last s spool agree free;
      changes = λ now id change. changes_keep now id change s agree;
      cancels = λ now id name. cancels_keep now id name s agree;
      removes = λ now name ids. removes_keep now name ids s agree;
      pauses = λ now place paused. (λ k id has. (has, refl));
      expires = λ now. expires_keep now s agree;
      reports = λ now place report documents new is. reports_keep now place report s documents new agree is;
      dispatches = λ now plan started new is. dispatches_keep now s plan started new spool agree is;
    }
