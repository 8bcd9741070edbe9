use Rattle.std.proofs.Common.{◌∙◌, inl}
use Rattle.std.proofs.lemmas.Result.{IfOk-weaker, on_err_weaker}
use Rattle.settings_file.specs.Fault.{fault_of}
use Rattle.replay.proofs.Refusals.{settings_give_fault, settings_give, settings_leave}
use Rattle.replay.proofs.run.run_lines.Goals as goal

pub returns-in-Ok : goal.returns-in-Ok
returns-in-Ok c =
    let start = c.in-Ok.ensures.ok in record {
      ok = IfOk-weaker c.play_lines.result _ _ (λ status all. settings_give _ c.args.settings.now c.args.lines.now c.args.before c.in-Ok.play c.args.output.now.items _ status start.0 start.1 start.2 start.3 c.requires.empty all) c.play_lines.ensures.ok;
      err = on_err_weaker c.play_lines.result (λ all. settings_leave _ c.args.settings.now c.args.lines.now c.args.before c.in-Ok.play c.args.output.now.items _ start.1 start.2 start.3 c.requires.empty all) c.play_lines.ensures.err;
    }

pub returns-in-Err : goal.returns-in-Err
returns-in-Err c = record {
  ok = IfOk-weaker c.refuse_settings.result _ _ (λ status h. settings_give_fault c.args.texts c.args.settings.now c.args.lines.now c.args.before (fault_of c.in-Err.fault) h.1 c.args.output.now.items c.refuse_settings.new.output.items status c.in-Err.ensures.err h.2 c.requires.empty h.3 h.0) c.refuse_settings.ensures.ok;
  err = on_err_weaker c.refuse_settings.result (λ same. inl (same ∙ c.requires.empty)) c.refuse_settings.ensures.err;
}
