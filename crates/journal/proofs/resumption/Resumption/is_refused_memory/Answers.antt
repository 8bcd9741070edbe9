use Rattle.std.proofs.Common.{refl, ap}
use Rattle.journal.proofs.RecordingWire.{turns_as}
use Rattle.journal.proofs.resumption.Resumption.is_refused_memory.Goals as goal

pub returns-then-self : goal.returns-then-self
returns-then-self c = record {
  turns = turns_as _ _ _ _ _ _ c.turn_paused.ensures (λ w. w.0.notes) (λ x poll y moved. moved.0.1) (λ x note y moved. ap (λ w. w.notes) moved.1) (λ x choice y moved. moved);
  same = refl;
}

pub returns-then-witness : goal.returns-then-witness
returns-then-witness c = record {
  turns = turns_as _ _ _ _ _ _ c.turn.ensures (λ w. w.0.notes) (λ x poll y moved. moved.0.1) (λ x note y moved. ap (λ w. w.notes) moved.1) (λ x choice y moved. moved);
  same = refl;
}

pub returns-else-witness : goal.returns-else-witness
returns-else-witness c = record {
  turns = turns_as _ _ _ _ _ _ c.turn.ensures (λ w. w.0.notes) (λ x poll y moved. moved.0.1) (λ x note y moved. ap (λ w. w.notes) moved.1) (λ x choice y moved. moved);
  same = refl;
}
