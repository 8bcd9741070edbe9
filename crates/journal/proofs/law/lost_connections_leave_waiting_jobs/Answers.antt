use Rattle.journal.proofs.Lost.{waiting_stay}
use Rattle.journal.proofs.law.lost_connections_leave_waiting_jobs.Goals as goal

pub returns : goal.returns
returns c moment old new hs turn whole lost none = waiting_stay moment old new hs turn whole lost none
