use Rattle.std.proofs.Common.{◌∙◌, Option, ℕ, ap, length, nat_lt, unwrap_or}
use Rattle.traces.specs.declared.peers.Connection.{Connection}
use Rattle.traces.proofs.Places.{place_or_end}
use Rattle.traces.proofs.peers.place_of.Goals as goal

pub returns-clause-place : goal.returns-clause-place
returns-clause-place c =
    c.unwrap_or.ensures
    ∙ (ap (λ (o : Option ℕ). unwrap_or o (length c.args.connections.now)) c.first_above.ensures ∙ place_or_end (λ (other : Connection). nat_lt c.args.number other.number) c.args.connections.now)
