use Rattle.std.proofs.Common.{refl}
use Rattle.sessions.proofs.Sessions.{every_session}
use Rattle.sessions.proofs.sessions_keep_laws.Goals as goal

pub returns : goal.returns
returns c = record { nought = refl; laws = every_session }
