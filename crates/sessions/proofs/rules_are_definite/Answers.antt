use Rattle.std.proofs.Common.{refl}
use Rattle.sessions.proofs.Definite.{checks_in_order, one_answer, some_answer}
use Rattle.sessions.proofs.rules_are_definite.Goals as goal

pub returns : goal.returns
returns c = record { nought = refl; order = checks_in_order; one = one_answer; some = some_answer }
