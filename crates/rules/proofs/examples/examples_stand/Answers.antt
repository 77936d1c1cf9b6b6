use Rattle.std.proofs.Common.{refl}
use Rattle.rules.proofs.Tabled.{rows_right}
use Rattle.rules.proofs.examples.examples_stand.Goals as goal

pub returns : goal.returns
returns c = record { nought = refl; rows = rows_right }
