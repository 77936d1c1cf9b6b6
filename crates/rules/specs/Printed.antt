-- The printed line of an outcome: P price volume, N, or F price.
use Rattle.std.specs.Prelude.{ℕ, List, ◌++◌, codes, decimal}
use Rattle.rules.specs.declared.opening.Opening.{Opening}
use Rattle.rules.specs.declared.opening.Opening.TheVariants.{NoPrice, Printed, RefusedByCollar}

abbrev pub outcome_line : Opening → List ℕ
outcome_line NoPrice = codes "N"
outcome_line (Printed price volume) = codes "P " ++ (decimal price ++ (codes " " ++ decimal volume))
outcome_line (RefusedByCollar price) = codes "F " ++ decimal price
