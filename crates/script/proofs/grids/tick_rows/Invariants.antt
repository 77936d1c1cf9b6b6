use Rattle.std.proofs.Common.{◌≡◌, [], length, vec_items}
use Rattle.script.specs.Grammar.{rows_here}
use Rattle.script.proofs.grids.tick_rows.Given as goal

abbrev pub invariant-loop-rows : goal.invariant-loop-rows
invariant-loop-rows l = rows_here (vec_items l.rows) l.words ≡ rows_here [] l.initial.words

abbrev pub decreases-loop-rows : goal.decreases-loop-rows
decreases-loop-rows l = length l.words.words
