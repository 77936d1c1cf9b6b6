use Rattle.std.proofs.Common.{◌<◌, length, sym, arith}
use Rattle.std.proofs.lemmas.Bool.{eqb-false}
use Rattle.script.proofs.Cuts.{long}
use Rattle.script.proofs.cursor.WordsIterator.next.Goals as goal

pub invariant_of-self : goal.invariant_of-self
invariant_of-self c =
    let some : 0 < length c.split_at.result.1.now = omega (arith, eqb-false _ 0 (sym c.if-is_empty.ensures)) in
    omega (arith, long _ _ _ c.gap_len.ensures c.split_at.ensures.back some _ c.word_len.ensures)
