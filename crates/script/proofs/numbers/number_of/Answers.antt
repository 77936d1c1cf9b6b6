use Rattle.std.proofs.Common.{sym, arith}
use Rattle.std.proofs.lemmas.Grind.{common_steps}
use Rattle.script.proofs.Digits.{digit}
use Rattle.script.proofs.numbers.number_of.Goals as goal

pub loop-b-preserved : goal.loop-b-preserved
loop-b-preserved c =
    (grind (arith, common_steps), digit c.args.word.now c.loop-b.b-index c.loop-b.n _ c.loop-b.invariant.1 _ c.loop-b-test.true (sym c.if-not-is_ascii_digit.ensures.value) (grind (arith, common_steps)))
