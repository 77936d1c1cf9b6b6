use Rattle.std.proofs.Common.{◌≡◌, codes, rules, arith}
use Rattle.std.proofs.lemmas.Slice.Eq.{text_from_reads}
use Rattle.script.specs.Grammar.{is, statement_as}
use Rattle.script.proofs.read.statement_from.Goals as goal

pub returns-in-collar : goal.returns-in-collar
unfolding is statement_as
returns-in-collar c =
    let word : c.args.word.now ≡ codes "collar" = text_from_reads _ _ (omega arith) (search rules) in
    rw word c.collar.ensures
