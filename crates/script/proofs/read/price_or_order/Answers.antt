use Rattle.std.proofs.Common.{◌≡◌, codes, rules, arith}
use Rattle.std.proofs.lemmas.Slice.Eq.{text_from_reads}
use Rattle.script.specs.Grammar.{is, price_or_order}
use Rattle.script.specs.declared.statement.Statement.TheVariants.{Static}
use Rattle.script.proofs.read.price_or_order.Goals as goal

pub returns-in-static : goal.returns-in-static
unfolding is price_or_order
returns-in-static c =
    let word : c.args.word.now ≡ codes "static" = text_from_reads _ _ (omega arith) (search rules) in
    rw word (c.one_price-in-static.ensures Static (λ p s small says. search rules))
