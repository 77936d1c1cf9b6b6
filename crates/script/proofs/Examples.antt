-- Lines and what they say.
use Rattle.std.proofs.Common.{◌≡◌, ℕ, List, [], ◌∷◌, ◌++◌, Ok, Err, codes, refl}
use Rattle.script.specs.declared.statement.CollarWords.TheVariants.{AroundStatic}
use Rattle.script.specs.declared.statement.OrderPrice.TheVariants.{Limit, Market}
use Rattle.script.specs.declared.statement.PlainCollar.TheVariants.{FixedBand}
use Rattle.script.specs.declared.statement.ScriptFault.TheVariants.{UnknownWord, MissingWord, ExpectedNumber, UnexpectedWord, ExtraWord}
use Rattle.rules.specs.declared.order.Side.TheVariants.{Buy, Sell}
use Rattle.script.specs.declared.statement.Statement.TheVariants.{Blank, Collar, Order}
use Rattle.script.specs.Grammar.{Reading, plain, table, row, statement_of, is, word_here, number_here, end_here, even, row_here, rows_after, rows_here, tick_table, plain_collar, around_static, collar, order_price, order, one_price, grid_of, price_or_order, statement_as}
use Rattle.script.specs.Numbers.{digits_after}
use Rattle.script.specs.Words.{is_gap, words_of}

abbrev says : List ℕ → Reading
says line = statement_of (words_of line)

examples :
    (says (codes " ") ≡ plain (Ok Blank))
    × (says (codes "#buy") ≡ plain (Ok Blank))
    × (says (codes "buy 100 at 0250 ") ≡ plain (Ok (Order Buy 100 (Limit 250))))
    × (says (codes "  sell 4294967295   market" ++ 13 ∷ []) ≡ plain (Ok (Order Sell 4294967295 Market)))
    × (says (codes "sell 4294967296 market") ≡ plain (Err (ExpectedNumber 2)))
    × (says (codes "sell 1 for 2") ≡ plain (Err (UnexpectedWord 3)))
    × (says (codes "buy 1 at") ≡ plain (Err (MissingWord 4)))
    × (says (codes "open now") ≡ plain (Err (ExtraWord 2)))
    × (says (codes "opens") ≡ plain (Err (UnknownWord 1)))
    × (says (codes "collar static 30 over band 5 90") ≡ plain (Ok (Collar (AroundStatic 30 (FixedBand 5 90)))))
    × (says (codes "grid table 1 2 10 5 end 99") ≡ table (Ok (row 1 2 ∷ row 10 5 ∷ [], 99)))
    × (says (codes "grid table end 99") ≡ table (Ok ([], 99)))
    × (says (codes "grid table 1 end 99") ≡ table (Err (ExpectedNumber 4)))
    × (says (codes "grid table 1 2") ≡ table (Err (MissingWord 5)))
unfolding is_gap words_of digits_after is word_here number_here end_here even row_here rows_after rows_here tick_table plain_collar around_static collar order_price order one_price grid_of price_or_order statement_as
examples = (refl, refl, refl, refl, refl, refl, refl, refl, refl, refl, refl, refl, refl, refl)
