-- The rows of a tick table, one turn at a time.
use Rattle.std.proofs.Common.{◌≡◌, ℕ, ◌<◌, List, [], ◌∷◌, ◌++◌, length, Some, None, Ok, vec_items, Option, Result, Vec, refl, arith}
use Rattle.std.specs.declared.alloc.Global.{Global}
use Rattle.ticks.specs.declared.row.TickRow.{TickRow}
use Rattle.script.specs.declared.statement.ScriptFault.{ScriptFault}
use Rattle.script.specs.declared.statement.Statement.{Statement}
use Rattle.script.specs.declared.statement.Statement.TheVariants.{GridTable}
use Rattle.script.specs.Grammar.{Part, and_then, word_here, number_here, end_here, row_here, rows_after, rows_here, tick_table, TableIs}
use Rattle.script.specs.Words.{Left}

-- what a row makes of the rows before it
abbrev pub turn : List TickRow → Option TickRow → Left → Part (List TickRow)
turn rows None m = Ok (rows, m)
turn rows (Some r) m = rows_here (rows ++ r ∷ []) m

pub turns : (rows : List TickRow) (l : Left) → rows_here rows l ≡ and_then (row_here l) (turn rows)
unfolding rows_here rows_after row_here word_here number_here
turns rows l = go l.read l.words
  where
    go : (n : ℕ) (ws : List (List ℕ)) → rows_after rows n ws ≡ and_then (row_here (record { read = n; words = ws })) (turn rows)
    go n [] = refl
    go n (w ∷ []) = grind arith
    go n (w ∷ v ∷ ws) = grind arith

-- a row takes a word at least
pub row_less : (l m : Left) (r : Option TickRow) → row_here l ≡ Ok (r, m) → length m.words < length l.words
unfolding row_here word_here number_here
row_less l m r e = go l.read l.words e
  where
    go : (n : ℕ) (ws : List (List ℕ)) → row_here (record { read = n; words = ws }) ≡ Ok (r, m) → length m.words < length ws
    go n [] e = cc
    go n (w ∷ []) e = grind arith
    go n (w ∷ v ∷ ws) e = grind arith

-- a table ends after its end price
pub table_is : (l m k : Left) (v : Vec TickRow Global) (end : ℕ) (r : Result Statement ScriptFault) → rows_here [] l ≡ Ok (vec_items v, m) → number_here m ≡ Ok (end, k) → r ≡ end_here (GridTable v end) k → TableIs (tick_table l) r
unfolding end_here tick_table
table_is l m k v end r e n h = rw (e, n) (go k.read k.words h)
  where
    go : (n : ℕ) (ws : List (List ℕ)) → r ≡ end_here (GridTable v end) (record { read = n; words = ws }) → TableIs (end_here (vec_items v, end) (record { read = n; words = ws })) r
    go n [] h = (v, h, refl)
    go n (w ∷ ws) h = h
