-- What a line says, by its words.
use Rattle.std.specs.Prelude.{◌≡◌, ℕ, ◌+◌, Bool, false, cond, ◌⊎◌, List, [], ◌∷◌, ◌++◌, Some, None, Ok, Err, vec_items, codes, Option, Result, Vec, ◌==◌}
use Rattle.std.specs.declared.alloc.Global.{Global}
use Rattle.std.specs.Str.{bytes_eq}
use Rattle.ticks.specs.declared.row.TickRow.{TickRow}
use Rattle.script.specs.declared.statement.CollarWords.TheVariants.{Plain, AroundStatic}
use Rattle.script.specs.declared.statement.OrderPrice.{OrderPrice}
use Rattle.script.specs.declared.statement.OrderPrice.TheVariants.{Limit, Market}
use Rattle.script.specs.declared.statement.PlainCollar.{PlainCollar}
use Rattle.script.specs.declared.statement.PlainCollar.TheVariants.{Unlimited, FixedBand, AroundLast}
use Rattle.script.specs.declared.statement.ScriptFault.{ScriptFault}
use Rattle.script.specs.declared.statement.ScriptFault.TheVariants.{UnknownWord, MissingWord, ExpectedNumber, UnexpectedWord, ExtraWord, NoMemory}
use Rattle.rules.specs.declared.order.Side.{Side}
use Rattle.rules.specs.declared.order.Side.TheVariants.{Buy, Sell}
use Rattle.script.specs.declared.statement.Statement.{Statement}
use Rattle.script.specs.declared.statement.Statement.TheVariants.{Blank, GridEven, GridTable, GridDecade, Collar, Static, Last, Order, Open}
use Rattle.script.specs.Numbers.{number_of}
use Rattle.script.specs.Words.{Left}

-- a part of a statement that was read, and what is left after it
abbrev pub Part : Type 0 → Type 0
Part X = Result (X × Left) ScriptFault

abbrev pub leaving : {X : Type 0} → Left → Result X ScriptFault → Part X
leaving l (Ok x) = Ok (x, l)
leaving l (Err f) = Err f

-- the first fault is the one that is told
abbrev pub and_then : {X Y : Type 0} → Part X → (X → Left → Result Y ScriptFault) → Result Y ScriptFault
and_then (Ok p) next = next p.0 p.1
and_then (Err f) next = Err f

-- a word is this text
unfoldable pub is : List ℕ → List ℕ → Bool
is w text = bytes_eq w text

-- a word has to stand here
abbrev pub word_after : ℕ → List (List ℕ) → Part (List ℕ)
word_after n [] = Err (MissingWord (n + 1))
word_after n (w ∷ ws) = Ok (w, record { read = n + 1; words = ws })

unfoldable pub word_here : Left → Part (List ℕ)
word_here l = word_after l.read l.words

-- the word at a place has to be a number
abbrev pub number_at : ℕ → Option ℕ → Result ℕ ScriptFault
number_at n None = Err (ExpectedNumber n)
number_at n (Some x) = Ok x

-- a number has to stand here
unfoldable pub number_here : Left → Part ℕ
number_here l = and_then (word_here l) (λ w m. leaving m (number_at m.read (number_of w)))

abbrev pub end_after : {X : Type 0} → X → ℕ → List (List ℕ) → Result X ScriptFault
end_after x n [] = Ok x
end_after x n (w ∷ ws) = Err (ExtraWord (n + 1))

-- no more words may stand here
unfoldable pub end_here : {X : Type 0} → X → Left → Result X ScriptFault
end_here x l = end_after x l.read l.words

-- FIRST STEP LAST
unfoldable pub even : Left → Result Statement ScriptFault
even l =
    and_then (number_here l) (λ first l.
    and_then (number_here l) (λ step l.
    and_then (number_here l) (λ last l.
    end_here (GridEven first step last) l)))

abbrev pub row : ℕ → ℕ → TickRow
row start step = record { start = start; step = step }

-- START STEP | end
unfoldable pub row_here : Left → Part (Option TickRow)
row_here l =
    and_then (word_here l) (λ w l.
    cond (is w (codes "end")) (Ok (None, l))
    (and_then (leaving l (number_at l.read (number_of w))) (λ start l.
    and_then (number_here l) (λ step l.
    Ok (Some (row start step), l)))))

-- [START STEP ..] end, after the rows read before and n words
unfoldable pub rows_after : List TickRow → ℕ → List (List ℕ) → Part (List TickRow)
rows_after rows n [] = Err (MissingWord (n + 1))
rows_after rows n (w ∷ []) =
    cond (is w (codes "end")) (Ok (rows, record { read = n + 1; words = [] }))
    (and_then (leaving (record { read = n + 1; words = [] }) (number_at (n + 1) (number_of w))) (λ start l.
    Err (MissingWord (n + 1 + 1))))
rows_after rows n (w ∷ v ∷ ws) =
    cond (is w (codes "end")) (Ok (rows, record { read = n + 1; words = v ∷ ws }))
    (and_then (leaving (record { read = n + 1; words = v ∷ ws }) (number_at (n + 1) (number_of w))) (λ start l.
    and_then (leaving (record { read = n + 1 + 1; words = ws }) (number_at (n + 1 + 1) (number_of v))) (λ step l.
    rows_after (rows ++ row start step ∷ []) (n + 1 + 1) ws)))

unfoldable pub rows_here : List TickRow → Left → Part (List TickRow)
rows_here rows l = rows_after rows l.read l.words

-- [START STEP ..] end PRICE
unfoldable pub tick_table : Left → Result (List TickRow × ℕ) ScriptFault
tick_table l =
    and_then (rows_here [] l) (λ rows l.
    and_then (number_here l) (λ end l.
    end_here (rows, end) l))

-- none | band LOW HIGH | last K, of which w is the first word
unfoldable pub plain_collar : List ℕ → Left → Part PlainCollar
plain_collar w l =
    cond (is w (codes "none")) (Ok (Unlimited, l))
    (cond (is w (codes "band")) (and_then (number_here l) (λ low l. and_then (number_here l) (λ high l. Ok (FixedBand low high, l))))
    (cond (is w (codes "last")) (and_then (number_here l) (λ k l. Ok (AroundLast k, l)))
    (Err (UnexpectedWord l.read))))

-- K over (none | band LOW HIGH | last K)
unfoldable pub around_static : Left → Result Statement ScriptFault
around_static l =
    and_then (number_here l) (λ k l.
    and_then (word_here l) (λ w l.
    cond (is w (codes "over"))
    (and_then (word_here l) (λ w l. and_then (plain_collar w l) (λ over l. end_here (Collar (AroundStatic k over)) l)))
    (Err (UnexpectedWord l.read))))

-- none | band LOW HIGH | last K | static K over ..
unfoldable pub collar : Left → Result Statement ScriptFault
collar l =
    and_then (word_here l) (λ w l.
    cond (is w (codes "static")) (around_static l)
    (and_then (plain_collar w l) (λ plain l. end_here (Collar (Plain plain)) l)))

-- at LIMIT | market
unfoldable pub order_price : Left → Part OrderPrice
order_price l =
    and_then (word_here l) (λ w l.
    cond (is w (codes "at")) (and_then (number_here l) (λ limit l. Ok (Limit limit, l)))
    (cond (is w (codes "market")) (Ok (Market, l))
    (Err (UnexpectedWord l.read))))

-- QUANTITY at LIMIT | QUANTITY market
unfoldable pub order : Side → Left → Result Statement ScriptFault
order side l =
    and_then (number_here l) (λ quantity l.
    and_then (order_price l) (λ price l.
    end_here (Order side quantity price) l))

-- PRICE
unfoldable pub one_price : (ℕ → Statement) → Left → Result Statement ScriptFault
one_price says l = and_then (number_here l) (λ p l. end_here (says p) l)

-- what a line says: a tick table, whose rows want memory, or anything else
pub data Reading : Type 0 where
  plain : Result Statement ScriptFault → Reading
  table : Result (List TickRow × ℕ) ScriptFault → Reading

-- even FIRST STEP LAST | table .. | decade
abbrev pub grid_as : List ℕ → Left → Reading
grid_as w l =
    cond (is w (codes "even")) (plain (even l))
    (cond (is w (codes "table")) (table (tick_table l))
    (cond (is w (codes "decade")) (plain (end_here GridDecade l))
    (plain (Err (UnexpectedWord l.read)))))

unfoldable pub grid_of : Part (List ℕ) → Reading
grid_of (Ok p) = grid_as p.0 p.1
grid_of (Err f) = plain (Err f)

abbrev pub is_comment : List ℕ → Bool
is_comment [] = false
is_comment (b ∷ bs) = b == 35

-- static PRICE | last PRICE | buy .. | sell .. | open, of which w is the first word
unfoldable pub price_or_order : List ℕ → Left → Reading
price_or_order w l =
    cond (is w (codes "static")) (plain (one_price Static l))
    (cond (is w (codes "last")) (plain (one_price Last l))
    (cond (is w (codes "buy")) (plain (order Buy l))
    (cond (is w (codes "sell")) (plain (order Sell l))
    (cond (is w (codes "open")) (plain (end_here Open l))
    (plain (Err (UnknownWord l.read)))))))

-- the statement whose first word is w
unfoldable pub statement_as : List ℕ → Left → Reading
statement_as w l =
    cond (is_comment w) (plain (Ok Blank))
    (cond (is w (codes "grid")) (grid_of (word_here l))
    (cond (is w (codes "collar")) (plain (collar l))
    (price_or_order w l)))

-- what the words of a line say
abbrev pub statement_of : List (List ℕ) → Reading
statement_of [] = plain (Ok Blank)
statement_of (w ∷ ws) = statement_as w (record { read = 1; words = ws })

-- r is a table of these rows up to this end price, or their fault
abbrev pub TableIs : Result (List TickRow × ℕ) ScriptFault → Result Statement ScriptFault → Type 0
TableIs (Ok t) r = (v : Vec TickRow Global) × (r ≡ Ok (GridTable v t.1)) × (vec_items v ≡ t.0)
TableIs (Err f) r = r ≡ Err f

-- r is what a line says; only a table may find no memory
abbrev pub Says : Reading → Result Statement ScriptFault → Type 0
Says (plain s) r = r ≡ s
Says (table t) r = (r ≡ Err NoMemory) ⊎ TableIs t r
