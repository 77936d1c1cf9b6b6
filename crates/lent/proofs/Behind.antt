-- What lies behind a place of a table, and which stops a desk has.
use Rattle.std.proofs.Common.{◌≡◌, ℕ, ◌+◌, ◌-◌, ◌≤◌, List, drop, sym, ap, ◌∙◌, subst, arith}
use Rattle.std.proofs.lemmas.List.{drop-drop}
use Rattle.trading.specs.Sweeps.{Moved}
use Rattle.trading.specs.Desks.{Desk}
use Rattle.lent.specs.Contents.{Page, beside}
use Rattle.lent.specs.Moves.{Comes}

-- what lies past a place lies past a later one
pub past_later : {X : Type 0} (xs ys : List X) (m n : ℕ) → m ≤ n → drop m xs ≡ drop m ys → drop n xs ≡ drop n ys
past_later xs ys m n le e =
    let k : m + (n - m) ≡ n = omega arith in
    ap (λ j. drop j xs) (sym k) ∙ sym (drop-drop (n - m) m xs) ∙ ap (drop (n - m)) e ∙ drop-drop (n - m) m ys ∙ ap (λ j. drop j ys) k

-- what has come about beside the stops of the desk has come about on it, where the table of stops stays
pub own_stops : {n : ℕ} {m : Moved} {d d' : Desk} {p p' : Page} → d'.stops ≡ d.stops → Comes n m d p (beside d' d.stops) p' → Comes n m d p d' p'
own_stops {n} {m} {d} {d'} {p} {p'} same = subst (λ stops. Comes n m d p (beside d' stops) p') (sym same)
