-- In well-formed queues those who accept a price stand in front.
use Rattle.std.proofs.Common.{◌≡◌, ℕ, Bool, true, false, not, ◌||◌, eqb, leb, List, [], ◌∷◌, arith}
use Rattle.std.specs.List.{AllByRecursion}
use Rattle.std.proofs.lemmas.Bool.{and_parts}
use Rattle.std.proofs.lemmas.Bool.Decides.{nat_tests}
use Rattle.rules.specs.declared.order.Order.{Order}
use Rattle.rules.specs.declared.order.Side.{Side}
use Rattle.rules.specs.declared.order.Side.TheVariants.{Buy, Sell}
use Rattle.rules.specs.Accepts.{accepts_buying, accepts_selling}
use Rattle.trading.specs.Books.{Book}
use Rattle.trading.specs.Desks.{queues_fit}
use Rattle.trading.specs.Queues.{all_pass, in_order, not_ahead, limit_ahead, order_ahead}
use Rattle.trading.specs.Ranges.{same_side, order_fits}
use Rattle.uncrossing.specs.Fronts.{Fronted, InFront}

-- ---- two neighbours of one side

buy_behind : (q a b : ℕ) → limit_ahead Buy Buy b a ≡ false → (eqb a 0 || leb q a) ≡ false → (eqb b 0 || leb q b) ≡ false
buy_behind q a b h k = grind (arith, nat_tests)

sell_behind : (q a b : ℕ) → limit_ahead Sell Sell b a ≡ false → (eqb a 0 || leb a q) ≡ false → (eqb b 0 || leb b q) ≡ false
sell_behind q a b h k = grind (arith, nat_tests)

-- an order y behind x on a side, not ahead of it, does not accept where x does not
abbrev Behind : Side → (Order → Bool) → Type 0
Behind side accepts = (x y : Order) → limit_ahead side side y.limit x.limit ≡ false → accepts x ≡ false → accepts y ≡ false

ahead_on : (side s t : Side) (a b : ℕ) → same_side s side ≡ true → same_side t side ≡ true → not (limit_ahead s t a b) ≡ true → limit_ahead side side a b ≡ false
ahead_on Buy Buy Buy a b e f h = grind (arith, nat_tests)
ahead_on Sell Sell Sell a b e f h = grind (arith, nat_tests)
ahead_on Buy Buy Sell a b e f h = grind (arith, nat_tests)
ahead_on Buy Sell Buy a b e f h = grind (arith, nat_tests)
ahead_on Buy Sell Sell a b e f h = grind (arith, nat_tests)
ahead_on Sell Buy Buy a b e f h = grind (arith, nat_tests)
ahead_on Sell Buy Sell a b e f h = grind (arith, nat_tests)
ahead_on Sell Sell Buy a b e f h = grind (arith, nat_tests)

module _ (side : Side) (accepts : Order → Bool) (behind : Behind side accepts) where
  -- none accepts behind one that does not
  none_behind : (x : Order) (xs : List Order) → order_fits side x ≡ true → all_pass (order_fits side) xs ≡ true → not_ahead order_ahead x xs ≡ true → in_order order_ahead xs ≡ true → accepts x ≡ false → AllByRecursion (λ y. accepts y ≡ false) xs
  none_behind x [] f fs n o out = tt
  none_behind x (y ∷ ys) f fs n o out =
      let fits = and_parts (order_fits side y) (all_pass (order_fits side) ys) fs in
      let order = and_parts (not_ahead order_ahead y ys) (in_order order_ahead ys) o in
      let here = behind x y (ahead_on side y.side x.side y.limit x.limit (and_parts (same_side y.side side) _ fits.0).0 (and_parts (same_side x.side side) _ f).0 n) out in
      (here, none_behind y ys fits.0 fits.1 order.0 order.1 here)

  fronted : (xs : List Order) → all_pass (order_fits side) xs ≡ true → in_order order_ahead xs ≡ true → Fronted accepts xs
  fronted [] fs o = tt
  fronted (x ∷ xs) fs o =
      let fits = and_parts (order_fits side x) (all_pass (order_fits side) xs) fs in
      let order = and_parts (not_ahead order_ahead x xs) (in_order order_ahead xs) o in
      (none_behind x xs fits.0 fits.1 order.0 order.1, fronted xs fits.1 order.1)

-- of every book with well-formed queues, at every price
pub queues_in_front : (p : ℕ) (b : Book) → queues_fit b ≡ true → InFront p b.buys b.sells
queues_in_front p b h =
    let one = and_parts (all_pass (order_fits Buy) b.buys) _ h in
    let two = and_parts (in_order order_ahead b.buys) _ one.1 in
    let three = and_parts (all_pass (order_fits Sell) b.sells) _ two.1 in
    let four = and_parts (in_order order_ahead b.sells) _ three.1 in
    record {
      buys = fronted Buy (accepts_buying p) (λ x y. buy_behind p x.limit y.limit) b.buys one.0 two.0;
      sells = fronted Sell (accepts_selling p) (λ x y. sell_behind p x.limit y.limit) b.sells three.0 four.0;
    }
