-- An uncrossing keeps a book sound.
use Rattle.std.proofs.Common.{◌≡◌, ℕ, ◌+◌, ◌≤◌, Bool, List, [], ◌∷◌, refl, ap, subst, inl, inr, arith}
use Rattle.std.specs.List.{AllByRecursion}
use Rattle.std.proofs.ByRecursion.{All-append}
use Rattle.std.proofs.lemmas.Bool.{cases_Bool, cases_eq}
use Rattle.grid.specs.Neighbours.{Lawful, Priced}
use Rattle.rules.specs.declared.order.Order.{Order}
use Rattle.rules.specs.declared.opening.Opening.{Opening}
use Rattle.rules.specs.declared.opening.Opening.TheVariants.{NoPrice, Printed, RefusedByCollar}
use Rattle.rules.specs.Auctions.{total, buy_total, sell_total, volume, Auction}
use Rattle.trading.specs.declared.report.ReportLine.{ReportLine}
use Rattle.trading.specs.declared.request.Next.{Next}
use Rattle.trading.specs.declared.request.Next.TheVariants.{Trading, Close}
use Rattle.trading.specs.Books.{Venue, Book, auction_of}
use Rattle.trading.specs.Effects.{Effect, lines_of}
use Rattle.trading.specs.Uncrossings.{pairs, lasting, vfu_lapses, without_vfu, all_lapses, emptied, going_on, printed_at, uncrossed_as, uncrossed}
use Rattle.sessions.proofs.Standing.{named, Unique, Two, price_from, Rested, Apart, Sound}
use Rattle.sessions.proofs.Parts.{part_kept, parts_paired}
use Rattle.sessions.proofs.Continuing.{one_itself, apart_parts, parts_rested, parts_unique, release_all_safe}
use Rattle.sessions.proofs.Pairing.{pairs_by}
use Rattle.sessions.proofs.Crossing.{paired_apart, unexecuted_apart}
use Rattle.rules.specs.Winners.{LosesTo, Winner, PriceLaw}
use Rattle.rules.proofs.Choosing.{Topped}
use Rattle.rules.proofs.Opened.{opening_lawful}
use Rattle.sessions.proofs.Lapsing.{all_lapses_lem, vfu_lapses_lem}

-- an effect that keeps the book sound, its trades between two
pub record SafeEffect (v : Venue) (e : Effect) : Type 0 where
  pub sound : Sound v e.book
  pub two : AllByRecursion Two (lines_of e)

-- ---- the trades

abbrev Once : List Order → List Order → Type 0
Once bs ss = (k : ℕ) → total (named k) bs + total (named k) ss ≤ 1

once_two : (b s : Order) (bs ss : List Order) → Once (b ∷ bs) (s ∷ ss) → b.number ≡ s.number → ⊥
once_two b s bs ss h e = omega (arith, h b.number, one_itself b.number, one_itself s.number, ap (λ k. named k s) e)

pairs_two : (p : ℕ) (bs ss : List Order) → Once bs ss → AllByRecursion Two (pairs p bs ss).trades
pairs_two p = pairs_by p (λ bs ss r. Once bs ss → AllByRecursion Two r.trades)
    (λ ss h. tt)
    (λ b bs h. tt)
    (λ b bs ss r a i h. i (λ k. omega (arith, h k)))
    (λ b bs s ss r a i h. i (λ k. omega (arith, h k)))
    (λ b bs s ss r a e l i h. (once_two b s bs ss h, i (λ k. omega (arith, h k))))
    (λ b bs s ss r a e l i h. (once_two b s bs ss h, i (λ k. omega (arith, h k))))
    (λ b bs s ss r a e l i h. (once_two b s bs ss h, i (λ k. omega (arith, h k))))

-- ---- what the law of the price says

loses_volume : (a : Auction) (w q : ℕ) → LosesTo a w q → volume a q ≤ volume a w
loses_volume a w q (inl l) = omega arith
loses_volume a w q (inr (inl l)) = omega (arith, l.0)
loses_volume a w q (inr (inr (inl l))) = omega (arith, l.0)
loses_volume a w q (inr (inr (inr l))) = omega (arith, l.0)

-- no lawful price tops the one that is printed
pub record Tops (lawful : ℕ → Bool) (a : Auction) (p : ℕ) : Type 0 where
  pub is_lawful : Lawful lawful p
  pub tops : (q : ℕ) → Lawful lawful q → volume a q ≤ volume a p

winner_tops : (lawful : ℕ → Bool) (a : Auction) (w : ℕ) → Winner lawful a w → Tops lawful a w
winner_tops lawful a w h = record { is_lawful = h.is_lawful; tops = λ q l. elim (cases_eq q w) [ inl e ↦ subst (λ x. volume a q ≤ volume a x) e (omega arith) | inr n ↦ loses_volume a w q (h.wins q l n) ] }

printed_tops : (lawful : ℕ → Bool) (allows : ℕ → ℕ → ℕ → Bool) (static : ℕ) (a : Auction) (p amount : ℕ) → PriceLaw lawful allows static a (Printed p amount) → Tops lawful a p
printed_tops lawful allows static a p amount law =
    let w = law.some (λ e. let z : ◌≡◌ {A = ℕ} 0 1 = cc in omega arith) in
    elim (cases_Bool (allows static a.last w.price)) [
      | inl y ↦ (let e = w.printed y in let i : w.price ≡ p = cc in subst (Tops lawful a) i (winner_tops lawful a w.price w.winner))
      | inr n ↦ absurd (let e = w.refused n in let z : ◌≡◌ {A = ℕ} 0 1 = cc in omega arith)
    ]

-- ---- the uncrossing

module _ (v : Venue) (priced : Priced v.grid.lawful) where
  -- without its VFU orders the book goes into continuous trading
  without_vfu_sound : (b : Book) → Rested v b → Unique b → Apart b.buys b.sells → Sound v (without_vfu b)
  without_vfu_sound b r u a =
      let p = part_kept lasting b.buys in
      let q = part_kept lasting b.sells in
      let r' = parts_rested v b _ _ b.static b.last p q r.static r.last r in
      record {
        rested = record { buys = r'.buys; sells = r'.sells; stops = r'.stops; buys_sorted = r'.buys_sorted; sells_sorted = r'.sells_sorted; stops_sorted = r'.stops_sorted; static = r.static; last = r.last };
        unique = parts_unique v b _ _ p q u;
        apart = λ _. apart_parts p q a;
      }

  pub emptied_sound : (b : Book) → Rested v b → Sound v (emptied b)
  emptied_sound b r = record {
    rested = record { buys = tt; sells = tt; stops = tt; buys_sorted = tt; sells_sorted = tt; stops_sorted = tt; static = r.static; last = r.last };
    unique = λ k. omega arith;
    apart = λ _. record { at = 0; buys = tt; sells = tt };
  }

  goes_on_safe : (next : Next) (o : Opening) (trades : List ReportLine) (b : Book) → AllByRecursion Two trades → Rested v b → Unique b → Apart b.buys b.sells → SafeEffect v (going_on v next o trades b)
  goes_on_safe Trading o trades b t r u a =
      let m = release_all_safe v (without_vfu b) (without_vfu_sound b r u a) in
      record { sound = m.sound; two = All-append Two trades _ t (All-append Two (vfu_lapses b) _ (vfu_lapses_lem Two (λ n q. tt) b) m.two) }
  goes_on_safe Close o trades b t r u a = record { sound = emptied_sound b r; two = All-append Two trades _ t (All-append Two (all_lapses b) _ (all_lapses_lem Two (λ n q. tt) b) tt) }

  uncrossed_as_safe : (next : Next) (b : Book) (o : Opening) → PriceLaw v.grid.lawful v.allows b.static (auction_of b) o → Sound v b → SafeEffect v (uncrossed_as v next b o)
  unfolding buy_total sell_total
  uncrossed_as_safe next b NoPrice law s =
      let r = s.rested in
      goes_on_safe next NoPrice [] b tt r s.unique (unexecuted_apart v b.buys b.sells r.buys r.sells (law.only_none refl))
  uncrossed_as_safe next b (Printed p amount) law s =
      let r = s.rested in
      let w = printed_tops v.grid.lawful v.allows b.static (auction_of b) p amount law in
      let price = price_from p (priced p w.is_lawful).0 (priced p w.is_lawful).1 in
      let parts = parts_paired p b.buys b.sells in
      goes_on_safe next (Printed p amount) (pairs p b.buys b.sells).trades (printed_at p b)
      (pairs_two p b.buys b.sells (λ k. omega (arith, s.unique k)))
      (parts_rested v b _ _ p p parts.0 parts.1 price price r)
      (parts_unique v b _ _ parts.0 parts.1 s.unique)
      (paired_apart v p b.buys b.sells r.buys r.sells r.buys_sorted r.sells_sorted w.tops)
  uncrossed_as_safe next b (RefusedByCollar p) law s = record { sound = s; two = tt }

  pub uncrossed_safe : Topped v.grid → (next : Next) (b : Book) → Sound v b → SafeEffect v (uncrossed v next b)
  uncrossed_safe topped next b s = uncrossed_as_safe next b _ (opening_lawful v.grid topped v.allows b.static (auction_of b)) s
