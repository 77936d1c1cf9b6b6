-- Queues whose records stand in order, as a walk over neighbours finds it.
use Rattle.std.proofs.Common.{◌≡◌, Bool, true, false, not, List, [], ◌∷◌, Option, Some, None, MatchOption, Bor, Iter, sym, ap, ◌∙◌, inl, inr, arith}
use denote.Param.Members.{Mut}
use Rattle.std.specs.Fn.{CalledAtTwo}
use Rattle.std.specs.Iterator.{Yields}
use Rattle.std.specs.Iterator.Order.{OrderTurn, ChecksNeighbours}
use Rattle.std.specs.List.{FoldsTo}
use Rattle.std.proofs.iter.Yields.{fronts}
use Rattle.std.proofs.lemmas.List.{nil_from_length}
use Rattle.trading.specs.Queues.{in_order}

-- the walk asks of each record and the next whether the next is not ahead
module _ {F X : Type 0} (g : Mut F (Bor (Bor X) × (Bor (Bor X) × Unit {0})) Bool) (ahead : X → X → Bool)
    (tells : (f f' : F) (x y : Bor X) (b : Bool) → CalledAtTwo g f x y b f' → b ≡ not (ahead y.now x.now)) where
  -- zs are those for which the answer was yes, and o is what came after them
  walked : (zs : List (Bor X)) (s t u : Iter X) (o : Option (Bor X)) (p q : F × Bor X) (r : Bool) → Yields fronts s zs t → fronts t o u → FoldsTo (OrderTurn g) p zs q → MatchOption o (r ≡ true) (λ y. (r ≡ false) × ((h : F) × CalledAtTwo g q.0 q.1 y false h)) → r ≡ in_order ahead (p.1.now ∷ s.rest.now)
  walked [] s t u None p q r gave last turns end = grind (arith, nil_from_length t.rest.now)
  walked [] s t u (Some y) p q r gave last turns end = grind (arith, tells q.0 end.1.0 q.1 y false end.1.1)
  walked (z ∷ zs) s t u o p q r gave last turns end =
      grind (arith, tells p.0 turns.0.0 p.1 z true turns.1.0, walked zs gave.0 t u o turns.0 q r gave.2 last turns.2 end)

  pub order_walked : (s : Iter X) (f : F) (r : Bool) → ChecksNeighbours g fronts s f r → r ≡ in_order ahead s.rest.now
  order_walked s f r (inl (none, e)) = grind (arith, nil_from_length s.rest.now)
  order_walked s f r (inr (x, zs, o, u, q, gave, turns, end)) =
      walked zs gave.1.0 gave.0 u o (f, x) q r gave.1.2 gave.2 turns end ∙ ap (in_order ahead) (sym gave.1.1)
