-- Looking for records, and for a check that holds.
use Rattle.std.proofs.Common.{◌≡◌, ℕ, suc, Bool, true, false, cond, List, [], ◌∷◌, length, Some, None, Option, sym, refl, ap, ◌∙◌, arith}
use Rattle.std.specs.List.{AllByRecursion}
use Rattle.std.proofs.lemmas.Bool.{eqb-true, true≢false}
use Rattle.rules.specs.declared.order.Order.{Order}
use Rattle.trading.specs.declared.stop.StopOrder.{StopOrder}
use Rattle.trading.specs.declared.fault.BookFault.{BookFault}
use Rattle.trading.specs.Queues.{first_that, without_first}
use Rattle.trading.specs.Books.{Book}
use Rattle.trading.specs.Sweeps.{only_if}
use Rattle.trading.specs.Effects.{Effect}
use Rattle.trading.specs.Calls.{Check, first_fault, numbered, stop_numbered, Place, nowhere, in_buys, in_sells, in_stops, place_of, place, is_somewhere}
use Rattle.trading.specs.Desks.{refused, taken, ruled}

pub only_if_some : {X : Type 0} (c : Bool) (o : Option X) (x : X) → only_if c o ≡ Some x → o ≡ Some x
only_if_some true o x e = e
only_if_some false o x e = absurd (let z : ◌≡◌ {A = ℕ} 0 1 = cc in omega arith)

-- ---- in a queue

-- the record found passes the test
pub first_passes : {R : Type 0} (p : R → Bool) (xs : List R) (x : R) → first_that p xs ≡ Some x → p x ≡ true
unfolding first_that
first_passes p [] x e = absurd (let z : ◌≡◌ {A = ℕ} 0 1 = cc in omega arith)
first_passes p (y ∷ xs) x e = (elim (p y) as (λ v. p y ≡ v → cond v (Some y) (first_that p xs) ≡ Some x → p x ≡ true) [
  | true ↦ λ i e. (let j : y ≡ x = cc in ap p (sym j) ∙ i)
  | false ↦ λ i e. first_passes p xs x e
]) refl e

-- where nothing is found, every record fails the test
pub all_fail : {R : Type 0} (p : R → Bool) (xs : List R) → first_that p xs ≡ None → AllByRecursion (λ x. p x ≡ false) xs
unfolding first_that
all_fail p [] e = tt
all_fail p (x ∷ xs) e = (elim (p x) as (λ v. cond v (Some x) (first_that p xs) ≡ None → (v ≡ false) × AllByRecursion (λ x. p x ≡ false) xs) [
  | true ↦ λ e. absurd (let z : ◌≡◌ {A = ℕ} 0 1 = cc in omega arith)
  | false ↦ λ e. (refl, all_fail p xs e)
]) e

-- the one found leaves: one fewer is left
pub left_shorter : {R : Type 0} (p : R → Bool) (xs : List R) (x : R) → first_that p xs ≡ Some x → suc (length (without_first p xs)) ≡ length xs
unfolding first_that without_first
left_shorter p [] x e = absurd (let z : ◌≡◌ {A = ℕ} 0 1 = cc in omega arith)
left_shorter p (y ∷ xs) x e = (elim (p y) as (λ v. cond v (Some y) (first_that p xs) ≡ Some x → suc (length (cond v xs (y ∷ without_first p xs))) ≡ suc (length xs)) [
  | true ↦ λ e. refl
  | false ↦ λ e. omega (arith, left_shorter p xs x e)
]) e

-- ---- under a number

-- it is the first of its queue that bears the number
abbrev pub Found : ℕ → Book → Place → Type 0
Found n b nowhere = Unit {0}
Found n b (in_buys o) = (first_that (numbered n) b.buys ≡ Some o) × (o.number ≡ n)
Found n b (in_sells o) = (first_that (numbered n) b.sells ≡ Some o) × (o.number ≡ n)
Found n b (in_stops s) = (first_that (stop_numbered n) b.stops ≡ Some s) × (s.number ≡ n)

place_of_found : (n : ℕ) (b : Book) (x y : Option Order) (z : Option StopOrder) → first_that (numbered n) b.buys ≡ x → first_that (numbered n) b.sells ≡ y → first_that (stop_numbered n) b.stops ≡ z → Found n b (place_of x y z)
place_of_found n b (Some o) y z e f g = (e, eqb-true o.number n (first_passes (numbered n) b.buys o e))
place_of_found n b None (Some o) z e f g = (f, eqb-true o.number n (first_passes (numbered n) b.sells o f))
place_of_found n b None None (Some s) e f g = (g, eqb-true s.number n (first_passes (stop_numbered n) b.stops s g))
place_of_found n b None None None e f g = tt

pub place_found : (n : ℕ) (b : Book) → Found n b (place n b)
place_found n b = place_of_found n b _ _ _ refl refl refl

-- under a number that is found nowhere no record stands
place_of_nowhere : (x y : Option Order) (z : Option StopOrder) → is_somewhere (place_of x y z) ≡ false → (x ≡ None) × (y ≡ None) × (z ≡ None)
place_of_nowhere (Some o) y z e = absurd (true≢false e)
place_of_nowhere None (Some o) z e = absurd (true≢false e)
place_of_nowhere None None (Some s) e = absurd (true≢false e)
place_of_nowhere None None None e = (refl, refl, refl)

pub record NotLive (n : ℕ) (b : Book) : Type 0 where
  pub buys : AllByRecursion (λ o. numbered n o ≡ false) b.buys
  pub sells : AllByRecursion (λ o. numbered n o ≡ false) b.sells
  pub stops : AllByRecursion (λ s. stop_numbered n s ≡ false) b.stops

pub not_live : (n : ℕ) (b : Book) → is_somewhere (place n b) ≡ false → NotLive n b
not_live n b e =
    let none = place_of_nowhere (first_that (numbered n) b.buys) (first_that (numbered n) b.sells) (first_that (stop_numbered n) b.stops) e in
    record { buys = all_fail (numbered n) b.buys none.0; sells = all_fail (numbered n) b.sells none.1; stops = all_fail (stop_numbered n) b.stops none.2 }

-- ---- among checks

-- no check holds
abbrev pub Pass : List Check → Type 0
Pass = AllByRecursion (λ c. c.holds ≡ false)

-- where no fault is found, no check holds
pub none_holds : (cs : List Check) → first_fault cs ≡ None → Pass cs
none_holds [] e = tt
none_holds (c ∷ cs) e = (elim c.holds as (λ h. cond h (Some c.fault) (first_fault cs) ≡ None → (h ≡ false) × Pass cs) [
  | true ↦ λ e. absurd (let z : ◌≡◌ {A = ℕ} 0 1 = cc in omega arith)
  | false ↦ λ e. (refl, none_holds cs e)
]) e

-- a call that is taken passes its checks, and comes to its effect
pub ruled_taken : (o : Option BookFault) (e e' : Effect) → ruled o e ≡ taken e' → (o ≡ None) × (e ≡ e')
ruled_taken None e e' h = (refl, (let i : e ≡ e' = cc in i))
ruled_taken (Some f) e e' h = absurd (let z : ◌≡◌ {A = ℕ} 0 1 = cc in omega arith)

pub ruled_refused : (o : Option BookFault) (e : Effect) (f : BookFault) → ruled o e ≡ refused f → o ≡ Some f
ruled_refused None e f h = absurd (let z : ◌≡◌ {A = ℕ} 0 1 = cc in omega arith)
ruled_refused (Some g) e f h = (let i : g ≡ f = cc in ap Some i)
