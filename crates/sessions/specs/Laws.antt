-- The laws of every session.
use Rattle.std.specs.Prelude.{◌≡◌, ℕ, ◌+◌, ◌<◌, ◌≤◌, Bool, true, false, List, [], ◌∷◌, Ok, Err, ◌≢◌}
use Rattle.std.specs.List.{ContainsAt as Has}
use Rattle.grid.specs.Neighbours.{Priced}
use Rattle.rules.specs.declared.order.Order.{Order}
use Rattle.rules.specs.Winners.{PriceLaw}
use Rattle.trading.specs.declared.stop.StopOrder.{StopOrder}
use Rattle.trading.specs.declared.answer.Answer.{Answer}
use Rattle.trading.specs.declared.answer.Outcome.{Outcome}
use Rattle.trading.specs.declared.answer.Outcome.TheVariants.{Accepted, PriorityKept, PriorityLost, Uncrossed}
use Rattle.trading.specs.declared.fault.BookFault.{BookFault}
use Rattle.trading.specs.declared.request.Next.{Next}
use Rattle.trading.specs.declared.request.Request.TheVariants.{Uncross}
use Rattle.trading.specs.Numbers.{refusal_number}
use Rattle.trading.specs.Books.{Book, venue_of, auction_of, is_continuous, is_day}
use Rattle.trading.specs.Sweeps.{reached}
use Rattle.trading.specs.Desks.{Desk, book_of, capacity, well_formed}
use Rattle.sessions.specs.Accounts.{traded_in, withdrawn_in, open_of}
use Rattle.sessions.specs.Runs.{Done, Session, over_lines, entered_under}

-- the answer to an uncrossing is by the law of the price, on the orders and prices that the book had before it
abbrev pub ByPriceLaw : (ℕ → Bool) → (ℕ → ℕ → ℕ → Bool) → Book → Outcome → Type 0
ByPriceLaw lawful allows b Accepted = ⊥
ByPriceLaw lawful allows b PriorityKept = ⊥
ByPriceLaw lawful allows b PriorityLost = ⊥
ByPriceLaw lawful allows b (Uncrossed o) = PriceLaw lawful allows b.static (auction_of b) o

-- every day order in the buys has a limit below that of every day order in the sells
abbrev pub NoCrossing : Book → Type 0
NoCrossing b =
    (x y : Order) → Has b.buys x → Has b.sells y → is_day x.validity ≡ true → is_day y.validity ≡ true → x.limit < y.limit

-- what holds of a call x of a session, after the calls h
pub record CallLaws (lawful : ℕ → Bool) (allows : ℕ → ℕ → ℕ → Bool) (x : Done) (h : List Done) : Type 0 where
  -- at an uncrossing that is taken the winner decides
  pub winner : (next : Next) (a : Answer) → x.request ≡ Uncross next → x.answer ≡ Ok a → ByPriceLaw lawful allows (book_of x.before) a.outcome
  -- in continuous trading no orders cross
  pub no_crossing : is_continuous x.desk.state.phase ≡ true → NoCrossing (book_of x.desk)
  -- and no stop that stands there has been reached
  pub stops_released : is_continuous x.desk.state.phase ≡ true → (s : StopOrder) → Has (book_of x.desk).stops s → reached x.desk.state.last s ≡ false
  -- entered is traded, withdrawn or open, for each order number
  pub adds_up : (k : ℕ) → entered_under k (x ∷ h) ≡ over_lines (traded_in k) (x ∷ h) + over_lines (withdrawn_in k) (x ∷ h) + open_of k (book_of x.desk)
  -- at most one line more than the capacity is written
  pub room : (a : Answer) → x.answer ≡ Ok a → a.lines ≤ capacity x.before + 1
  -- the tables are well-formed, their queues in order
  pub is_well_formed : well_formed x.desk ≡ true
  -- no call is refused for tables that are not
  pub never_21 : (f : BookFault) → x.answer ≡ Err f → refusal_number f ≢ 21

-- a law of each call and the calls before it
abbrev pub Throughout : (Done → List Done → Type 0) → List Done → Type 0
Throughout Law [] = Unit {0}
Throughout Law (x ∷ h) = Law x h × Throughout Law h

-- for every grid, every collar and every session
abbrev pub EverySession : Type 0
EverySession =
    (lawful : ℕ → Bool) → Priced lawful → (allows : ℕ → ℕ → ℕ → Bool) (d : Desk) (h : List Done)
    → Session (venue_of lawful allows) d h → Throughout (CallLaws lawful allows) h
