-- One turn of the loop of a sweep, and its end.
use Rattle.std.proofs.Common.{◌≡◌, ℕ, ◌+◌, ◌<◌, ◌≤◌, min, Bool, List, length, get_or, drop, sym, ap, ◌∙◌, add-one, arith}
use Rattle.std.proofs.lemmas.List.{length-take-le, length-set}
use Rattle.rules.specs.declared.order.Order.{Order}
use Rattle.trading.specs.declared.sweep.Ending.{Ending}
use Rattle.trading.specs.Sweeps.{Swept, stopped, sweep}
use Rattle.sessions.proofs.Sweeping.{sweep_by}
use Rattle.queue.specs.declared.queue.Queue.{Queue}
use Rattle.queue.specs.Lent.{listed, Kept}
use Rattle.lent.specs.Contents.{Page}
use Rattle.lent.proofs.Behind.{past_later}
use Rattle.lent.proofs.Pages.{page_after, place_after_is, sets_written}
use Rattle.sweeping.specs.declared.trade.AfterTrade.{AfterTrade}
use Rattle.sweeping.specs.declared.tables.AfterSweep.{AfterSweep}
use Rattle.sweeping.specs.Steps.{blank, trade_with, Met, TradedAt, QueueSwept}

-- where a sweep leads, with its page
pub record Finish : Type 0 where
  pub queue : List Order
  pub rest : ℕ
  pub last : ℕ
  pub ending : Ending
  pub page : Page

abbrev pub finish : Page → Swept → Finish
finish p s = record { queue = s.queue; rest = s.rest; last = s.last; ending = s.ending; page = page_after p s.trades }

-- a sweep of the queue a is under way: what is still to come, from the queue b on, leads where all of it leads
pub record Along (allows : ℕ → ℕ → Bool) (t : Order) (price : ℕ) (a : Queue Order) (p : Page) (rest last : ℕ) (b : Queue Order) (p' : Page) : Type 0 where
  pub leads : finish p' (sweep allows t rest last (listed b)) ≡ finish p (sweep allows t t.«open» price (listed a))
  pub beyond : drop a.count b.records.now ≡ drop a.count a.records.now
  pub count : b.count ≤ a.count
  pub room : 0 < rest → p'.written + b.count ≤ length p'.lines
  pub table : Kept a b

-- one trade more
pub turn : (allows : ℕ → ℕ → Bool) (t : Order) (price : ℕ) (a b b' : Queue Order) (p p' p'' : Page) (rest last i : ℕ) (r : AfterTrade)
    → 0 < rest → Met allows t rest last (listed b) i → TradedAt t rest i b p' b' p'' r → Kept b b'
    → Along allows t price a p rest last b p' → Along allows t price a p r.rest r.last b' p''
turn allows t price a b b' p p' p'' rest last i r some met x kept along =
    let o = get_or (listed b) i blank in
    let same = length-set p'.lines p'.written (trade_with t o (min rest o.«open»)) in
    record {
      leads = rw (x.line, x.place, x.rest, x.last, x.queue, add-one) (sym (ap (finish p') met)) ∙ along.leads;
      beyond = past_later b'.records.now b.records.now b.count a.count along.count x.beyond ∙ along.beyond;
      count = omega (arith, x.count, along.count);
      room = λ left. omega (arith, x.gone left, x.place, along.room some, ap length x.line, same);
      table = record { room = kept.room ∙ along.table.room; lender = kept.lender ∙ along.table.lender };
    }

-- at most one trade with each order
pub trades_fit : (allows : ℕ → ℕ → Bool) (t : Order) (rest last : ℕ) (os : List Order) → length (sweep allows t rest last os).trades ≤ length os
trades_fit allows t = sweep_by allows t (λ rest last os s. length s.trades ≤ length os)
    (λ last os. omega arith)
    (λ rest last z. omega arith)
    (λ rest last o os z d w. omega arith)
    (λ rest last o os z d a. omega arith)
    (λ rest last o os s d h. omega arith)
    (λ rest last o os s d w a l h. omega arith)
    (λ rest last o os z d w a l. omega arith)

-- where nothing is left to do, the sweep has come about
pub finished : (allows : ℕ → ℕ → Bool) (t : Order) (price : ℕ) (a b : Queue Order) (p p' : Page) (r : AfterSweep)
    → p.written + a.count ≤ length p.lines → a.count ≤ length a.records.now → sweep allows t r.rest r.last (listed b) ≡ stopped (listed b) r.rest r.last r.ending
    → Along allows t price a p r.rest r.last b p'
    → QueueSwept (sweep allows t t.«open» price (listed a)) a p b p' r
finished allows t price a b p p' r room inside stop along =
    let s = sweep allows t t.«open» price (listed a) in
    let e : finish p' (stopped (listed b) r.rest r.last r.ending) ≡ finish p s = sym (ap (finish p') stop) ∙ along.leads in
    let few : length s.trades ≤ length (listed a) = trades_fit allows t t.«open» price (listed a) in
    let place = ap (λ f. f.page.written) e ∙ place_after_is p.written s.trades in
    let long = length-take-le a.count a.records.now inside in
    record {
      queue = ap (λ f. f.queue) e;
      rest = ap (λ f. f.rest) e;
      last = ap (λ f. f.last) e;
      ending = ap (λ f. f.ending) e;
      lines = ap (λ f. f.page.lines) e ∙ sets_written p.lines s.trades p.written (omega arith);
      place = place;
      beyond = along.beyond;
      count = along.count;
      few = omega arith;
    }
