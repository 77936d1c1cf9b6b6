-- The lines whose order is left free are lapse lines, and only an uncrossing and an end have some.
use Rattle.std.proofs.Common.{◌≡◌, ℕ, true, false, List, [], ◌∷◌, filter, refl}
use Rattle.std.specs.List.{AllByRecursion}
use Rattle.std.proofs.ByRecursion.{All-append}
use Rattle.std.proofs.lemmas.Bool.{both_ways, cond_both}
use Rattle.rules.specs.declared.order.Order.{Order}
use Rattle.rules.specs.declared.opening.Opening.{Opening}
use Rattle.rules.specs.declared.opening.Opening.TheVariants.{NoPrice, Printed, RefusedByCollar}
use Rattle.rules.specs.Auctions.{volume}
use Rattle.trading.specs.declared.report.ReportLine.{ReportLine}
use Rattle.trading.specs.declared.report.ReportLine.TheVariants.{Lapse}
use Rattle.trading.specs.declared.request.Next.{Next}
use Rattle.trading.specs.declared.request.Next.TheVariants.{Trading, Close}
use Rattle.trading.specs.declared.request.Request.{Request}
use Rattle.trading.specs.Books.{Venue, Book, auction_of}
use Rattle.trading.specs.Effects.{Effect}
use Rattle.trading.specs.Uncrossings.{pairs, lapse_of, stop_lapse, lapses_by, lapsing, vfu_lapses, all_lapses, going_on, printed_at, uncrossed_as}
use Rattle.trading.specs.Calls.{Place, nowhere, in_buys, in_sells, in_stops, place, enter_effect, keeps_priority, amend_at, amend_effect, cancel_effect, effect_of}
use Rattle.trading.specs.declared.request.Request.TheVariants.{Enter, Amend, Cancel, Call, Uncross, End}
use Rattle.rules.specs.Openings.{opening}
use Rattle.sessions.specs.Orderly.{reorders}

module _ (P : ReportLine → Type 0) (of-lapse : (n q : ℕ) → P (Lapse n q)) where
  each : {R : Type 0} (lapse : R → ReportLine) → ((x : R) → P (lapse x)) → (xs : List R) → AllByRecursion P (lapses_by lapse xs)
  unfolding lapses_by
  each lapse h [] = tt
  each lapse h (x ∷ xs) = (h x, each lapse h xs)

  orders : (os : List Order) → AllByRecursion P (lapses_by lapse_of os)
  orders os = each lapse_of (λ o. of-lapse o.number o.«open») os

  pub all_lapses_lem : (b : Book) → AllByRecursion P (all_lapses b)
  all_lapses_lem b = All-append P (lapses_by lapse_of b.buys) _ (orders b.buys) (All-append P (lapses_by lapse_of b.sells) _ (orders b.sells) (each stop_lapse (λ s. of-lapse s.number s.quantity) b.stops))

  pub vfu_lapses_lem : (b : Book) → AllByRecursion P (vfu_lapses b)
  vfu_lapses_lem b = All-append P (lapses_by lapse_of (filter lapsing b.buys)) _ (orders (filter lapsing b.buys)) (orders (filter lapsing b.sells))

  goes_on : (v : Venue) (next : Next) (o : Opening) (trades : List ReportLine) (b : Book) → AllByRecursion P (going_on v next o trades b).lapses
  goes_on v Trading o trades b = vfu_lapses_lem b
  goes_on v Close o trades b = all_lapses_lem b

  uncrossing : (v : Venue) (next : Next) (b : Book) (o : Opening) → AllByRecursion P (uncrossed_as v next b o).lapses
  uncrossing v next b NoPrice = goes_on v next NoPrice [] b
  uncrossing v next b (Printed p volume) = goes_on v next (Printed p volume) (pairs p b.buys b.sells).trades (printed_at p b)
  uncrossing v next b (RefusedByCollar p) = tt

  amending : (v : Venue) (n limit quantity : ℕ) (b : Book) (at : Place) → AllByRecursion P (amend_at v n limit quantity b at).lapses
  amending v n limit quantity b nowhere = tt
  amending v n limit quantity b (in_buys o) = cond_both (keeps_priority o limit quantity) _ _ (λ (e : Effect). AllByRecursion P e.lapses) (λ _. tt) (λ _. tt)
  amending v n limit quantity b (in_sells o) = cond_both (keeps_priority o limit quantity) _ _ (λ (e : Effect). AllByRecursion P e.lapses) (λ _. tt) (λ _. tt)
  amending v n limit quantity b (in_stops s) = tt

  pub free_lines : (v : Venue) (b : Book) (request : Request) → AllByRecursion P (effect_of v b request).lapses
  unfolding enter_effect amend_effect cancel_effect
  free_lines v b (Enter t) = tt
  free_lines v b (Amend n limit quantity) = amending v n limit quantity b (place n b)
  free_lines v b (Cancel n) = tt
  free_lines v b Call = tt
  free_lines v b (Uncross next) = uncrossing v next b (opening v.grid v.allows b.static (auction_of b))
  free_lines v b End = all_lapses_lem b

-- ---- the other requests have none

amending_none : (v : Venue) (n limit quantity : ℕ) (b : Book) (at : Place) → (amend_at v n limit quantity b at).lapses ≡ []
amending_none v n limit quantity b nowhere = refl
amending_none v n limit quantity b (in_buys o) = cond_both (keeps_priority o limit quantity) _ _ (λ (e : Effect). e.lapses ≡ []) (λ _. refl) (λ _. refl)
amending_none v n limit quantity b (in_sells o) = cond_both (keeps_priority o limit quantity) _ _ (λ (e : Effect). e.lapses ≡ []) (λ _. refl) (λ _. refl)
amending_none v n limit quantity b (in_stops s) = refl

pub no_free_lines : (v : Venue) (b : Book) (request : Request) → reorders request ≡ false → (effect_of v b request).lapses ≡ []
unfolding enter_effect amend_effect cancel_effect
no_free_lines v b (Enter t) h = refl
no_free_lines v b (Amend n limit quantity) h = amending_none v n limit quantity b (place n b)
no_free_lines v b (Cancel n) h = refl
no_free_lines v b Call h = refl
no_free_lines v b (Uncross next) h = absurd (both_ways true h refl)
no_free_lines v b End h = absurd (both_ways true h refl)
