-- Every session keeps the laws.
use Rattle.std.proofs.Common.{◌≡◌, ℕ, ◌+◌, ◌≤◌, Bool, true, false, cond, not, List, [], ◌∷◌, ◌++◌, length, take, drop, Some, None, Ok, Err, sum_by, Result, sym, refl, ap, ◌∙◌, subst, arith}
use Rattle.std.specs.List.{AllByRecursion}
use Rattle.std.proofs.ByRecursion.{all-has}
use Rattle.std.proofs.lemmas.Bool.{both_ways, not-false, le-leb, and_from, not_from_true}
use Rattle.std.proofs.lemmas.Bool.Decides.{nat_tests}
use Rattle.grid.specs.Prices.{is_price}
use Rattle.grid.specs.Neighbours.{Priced}
use Rattle.rules.specs.declared.opening.Opening.{Opening}
use Rattle.rules.specs.declared.opening.Opening.TheVariants.{NoPrice, Printed, RefusedByCollar}
use Rattle.rules.specs.Auctions.{total, volume}
use Rattle.trading.specs.declared.fault.BookFault.{BookFault}
use Rattle.trading.specs.declared.answer.Outcome.TheVariants.{Uncrossed}
use Rattle.trading.specs.declared.report.ReportLine.{ReportLine}
use Rattle.trading.specs.declared.report.ReportLine.TheVariants.{Trade, Lapse}
use Rattle.trading.specs.declared.request.Next.{Next}
use Rattle.trading.specs.declared.request.Next.TheVariants.{Trading, Close}
use Rattle.trading.specs.declared.request.Request.{Request}
use Rattle.trading.specs.declared.state.State.{State}
use Rattle.trading.specs.Books.{Venue, venue_of, Book, new_book, held, auction_of, is_continuous}
use Rattle.trading.specs.Sweeps.{reached}
use Rattle.trading.specs.Effects.{Effect, lines_of}
use Rattle.trading.specs.Uncrossings.{uncrossed_as, uncrossed}
use Rattle.trading.specs.Calls.{Check, first_fault, new_checks, checks_of, effect_of}
use Rattle.sessions.specs.Accounts.{traded_in, withdrawn_in, open_of, entered_by}
use Rattle.sessions.proofs.Standing.{Two, Rested, BuysBelow, SellsFrom, Sound, rested_fit}
use Rattle.sessions.proofs.Sums.{total_append}
use Rattle.sessions.proofs.Finding.{Pass, none_holds, ruled_taken, ruled_refused}
use Rattle.sessions.proofs.Balance.{names_traded, balanced}
use Rattle.trading.specs.declared.request.Request.TheVariants.{Enter, Amend, Cancel, Call, Uncross, End}
use Rattle.rules.proofs.Opened.{opening_lawful}
use Rattle.trading.specs.Desks.{Desk, desk_of, book_of, capacity, counts_fit, queues_fit, well_formed, all_checks, ruling}
use Rattle.trading.specs.Carried.{Reported, CountsFit, Took, TakenBy, RefusedBy, Carried}
use Rattle.sessions.proofs.Keeping.{call_safe}
use Rattle.sessions.proofs.Releasing.{Quiet, quiet}
use Rattle.sessions.proofs.Definite.{held_fits, still_fits}
use Rattle.std.specs.List.Sorted.{IsPermutation}
use Rattle.std.proofs.lemmas.List.Sums.{sum_by-cons}
use Rattle.std.proofs.lemmas.List.Sorted.{sum_by-IsPermutation, length_permutation}
use Rattle.std.proofs.lemmas.List.{length-append, length-take-le, take_at}
use Rattle.trading.specs.Numbers.{refusal_number}
use Rattle.trading.specs.declared.answer.Answer.{Answer}
use Rattle.sessions.specs.Runs.{Done, done, New, Session, opens, goes_on, over_lines, entered_under}
use Rattle.sessions.specs.Laws.{ByPriceLaw, NoCrossing, CallLaws, Throughout, EverySession}

-- ---- sums over report lines

total_shuffled : {R : Type 0} (f : R → ℕ) (xs ys : List R) → IsPermutation xs ys → total f ys ≡ total f xs
total_shuffled f xs ys h = total_sum_by ys ∙ sum_by-IsPermutation f xs ys h ∙ sym (total_sum_by xs)
  where
    total_sum_by : (xs : List _) → total f xs ≡ sum_by f xs
    total_sum_by [] = refl
    total_sum_by (x ∷ xs) = omega (arith, total_sum_by xs, sum_by-cons f x xs)

total_both : {R : Type 0} (f g : R → ℕ) (xs : List R) → total (λ x. f x + g x) xs ≡ total f xs + total g xs
total_both f g [] = refl
total_both f g (x ∷ xs) = omega (arith, total_both f g xs)

-- of a trade between two, the quantity counts once for each number that it names
named_once : (k : ℕ) (ls : List ReportLine) → AllByRecursion Two ls → total (traded_in k) ls ≡ total (names_traded k) ls
named_once k [] a = refl
named_once k (l ∷ ls) a = omega (arith, once l a.0, named_once k ls a.1)
  where
    once : (l : ReportLine) → Two l → traded_in k l ≡ names_traded k l
    once (Trade b s p q) h = grind (arith, nat_tests)
    once (Lapse n q) h = refl

-- the lines that a call tells are the effect's
lines_told_lem : (f : ReportLine → ℕ) (e : Effect) (report report' : List ReportLine) → Reported e report report' → total f (take (length (lines_of e)) report') ≡ total f (lines_of e)
lines_told_lem f e report report' r =
    let lines = e.before ++ (r.lapses ++ e.later) in
    let long : length (lines_of e) ≡ length lines = omega (arith, length_permutation e.lapses r.lapses r.some_order, length-append e.before (r.lapses ++ e.later), length-append r.lapses e.later, length-append e.before (e.lapses ++ e.later), length-append e.lapses e.later) in
    let told : take (length (lines_of e)) report' ≡ lines = ap (take (length (lines_of e))) r.lines ∙ take_at lines (drop (length lines) report) (length (lines_of e)) (sym long) in
    ap (total f) told ∙ omega (arith, total_append f e.before (r.lapses ++ e.later), total_append f r.lapses e.later, total_append f e.before (e.lapses ++ e.later), total_append f e.lapses e.later, total_shuffled f e.lapses r.lapses r.some_order)

-- ---- refusals

-- a fault that no check has is not told
not_told : (number : ℕ) (cs : List Check) → AllByRecursion (λ c. c.holds ≡ true → refusal_number c.fault ≡ number → ⊥) cs → (f : BookFault) → first_fault cs ≡ Some f → refusal_number f ≡ number → ⊥
not_told number [] a f e n = let z : ◌≡◌ {A = ℕ} 0 1 = cc in omega arith
not_told number (c ∷ cs) a f e n = (elim c.holds as (λ h. c.holds ≡ h → cond h (Some c.fault) (first_fault cs) ≡ Some f → ⊥) [
  | true ↦ λ h e. a.0 h (let i : c.fault ≡ f = cc in ap refusal_number i ∙ n)
  | false ↦ λ h e. not_told number cs a.1 f e n
]) refl e

-- the checks of a book have other numbers than 21
no_21 : (v : Venue) (n : ℕ) (b : Book) (request : Request) → AllByRecursion (λ c. c.holds ≡ true → refusal_number c.fault ≡ 21 → ⊥) (checks_of v n b request)
no_21 v n b (Enter t) = (λ _ e. omega arith, (λ _ e. omega arith, (λ _ e. omega arith, (λ _ e. omega arith, (λ _ e. omega arith, (λ _ e. omega arith, (λ _ e. omega arith, (λ _ e. omega arith, (λ _ e. omega arith, (λ _ e. omega arith, tt))))))))))
no_21 v n b (Amend number limit quantity) = (λ _ e. omega arith, (λ _ e. omega arith, (λ _ e. omega arith, (λ _ e. omega arith, (λ _ e. omega arith, (λ _ e. omega arith, tt))))))
no_21 v n b (Cancel number) = (λ _ e. omega arith, (λ _ e. omega arith, (λ _ e. omega arith, tt)))
no_21 v n b Call = (λ _ e. omega arith, tt)
no_21 v n b (Uncross next) = (λ _ e. omega arith, tt)
no_21 v n b End = (λ _ e. omega arith, tt)

-- ---- the price

pub uncrossed_outcome : (v : Venue) (next : Next) (b : Book) (o : Opening) → (uncrossed_as v next b o).outcome ≡ Uncrossed o
uncrossed_outcome v Trading b NoPrice = refl
uncrossed_outcome v Close b NoPrice = refl
uncrossed_outcome v Trading b (Printed p volume) = refl
uncrossed_outcome v Close b (Printed p volume) = refl
uncrossed_outcome v next b (RefusedByCollar p) = refl

-- ---- what stands after each call

-- counts that fit their tables count the queues
counts_held : (d : Desk) → CountsFit d → d.state.buys + d.state.sells + d.state.stops ≡ held (book_of d)
counts_held d c = omega (arith, length-take-le d.state.buys d.buys c.buys, length-take-le d.state.sells d.sells c.sells, length-take-le d.state.stops d.stops c.stops)

module _ (lawful : ℕ → Bool) (priced : Priced lawful) (allows : ℕ → ℕ → ℕ → Bool) where
  abbrev v : Venue
  v = venue_of lawful allows

  record Stand (d : Desk) (h : List Done) : Type 0 where
    sound : Sound v (book_of d)
    quiet_now : Quiet (book_of d)
    formed : well_formed d ≡ true
    accounts : (k : ℕ) → entered_under k h ≡ over_lines (traded_in k) h + over_lines (withdrawn_in k) h + open_of k (book_of d)

  well_formed_from : (d : Desk) → CountsFit d → held (book_of d) ≤ capacity d → Rested v (book_of d) → well_formed d ≡ true
  well_formed_from d c h r =
      and_from (counts_fit d) (queues_fit (book_of d))
      (and_from _ _ (le-leb d.state.buys (length d.buys) c.buys)
      (and_from _ _ (le-leb d.state.sells (length d.sells) c.sells)
      (and_from _ _ (le-leb d.state.stops (length d.stops) c.stops)
      (le-leb (d.state.buys + d.state.sells + d.state.stops) (capacity d) (omega (arith, counts_held d c))))))
      (rested_fit v (book_of d) r)

  -- ---- a new book

  -- its tables have no queues
  new_book_lem : (p : ℕ) (d : Desk) → New p d → book_of d ≡ new_book p
  new_book_lem p d n = ap (λ s. book_of (desk_of s d.buys d.sells d.stops)) n

  new_stand : (p : ℕ) (d : Desk) → first_fault (new_checks p) ≡ None → New p d → Stand d []
  new_stand p d passes n =
      let b = book_of d in
      let is = new_book_lem p d n in
      let ip = not-false (is_price p) (none_holds (new_checks p) passes).0 in
      let rested : Rested v (new_book p) = record { buys = tt; sells = tt; stops = tt; buys_sorted = tt; sells_sorted = tt; stops_sorted = tt; static = ip; last = ip } in
      record {
        sound = subst (Sound v) (sym is) (record { rested = rested; unique = λ k. omega arith; apart = λ _. record { at = 0; buys = tt; sells = tt } });
        quiet_now = subst Quiet (sym is) (λ _. tt);
        formed = well_formed_from d (record { buys = omega (arith, ap (λ (s : State). s.buys) n); sells = omega (arith, ap (λ (s : State). s.sells) n); stops = omega (arith, ap (λ (s : State). s.stops) n) }) (omega (arith, ap held is)) (subst (Rested v) (sym is) rested);
        accounts = λ k. omega (arith, ap (open_of k) is);
      }

  -- ---- one call more

  no_crossing_from : (b : Book) → Sound v b → is_continuous b.phase ≡ true → NoCrossing b
  no_crossing_from b s c x y hx hy dx dy =
      let a = s.apart c in
      omega (arith, all-has (BuysBelow a.at) b.buys x a.buys hx dx, all-has (SellsFrom a.at) b.sells y a.sells hy dy)

  -- what a call comes to
  record After (x : Done) (h : List Done) : Type 0 where
    stand : Stand x.desk (x ∷ h)
    laws : CallLaws lawful allows x h

  -- what stands tells the laws that do not ask for the answer
  laws_from : (x : Done) (h : List Done)
      → ((next : Next) (a : Answer) → x.request ≡ Uncross next → x.answer ≡ Ok a → ByPriceLaw lawful allows (book_of x.before) a.outcome)
      → ((a : Answer) → x.answer ≡ Ok a → a.lines ≤ capacity x.before + 1)
      → ((f : BookFault) → x.answer ≡ Err f → refusal_number f ≡ 21 → ⊥)
      → Stand x.desk (x ∷ h) → After x h
  laws_from x h winner room never s = record {
    stand = s;
    laws = record {
      winner = winner;
      no_crossing = λ c. no_crossing_from (book_of x.desk) s.sound c;
      stops_released = λ c t has. all-has (λ t. reached x.desk.state.last t ≡ false) (book_of x.desk).stops t (s.quiet_now c) has;
      adds_up = s.accounts;
      room = room;
      is_well_formed = s.formed;
      never_21 = never;
    };
  }

  refused_after : (d : Desk) (h : List Done) (request : Request) (report report' : List ReportLine) (f : BookFault) (d' : Desk)
      → Stand d h → RefusedBy (ruling v d (length report) request) d report f d' report' → After (done d request (Err f) report' d') h
  refused_after d h request report report' f d' s r =
      let told = ruled_refused (first_fault (all_checks v d (length report) request)) (effect_of v (book_of d) request) f r.is in
      laws_from (done d request (Err f) report' d') h
      (λ next a e i. absurd (let z : ◌≡◌ {A = ℕ} 0 1 = cc in omega arith))
      (λ a i. absurd (let z : ◌≡◌ {A = ℕ} 0 1 = cc in omega arith))
      (λ g i n. not_told 21 (all_checks v d (length report) request)
      (λ _ e. omega arith, (λ t _. both_ways (not (well_formed d)) (not_from_true (well_formed d) s.formed) t, no_21 v (capacity d) (book_of d) request))
      f told (let j : f ≡ g = cc in ap refusal_number j ∙ n))
      (record {
        sound = subst (λ e. Sound v (book_of e)) (sym r.same_desk) s.sound;
        quiet_now = subst (λ e. Quiet (book_of e)) (sym r.same_desk) s.quiet_now;
        formed = ap well_formed r.same_desk ∙ s.formed;
        accounts = λ k. omega (arith, s.accounts k, ap (λ e. open_of k (book_of e)) r.same_desk);
      })

  -- the effect of a call that passed its checks came about
  effect_after : (d : Desk) (h : List Done) (request : Request) (report report' : List ReportLine) (a : Answer) (d' : Desk)
      → Stand d h → Pass (all_checks v d (length report) request) → Took (effect_of v (book_of d) request) d report a d' report' → After (done d request (Ok a) report' d') h
  effect_after d h request report report' a d' s pass t =
      let b = book_of d in
      let e = effect_of v b request in
      let balance = balanced v b request in
      let safe = call_safe v priced (λ p l. (priced p l).1) (capacity d) b request pass.1.1 s.sound in
      let sound : Sound v (book_of d') = subst (Sound v) (sym t.book) safe.sound in
      let u = t.untouched in
      let few = still_fits v d (length report) request pass in
      laws_from (done d request (Ok a) report' d') h
      (λ next c i j.
      let same : c.outcome ≡ (uncrossed v next b).outcome = (let k : c ≡ a = cc in ap (λ (x : Answer). x.outcome) k ∙ ap (λ (x : Answer). x.outcome) t.answer ∙ ap (λ q. (effect_of v b q).outcome) i) in
      subst (ByPriceLaw lawful allows b) (sym (same ∙ uncrossed_outcome v next b _)) (opening_lawful v.grid (λ p l. (priced p l).1) allows b.static (auction_of b)))
      (λ c j. let k : c ≡ a = cc in omega (arith, balance.fits, held_fits d pass.1.0, ap (λ (x : Answer). x.lines) k, ap (λ (x : Answer). x.lines) t.answer))
      (λ f i. absurd (let z : ◌≡◌ {A = ℕ} 0 1 = cc in omega arith))
      (record {
        sound = sound;
        quiet_now = subst Quiet (sym t.book) (quiet v b request s.quiet_now);
        formed = well_formed_from d' t.counts (omega (arith, ap held t.book, balance.grows, u.buys_length, u.sells_length, u.stops_length)) sound.rested;
        accounts = λ k.
            let lines : (f : ReportLine → ℕ) → total f (take a.lines report') ≡ total f (lines_of e) = λ f. ap (λ (x : Answer). total f (take x.lines report')) t.answer ∙ lines_told_lem f e report report' t.reported in
            omega (
              arith,
              s.accounts k,
              balance.keeps k,
              lines (traded_in k),
              lines (withdrawn_in k),
              named_once k (lines_of e) safe.two,
              total_both (names_traded k) (withdrawn_in k) (lines_of e),
              ap (open_of k) t.book,
              ap (λ (x : Answer). entered_by k request x.outcome) t.answer,
            );
      })

  taken_after : (d : Desk) (h : List Done) (request : Request) (report report' : List ReportLine) (a : Answer) (d' : Desk)
      → Stand d h → TakenBy (ruling v d (length report) request) d report a d' report' → After (done d request (Ok a) report' d') h
  taken_after d h request report report' a d' s t =
      let checks = all_checks v d (length report) request in
      let is = ruled_taken (first_fault checks) (effect_of v (book_of d) request) t.effect t.is in
      effect_after d h request report report' a d' s (none_holds checks is.0) (subst (λ e. Took e d report a d' report') (sym is.1) t.took)

  call_after : (d : Desk) (h : List Done) (request : Request) (report report' : List ReportLine) (r : Result Answer BookFault) (d' : Desk)
      → Stand d h → Carried v d request report r d' report' → After (done d request r report' d') h
  call_after d h request report report' (Ok a) d' s c = taken_after d h request report report' a d' s c
  call_after d h request report report' (Err f) d' s c = refused_after d h request report report' f d' s c

  -- ---- the whole session

  session_stands : {d : Desk} {h : List Done} → Session v d h → Stand d h
  session_stands (opens {d = d} p ip n) = new_stand p d ip n
  session_stands (goes_on {d = d} {d' = d'} {h = h} request report report' r s c) = (call_after d h request report report' r d' (session_stands s) c).stand

  pub session_laws : {d : Desk} {h : List Done} → Session v d h → Throughout (CallLaws lawful allows) h
  session_laws (opens p ip n) = tt
  session_laws (goes_on {d = d} {d' = d'} {h = h} request report report' r s c) = ((call_after d h request report report' r d' (session_stands s) c).laws, session_laws s)

pub every_session : EverySession
every_session lawful priced allows d h s = session_laws lawful priced allows s
