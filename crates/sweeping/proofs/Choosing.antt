-- How a sweep goes on past the orders that sleep.
use Rattle.std.proofs.Common.{◌≡◌, ℕ, zero, suc, ◌+◌, ◌-◌, one-add, ◌<◌, min, Bool, true, false, not, eqb, leb, List, [], ◌∷◌, ◌++◌, length, get_or, take, drop, set, sym, refl, ap, ◌∙◌, subst, arith}
use Rattle.std.specs.List.{remove, position, position_or_len, AllByRecursion}
use Rattle.std.proofs.lemmas.List.{append-nil, set-get_or, set_split, take_all}
use Rattle.std.proofs.lemmas.Bool.{cond_both, ne_eqb, leb-false, not-true, not-false, ltb-true, ltb-false}
use Rattle.rules.specs.declared.order.Order.{Order}
use Rattle.trading.specs.declared.sweep.Ending.TheVariants.{Filled, Nobody, Collared}
use Rattle.trading.specs.Books.{is_day, reduced}
use Rattle.trading.specs.Sweeps.{within, Swept, stopped, keeping, trading, sweep}
use Rattle.sweeping.specs.Steps.{blank, trade_with, Met, Asleep, FirstDay}

-- an order that may be met
abbrev pub awake : Order → Bool
awake o = is_day o.validity

-- several records stay in front
abbrev kept : List Order → Swept → Swept
kept p s = record { trades = s.trades; queue = p ++ s.queue; rest = s.rest; last = s.last; ending = s.ending }

-- in front of the first day order all sleep, and it is awake
sleep_before : (os : List Order) → AllByRecursion Asleep (take (position_or_len awake os) os)
sleep_before [] = tt
sleep_before (o ∷ os) =
    cond_both (not (awake o)) (1 + position_or_len awake os) 0 (λ k. AllByRecursion Asleep (take k (o ∷ os)))
    (λ e. rw one-add (not-true (awake o) e, sleep_before os))
    (λ e. tt)

awake_there : (os : List Order) → position_or_len awake os < length os → awake (get_or os (position_or_len awake os) blank) ≡ true
awake_there [] h = absurd (omega arith)
awake_there (o ∷ os) h =
    cond_both (not (awake o)) (1 + position_or_len awake os) 0 (λ k. k < length (o ∷ os) → awake (get_or (o ∷ os) k blank) ≡ true)
    (λ e. rw one-add (λ h. awake_there os (omega arith)))
    (λ e h. not-false (awake o) e)
    h

pub first_day_is : (os : List Order) → FirstDay os (position awake os)
first_day_is os =
    cond_both _ _ _ (FirstDay os)
    (λ e. let within = ltb-true _ _ e in (within, sleep_before os, awake_there os within))
    (λ e. subst (AllByRecursion Asleep) (take_all (position_or_len awake os) os (ltb-false _ _ e)) (sleep_before os))

some_left : (n : ℕ) → 0 < n → eqb n 0 ≡ false
some_left n h = ne_eqb n 0 (omega arith)

pub queue_split : (os : List Order) (i : ℕ) → i < length os → os ≡ take i os ++ get_or os i blank ∷ drop (suc i) os
queue_split os i lt = sym (set-get_or os i blank) ∙ set_split os i (get_or os i blank) lt

module _ (allows : ℕ → ℕ → Bool) (t : Order) where
  pub sweep_none : (last : ℕ) (os : List Order) → sweep allows t 0 last os ≡ stopped os 0 last Filled
  unfolding sweep
  sweep_none last [] = refl
  sweep_none last (o ∷ os) = refl

  -- the sleepers stay in front
  sweep_past : (rest last : ℕ) (p q : List Order) → AllByRecursion Asleep p → sweep allows t rest last (p ++ q) ≡ kept p (sweep allows t rest last q)
  unfolding sweep
  sweep_past zero last p q h = sweep_none last (p ++ q) ∙ sym (ap (kept p) (sweep_none last q))
  sweep_past (suc n) last [] q h = refl
  sweep_past (suc n) last (o ∷ p) q h =
      let nz = some_left (suc n) (omega arith) in
      rw (nz, h.0) (ap (keeping o) (sweep_past (suc n) last p q h.1))

  -- a queue of sleepers
  pub sweep_asleep : (rest last : ℕ) (p : List Order) → 0 < rest → AllByRecursion Asleep p → sweep allows t rest last p ≡ stopped p rest last Nobody
  unfolding sweep
  sweep_asleep rest last p z h =
      let e = append-nil p in
      let nz = some_left rest z in
      let end : sweep allows t rest last [] ≡ stopped [] rest last Nobody = rw nz in
      ap (sweep allows t rest last) (sym e) ∙ sweep_past rest last p [] h ∙ ap (kept p) end ∙ ap (λ xs. stopped xs rest last Nobody) e

  -- behind sleepers, the first order that is awake is o
  module _ (rest last : ℕ) (p : List Order) (o : Order) (os : List Order) (z : 0 < rest) (h : AllByRecursion Asleep p) (d : is_day o.validity ≡ true) where
    first_outside : within t.side t.limit o.limit ≡ false → sweep allows t rest last (p ++ o ∷ os) ≡ stopped (p ++ o ∷ os) rest last Nobody
    unfolding sweep
    first_outside w =
        let nz = some_left rest z in
        let here : sweep allows t rest last (o ∷ os) ≡ stopped (o ∷ os) rest last Nobody = rw (nz, d, w) in
        sweep_past rest last p (o ∷ os) h ∙ ap (kept p) here

    first_refused : within t.side t.limit o.limit ≡ true → allows last o.limit ≡ false → sweep allows t rest last (p ++ o ∷ os) ≡ stopped (p ++ o ∷ os) rest last Collared
    unfolding sweep
    first_refused w f =
        let nz = some_left rest z in
        let here : sweep allows t rest last (o ∷ os) ≡ stopped (o ∷ os) rest last Collared = rw (nz, d, w, f) in
        sweep_past rest last p (o ∷ os) h ∙ ap (kept p) here

    first_taken : within t.side t.limit o.limit ≡ true → allows last o.limit ≡ true → leb o.«open» rest ≡ true → sweep allows t rest last (p ++ o ∷ os) ≡ trading (trade_with t o (min rest o.«open»)) (sweep allows t (rest - o.«open») o.limit (p ++ os))
    unfolding sweep
    first_taken w f l =
        let nz = some_left rest z in
        let line = trade_with t o (min rest o.«open») in
        let here : sweep allows t rest last (o ∷ os) ≡ trading line (sweep allows t (rest - o.«open») o.limit os) = rw (nz, d, w, f, l) in
        sweep_past rest last p (o ∷ os) h ∙ ap (kept p) here ∙ ap (trading line) (sym (sweep_past (rest - o.«open») o.limit p os h))

    first_reduced : within t.side t.limit o.limit ≡ true → allows last o.limit ≡ true → leb o.«open» rest ≡ false → sweep allows t rest last (p ++ o ∷ os) ≡ trading (trade_with t o (min rest o.«open»)) (sweep allows t 0 o.limit (p ++ reduced o rest ∷ os))
    unfolding sweep
    first_reduced w f l =
        let nz = some_left rest z in
        let line = trade_with t o (min rest o.«open») in
        let here : sweep allows t rest last (o ∷ os) ≡ trading line (stopped (reduced o rest ∷ os) 0 o.limit Filled) = rw (nz, d, w, f, l) in
        sweep_past rest last p (o ∷ os) h ∙ ap (kept p) here ∙ ap (trading line) (sym (sweep_none o.limit (p ++ reduced o rest ∷ os)))

  -- the order at i is the first that is awake
  module _ (rest last : ℕ) (os : List Order) (i : ℕ) (z : 0 < rest) (lt : i < length os) (h : AllByRecursion Asleep (take i os)) (d : is_day (get_or os i blank).validity ≡ true) where
    pub at_outside : within t.side t.limit (get_or os i blank).limit ≡ false → sweep allows t rest last os ≡ stopped os rest last Nobody
    at_outside w =
        let e = queue_split os i lt in
        ap (sweep allows t rest last) e ∙ first_outside rest last (take i os) (get_or os i blank) (drop (suc i) os) z h d w ∙ ap (λ xs. stopped xs rest last Nobody) (sym e)

    pub at_refused : within t.side t.limit (get_or os i blank).limit ≡ true → allows last (get_or os i blank).limit ≡ false → sweep allows t rest last os ≡ stopped os rest last Collared
    at_refused w f =
        let e = queue_split os i lt in
        ap (sweep allows t rest last) e ∙ first_refused rest last (take i os) (get_or os i blank) (drop (suc i) os) z h d w f ∙ ap (λ xs. stopped xs rest last Collared) (sym e)

    pub at_met : within t.side t.limit (get_or os i blank).limit ≡ true → allows last (get_or os i blank).limit ≡ true → Met allows t rest last os i
    at_met w f =
        let o = get_or os i blank in
        let e = queue_split os i lt in
        let line = trade_with t o (min rest o.«open») in
        let P : List Order → Type 0 = λ xs. sweep allows t rest last os ≡ trading line (sweep allows t (rest - o.«open») o.limit xs) in
        cond_both (leb o.«open» rest) (remove os i) (set os i (reduced o rest)) P
        (λ l. ap (sweep allows t rest last) e ∙ first_taken rest last (take i os) o (drop (suc i) os) z h d w f l)
        (λ l.
        let none : rest - o.«open» ≡ 0 = omega (arith, leb-false o.«open» rest l) in
        rw (none, set_split os i (reduced o rest) lt) (ap (sweep allows t rest last) e ∙ first_reduced rest last (take i os) o (drop (suc i) os) z h d w f l))
