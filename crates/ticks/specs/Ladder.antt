-- Rows whose starts rise: each ends below the next, and all of them are prices.
use Rattle.std.specs.Prelude.{◌≡◌, ℕ, zero, suc, ◌+◌, ◌-◌, ◌<◌, ◌≤◌, Bool, true, false, cond, List, is_some, Some, None, Option, ◌≢◌, nat_lt}
use Rattle.std.proofs.Math.Path.{refl}
use Rattle.std.proofs.Common.{ap, subst, ◌∙◌, ⊎_elim, add-one, arith}
use Rattle.std.proofs.lemmas.Bool.{cases_lt, cases_order, true≢false, false≢true}
use Rattle.std.proofs.lemmas.Bool.Decides.{nat_tests, Decides-below_or}
use Rattle.grid.specs.Neighbours.{Lawful, NextAbove, NextBelow}
use Rattle.grid.specs.Steps.{on_steps}
use Rattle.grid.specs.Setup.{even_fault}
use Rattle.grid.specs.declared.setup.EvenFault.{EvenFault}
use Rattle.ticks.specs.Rows.{row_at, start_at, step_at, last_at, in_row, on_rows, some_below, Rising}
use Rattle.ticks.specs.declared.row.TickRow.{TickRow}
use Rattle.ticks.specs.declared.table.TickTable.{TickTable}
use Rattle.grid.proofs.Runs.{on_told}

-- ---- some number below n

module _ (f : ℕ → Bool) (n : ℕ) where
  pub which : some_below n f ≡ true → (i : ℕ) × (i < n) × (f i ≡ true)
  unfolding some_below
  which = (Decides-below_or f (λ i. f i ≡ true) (λ k. some_below k f) (λ k. (λ e. e, λ e. e)) refl (λ _. refl) n).0

  pub some_at : (i : ℕ) → i < n → f i ≡ true → some_below n f ≡ true
  unfolding some_below
  some_at i h e = (Decides-below_or f (λ i. f i ≡ true) (λ k. some_below k f) (λ k. (λ e. e, λ e. e)) refl (λ _. refl) n).1 (i, h, e)

some_same : (n : ℕ) (f g : ℕ → Bool) → ((i : ℕ) → i < n → f i ≡ g i) → some_below n f ≡ some_below n g
unfolding some_below
some_same zero f g same = refl
some_same (suc n) f g same =
    let here = same n (omega arith) in
    let rest = some_same n f g (λ i h. same i (omega arith)) in
    rw (here, rest)

-- ---- rows

pub climbs : (rs : List TickRow) (n : ℕ) → Rising rs n → (i j : ℕ) → i < j → j < n → start_at rs i < start_at rs j
climbs rs n up i zero h k = absurd (omega arith)
climbs rs n up i (suc j) h k =
    let next : start_at rs j < start_at rs (suc j) = rw add-one at (up j (omega arith)) in
    ⊎_elim
    (λ (l : i < j). let b = climbs rs n up i j l (omega arith) in omega arith)
    (λ (l : j ≤ i). let e : i ≡ j = omega arith in rw e next)
    (cases_lt i j)

-- p is lawful in row i
abbrev pub In : TickTable → ℕ → ℕ → Type 0
In t i p = Lawful (in_row t.rows t.count t.end i) p

-- p is lawful
abbrev pub On : TickTable → ℕ → Type 0
On t p = Lawful (on_rows t.rows t.count t.end) p

climbs_le : (rows : List TickRow) (n : ℕ) → Rising rows n → (i j : ℕ) → i ≤ j → j < n → start_at rows i ≤ start_at rows j
climbs_le rows n up i j h k =
    ⊎_elim
    (λ (l : i < j). let b = climbs rows n up i j l k in omega arith)
    (λ (l : j ≤ i). let e : i ≡ j = omega arith in rw e (omega arith))
    (cases_lt i j)

-- past the end price nothing is lawful
pub ended : (rows : List TickRow) (n end p : ℕ) → Rising rows n → start_at rows (n - 1) ≤ end → Lawful (on_rows rows n end) p → p ≤ end
ended rows n end p up closed on =
    let r = which (λ i. in_row rows n end i p) n on in
    let o = on_told (start_at rows r.0) (step_at rows r.0) (last_at rows n end r.0) p r.2 in
    let within = o.1 in
    let b = climbs_le rows n up (r.0 + 1) (n - 1) in
    grind (arith, nat_tests)

module _ (t : TickTable) where
  climbs_to : (i j : ℕ) → i ≤ j → j < t.count → start_at t.rows i ≤ start_at t.rows j
  climbs_to = climbs_le t.rows t.count t.rising

  pub start_low : (i : ℕ) → i < t.count → 1 ≤ start_at t.rows i
  start_low i h = let b = climbs_to 0 i (omega arith) h in let l = t.low in omega arith

  pub start_closed : (i : ℕ) → i < t.count → start_at t.rows i ≤ last_at t.rows t.count t.end i
  start_closed i h =
      let a = t.rising i in
      let b = climbs_to i (t.count - 1) (omega arith) (omega arith) in
      let l = t.closed in
      grind (arith, nat_tests)

  pub last_high : (i : ℕ) → i < t.count → last_at t.rows t.count t.end i ≤ 99999999
  last_high i h =
      let b = climbs_to (i + 1) (t.count - 1) in
      let l = t.closed in
      let m = t.high in
      grind (arith, nat_tests)

  last_below : (i j : ℕ) → i < j → j < t.count → last_at t.rows t.count t.end i < start_at t.rows j
  last_below i j h k =
      let b = climbs_to (i + 1) j (omega arith) k in
      let l = start_low (i + 1) (omega arith) in
      grind (arith, nat_tests)

  pub row_of : (p : ℕ) → On t p → (i : ℕ) × (i < t.count) × In t i p
  row_of p = which (λ i. in_row t.rows t.count t.end i p) t.count

  of_row : (p i : ℕ) → i < t.count → In t i p → On t p
  of_row p = some_at (λ i. in_row t.rows t.count t.end i p) t.count

  bounds : (p i : ℕ) → In t i p → (start_at t.rows i ≤ p) × (p ≤ last_at t.rows t.count t.end i)
  bounds p i on = let o = on_told (start_at t.rows i) (step_at t.rows i) (last_at t.rows t.count t.end i) p on in (o.0, o.1)

  pub lawful_price : (p : ℕ) → On t p → (1 ≤ p) × (p ≤ 99999999)
  lawful_price p on =
      let r = row_of p on in
      let b = bounds p r.0 r.2 in
      (omega (arith, start_low r.0 r.1), omega (arith, last_high r.0 r.1))

  -- the first row with a price above p has the next one
  pub above_found : (i p : ℕ) → i < t.count → ((k : ℕ) → k < i → (x : ℕ) → p < x → In t k x → ⊥) → (r : Option ℕ) → is_some r ≡ true → NextAbove (in_row t.rows t.count t.end i) p r → NextAbove (on_rows t.rows t.count t.end) p r
  above_found i p h before None e next = absurd (false≢true e)
  above_found i p h before (Some q) e next = (
    next.0,
    of_row q i h next.1,
    λ x a b on.
        let r = row_of x on in
        ⊎_elim
        (λ (k : r.0 ≡ i). next.2 x a b (subst (λ (j : ℕ). In t j x) k r.2))
        (⊎_elim
        (λ (k : r.0 < i). before r.0 k x a r.2)
        (λ (k : i < r.0). omega (arith, last_below i r.0 k r.1, bounds q i next.1, bounds x r.0 r.2)))
        (cases_order r.0 i),
  )

  -- the last row with a price below p has the next one
  pub below_found : (i p : ℕ) → i < t.count → ((k : ℕ) → i < k → k < t.count → (x : ℕ) → x < p → In t k x → ⊥) → (r : Option ℕ) → is_some r ≡ true → NextBelow (in_row t.rows t.count t.end i) p r → NextBelow (on_rows t.rows t.count t.end) p r
  below_found i p h after None e next = absurd (false≢true e)
  below_found i p h after (Some q) e next = (
    next.0,
    of_row q i h next.1,
    λ x a b on.
        let r = row_of x on in
        ⊎_elim
        (λ (k : r.0 ≡ i). next.2 x a b (subst (λ (j : ℕ). In t j x) k r.2))
        (⊎_elim
        (λ (k : r.0 < i). omega (arith, last_below r.0 i k h, bounds q i next.1, bounds x r.0 r.2))
        (λ (k : i < r.0). after r.0 k r.1 x b r.2))
        (cases_order r.0 i),
  )

  -- a row without a price below p
  pub below_none : (i p : ℕ) (r : Option ℕ) → is_some r ≡ false → NextBelow (in_row t.rows t.count t.end i) p r → (x : ℕ) → x < p → In t i x → ⊥
  below_none i p None e next = next
  below_none i p (Some q) e next = absurd (true≢false e)

-- ---- rows that agree

same_last : (rs ts : List TickRow) (n end i : ℕ) → ((k : ℕ) → k < n → row_at rs k ≡ row_at ts k) → last_at rs n end i ≡ last_at ts n end i
same_last rs ts n end i same =
    ⊎_elim
    (λ (h : i + 1 < n). ap (λ (r : TickRow). cond (nat_lt (i + 1) n) (r.start - 1) end) (same (i + 1) h))
    (λ (h : n ≤ i + 1). grind (arith, nat_tests))
    (cases_lt (i + 1) n)

-- two lists with the same first n rows have the same lawful prices
pub same_rows : (rs ts : List TickRow) (n end p : ℕ) → ((k : ℕ) → k < n → row_at rs k ≡ row_at ts k) → on_rows rs n end p ≡ on_rows ts n end p
same_rows rs ts n end p same =
    some_same n (λ i. in_row rs n end i p) (λ i. in_row ts n end i p)
    (λ i h.
    ap (λ (r : TickRow). on_steps r.start r.step (last_at rs n end i) p) (same i h)
    ∙ ap (λ (l : ℕ). on_steps (start_at ts i) (step_at ts i) l p) (same_last rs ts n end i same))

-- the numbers of a row make an even grid
pub row_fits : (t : TickTable) (i last : ℕ) (f : EvenFault) → i < t.count → last ≡ last_at t.rows t.count t.end i → even_fault (start_at t.rows i) (step_at t.rows i) last ≢ Some f
row_fits t i last f h e fault =
    let a = start_low t i h in
    let b = start_closed t i h in
    let d = last_high t i h in
    let s = t.stepped i h in
    let none : even_fault (start_at t.rows i) (step_at t.rows i) last ≡ None = grind (arith, nat_tests) in
    cc
