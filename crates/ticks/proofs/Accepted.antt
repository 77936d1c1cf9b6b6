-- Rows in which no fault is found make a table.
use Rattle.std.proofs.Common.{◌≡◌, ℕ, zero, suc, ◌+◌, ◌-◌, ◌<◌, ◌≤◌, true, false, cond, not, eqb, leb, List, [], ◌∷◌, length, drop, Some, None, Option, refl, ap, ◌∙◌, add-one, arith}
use Rattle.std.proofs.lemmas.List.{drop_more, drop_all}
use Rattle.std.proofs.lemmas.Bool.{eq-eqb, ne_eqb, le-leb, lt-leb}
use Rattle.std.proofs.lemmas.Bool.Decides.{nat_tests}
use Rattle.grid.specs.Prices.{is_price}
use Rattle.ticks.specs.Rows.{row_at, start_at, step_at, Rising, Stepped}
use Rattle.ticks.specs.Setup.{row_fault, end_fault, or_else, table_fault}
use Rattle.ticks.specs.declared.setup.TableFault.{TableFault}
use Rattle.ticks.specs.declared.setup.TableFault.TheVariants.{StartNotPrice, RowZeroStep, StartNotRising}
use Rattle.ticks.specs.declared.row.TickRow.{TickRow}

-- the fault of the rows from row i on, by row i
module _ (i before : ℕ) (rows : List TickRow) (h : i < length rows) where
  row_step : row_fault i before (drop i rows) ≡ cond (not (is_price (start_at rows i))) (Some (StartNotPrice i)) (cond (eqb (step_at rows i) 0) (Some (RowZeroStep i)) (cond (leb (start_at rows i) before) (Some (StartNotRising i)) (row_fault (i + 1) (start_at rows i) (drop (i + 1) rows))))
  unfolding row_fault
  row_step = rw (drop_more rows i (record { start = 0; step = 0 }))

  pub row_not_price : is_price (start_at rows i) ≡ false → row_fault i before (drop i rows) ≡ Some (StartNotPrice i)
  row_not_price e = row_step ∙ simp e

  pub row_no_step : is_price (start_at rows i) ≡ true → step_at rows i ≡ 0 → row_fault i before (drop i rows) ≡ Some (RowZeroStep i)
  row_no_step e z = row_step ∙ simp (e, eq-eqb (step_at rows i) 0 z)

  pub row_not_above : is_price (start_at rows i) ≡ true → (step_at rows i ≡ 0 → ⊥) → start_at rows i ≤ before → row_fault i before (drop i rows) ≡ Some (StartNotRising i)
  row_not_above e z l = row_step ∙ simp (e, ne_eqb (step_at rows i) 0 z, le-leb (start_at rows i) before l)

  pub row_fine : is_price (start_at rows i) ≡ true → (step_at rows i ≡ 0 → ⊥) → before < start_at rows i → row_fault i before (drop i rows) ≡ row_fault (i + 1) (start_at rows i) (drop (i + 1) rows)
  row_fine e z l = row_step ∙ simp (e, ne_eqb (step_at rows i) 0 z, lt-leb (start_at rows i) before l)

pub row_none : (i before : ℕ) (rows : List TickRow) → length rows ≤ i → row_fault i before (drop i rows) ≡ None
unfolding row_fault
row_none i before rows h = rw drop_all

-- what rows without a fault keep
pub record Sound (before : ℕ) (rows : List TickRow) : Type 0 where
  pub above : 0 < length rows → before < start_at rows 0
  pub rising : Rising rows (length rows)
  pub stepped : Stepped rows (length rows)

-- what the first row without a fault keeps, and what is left for the others
first_kept : (i before : ℕ) (r : TickRow) (rs : List TickRow) → row_fault i before (r ∷ rs) ≡ None → (before < r.start) × (1 ≤ r.step) × (row_fault (i + 1) r.start rs ≡ None)
unfolding row_fault
first_kept i before r rs e = (grind (arith, nat_tests), grind (arith, nat_tests), grind (arith, nat_tests))

rises : (r : TickRow) (rs : List TickRow) → Sound r.start rs → Rising (r ∷ rs) (length (r ∷ rs))
rises r rs s zero h = s.above (omega arith)
rises r rs s (suc k) h = rw add-one (rw add-one at (s.rising k (omega arith)))

steps : (r : TickRow) (rs : List TickRow) → 1 ≤ r.step → Sound r.start rs → Stepped (r ∷ rs) (length (r ∷ rs))
steps r rs one s zero h = one
steps r rs one s (suc k) h = s.stepped k (omega arith)

pub sound : (i before : ℕ) (rows : List TickRow) → row_fault i before rows ≡ None → Sound before rows
sound i before [] e = record { above = λ h. absurd (omega arith); rising = λ k h. absurd (omega arith); stepped = λ k h. absurd (omega arith) }
sound i before (r ∷ rs) e =
    let f = first_kept i before r rs e in
    let s = sound (i + 1) r.start rs f.2 in
    record { above = λ h. f.0; rising = rises r rs s; stepped = steps r rs f.1 s }

-- what rows and an end price without a fault keep
pub record Whole (rows : List TickRow) (end : ℕ) : Type 0 where
  pub some : 1 ≤ length rows
  pub few : length rows ≤ 32
  pub sound : Sound 0 rows
  pub closed : start_at rows (length rows - 1) ≤ end
  pub high : end ≤ 99999999

neither : (a b : Option TableFault) → or_else a b ≡ None → (a ≡ None) × (b ≡ None)
neither None b e = (refl, e)
neither (Some f) b e = absurd (cc)

pub whole : (rows : List TickRow) (end : ℕ) → table_fault rows end ≡ None → Whole rows end
whole rows end e =
    let o : or_else (row_fault 0 0 rows) (end_fault rows end) ≡ None = grind (arith, nat_tests) in
    let n = neither (row_fault 0 0 rows) (end_fault rows end) o in
    record { some = grind (arith, nat_tests); few = grind (arith, nat_tests); sound = sound 0 0 rows n.0; closed = grind (arith, nat_tests); high = grind (arith, nat_tests) }

-- what a table keeps whose first rows are those
pub record Placed (rows table : List TickRow) (end : ℕ) : Type 0 where
  pub rising : Rising table (length rows)
  pub stepped : Stepped table (length rows)
  pub low : 1 ≤ start_at table 0
  pub closed : start_at table (length rows - 1) ≤ end

pub placed : (rows table : List TickRow) (end : ℕ) → Whole rows end → ((i : ℕ) → i < length rows → row_at table i ≡ row_at rows i) → Placed rows table end
placed rows table end w same =
    let start : (i : ℕ) → i < length rows → start_at table i ≡ start_at rows i = λ i h. ap (λ (r : TickRow). r.start) (same i h) in
    let step : (i : ℕ) → i < length rows → step_at table i ≡ step_at rows i = λ i h. ap (λ (r : TickRow). r.step) (same i h) in
    record {
      rising = λ i h. omega (arith, start i (omega arith), start (i + 1) h, w.sound.rising i h);
      stepped = λ i h. omega (arith, step i h, w.sound.stepped i h);
      low = omega (arith, start 0 w.some, w.sound.above w.some);
      closed = omega (arith, start (length rows - 1) (omega (arith, w.some)), w.closed);
    }

-- what the rows from row i on come to, by row i
pub ruleset row_faults = (row_not_price, row_no_step, row_not_above, row_fine, row_none)
