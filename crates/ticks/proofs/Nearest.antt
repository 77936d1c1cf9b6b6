-- The row that has the next price of a table.
use Rattle.std.proofs.Common.{ℕ, ◌<◌, Some, None, Option, refl, arith}
use Rattle.std.specs.Fn.{Called}
use Rattle.std.specs.Iterator.Runs.{SomeRun, EachRunFrom, IsIdenticalRun, CallKeepsClosure}
use Rattle.std.proofs.iter.Yields.{nat_range_steps}
use Rattle.std.proofs.iter.runs.Sources.{nat_range_steps_back}
use Rattle.grid.specs.Neighbours.{NextAbove, NextBelow}
use Rattle.ticks.specs.Rows.{in_row, on_rows}
use Rattle.ticks.specs.Ladder.{row_of, above_found, below_found, below_none}
use Rattle.ticks.specs.declared.table.TickTable.{TickTable}
use Rattle.ticks.proofs.Mapped.{Stops, Found, first_up, first_down}
use denote.Param.Members.{Mut}

module _ (t : TickTable) (p : ℕ) where
  abbrev pub AboveIn : ℕ → Option ℕ → Type 0
  AboveIn i = NextAbove (in_row t.rows t.count t.end i) p

  abbrev pub BelowIn : ℕ → Option ℕ → Type 0
  BelowIn i = NextBelow (in_row t.rows t.count t.end i) p

  above_first : (r : Option ℕ) → Found (λ k i. k < i) AboveIn t.count r → NextAbove (on_rows t.rows t.count t.end) p r
  above_first None none = λ x a on. let r = row_of t x on in none r.0 r.1 x a r.2
  above_first (Some q) (i, h, next, before) = above_found t i p h (λ k b. before k b (omega arith)) (Some q) refl next

  below_last : (r : Option ℕ) → Found (λ k i. i < k) BelowIn t.count r → NextBelow (on_rows t.rows t.count t.end) p r
  below_last None none = λ x a on. let r = row_of t x on in below_none t r.0 p None refl (none r.0 r.1) x a r.2
  below_last (Some q) (i, h, next, after) = below_found t i p h after (Some q) refl next

  module _ {F : Type 0} {g : Mut F (ℕ × Unit {0}) (Option ℕ)} {f : F} where
    pub above_mapped : (r : Option ℕ) → SomeRun nat_range_steps (record { start = 0; end = t.count }) (λ q. Stops g f r q)
        → CallKeepsClosure g f → ((k : ℕ) (o : Option ℕ) → Called g f (k, tt) o f → AboveIn k o) → NextAbove (on_rows t.rows t.count t.end) p r
    above_mapped r h keeps gives = above_first r (first_up AboveIn t.count keeps gives r h)

    pub below_mapped : {S : Type 0} {steps : S → Option ℕ → S → Type 0} (s : S) (r : Option ℕ) → EachRunFrom steps s (λ q. SomeRun nat_range_steps_back (record { start = 0; end = t.count }) (λ b. IsIdenticalRun q b)) → SomeRun steps s (λ q. Stops g f r q)
        → CallKeepsClosure g f → ((k : ℕ) (o : Option ℕ) → Called g f (k, tt) o f → BelowIn k o) → NextBelow (on_rows t.rows t.count t.end) p r
    below_mapped s r each h keeps gives = below_last r (first_down BelowIn t.count keeps gives s r each h)
