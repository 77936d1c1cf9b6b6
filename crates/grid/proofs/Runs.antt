-- The lawful neighbours of a number on an even grid.
use Rattle.std.proofs.Common.{◌≡◌, ℕ, ◌+◌, ◌-◌, ◌%◌, ◌<◌, ◌≤◌, true, false, leb, refl, mod-lt, arith}
use Rattle.std.specs.Bool.{then_some}
use native.Mathlib.Nat.{mod-le}
use Rattle.std.proofs.lemmas.Bool.{leb-true, leb-false}
use Rattle.std.proofs.lemmas.Bool.Decides.{nat_tests}
use Rattle.grid.specs.Neighbours.{Lawful, NextAbove}
use Rattle.grid.specs.Steps.{on_steps}
use Rattle.grid.proofs.Multiples.{down_multiple, up_multiple, down_last, up_first}

-- what `on_steps` tests
abbrev pub OnSteps : ℕ → ℕ → ℕ → ℕ → Type 0
OnSteps first step last p = (first ≤ p) × (p ≤ last) × ((p - first) % step ≡ 0)

module _ (first step last : ℕ) where
  pub on_told : (p : ℕ) → Lawful (on_steps first step last) p → OnSteps first step last p
  on_told p on = (grind (arith, nat_tests), grind (arith, nat_tests), grind (arith, nat_tests))

  pub told_on : (p : ℕ) → OnSteps first step last p → Lawful (on_steps first step last) p
  told_on p on = grind (arith, nat_tests)

module _ (first step last : ℕ) (pos : 1 ≤ step) (p : ℕ) (from : first ≤ p) where
  pub down_on : p ≤ last → Lawful (on_steps first step last) (p - (p - first) % step)
  down_on h =
      let k = mod-le (p - first) step in
      let e : p - (p - first) % step - first ≡ (p - first) - (p - first) % step = omega arith in
      told_on first step last _ (omega arith, omega arith, rw e (down_multiple (p - first) step pos))

  pub down_next : (x : ℕ) → x ≤ p → Lawful (on_steps first step last) x → x ≤ p - (p - first) % step
  down_next x h on =
      let o = on_told first step last x on in
      omega (arith, down_last (p - first) step pos (x - first) (omega arith) o.2, mod-le (p - first) step)

  pub up_on : p + (step - (p - first) % step) ≤ last → Lawful (on_steps first step last) (p + (step - (p - first) % step))
  up_on h =
      let e : p + (step - (p - first) % step) - first ≡ (p - first) + (step - (p - first) % step) = omega arith in
      told_on first step last _ (omega arith, h, rw e (up_multiple (p - first) step pos))

  pub up_next : (x : ℕ) → p < x → Lawful (on_steps first step last) x → p + (step - (p - first) % step) ≤ x
  up_next x h on =
      let o = on_told first step last x on in
      omega (arith, up_first (p - first) step pos (x - first) (omega arith) o.2)

  -- the next price up, unless it is above the last
  pub up_found : (q : ℕ) → q ≡ p + (step - (p - first) % step) → NextAbove (on_steps first step last) p (then_some (leb q last) q)
  up_found q e = (elim (leb q last) as (λ b. leb q last ≡ b → NextAbove (on_steps first step last) p (then_some b q)) [
    | true ↦ λ h. (omega (arith, mod-lt (p - first) pos), rw e (up_on (omega (arith, leb-true q last h))), λ x a b on. omega (arith, up_next x a on))
    | false ↦ λ h x a on. omega (arith, leb-false q last h, on_told first step last x on, up_next x a on)
  ]) refl
