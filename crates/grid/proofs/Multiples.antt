-- The multiples of s around a number: the last not above it, and the first above it.
use Rattle.std.proofs.Common.{◌≡◌, ℕ, suc, ◌+◌, ◌-◌, ◌*◌, ◌/◌, ◌%◌, ◌<◌, ◌≤◌, ⊎_elim, mod-lt, mul-le-mul_left, mul-suc, arith}
use native.Mathlib.Nat.{div-add-mod, mul-mod_right}
use Rattle.std.proofs.lemmas.Bool.{cases_lt}

module _ (a s : ℕ) (pos : 0 < s) where
  pub down_multiple : (a - a % s) % s ≡ 0
  down_multiple =
      let e : a - a % s ≡ s * (a / s) = omega (arith, div-add-mod a s) in
      rw e (mul-mod_right s (a / s))

  pub up_multiple : (a + (s - a % s)) % s ≡ 0
  up_multiple =
      let e : a + (s - a % s) ≡ s * suc (a / s) = omega (arith, div-add-mod a s, mod-lt a pos, mul-suc s (a / s)) in
      rw e (mul-mod_right s (suc (a / s)))

  pub up_first : (x : ℕ) → a < x → x % s ≡ 0 → a + (s - a % s) ≤ x
  up_first x lt m =
      ⊎_elim
      (λ (h : a / s < x / s). omega (arith, div-add-mod a s, div-add-mod x s, mod-lt a pos, mul-suc s (a / s), mul-le-mul_left {m = suc (a / s)} {n = x / s} s (omega arith)))
      (λ (h : x / s ≤ a / s). omega (arith, div-add-mod a s, div-add-mod x s, mul-le-mul_left {m = x / s} {n = a / s} s h))
      (cases_lt (a / s) (x / s))

-- a multiple above the last one not above `a` would be above `a`
pub down_last : (a s : ℕ) → 0 < s → (x : ℕ) → x ≤ a → x % s ≡ 0 → x ≤ a - a % s
down_last a s pos x le m =
    ⊎_elim
    (λ (h : a - a % s < x). omega (arith, down_multiple a s pos, up_first (a - a % s) s pos x h m, mod-lt a pos))
    (λ (h : x ≤ a - a % s). h)
    (cases_lt (a - a % s) x)
