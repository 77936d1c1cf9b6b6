-- What `find_map` over the indices below n answers, from the front and from the back.
use Rattle.std.proofs.Common.{◌≡◌, ℕ, ◌+◌, ◌-◌, ◌<◌, ◌≤◌, true, Some, None, Option, MatchOption, sym, subst, ap, ◌∙◌, arith}
use Rattle.std.specs.Option.{option_map, IfSome, IsSomeAnd}
use Rattle.std.specs.Fn.{Called}
use Rattle.std.specs.Iterator.Runs.{Run, SomeRun, EachRunFrom, AllItemsGive, IsFirstToGive, IsIdenticalRun, CallKeepsClosure}
use Rattle.std.specs.declared.ops.Range.{Range}
use Rattle.std.proofs.iter.Yields.{nat_range_steps}
use Rattle.std.proofs.iter.runs.Sources.{nat_range_steps_back, range_runs, range_runs_back}
use Rattle.std.proofs.lemmas.Option.{none-some, same_Some}
use denote.Param.Members.{Mut}

if_at : (o : Option ℕ) (n : ℕ) (P : ℕ → Type 0) → option_map (λ y. y) o ≡ Some n → IfSome o P → P n
if_at None n P e h = absurd (none-some n e)
if_at (Some x) n P e h = subst P (same_Some x n e) h

and_at : (o : Option ℕ) (n : ℕ) (P : ℕ → Type 0) → option_map (λ y. y) o ≡ Some n → IsSomeAnd o P → P n
and_at None n P e h = absurd h
and_at (Some x) n P e h = subst P (same_Some x n e) h

-- what `find_map` ensures of a run
abbrev pub Stops : {S F B : Type 0} {steps : S → Option ℕ → S → Type 0} → Mut F (ℕ × Unit {0}) (Option B) → F → Option B → Run steps → Type 0
Stops g f r p = MatchOption r ((p.whole ≡ true) × AllItemsGive p g f None) (λ y. (i : ℕ) × (i < p.len) × (p.len ≡ i + 1) × IsFirstToGive p g f (Some y) None i)

-- some index below n gives the answer, and those before it give none; or none of them gives one
abbrev pub Found : {B : Type 0} → (ℕ → ℕ → Type 0) → (ℕ → Option B → Type 0) → ℕ → Option B → Type 0
Found Before Gives n r = MatchOption r ((k : ℕ) → k < n → Gives k None) (λ y. (i : ℕ) × (i < n) × Gives i (Some y) × ((k : ℕ) → Before k i → k < n → Gives k None))

module _ {F B : Type 0} {g : Mut F (ℕ × Unit {0}) (Option B)} {f : F} (Gives : ℕ → Option B → Type 0) (n : ℕ) (keeps : CallKeepsClosure g f) (gives : (k : ℕ) (o : Option B) → Called g f (k, tt) o f → Gives k o) where
  module _ {S : Type 0} {steps : S → Option ℕ → S → Type 0} (p : Run steps) (le : p.len ≤ n) (all : p.whole ≡ true → p.len ≡ n) where
    -- index k comes at place k
    up : ((k : ℕ) → k < p.len → option_map (λ y. y) (p.at k) ≡ Some k) → (r : Option B) → Stops g f r p → Found (λ k i. k < i) Gives n r
    up at None h = λ k l. gives k None (if_at (p.at k) k (λ x. Called g f (x, tt) None f) (at k (omega (arith, all h.0))) (h.1 keeps k))
    up at (Some y) h =
        let z = h.3 keeps in (
          h.0,
          omega (arith, h.1),
          gives h.0 (Some y) (and_at (p.at h.0) h.0 (λ x. Called g f (x, tt) (Some y) f) (at h.0 h.1) z.0),
          λ k b l. gives k None (and_at (p.at k) k (λ x. Called g f (x, tt) None f) (at k (omega (arith, h.1))) (z.1 k b)),
        )

    -- index k comes at place n - 1 - k
    down : ((k : ℕ) → k < p.len → option_map (λ y. y) (p.at k) ≡ Some (n - 1 - k)) → (r : Option B) → Stops g f r p → Found (λ k i. i < k) Gives n r
    down at None h =
        λ k l.
        let e : n - 1 - (n - 1 - k) ≡ k = omega arith in
        gives k None (if_at (p.at (n - 1 - k)) k (λ x. Called g f (x, tt) None f) (at (n - 1 - k) (omega (arith, all h.0)) ∙ ap Some e) (h.1 keeps (n - 1 - k)))
    down at (Some y) h =
        let z = h.3 keeps in (
          n - 1 - h.0,
          omega (arith, h.1),
          gives (n - 1 - h.0) (Some y) (and_at (p.at h.0) (n - 1 - h.0) (λ x. Called g f (x, tt) (Some y) f) (at h.0 h.1) z.0),
          λ k b l.
              let e : n - 1 - (n - 1 - k) ≡ k = omega arith in
              gives k None (and_at (p.at (n - 1 - k)) k (λ x. Called g f (x, tt) None f) (at (n - 1 - k) (omega (arith, h.1)) ∙ ap Some e) (z.1 (n - 1 - k) (omega (arith, h.1)))),
        )

  pub first_up : (r : Option B) → SomeRun nat_range_steps (record { start = 0; end = n }) (λ p. Stops g f r p) → Found (λ k i. k < i) Gives n r
  first_up r h =
      let c = range_runs h.0 h.0.seen in
      let start : h.0.from.start ≡ 0 = ap (λ (s : Range ℕ). s.start) h.1 in
      let last : h.0.from.end ≡ n = ap (λ (s : Range ℕ). s.end) h.1 in
      up h.0 (omega (arith, c.0)) (λ w. omega (arith, c.1 w)) (λ k l. c.3 k l ∙ ap Some (omega arith)) r h.2

  pub first_down : {S : Type 0} {steps : S → Option ℕ → S → Type 0} (s : S) (r : Option B) → EachRunFrom steps s (λ p. SomeRun nat_range_steps_back (record { start = 0; end = n }) (λ q. IsIdenticalRun p q)) → SomeRun steps s (λ p. Stops g f r p)
      → Found (λ k i. i < k) Gives n r
  first_down s r each h =
      let b = each h.0 h.0.seen h.1 in
      let c = range_runs_back b.0 b.0.seen in
      let start : b.0.from.start ≡ 0 = ap (λ (s : Range ℕ). s.start) b.1 in
      let last : b.0.from.end ≡ n = ap (λ (s : Range ℕ). s.end) b.1 in
      let len = b.2.0.0 in
      down h.0 (omega (arith, c.0, len)) (λ w. omega (arith, len, c.1 (b.2.1 ∙ w)))
      (λ k l. ap (option_map (λ (y : ℕ). y)) (sym (b.2.0.2 k)) ∙ (c.3 k (omega (arith, len)) ∙ ap Some (omega arith))) r h.2
