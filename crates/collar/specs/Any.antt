-- One of the collars: which prices it allows, given the static price and the last price.
use Rattle.std.specs.Prelude.{ℕ, Bool, ◌&&◌}
use Rattle.collar.specs.Bands.{in_band, within}
use Rattle.collar.specs.declared.any.AnyCollar.{AnyCollar}
use Rattle.collar.specs.declared.any.AnyCollar.TheVariants.{Band, AroundLast, StaticBand, StaticLast}

abbrev pub allows_any : AnyCollar → ℕ → ℕ → ℕ → Bool
allows_any (Band b) s last p = in_band b.low b.high p
allows_any (AroundLast a) s last p = within a.factor.k last p
allows_any (StaticBand c) s last p = within c.factor.k s p && in_band c.inner.low c.inner.high p
allows_any (StaticLast c) s last p = within c.factor.k s p && within c.inner.factor.k last p
