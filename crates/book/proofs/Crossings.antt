-- An uncrossing has come about.
use Rattle.std.proofs.Common.{◌≡◌, ℕ, Bool, List, length, sym, ap, ◌∙◌, subst}
use Rattle.rules.specs.declared.opening.Opening.{Opening}
use Rattle.rules.specs.Candidates.{grid_of}
use Rattle.rules.specs.Openings.{opening}
use Rattle.trading.specs.declared.answer.Outcome.TheVariants.{Uncrossed}
use Rattle.trading.specs.declared.report.ReportLine.{ReportLine}
use Rattle.trading.specs.declared.request.Next.{Next}
use Rattle.trading.specs.declared.request.Request.TheVariants.{Uncross}
use Rattle.trading.specs.Books.{Venue, venue_of, auction_of}
use Rattle.trading.specs.Calls.{effect_of}
use Rattle.trading.specs.Uncrossings.{uncrossed_as}
use Rattle.trading.specs.Desks.{Desk, book_of, capacity}
use Rattle.trading.specs.Carried.{Took}
use Rattle.lent.specs.Contents.{Page}
use Rattle.lent.specs.Moves.{Comes}
use Rattle.checks.specs.Ground.{Standing}
use Rattle.sessions.proofs.Sessions.{uncrossed_outcome}
use Rattle.book.specs.Opened.{wholly, OpeningCame}
use Rattle.book.proofs.Coming.{Fresh, told, effect_took}

module _ (lawful : ℕ → Bool) (allows : ℕ → ℕ → ℕ → Bool) (next : Next) (d : Desk) (report : List ReportLine) (p : Page) (d' : Desk) (p' : Page) where
  abbrev v : Venue
  v = venue_of lawful allows

  pub uncrossed_took : (o : Opening) → Standing d (length report) → Fresh report p → o ≡ opening (grid_of lawful) allows (book_of d).static (auction_of (book_of d)) → OpeningCame allows next o d p d' p'
      → Took (effect_of v (book_of d) (Uncross next)) d report (told (Uncrossed o) d' p') d' p'.lines
  uncrossed_took o s fresh e c =
      let outcome = ap Uncrossed e ∙ sym (uncrossed_outcome v next (book_of d) (opening (grid_of lawful) allows (book_of d).static (auction_of (book_of d)))) in
      effect_took v (Uncross next) d report p _ d' p' s fresh
      (subst (λ x. Comes (capacity d) (wholly (uncrossed_as v next (book_of d) x)) d p d' p') e (c (grid_of lawful)))
      (λ k. told (outcome k) d' p')
