-- Lapse lines of a queue on a page.
use Rattle.std.proofs.Common.{◌≡◌, ℕ, ◌+◌, ◌<◌, ◌≤◌, List, ◌∷◌, length, get_or, drop, set, sym, ap, ◌∙◌}
use Rattle.std.proofs.lemmas.List.{at_drop_more, drop_all}
use Rattle.trading.specs.declared.report.ReportLine.{ReportLine}
use Rattle.trading.specs.Uncrossings.{lapses_by}
use Rattle.lent.specs.Contents.{Page, Wrote}
use Rattle.lent.proofs.Pages.{page_after, wrote_one, wrote_all}

module _ {R : Type 0} (lapse : R → ReportLine) where
  -- the lines that are left lead where all lines lead
  pub lapse_next : (queue : List R) (i : ℕ) (p p' whole : Page) {r : R} {line : ReportLine} → i < length queue → r ≡ get_or queue i r → line ≡ lapse r → p'.lines ≡ set p.lines p.written line → p'.written ≡ p.written + 1
      → page_after p (lapses_by lapse (drop i queue)) ≡ whole → page_after p' (lapses_by lapse (drop (i + 1) queue)) ≡ whole
  unfolding lapses_by
  lapse_next queue i p p' whole {r} {line} lt is e one next h =
      let ls = lapses_by lapse (drop (i + 1) queue) in
      wrote_one p p' line ls one next ∙ ap (λ l. page_after p (l ∷ ls)) (e ∙ ap lapse is) ∙ sym (at_drop_more (λ rs. page_after p (lapses_by lapse rs)) queue i r lt) ∙ h

  pub lapse_end : (queue : List R) (i : ℕ) {p p' : Page} → length queue ≤ i → page_after p' (lapses_by lapse (drop i queue)) ≡ page_after p (lapses_by lapse queue) → p'.written ≤ length p.lines
      → Wrote (lapses_by lapse queue) p p'
  unfolding lapses_by
  lapse_end queue i {p} {p'} done h = wrote_all (ap (λ rs. page_after p' (lapses_by lapse rs)) (sym (drop_all i queue done)) ∙ h)
