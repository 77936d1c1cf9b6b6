-- VFU orders leave a queue one by one, and the others close up.
use Rattle.std.proofs.Common.{◌≡◌, ℕ, ◌+◌, ◌<◌, ◌≤◌, true, false, not, List, [], ◌∷◌, ◌++◌, length, get_or, take, drop, set, filter, sym, ap, ◌∙◌, arith}
use Rattle.std.proofs.lemmas.List.{append_assoc, append-nil, drop-set-lt, length-set, take_more_set}
use Rattle.std.proofs.lemmas.Bool.{cond-true, cond-false}
use Rattle.rules.specs.declared.order.Order.{Order}
use Rattle.trading.specs.declared.report.ReportLine.{ReportLine}
use Rattle.trading.specs.Uncrossings.{lapse_of, lapses_by, lapsing, lasting}
use Rattle.lent.specs.Contents.{Page}
use Rattle.uncrossing.specs.Spans.{span, blank_order}
use Rattle.uncrossing.specs.Sifted.{vfu_lines, SiftedTo}
use Rattle.uncrossing.proofs.Spans.{span_cons, span_none, span_set_before}
use Rattle.lent.proofs.Pages.{page_after, wrote_one, wrote_all}

-- up to i, of a table xs and a page p: `count` orders last. What is left leads where the whole span leads.
pub record Sifting (xs : List Order) (from to : ℕ) (p : Page) (ys : List Order) (p' : Page) (i count : ℕ) : Type 0 where
  pub queue : take count ys ++ filter lasting (span i to ys) ≡ filter lasting (span from to xs)
  pub beyond : drop to ys ≡ drop to xs
  pub long : length ys ≡ length xs
  pub leads : page_after p' (vfu_lines (span i to ys)) ≡ page_after p (vfu_lines (span from to xs))
  pub few : p'.written + count + from ≤ p.written + i
  pub on : p.written ≤ p'.written

module _ {xs : List Order} {from to : ℕ} {p : Page} {ys : List Order} {p' : Page} {i count : ℕ} (h : Sifting xs from to p ys p' i count) where
  module _ (lt : i < to) (le : to ≤ length xs) where
    first : span i to ys ≡ get_or ys i blank_order ∷ span (i + 1) to ys
    first = span_cons ys i to blank_order lt (omega (arith, h.long))

    -- a VFU order lapses
    pub sift_lapses : {p'' : Page} {line : ReportLine} → lapsing (get_or ys i blank_order) ≡ true → line ≡ lapse_of (get_or ys i blank_order) → p''.lines ≡ set p'.lines p'.written line → p''.written ≡ p'.written + 1
        → Sifting xs from to p ys p'' (i + 1) count
    unfolding lapses_by
    sift_lapses {p''} {line} t e set_is next =
        let keep : filter lasting (span i to ys) ≡ filter lasting (span (i + 1) to ys) = ap (filter lasting) first ∙ cond-false _ _ _ (ap not t) in
        let one : vfu_lines (span i to ys) ≡ line ∷ vfu_lines (span (i + 1) to ys) = ap vfu_lines first ∙ ap (lapses_by lapse_of) (cond-true _ _ _ t) ∙ ap (λ z. z ∷ vfu_lines (span (i + 1) to ys)) (sym e) in
        record {
          queue = ap (λ z. take count ys ++ z) (sym keep) ∙ h.queue;
          beyond = h.beyond;
          long = h.long;
          leads = wrote_one p' p'' line (vfu_lines (span (i + 1) to ys)) set_is next ∙ ap (page_after p') (sym one) ∙ h.leads;
          few = omega (arith, h.few, next);
          on = omega (arith, h.on, next);
        }

    -- any other closes up
    pub sift_keeps : lapsing (get_or ys i blank_order) ≡ false → Sifting xs from to p (set ys count (get_or ys i blank_order)) p' (i + 1) (count + 1)
    sift_keeps t =
        let x = get_or ys i blank_order in
        let low : count ≤ i = omega (arith, h.few, h.on) in
        let keep : filter lasting (span i to ys) ≡ x ∷ filter lasting (span (i + 1) to ys) = ap (filter lasting) first ∙ cond-true _ _ _ (ap not t) in
        let none : vfu_lines (span i to ys) ≡ vfu_lines (span (i + 1) to ys) = ap vfu_lines first ∙ ap (lapses_by lapse_of) (cond-false _ _ _ t) in
        let same : span (i + 1) to (set ys count x) ≡ span (i + 1) to ys = span_set_before ys count (i + 1) to x (omega arith) in
        let in_table : count < length ys = omega (arith, h.long) in
        record {
          queue = ap (λ z. z ++ filter lasting (span (i + 1) to (set ys count x))) (take_more_set ys count x in_table)
              ∙ ap (λ z. (take count ys ++ x ∷ []) ++ filter lasting z) same
              ∙ append_assoc (take count ys) (x ∷ []) (filter lasting (span (i + 1) to ys))
              ∙ ap (λ z. take count ys ++ z) (sym keep)
              ∙ h.queue;
          beyond = drop-set-lt to ys count x (omega arith) ∙ h.beyond;
          long = length-set ys count x ∙ h.long;
          leads = ap (λ z. page_after p' (vfu_lines z)) same ∙ ap (page_after p') (sym none) ∙ h.leads;
          few = omega (arith, h.few);
          on = h.on;
        }

  -- all are looked at
  pub sift_ends : to ≤ i → i ≤ to → p'.written ≤ length p.lines → SiftedTo xs ys from to p p' count
  unfolding lapses_by
  sift_ends done last within =
      let none : span i to ys ≡ [] = span_none ys i to done in
      record {
        queue = sym (append-nil (take count ys)) ∙ ap (λ z. take count ys ++ filter lasting z) (sym none) ∙ h.queue;
        beyond = h.beyond;
        lines = wrote_all (ap (λ z. page_after p' (vfu_lines z)) (sym none) ∙ h.leads) within;
        few = omega (arith, h.few, h.on);
      }
