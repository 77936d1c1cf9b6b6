-- Lines written on a page.
use Rattle.std.proofs.Common.{◌≡◌, ℕ, suc, ◌+◌, ◌<◌, ◌≤◌, List, [], ◌∷◌, ◌++◌, length, take, drop, set, sym, ap, ◌∙◌, add-zero, add-one, arith}
use lib.Seq.{sets, sets-eq}
use Rattle.std.proofs.lemmas.List.{append_assoc, length-append, length-take-le, take_at, drop_at, drop-drop, take-append-drop, set_split}
use Rattle.trading.specs.declared.report.ReportLine.{ReportLine}
use Rattle.trading.specs.Moves.{written_at}
use Rattle.lent.specs.Contents.{Page, Wrote}

-- ---- none, one, and more lines after lines

-- no lines, one line
pub written_none : (report : List ReportLine) (at : ℕ) → report ≡ written_at report at []
written_none report at = sym (ap (λ n. take at report ++ drop n report) (add-zero at) ∙ take-append-drop at report)

pub written_one : (report : List ReportLine) (at : ℕ) (line : ReportLine) → at < length report → set report at line ≡ written_at report at (line ∷ [])
written_one report at line h = set_split report at line h ∙ ap (λ n. take at report ++ line ∷ drop n report) (sym (add-one at))

-- lines, and then more lines
pub written_after : (report : List ReportLine) (at : ℕ) (ls ms : List ReportLine) → at + length ls ≤ length report → written_at (written_at report at ls) (at + length ls) ms ≡ written_at report at (ls ++ ms)
written_after report at ls ms room =
    let k = at + length ls in
    let p = take at report in
    let rest = drop k report in
    let front : length p ≡ at = length-take-le at report (omega arith) in
    let long : length (p ++ ls) ≡ k = omega (arith, length-append p ls) in
    let split = sym (append_assoc p ls rest) in
    let start : take k (p ++ (ls ++ rest)) ≡ p ++ ls = ap (take k) split ∙ take_at (p ++ ls) rest k long in
    let past : drop k (p ++ (ls ++ rest)) ≡ rest = ap (drop k) split ∙ drop_at (p ++ ls) rest k long in
    let end : drop (k + length ms) (p ++ (ls ++ rest)) ≡ drop (k + length ms) report = sym (drop-drop (length ms) k (p ++ (ls ++ rest))) ∙ ap (drop (length ms)) past ∙ drop-drop (length ms) k report in
    let count : k + length ms ≡ at + length (ls ++ ms) = omega (arith, length-append ls ms) in
    ap (λ xs. xs ++ (ms ++ drop (k + length ms) (p ++ (ls ++ rest)))) start
    ∙ ap (λ xs. (p ++ ls) ++ (ms ++ xs)) end
    ∙ ap (λ j. (p ++ ls) ++ (ms ++ drop j report)) count
    ∙ append_assoc p ls (ms ++ drop (at + length (ls ++ ms)) report)
    ∙ ap (λ xs. p ++ xs) (sym (append_assoc ls ms (drop (at + length (ls ++ ms)) report)))

pub wrote_both : {p p1 p2 : Page} {a b : List ReportLine} → Wrote a p p1 → Wrote b p1 p2 → p2.written ≤ length p.lines → Wrote (a ++ b) p p2
wrote_both {p} {p1} {p2} {a} {b} x y room = record {
  lines = y.lines ∙ ap (λ r. written_at r p1.written b) x.lines ∙ ap (λ k. written_at (written_at p.lines p.written a) k b) x.place ∙ written_after p.lines p.written a b (omega (arith, x.place, y.place));
  place = omega (arith, x.place, y.place, length-append a b);
}

-- ---- line by line

abbrev pub place_after : ℕ → List ReportLine → ℕ
place_after i [] = i
place_after i (y ∷ ys) = place_after (suc i) ys

pub place_after_is : (i : ℕ) (ys : List ReportLine) → place_after i ys ≡ i + length ys
place_after_is i [] = omega arith
place_after_is i (y ∷ ys) = omega (arith, place_after_is (suc i) ys)

-- where lines lead that are written on a page one by one
abbrev pub page_after : Page → List ReportLine → Page
page_after p ls = record { lines = sets p.lines p.written ls; written = place_after p.written ls }

-- one line more is written
pub wrote_one : (p p' : Page) (line : ReportLine) (ls : List ReportLine) → p'.lines ≡ set p.lines p.written line → p'.written ≡ p.written + 1 → page_after p' ls ≡ page_after p (line ∷ ls)
wrote_one p p' line ls e place = rw (e, place, add-one)

-- the lines of the report as a whole
pub sets_written : (report lines : List ReportLine) (at : ℕ) → at + length lines ≤ length report → sets report at lines ≡ written_at report at lines
sets_written report lines at h = sets-eq lines report at h ∙ append_assoc (take at report) lines (drop (at + length lines) report)

-- no line is left
pub wrote_all : {p p' : Page} {ls : List ReportLine} → page_after p' [] ≡ page_after p ls → p'.written ≤ length p.lines → Wrote ls p p'
wrote_all {p} {p'} {ls} e room =
    let place : p'.written ≡ p.written + length ls = ap (λ x. x.written) e ∙ place_after_is p.written ls in
    record {
      lines = ap (λ x. x.lines) e ∙ sets_written p.lines ls p.written (omega arith);
      place = place;
    }
