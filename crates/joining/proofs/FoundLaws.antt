-- A chart that stands in a valid list is the one that is found there: no element comes twice.
use mathlib.Core.Path.{◌≡◌, refl, sym, ap, ◌∙◌}
use mathlib.Core.Bool.{Bool, true, false, ◌||◌, not, cond, true≢false}
use mathlib.Core.List.{List, [], ◌∷◌, ◌++◌, append_assoc, append-nil, map-append}
use Prim.Native.Nat.{ℕ}
use lib.Dec.{eqb}
use borrow.Author.Tests.{eq-eqb, not-true}
use Rattle.refusal.proofs.Testing.{both}
use Rattle.record.specs.Record.{is_element}
use Rattle.words.specs.Each.{EachAfter}
use Rattle.chart_section.specs.ChartSection.{Chart, elements_of, member}
use Rattle.chart_section.specs.Valid.{ValidAfter}
use Rattle.chart_section.proofs.NewLaws.{New}
use Rattle.joining.specs.Charts.{Match, key_of, match_in}
use Rattle.joining.proofs.OnlyLaws.{valid-parts}

-- its element is none of those before it
new-at : (used l : List ℕ) (e : ℕ) (t : List ℕ) → New used (l ++ e ∷ t) → member e (used ++ l) ≡ false
new-at used [] e t n = rw (append-nil used) (not-true (member e used) (both (is_element e) (not (member e used)) n.0).1)
new-at used (x ∷ l) e t n = ap (member e) (sym (append_assoc used (x ∷ []) l)) ∙ new-at (used ++ x ∷ []) l e t n.1

found-there : (before : List Chart) (d : Chart) (after : List Chart) → member (key_of d) (elements_of before) ≡ false
    → match_in (before ++ d ∷ after) (key_of d) ≡ Match.both d
unfolding match_in member
found-there [] d after m = rw (eq-eqb (key_of d) (key_of d) refl)
found-there (x ∷ before) d after m = go (eqb (key_of x) (key_of d)) m (found-there before d after)
  where
    go : (b : Bool) → (b || member (key_of d) (elements_of before)) ≡ false → (member (key_of d) (elements_of before) ≡ false → match_in (before ++ d ∷ after) (key_of d) ≡ Match.both d)
        → cond b (Match.both x) (match_in (before ++ d ∷ after) (key_of d)) ≡ Match.both d
    go true e rec = absurd (true≢false e)
    go false e rec = rec e

pub found_at : (cs : List Chart) → EachAfter ValidAfter [] cs → (before : List Chart) (d : Chart) (after : List Chart) → cs ≡ before ++ d ∷ after
    → (key : ℕ) → key_of d ≡ key → match_in cs key ≡ Match.both d
found_at cs v before d after at key is =
    let n : New [] (elements_of before ++ d.element ∷ elements_of after) =
    rw (map-append (λ (c : Chart). c.element) before (d ∷ after)) at (rw at at (valid-parts [] cs v).0) in
    ap (match_in cs) (sym is) ∙ ap (λ (l : List Chart). match_in l (key_of d)) at ∙ found-there before d after (new-at [] (elements_of before) d.element (elements_of after) n)
