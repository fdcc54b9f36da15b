-- The joined charts of two batches are valid: each is in range, and no element comes twice.
use mathlib.Core.Path.{◌≡◌, refl, sym, ap, ◌∙◌}
use mathlib.Core.Bool.{Bool, true, false, cond}
use mathlib.Core.List.{List, [], ◌∷◌, ◌++◌, map, map-append}
use Prim.Native.Nat.{ℕ, ◌+◌, ◌≤◌}
use native.Mathlib.Omega.{arith}
use lib.Dec.{eqb}
use lib.ListN.{length, length-append, length-map}
use borrow.Author.Tests.{le-leb}
use Rattle.chart.specs.Values.{least_setup, most_setup, most_later, counts_fit}
use Rattle.chart.proofs.ValueLaws.{counts-within, values-append}
use Rattle.words.specs.Each.{Every, EachAfter}
use Rattle.words.proofs.EachLaws.{every_append}
use Rattle.chart_section.specs.ChartSection.{Chart, most_charts, elements_of}
use Rattle.chart_section.specs.Valid.{ValidAfter, ValidCharts}
use Rattle.chart_section.proofs.NewLaws.{New, new-append, few-elements}
use Rattle.joining.specs.Charts.{Match, key_of, match_in, joined_with, joined_chart, only_in, joined_charts}
use Rattle.joining.proofs.OnlyLaws.{InRange, valid-parts, parts-valid, every-only, new-joined}
use Rattle.joining.proofs.TestLaws.{Agrees, AllAgree}

-- ---- one chart

-- the chart that was found is one of the list
pub found-has : (P : Chart → Type 0) (ds : List Chart) (e : ℕ) (d : Chart) → Every P ds → match_in ds e ≡ Match.both d → P d
unfolding match_in
found-has P [] e d p m = let z : ◌≡◌ {A = ℕ} 0 1 = cc in absurd (omega arith)
found-has P (x ∷ ds) e d p m = go (eqb x.element e) m (found-has P ds e d p.1)
  where
    go : (b : Bool) → cond b (Match.both x) (match_in ds e) ≡ Match.both d → (match_in ds e ≡ Match.both d → P d) → P d
    go true h rec = let same : x ≡ d = cc in rw (sym same) p.0
    go false h rec = rec h

counts_same : (n later : ℕ) → least_setup ≤ n → n ≤ most_setup → later ≤ most_later → counts_fit n later ≡ true
unfolding counts_fit
counts_same n later h k l = rw (le-leb least_setup n h, le-leb n most_setup k, le-leb later most_later l)

both-in-range : (c d : Chart) → InRange c → InRange d → length c.later + length d.later ≤ most_later → InRange (joined_with c (Match.both d))
both-in-range c d p q l =
    let w = counts-within (length c.setup) (length c.later) p.counts in
    record {
      counts = counts_same (length c.setup) (length (c.later ++ d.later)) w.0 w.1 (omega (arith, length-append c.later d.later));
      setup = p.setup;
      later = values-append c.later d.later ∙ rw (p.later, q.later);
    }

match-in-range : (c : Chart) (m : Match) (second : List Chart) → Every InRange second → InRange c → match_in second (key_of c) ≡ m → Agrees c m
    → InRange (joined_with c m)
match-in-range c Match.alone second q p e a = p
match-in-range c (Match.both d) second q p e a = both-in-range c d p (found-has InRange second (key_of c) d q e) a.1

-- ---- the charts of the first

all-in-range : (first second : List Chart) → Every InRange second → Every InRange first → AllAgree first second
    → Every InRange (map (joined_chart second) first)
all-in-range [] second q p a = tt
all-in-range (c ∷ cs) second q p a = (match-in-range c (match_in second (key_of c)) second q p.0 refl a.0, all-in-range cs second q p.1 a.1)

same-element : (c : Chart) (m : Match) → (joined_with c m).element ≡ c.element
same-element c Match.alone = refl
same-element c (Match.both d) = refl

same-elements : (first second : List Chart) → elements_of (map (joined_chart second) first) ≡ elements_of first
same-elements [] second = refl
same-elements (c ∷ cs) second = rw (same-element c (match_in second (key_of c)), same-elements cs second)

-- ---- all

module _ (first second : List Chart) (p : EachAfter ValidAfter [] first) (q : EachAfter ValidAfter [] second) where
  new-all : New [] (elements_of (joined_charts first second))
  new-all =
      let elements : elements_of (joined_charts first second) ≡ elements_of first ++ elements_of (only_in first second) =
      map-append (λ (c : Chart). c.element) (map (joined_chart second) first) (only_in first second)
      ∙ ap (λ (l : List ℕ). l ++ elements_of (only_in first second)) (same-elements first second)
      in
      rw elements (new-append [] (elements_of first) (elements_of (only_in first second)) (valid-parts [] first p).0 (new-joined first second (valid-parts [] second q).0))

  -- with elements that are all new there are at most ten
  pub few-charts : length (joined_charts first second) ≤ most_charts
  few-charts =
      omega (arith, few-elements (elements_of (joined_charts first second)) new-all, length-map (joined_charts first second) (λ (c : Chart). c.element))

  pub joined-valid : AllAgree first second → ValidCharts (joined_charts first second)
  joined-valid a =
      let r = (valid-parts [] second q).1 in
      record {
        few = few-charts;
        each = parts-valid [] (joined_charts first second) new-all
            (every_append InRange (map (joined_chart second) first) (only_in first second)
            (all-in-range first second r (valid-parts [] first p).1 a)
            (every-only InRange first second r));
      }
