-- For the crates above: what the answer to the charts' section says of the charts.
use mathlib.Core.Path.{◌≡◌, refl, sym, ap, ◌∙◌}
use mathlib.Core.List.{List, [], ◌∷◌, ◌++◌, map, nil≢cons}
use Prim.Native.Nat.{ℕ, ◌-◌, ◌≤◌}
use native.Mathlib.Omega.{arith}
use lib.ListN.{length, take, drop, length-append, length-map}
use lib.Seq.{drop_at}
use Rattle.std.specs.List.{take-map}
use Rattle.refusal.specs.Outcome.{outcome_of}
use Rattle.refusal.specs.Outcome.Outcome.{given, refused}
use Rattle.refusal.specs.Numbers.{number_of}
use Rattle.refusal.specs.declared.Refusal.{Refusal}
use Rattle.refusal.proofs.Outcomes.{never}
use Rattle.words.specs.FromFront.{Read, taken}
use Rattle.words.specs.Sections.{section_words}
use Rattle.chart_section.specs.declared.columns.ChartColumns.{ChartColumns}
use Rattle.chart_section.specs.declared.columns.ChartSignal.{ChartSignal}
use Rattle.std.specs.Prelude.{Ok, Err}
use Rattle.chart_section.specs.ChartSection.{Chart, elements_of, signal_of, signals_in, charts_of, chart_words}
use Rattle.chart_section.specs.Columns.{ColumnTerms, column, columns_of, columns_by, elements_in, signals_held, terms_of}
use Rattle.chart_section.proofs.ColumnLaws.{column-front}
use Rattle.chart_section.proofs.StandLaws.{charts-stand}

-- what a chart tells
abbrev pub signal_told : Chart → ChartSignal
signal_told c = record { element = c.element; signal = signal_of c }

-- the charts of the words s, as the columns hold them: so many words from the front
pub record Held (s : List ℕ) (r : ChartColumns) (size : ℕ) : Type 0 where
  pub charts : List Chart
  pub read : charts_of s ≡ taken charts (drop size s)
  pub inside : size ≤ length s
  pub told : take r.count r.charts ≡ map signal_told charts

-- what is left is behind so many words
behind : (s front rest : List ℕ) → s ≡ front ++ rest → rest ≡ drop (length s - length rest) s
behind s front rest e =
    let size : length front ≡ length s - length rest = omega (arith, ap length e, length-append front rest) in
    sym (ap (drop (length s - length rest)) e ∙ drop_at front rest (length s - length rest) size)

-- how reading ended tells what was read
refused-only : (s : List ℕ) (x : Read (List Chart)) (n : ℕ) → (columns_by s x).ended ≡ refused n → x ≡ refused n
refused-only s (given p) n e = never (sym e)
refused-only s (refused m) n e = let same : m ≡ n = cc in ap refused same

given-only : (s : List ℕ) (x : Read (List Chart)) (n : ℕ) → (columns_by s x).ended ≡ given n
    → (cs : List Chart) × (rest : List ℕ) × (x ≡ taken cs rest) × (length s - length rest ≡ n)
given-only s (given p) n e = (p.0, p.1, refl, cc)
given-only s (refused m) n e = never e

-- what charts tell, from a column of each
told-by : (l : List ChartSignal) (cs : List Chart) → elements_in l ≡ elements_of cs → signals_held l ≡ signals_in cs → l ≡ map signal_told cs
told-by [] [] e g = refl
told-by [] (c ∷ cs) e g = absurd (nil≢cons e)
told-by (x ∷ l) [] e g = absurd (nil≢cons (sym e))
told-by (x ∷ l) (c ∷ cs) e g =
    let a : x.element ≡ c.element = cc in
    let b : x.signal ≡ signal_of c = cc in
    let es : elements_in l ≡ elements_of cs = cc in
    let gs : signals_held l ≡ signals_in cs = cc in
    rw (sym a, sym b) (ap (λ (t : List ChartSignal). x ∷ t) (told-by l cs es gs))

-- so many places of a column are what the charts have
front : {A : Type 0} (p : A → ℕ) (f : Chart → ℕ) (l : List A) (cs : List Chart) (n : ℕ) → n ≡ length cs → map p l ≡ column (map f cs) → map p (take n l) ≡ map f cs
front p f l cs n count holds = sym (take-map p n l) ∙ ap (take n) holds ∙ column-front (map f cs) n (length-map cs f ∙ sym count)

module _ (s : List ℕ) (r : ChartColumns) (told : terms_of r ≡ columns_of s) where
  pub columns-refused : {why : Refusal} → r.ended ≡ Err why → charts_of s ≡ refused (number_of why)
  unfolding columns_of
  columns-refused {why} is = refused-only s (charts_of s) (number_of why) (sym (ap (λ (c : ColumnTerms). c.ended) told) ∙ ap outcome_of is)

  pub columns-held : {size : ℕ} → r.ended ≡ Ok size → Held s r size
  unfolding columns_of
  columns-held {size} is =
      let t = given-only s (charts_of s) size (sym (ap (λ (c : ColumnTerms). c.ended) told) ∙ ap outcome_of is) in
      let cs = t.0 in
      let rest = t.1 in
      let all : terms_of r ≡ columns_by s (taken cs rest) = told ∙ ap (columns_by s) t.2 in
      let count : r.count ≡ length cs = ap (λ (c : ColumnTerms). c.count) all in
      let es : elements_in r.charts ≡ column (elements_of cs) = ap (λ (c : ColumnTerms). c.elements) all in
      let gs : signals_held r.charts ≡ column (signals_in cs) = ap (λ (c : ColumnTerms). c.signals) all in
      let left : rest ≡ drop size s = behind s (section_words chart_words cs) rest (charts-stand s cs rest t.2) ∙ ap (λ (k : ℕ). drop k s) t.3 in
      record {
        charts = cs;
        read = t.2 ∙ ap (taken cs) left;
        inside = omega (arith, t.3);
        told = told-by (take r.count r.charts) cs
            (front (λ (x : ChartSignal). x.element) (λ (c : Chart). c.element) r.charts cs r.count count es)
            (front (λ (x : ChartSignal). x.signal) signal_of r.charts cs r.count count gs);
      }
