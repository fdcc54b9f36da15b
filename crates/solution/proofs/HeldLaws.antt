-- What is held of a record by value gives the record's own amounts, at either end, and sums.
use mathlib.Core.Path.{◌≡◌, refl, ap, ap₂}
use mathlib.Core.Bool.{Bool, true, false}
use mathlib.Core.List.{List}
use Prim.Native.Nat.{ℕ, zero, suc, ◌+◌, ◌*◌, ◌≤◌, ◌<◌}
use native.Mathlib.Nat.{le_trans}
use native.Mathlib.Omega.{arith}
use Rattle.reading.specs.declared.Analyte.{Analyte}
use Rattle.reading.specs.declared.Reading.{Reading}
use Rattle.reading.specs.Amounts.{most_mass}
use Rattle.reading.specs.Analytes.{present, analyte_of, range_of}
use Rattle.reading.proofs.AmountRangeLaws.{range-ordered, range-most}
use Rattle.record.specs.Record.{ions, readings, reading_at, all_below, mass_at}
use Rattle.record.specs.declared.TestedRecord.{TestedRecord}
use Rattle.record.specs.Tested.{Holds, analyte_at}
use Rattle.record.proofs.AllBelow.{all_same}
use Rattle.solution.specs.Ions.{sum}
use Rattle.solution.specs.Solutions.{range_at, ions_known}
use Rattle.solution.specs.ByValue.{there_at, end_of, amount_at}
use Rattle.solution.specs.Steps.{Small}

-- what agrees below n has the same sum up to n
weighed-same : (w a b : ℕ → ℕ) (n : ℕ) → ((i : ℕ) → i < n → a i ≡ b i) → sum (λ i. w i * a i) n ≡ sum (λ i. w i * b i) n
unfolding sum
weighed-same w a b zero h = refl
weighed-same w a b (suc n) h = ap₂ (λ (x y : ℕ). x + y) (weighed-same w a b n (λ i l. h i (omega arith))) (ap (λ (x : ℕ). w n * x) (h n (omega arith)))

-- neither end of a reading's range is above the greatest amount
end-most : (greatest : Bool) (r : Reading) → end_of greatest (range_of (analyte_of r)) ≤ most_mass
end-most true r = range-most r
end-most false r = le_trans (range-ordered (analyte_of r)) (range-most r)

module _ (s : List ℕ) (r : TestedRecord) (w : Holds s r) where
  abbrev h : List Analyte
  h = r.analytes

  pub held-there : (i : ℕ) → i < readings → there_at h i ≡ present (reading_at s i)
  held-there i l = ap (λ (a : Analyte). present a.reading) (w.readings i l)

  pub held-amount : (i : ℕ) → i < readings → (analyte_at h i).mass.0 ≡ mass_at s i
  held-amount i l = ap (λ (a : Analyte). a.mass.0) (w.readings i l)

  pub held-end : (greatest : Bool) (i : ℕ) → i < readings → amount_at greatest h i ≡ end_of greatest (range_at s i)
  held-end greatest i l = ap (λ (a : Analyte). end_of greatest (range_of a)) (w.readings i l)

  pub held_small : Small h
  held_small = record { most = λ greatest i l. rw (held-end greatest i l) (end-most greatest (reading_at s i)) }

  pub held-known : all_below (there_at h) ions ≡ ions_known s
  held-known = all_same (there_at h) (λ i. present (reading_at s i)) ions (λ i l. held-there i (omega arith))

  -- a sum of what is held is that of the record
  pub held-sum : (greatest : Bool) (w : ℕ → ℕ)
      → sum (λ i. w i * amount_at greatest h i) readings ≡ sum (λ i. w i * end_of greatest (range_at s i)) readings
  held-sum greatest w = weighed-same w (amount_at greatest h) (λ i. end_of greatest (range_at s i)) readings (held-end greatest)
