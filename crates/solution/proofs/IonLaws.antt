-- The sums of a record's ions: what one ion adds, no ion beyond the eight, and how large they can be.
use mathlib.Core.Path.{◌≡◌, refl, sym, ap, ap₂, ◌∙◌}
use mathlib.Core.Bool.{Bool}
use mathlib.Core.List.{List}
use Prim.Native.Nat.{ℕ, ◌+◌, ◌*◌, ◌^◌, ◌≤◌, ◌<◌}
use native.Mathlib.Nat.{le_refl, mul-le-mul_left, mul_assoc, add-mul}
use native.Mathlib.Omega.{arith}
use lib.Dec.{lit<}
use Rattle.reading.specs.declared.Analyte.{Analyte}
use Rattle.reading.specs.Amounts.{most_mass}
use Rattle.record.specs.Record.{ions, readings, total_nitrogen, organic_carbon}
use Rattle.activity.specs.declared.IonicStrength.{IonicStrength}
use Rattle.solution.specs.declared.Charge.{Charge}
use Rattle.solution.specs.declared.Conductivity.{Conductivity}
use Rattle.solution.specs.declared.ions.Row.{Row}
use Rattle.solution.specs.declared.ions.Ion.{Ion}
use Rattle.solution.specs.Ions.{charge_unit, cation_factor, anion_factor, conductance, charge_number, cation_charge, anion_charge, conducted, strength_added, sum}
use Rattle.solution.specs.ByValue.{amount_at}
use Rattle.solution.specs.Steps.{Small, RowOf, Adds, most_sums, Fits}
use Rattle.solution.proofs.SumLaws.{sum-part}

-- what each u of an ion adds c times, by both columns
by_both : (c i m : ℕ) → c * (cation_charge i * m + anion_charge i * m) ≡ c * (cation_charge i + anion_charge i) * m
by_both c i m = ap (λ (x : ℕ). c * x) (sym (add-mul (cation_charge i) (anion_charge i) m)) ∙ sym (mul_assoc c (cation_charge i + anion_charge i) m)

-- ---- total nitrogen and organic carbon have no weight
ions-only : (w a : ℕ → ℕ) → w total_nitrogen ≡ 0 → w organic_carbon ≡ 0 → sum (λ i. w i * a i) readings ≡ sum (λ i. w i * a i) ions
unfolding sum
ions-only w a x y = rw (x, y) (omega arith)

module _ (a : ℕ → ℕ) where
  pub cations-only : sum (λ i. cation_charge i * a i) readings ≡ sum (λ i. cation_charge i * a i) ions
  unfolding cation_factor
  cations-only = ions-only cation_charge a refl refl

  pub anions-only : sum (λ i. anion_charge i * a i) readings ≡ sum (λ i. anion_charge i * a i) ions
  unfolding anion_factor
  anions-only = ions-only anion_charge a refl refl

  pub conducted-only : sum (λ i. conducted i * a i) readings ≡ sum (λ i. conducted i * a i) ions
  unfolding cation_factor anion_factor conductance
  conducted-only = ions-only conducted a refl refl

  pub strength-only : sum (λ i. strength_added i * a i) readings ≡ sum (λ i. strength_added i * a i) ions
  unfolding cation_factor anion_factor charge_number
  strength-only = ions-only strength_added a refl refl

-- ---- the greatest sums: of the table with every amount at its greatest. The one test that they fit, computed from these
pub most-fits : Fits most_sums
unfolding sum cation_factor anion_factor conductance charge_number
most-fits = record { charges = lit< tt; calculated = lit< tt; strength = lit< tt }

-- no part of a weighed sum is above its greatest: an amount of one ion, a sum so far with the next ion's, and the whole sum
module _ (w : ℕ → ℕ) where
  abbrev most : ℕ
  most = sum (λ i. w i * most_mass) readings

  one-most : (i m : ℕ) → i < readings → m ≤ most_mass → w i * m ≤ most
  one-most i m l h = omega (arith, mul-le-mul_left (w i) h, sum-part (λ i. w i * most_mass) (λ i. w i * most_mass) readings (λ i b. le_refl _) i l)

  module _ (greatest : Bool) (analytes : List Analyte) (small : Small analytes) where
    next-most : (i : ℕ) → i < readings → sum (λ k. w k * amount_at greatest analytes k) i + w i * amount_at greatest analytes i ≤ most
    next-most i l = sum-part (λ k. w k * amount_at greatest analytes k) (λ k. w k * most_mass) readings (λ k b. mul-le-mul_left (w k) (small.most greatest k b)) i l

-- ---- an amount m of ion i, as the code goes through it: the products by its row fit, and are those of the definition
charged : (f x y m : ℕ) → y ≡ f → x ≡ charge_unit * (y * m) → x ≡ charge_unit * f * m
charged f x y m e p = rw e at p ∙ sym (mul_assoc charge_unit f m)

module _ (i m : ℕ) (l : i < ions) (small : m ≤ most_mass) {row : Row} (is : RowOf i row) where
  fits : (cation_charge i * m + anion_charge i * m < 2 ^ 64) × (conducted i * m < 2 ^ 64) × (strength_added i * m < 2 ^ 64)
  fits =
      let most = most-fits in
      let C = one-most cation_charge i m (omega arith) small in
      let A = one-most anion_charge i m (omega arith) small in
      let E = one-most conducted i m (omega arith) small in
      let I = one-most strength_added i m (omega arith) small in
      (omega arith, omega arith, omega arith)

  pub cation-fits : charge_unit * (row.cation * m) < 2 ^ 64
  cation-fits = rw is.cation (omega (arith, fits.0))

  pub anion-fits : charge_unit * (row.anion * m) < 2 ^ 64
  anion-fits = rw is.anion (omega (arith, fits.0))

  module _ {cation anion : Charge} (c : cation.0 ≡ charge_unit * (row.cation * m)) (a : anion.0 ≡ charge_unit * (row.anion * m)) where
    both : cation.0 + anion.0 ≡ cation_charge i * m + anion_charge i * m
    both = ap₂ (λ (x y : ℕ). x + y) (charged (cation_factor i) cation.0 row.cation m is.cation c) (charged (anion_factor i) anion.0 row.anion m is.anion a)

    pub both-fit : cation.0 + anion.0 < 2 ^ 64
    both-fit = rw both fits.0

    module _ {charge : Charge} (q : charge.0 ≡ cation.0 + anion.0) where
      times : {c d : ℕ} → c ≡ d → c * charge.0 ≡ d * (cation_charge i + anion_charge i) * m
      times {c} {d} e = rw (e, q ∙ both) (by_both d i m)

      pub conducting-fits : row.conductance * charge.0 < 2 ^ 64
      conducting-fits = rw (times is.conductance) fits.1

      pub strength-fits : row.number * charge.0 < 2 ^ 64
      strength-fits = rw (times is.number) fits.2

      pub adds : {conductivity : Conductivity} {strength : IonicStrength} → conductivity.0 ≡ row.conductance * charge.0 → strength.0 ≡ row.number * charge.0
          → Adds i m (record { cation = cation; anion = anion; conductivity = conductivity; strength = strength })
      adds e f =
          record {
            cation = charged (cation_factor i) cation.0 row.cation m is.cation c;
            anion = charged (anion_factor i) anion.0 row.anion m is.anion a;
            conductivity = e ∙ times is.conductance;
            strength = f ∙ times is.number;
          }

-- ---- the sums so far with those of the next ion, as the loop adds them
module _ (greatest : Bool) (analytes : List Analyte) (small : Small analytes) (i : ℕ) (l : i < ions) {m : ℕ} (e : m ≡ amount_at greatest analytes i) where
  -- its amount is not too large
  pub next_small : m ≤ most_mass
  next_small = rw e (small.most greatest i (omega arith))

  module _ {ion : Ion} (is : Adds i m ion) where
    next : (w : ℕ → ℕ) {x y : ℕ} → y ≡ w i * m
        → x ≡ sum (λ k. w k * amount_at greatest analytes k) i → x + y ≤ sum (λ k. w k * most_mass) readings
    next w p q = rw (p, e, q) (next-most w greatest analytes small i (omega arith))

    pub cations-next : {x : ℕ} → x ≡ sum (λ k. cation_charge k * amount_at greatest analytes k) i → x + ion.cation.0 < 2 ^ 64
    cations-next q = omega (arith, most-fits, next cation_charge is.cation q)

    pub anions-next : {x : ℕ} → x ≡ sum (λ k. anion_charge k * amount_at greatest analytes k) i → x + ion.anion.0 < 2 ^ 64
    anions-next q = omega (arith, most-fits, next anion_charge is.anion q)

    pub conductivity-next : {x : ℕ} → x ≡ sum (λ k. conducted k * amount_at greatest analytes k) i → x + ion.conductivity.0 < 2 ^ 64
    conductivity-next q = omega (arith, most-fits, next conducted is.conductivity q)

    pub strength-next : {x : ℕ} → x ≡ sum (λ k. strength_added k * amount_at greatest analytes k) i → x + ion.strength.0 < 2 ^ 64
    strength-next q = omega (arith, most-fits, next strength_added is.strength q)
