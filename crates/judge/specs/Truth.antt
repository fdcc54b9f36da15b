-- Demand 3 on verdicts, for every record, as document 02 (v) and (vi) restate it: what each verdict is worth, by every choice of what the
-- record leaves open and at true hydrogen.
use Rattle.std.specs.Prelude.{◌≡◌, Bool, true, false, List, ◌↔◌, ℕ, ◌*◌, ◌≤◌}
use Rattle.activity.specs.Strength.{strongest}
use Rattle.activity.specs.Brackets.{unit}
use Rattle.activity.specs.Truth.{TrueAtLeast, TrueAtMost}
use Rattle.record.specs.Record.{ph_of, conductivity_of, alkalinity_of}
use Rattle.solution.specs.Solutions.{ions_known, measured_of}
use Rattle.judge.specs.Choices.{Choice, Values, Among}
use Rattle.judge.specs.Verdicts.{Judged}
use Rattle.judge.specs.AtHydrogen.{Bounds, AtH, AtFraction}
use Rattle.judge.specs.Ranges.{ranges_of}
use Rattle.judge.specs.IonBalance.{balance_applies_to, balance_limit, Balanced, balance_bounds}
use Rattle.judge.specs.Conductivity.{conductivity_limit, Conducting, strength_of, conductivity_bounds}
use Rattle.judge.specs.Ratios.{ratio_applies_to, ratio_known, SodiumChloride, nitrogen_applies_to, nitrogen_known, Nitrogen}
use Rattle.judge.specs.Judgements.{Four}

-- P occurs among the choices that the record leaves: with amounts in their ranges, at a fraction strictly between h and h + 1 where p is no
-- multiple of 100, and with a y² of its bracket
abbrev pub Occurs : List ℕ → (Choice → Type 0) → Type 0
Occurs s P = (c : Choice) × (Among (ranges_of s) c × P c)

-- of each check: whether it applies to the record, whether no needed reading is missing, its inequality, and its verdict
pub record CheckTruth (s : List ℕ) (applies known : Bool) (Holds : Choice → Type 0) (v : ℕ) : Type 0 where
  -- 'not applicable' and 'missing' exactly where document 01, and document 02 (vi) for Na/Cl, give them
  pub not-applicable : (v ≡ 0) ↔ (applies ≡ false)
  pub missing : (v ≡ 4) ↔ ((applies ≡ true) × (known ≡ false))
  -- 'Within means that the inequality holds for every choice of these values, of hydrogen and of y²; outside means for none; else undecided,
  -- at whole pH too'. Hydrogen is by document 01's rule: 'every fraction strictly between h and h + 1', h where p is a multiple of 100. Na/Cl
  -- and nitrogen, in which neither hydrogen nor y² plays a part, 'follow the same rule'
  pub judged : applies ≡ true → known ≡ true → Judged Choice (Among (ranges_of s)) Holds v
  -- so undecided 'exactly when the check applies, no needed reading is missing and both outcomes occur among those choices'
  pub undecided : (v ≡ 3) ↔ ((applies ≡ true) × (known ≡ true) × Occurs s Holds × Occurs s (λ c. Holds c → ⊥))

-- of ion balance and conductivity in addition: the bounds that the inequality sets for H at a choice of amounts and of y², whatever its
-- hydrogen
pub record HydrogenTruth (s : List ℕ) (Holds : Choice → Type 0) (bounds_at : Choice → Bounds) (v : ℕ) : Type 0 where
  -- the inequality at a fraction for hydrogen is that the fraction keeps the bounds
  pub bounds : (c : Choice) → Values (ranges_of s) c → Holds c ↔ AtFraction c.hydrogen c.divisor (bounds_at c)
  -- 'at each verdict 'within' the exact inequality holds with hydrogen at exactly 10^(6 − pH); at each 'outside' it fails', and 'A verdict 1
  -- or 2 is true for every amount in those ranges'
  pub within : v ≡ 1 → (c : Choice) → Values (ranges_of s) c → AtH (ph_of s) (bounds_at c)
  pub outside : v ≡ 2 → (c : Choice) → Values (ranges_of s) c → AtH (ph_of s) (bounds_at c) → ⊥

-- the two inequalities, by the record's own limit, alkalinity and measured conductivity
abbrev pub BalancedIn : List ℕ → Choice → Type 0
BalancedIn s = Balanced (balance_limit (conductivity_of s)) (alkalinity_of s)

abbrev pub ConductingIn : List ℕ → Choice → Type 0
ConductingIn s = Conducting (conductivity_limit (conductivity_of s)) (alkalinity_of s) (measured_of (conductivity_of s))

-- document 02 (v): 'then 10^9 y² lies between' the ends of the bracket, at every choice: y² by the root of the choice's own ionic strength.
-- True hydrogen lies between the hydrogens of two choices, so y² at it lies there too
pub record ActivityTruth (s : List ℕ) : Type 0 where
  pub over : (c : Choice) → Among (ranges_of s) c → TrueAtLeast (strength_of (alkalinity_of s) c) c.divisor (ranges_of s).correction.least
  pub under : (c : Choice) → Among (ranges_of s) c → TrueAtMost (strength_of (alkalinity_of s) c) c.divisor (ranges_of s).correction.most
  -- the ends are whole numbers of billionths
  pub billionths : (ranges_of s).correction.unit ≡ unit
  -- no choice is stronger than 0.08 mol/L: s is below a half, as far as `under` speaks of it and e is said to grow
  pub weak : (c : Choice) → Among (ranges_of s) c → strength_of (alkalinity_of s) c ≤ strongest * c.divisor

-- the four verdicts of an accepted record
pub record Truth (s : List ℕ) (v : Four) : Type 0 where
  pub balance : CheckTruth s (balance_applies_to s) (ions_known s) (BalancedIn s) v.balance
  pub conductivity : CheckTruth s true (ions_known s) (ConductingIn s) v.conductivity
  -- the ratio of charges is from 0.5 to 1.5
  pub ratio : CheckTruth s (ratio_applies_to s) (ratio_known s) SodiumChloride v.ratio
  -- TN is at least NO3-N plus NH4-N
  pub nitrogen : CheckTruth s (nitrogen_applies_to s) (nitrogen_known s) Nitrogen v.nitrogen
  pub balance_at_h : HydrogenTruth s (BalancedIn s) (balance_bounds (balance_limit (conductivity_of s)) (alkalinity_of s)) v.balance
  pub conductivity_at_h :
      HydrogenTruth s (ConductingIn s) (conductivity_bounds (conductivity_limit (conductivity_of s)) (alkalinity_of s) (measured_of (conductivity_of s))) v.conductivity
  pub activity : ActivityTruth s
  -- there is a choice, so that 'every' and 'none' are never both true
  pub choice : (c : Choice) × Among (ranges_of s) c
