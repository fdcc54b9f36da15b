-- Document 02 (vii), 'Better readings don't overturn a verdict': 'Past decisions should survive a finer detector.'
use Rattle.std.specs.Prelude.{◌≡◌, true, List, ℕ, ◌≤◌, ◌<◌, get_or}
use Rattle.refusal.specs.Outcome.Outcome.{given}
use Rattle.reading.specs.Analytes.{present, Has}
use Rattle.reading.specs.Finer.{Finer}
use Rattle.record.specs.Record.{readings, chloride, organic_carbon, mark_place, bits_place, reading_at}
use Rattle.solution.specs.Solutions.{range_at}
use Rattle.judge.specs.Choices.{Choice, Among}
use Rattle.judge.specs.Ranges.{ranges_of}
use Rattle.judge.specs.Judgements.{Four, judgement_of}

-- ---- the relation: 'every second record that differs only in that below readings have lower limits or are measured inside the old range,
-- with DOC unchanged'

-- word j is of no reading
abbrev pub OfNoReading : ℕ → Type 0
OfNoReading j = (i : ℕ) → i < readings → (j ≡ mark_place i → ⊥) × (j ≡ bits_place i → ⊥)

pub record FinerRecord (old new : List ℕ) : Type 0 where
  -- every other word is the same
  pub others : (j : ℕ) → OfNoReading j → get_or new j 0 ≡ get_or old j 0
  pub finer : (i : ℕ) → i < readings → Finer (reading_at old i) (reading_at new i)
  -- 'with DOC unchanged'
  pub carbon : reading_at new organic_carbon ≡ reading_at old organic_carbon

-- ---- what becomes of a verdict
-- 'a .. verdict 1 or 2 stays what it was, and only a 3 among them may change'
pub record Kept (old new : ℕ) : Type 0 where
  -- 0 and 4 stay too
  pub stays : (old ≡ 3 → ⊥) → new ≡ old
  -- and a 3 becomes neither: it stays, or is decided
  pub undecided : old ≡ 3 → (1 ≤ new) × (new ≤ 3)

-- 'the old chlorine range .. contains 0'. A missing chloride has no range
abbrev pub ChlorideHasZero : List ℕ → Type 0
ChlorideHasZero s = (present (reading_at s chloride) ≡ true) × Has (range_at s chloride) 0

-- of two accepted records, the verdicts of the first and of the second
pub record Survives (old new : List ℕ) (v w : Four) : Type 0 where
  pub balance : Kept v.balance w.balance
  pub conductivity : Kept v.conductivity w.conductivity
  -- 'So does Na/Cl where the old chlorine range leaves out 0'
  pub ratio : (ChlorideHasZero old → ⊥) → Kept v.ratio w.ratio
  -- 'where it contains 0, a 0 may become any verdict': there it was 0, so that no 1 or 2 is overturned there either
  pub ratio_zero : ChlorideHasZero old → v.ratio ≡ 0
  pub nitrogen : Kept v.nitrogen w.nitrogen
  -- and why: what the second record leaves open, the first one left open too
  pub choices : (c : Choice) → Among (ranges_of new) c → Among (ranges_of old) c

-- a record and its verdicts, with every finer record that is accepted
abbrev pub SurvivesFiner : List ℕ → Four → Type 0
SurvivesFiner old v = (new : List ℕ) (w : Four) → FinerRecord old new → judgement_of new ≡ given w → Survives old new v w

-- ---- and nothing more: verdicts do change so
-- of one of the four verdicts: there are a record with the number m and a finer one with the number n
pub record Becomes (verdict : Four → ℕ) (m n : ℕ) : Type 0 where
  pub old : List ℕ
  pub new : List ℕ
  pub finer : FinerRecord old new
  pub verdicts : Four
  pub verdicts_finer : Four
  pub judged : judgement_of old ≡ given verdicts
  pub judged_finer : judgement_of new ≡ given verdicts_finer
  pub was : verdict verdicts ≡ m
  pub is : verdict verdicts_finer ≡ n

pub record Changes : Type 0 where
  -- of Na/Cl, where the old chlorine range contains 0, 'a 0 may become any verdict'
  pub ratio : (n : ℕ) → n ≤ 4 → (b : Becomes (λ v. v.ratio) 0 n) × ChlorideHasZero b.old
  -- 'only a 3 among them may change': here of nitrogen, to either side
  pub within : Becomes (λ v. v.nitrogen) 3 1
  pub outside : Becomes (λ v. v.nitrogen) 3 2
