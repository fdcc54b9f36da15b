-- The sums of a record's fields that are held by value, whatever they are: a promise of `of_fields`, which is handed no words.
-- Where the fields are those of an accepted record, these are the record's own sums (`Solutions.sum_ranges_of`), as a law says.
use Rattle.std.specs.Prelude.{Bool, true, false, ◌&&◌, cond, List, ℕ, leb}
use Rattle.hydrogen.specs.Floors.{is_whole, most_floor}
use Rattle.reading.specs.declared.Analyte.{Analyte}
use Rattle.reading.specs.Analytes.{present, AmountRange, range_of}
use Rattle.reading.specs.Amounts.{most_mass}
use Rattle.record.specs.Record.{readings, most_conductivity, most_alkalinity, all_below}
use Rattle.record.specs.Tested.{Fields, analyte_at}
use Rattle.solution.specs.Solutions.{Sums, sums_with, SumRanges, sum_ranges_with}

-- whether reading i is there
abbrev pub there_at : List Analyte → ℕ → Bool
there_at analytes i = present (analyte_at analytes i).reading

-- one end of a range: the greatest by true, the least by false; and that end of what reading i stands for
abbrev pub end_of : Bool → AmountRange → ℕ
end_of true r = r.most
end_of false r = r.least

abbrev pub amount_at : Bool → List Analyte → ℕ → ℕ
amount_at greatest analytes i = end_of greatest (range_of (analyte_at analytes i))

-- the sums with every amount at its greatest, or every one at its least, and that hydrogen; and both
abbrev pub sums_held : Fields → Bool → ℕ → Sums
sums_held f greatest hydrogen = sums_with (amount_at greatest f.analytes) hydrogen f.alkalinity f.conductivity

abbrev pub sum_ranges_held : Fields → ℕ → SumRanges
sum_ranges_held f floor =
    sum_ranges_with (there_at f.analytes) (amount_at false f.analytes) (amount_at true f.analytes) floor (is_whole f.ph) f.alkalinity f.conductivity

-- no sums, where no ion is known
abbrev pub no_sums : Sums
no_sums = record { cations = 0; anions = 0; calculated = 0; measured = 0; strength = 0; sodium = 0; chloride = 0; mineral = 0; total = 0 }

abbrev pub no_sum_ranges : SumRanges
no_sum_ranges = record { known = false; whole = true; least = no_sums; most = no_sums }

-- the ranges of every record: none has a greater floor of hydrogen, measured conductivity, alkalinity or amount of a reading
unfoldable pub are_small : List Analyte → Bool
are_small analytes = all_below (λ i. leb (amount_at true analytes i) most_mass) readings

unfoldable pub in_ranges : Fields → ℕ → Bool
in_ranges f floor = leb floor most_floor && (leb f.conductivity most_conductivity && (leb f.alkalinity most_alkalinity && are_small f.analytes))

-- the sums of fields with a floor of hydrogen: none where no record has such fields
unfoldable pub sum_ranges_by : Fields → ℕ → SumRanges
sum_ranges_by f floor = cond (in_ranges f floor) (sum_ranges_held f floor) no_sum_ranges
