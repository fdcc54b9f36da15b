-- The code's own form: the rules as the code tests them, and how great values may be so that 64 bits hold whatever is made of
-- them. Only the contracts of private functions cite this file.
use Rattle.std.specs.Prelude.{◌≡◌, Bool, ◌&&◌, ◌||◌, List, [], ◌∷◌, ℕ, ◌-◌, ◌*◌, ◌≤◌, leb, get_or}
use Rattle.chart.specs.declared.setup.Setup.TheInside.{Inside}
use Rattle.chart.specs.Values.{every, greatest_value, most_setup}
use Rattle.chart.specs.Setups.{square, SetupTerms, beyond, on_side}
use Rattle.chart.specs.Setups.Side.{Above, Below}
use Rattle.chart.specs.Rules.{ordered}
use Rattle.chart.specs.Rules.Course.{Rising, Falling}

-- ---- the rules: rule 2 asks first whether the value is beyond 2 at all, and then for a partner one or two places before it; rules
-- 4 and 8 are asked of seven values

abbrev pub on_one_side : SetupTerms → List ℕ → Bool
on_one_side f values = every (on_side f Above) values || every (on_side f Below) values

abbrev pub in_order : List ℕ → Bool
in_order values = ordered Rising values || ordered Falling values

-- the value so many places before place i is beyond 2 on the side of the value there
unfoldable pub has_partner : SetupTerms → List ℕ → ℕ → ℕ → Bool
has_partner f later i places =
    leb places i
    && (on_one_side f (get_or later i 0 ∷ get_or later (i - places) 0 ∷ []) && beyond f 2 (get_or later (i - places) 0))

-- ---- the code's setup: n, S and Q, and the limit at one deviation beside them. Nothing made of them wraps, since they are those
-- of 1 to 64 values, none above the greatest that is accepted

abbrev pub terms_of : Inside → SetupTerms
terms_of s = record { n = s.n; S = s.sum; Q = s.squares }

abbrev pub limit_of : SetupTerms → ℕ
limit_of f = f.n * (f.n * f.Q - square f.S)

pub record OfValues (s : Inside) : Type 0 where
  pub some : 1 ≤ s.n
  pub few : s.n ≤ most_setup
  pub sum : s.sum ≤ most_setup * greatest_value
  pub squares : s.squares ≤ most_setup * square greatest_value
  pub limit : s.limit ≡ limit_of (terms_of s)
