-- Document 01, 'or `refused N`': what is printed of a refusal.
use Rattle.std.specs.Prelude.{List, ◌++◌, ℕ, codes}
use Rattle.std.specs.Fmt.{decimal}
use Rattle.refusal.specs.declared.Refusal.{Refusal}
use Rattle.refusal.specs.Numbers.{number_of}

-- the word, a space, and the number in base ten
abbrev pub refusal_text : Refusal → List ℕ
refusal_text why = codes "refused " ++ decimal (number_of why)
