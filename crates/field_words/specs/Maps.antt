-- Finite maps from words to values, as lists of pairs of which the first one of a word counts. This project's own.
use Rattle.std.specs.Prelude.{◌≡◌, ℕ, zero, suc, ℤ, pos, negsuc, ◌+◌, ◌<◌, Bool, false, cond, ◌&&◌, ◌||◌, eqb, ltb, leb, List, [], ◌∷◌}
use Rattle.std.specs.declared.option.Option.{Option}
use Rattle.std.specs.declared.option.Option.TheVariants.{None, Some}

abbrev pub WordMap : Type 0
WordMap = List (ℕ × ℤ)

-- the value of a word, if the map has the word
abbrev pub value_in : WordMap → ℕ → Option ℤ
value_in [] x = None
value_in (p ∷ ps) x = cond (eqb p.0 x) (Some p.1) (value_in ps x)

abbrev pub option_count : Option ℤ → ℕ
option_count None = 0
option_count (Some u) = 1

-- 1 where the map has the word, else 0
abbrev pub occurrences : ℕ → WordMap → ℕ
occurrences x m = option_count (value_in m x)

-- the map on the words that pass a test
abbrev pub restriction : (ℕ → Bool) → WordMap → WordMap
restriction test [] = []
restriction test (p ∷ ps) = cond (test p.0) (p ∷ restriction test ps) (restriction test ps)

-- whether a word is in a list of words
abbrev pub is_in : List ℕ → ℕ → Bool
is_in [] x = false
is_in (y ∷ ys) x = eqb y x || is_in ys x

-- whether a word is one of `first` to `first + count - 1`
abbrev pub is_within : ℕ → ℕ → ℕ → Bool
is_within first count x = leb first x && ltb x (first + count)

-- the numbers of a list that are at least 0
abbrev pub numbers_as_words : List ℤ → List ℕ
numbers_as_words [] = []
numbers_as_words (pos n ∷ zs) = n ∷ numbers_as_words zs
numbers_as_words (negsuc n ∷ zs) = numbers_as_words zs

-- words 1 to n, each with value 0
abbrev pub zero_words : ℕ → WordMap
zero_words zero = []
zero_words (suc n) = (suc n, pos 0) ∷ zero_words n

-- a fact of each word and its value
abbrev pub Each : (ℕ → ℤ → Type 0) → WordMap → Type 0
Each P m = (x : ℕ) (u : ℤ) → value_in m x ≡ Some u → P x u

-- each word of the map is below n
abbrev pub AreBelow : ℕ → WordMap → Type 0
AreBelow n m = Each (λ x u. x < n) m
