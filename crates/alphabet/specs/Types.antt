-- The alphabet of types: 0 number, 1 bool, 2 string, 3 undefined, 4 Pair, 5 List, 6 Array, 16 + n a function of n parameters, n from 0 to 8.
use Rattle.std.specs.Prelude.{◌≡◌, ℕ, ◌+◌, ◌-◌, Bool, true, false, cond, ◌&&◌, ◌||◌, ◌==◌, nat_le, Some, None, Option}
use Rattle.alphabet.specs.declared.types.Symbol.{Symbol}
use Rattle.alphabet.specs.declared.types.Symbol.TheVariants.{Number, Bool as Truth, Text, Undefined, Pair, List, Array, Function}
use Rattle.theory.specs.Meaning.{Meaning, layered_by}

-- the code is that of a function of up to 8 parameters
abbrev pub function : ℕ → Bool
function c = nat_le 16 c && nat_le c 24

-- 0 to 6, and the functions
abbrev pub known : ℕ → Bool
known c = nat_le c 6 || function c

-- the code of a symbol
abbrev pub code_of : Symbol → ℕ
code_of Number = 0
code_of Truth = 1
code_of Text = 2
code_of Undefined = 3
code_of Pair = 4
code_of List = 5
code_of Array = 6
code_of (Function parameters) = 16 + parameters

-- the symbol of a code, or that it is the code of none
abbrev pub HasSymbol : ℕ → Option Symbol → Type 0
HasSymbol c (Some s) = (c ≡ code_of s) × (known c ≡ true)
HasSymbol c None = known c ≡ false

-- Pair has two places, List and Array one; a function has one for each parameter and, last, one for its result
abbrev pub places : ℕ → ℕ
places c = cond (c == 4) 2 (cond (c == 5 || c == 6) 1 (cond (function c) ((c - 16) + 1) 0))

-- class 0, addable, admits number and string
abbrev pub classes : ℕ → ℕ
classes c = cond (c == 0 || c == 2) 1 0

-- what the alphabet of types means: each code is plain, and Pair and List are layered
abbrev pub types : Meaning
types = record { known = known; plain = λ c. c; places = places; classes = classes; layering = layered_by 4 5 }
