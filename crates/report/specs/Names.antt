-- The names of codes and classes. Assumes nothing.
use Rattle.std.specs.Prelude.{◌≡◌, ◌≢◌, ℕ, ◌-◌, ◌%◌, cond, List, [], ◌∷◌, map, codes, decimal, filter, ◌==◌, Result, MatchResult}
use Rattle.std.specs.List.{range_with_len}
use Rattle.theory.specs.Meaning.{has}
use Rattle.alphabet.specs.Types.{function}
use Rattle.alphabet.specs.Loads.{family}
use Rattle.alphabet.specs.Loads as loads
use Rattle.report.specs.declared.names.Names.{Names}
use Rattle.report.specs.declared.names.Names.TheVariants.{Types, Loads}
use Rattle.report.specs.declared.names.UnknownNames.{UnknownNames}
use Rattle.report.specs.Texts.{◌then◌, comma_separated_text}
use Rattle.report.specs.Tables.{Entry, ◌is◌, looked_up}

-- the word by which names are asked for
abbrev pub word_of : Names → List ℕ
word_of Types = codes "types"
word_of Loads = codes "loads"

-- a word gives the names that it asks for, or an error where it asks for none
abbrev pub ParsesNames : List ℕ → Result Names UnknownNames → Type 0
ParsesNames word result = MatchResult result (λ names. word ≡ word_of names) (λ _. (names : Names) → word ≢ word_of names)

-- the types but for functions, by their codes
abbrev pub type_names : List Entry
type_names = 0 is "number" ∷ 1 is "bool" ∷ 2 is "string" ∷ 3 is "undefined" ∷ 4 is "Pair" ∷ 5 is "List" ∷ 6 is "Array" ∷ []

-- the loads, by their families
abbrev pub load_names : List Entry
load_names = 1 is "tote" ∷ 2 is "carton" ∷ 3 is "pallet" ∷ 4 is "cage" ∷ 5 is "kit" ∷ []

-- a code that is no symbol's
abbrev pub code_text : ℕ → List ℕ
code_text code = codes "code " then decimal code

-- a carrier's mark, where it is not 0
abbrev pub mark_text : ℕ → List ℕ
mark_text mark = cond (mark == 0) [] (codes " mark " then decimal mark)

-- the symbol of a code
abbrev pub symbol_text : Names → ℕ → List ℕ
symbol_text Types code = looked_up type_names code (cond (function code) (codes "F" then decimal (code - 16)) (code_text code))
symbol_text Loads code = cond (loads.known code) (looked_up load_names (family code) [] then mark_text (code % 16)) (code_text code)

-- the classes that have a name
abbrev pub class_names : Names → List Entry
class_names Types = 0 is "addable" ∷ []
class_names Loads = 0 is "belt" ∷ 1 is "floor" ∷ []

abbrev pub class_text : Names → ℕ → List ℕ
class_text names class = looked_up (class_names names) class (codes "class " then decimal class)

-- the classes of a set, lowest first
abbrev pub classes_of : ℕ → List ℕ
classes_of set = filter (has set) (range_with_len 0 8)

abbrev pub classes_text : Names → ℕ → List ℕ
classes_text names set = comma_separated_text (map (class_text names) (classes_of set))
