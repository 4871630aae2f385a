-- Texts that others are made of: one after another, with commas between, and hexadecimal digits. Assumes nothing.
use Rattle.std.specs.Prelude.{◌≡◌, ℕ, zero, suc, ◌/◌, ◌%◌, List, [], ◌∷◌, ◌++◌, codes, Option, Some}
use Rattle.std.specs.Char.{digit_char}

-- one text, and then another
infixr 66 ◌then◌
abbrev pub ◌then◌ : List ℕ → List ℕ → List ℕ
text then next = text ++ next

-- texts with a comma and a space between
abbrev pub comma_separated_text : List (List ℕ) → List ℕ
comma_separated_text [] = []
comma_separated_text (text ∷ []) = text
comma_separated_text (text ∷ next ∷ texts) = text then codes ", " then comma_separated_text (next ∷ texts)

-- each value is shown as the text that the function gives for it
abbrev pub ShownAs : {X : Type 0} → (X → Option (List ℕ)) → (X → List ℕ) → Type 0
ShownAs {X} output text = (x : X) → output x ≡ Some (text x)

-- the lowest hexadecimal digits of a number, so many of them, in lower case
abbrev pub hexadecimal : ℕ → ℕ → List ℕ
hexadecimal zero n = []
hexadecimal (suc k) n = hexadecimal k (n / 16) then digit_char (n % 16) ∷ []

-- a word: 0x and eight hexadecimal digits
abbrev pub text_of_word : ℕ → List ℕ
text_of_word word = codes "0x" then hexadecimal 8 word
