-- Tables that give texts for numbers. Assumes nothing.
use Rattle.std.specs.Prelude.{ℕ, cond, List, [], ◌∷◌, codes, ◌==◌}
use Prim.Native.String.{String}

-- an entry of a table
pub record Entry : Type 0 where
  pub number : ℕ
  pub text : String

infixr 68 ◌is◌
abbrev pub ◌is◌ : ℕ → String → Entry
n is text = record { number = n; text = text }

-- the text that a table has for a number, or else another text
abbrev pub looked_up : List Entry → ℕ → List ℕ → List ℕ
looked_up [] n other = other
looked_up (entry ∷ entries) n other = cond (n == entry.number) (codes entry.text) (looked_up entries n other)
