-- How many there are of something. Assumes nothing.
use Rattle.std.specs.Prelude.{ℕ, cond, List, [], ◌∷◌, codes, decimal, ◌==◌}
use Rattle.report.specs.Texts.{◌then◌, comma_separated_text}

-- a number, and its noun in the singular or the plural
abbrev pub with_noun_text : ℕ → List ℕ → List ℕ → List ℕ
with_noun_text n one many = decimal n then codes " " then cond (n == 1) one many

abbrev pub counts_text : ℕ → ℕ → ℕ → List ℕ
counts_text items cells words = comma_separated_text (
    with_noun_text items (codes "item") (codes "items")
    ∷ with_noun_text cells (codes "cell") (codes "cells")
    ∷ with_noun_text words (codes "word") (codes "words") ∷ [])
