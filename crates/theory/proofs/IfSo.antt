-- Which of two values it is, where the statement is known to hold or not to. Assumes nothing.
use Rattle.std.proofs.Common.{◌≡◌, refl}
use Rattle.theory.specs.IfSo.{if_so}

pub if_so_yes : {A B : Type 0} (d : Dec A) (x y : B) → A → if_so d x y ≡ x
unfolding if_so
if_so_yes (yes a) x y p = refl
if_so_yes (no n) x y p = absurd (n p)

pub if_so_no : {A B : Type 0} (d : Dec A) (x y : B) → (A → ⊥) → if_so d x y ≡ y
unfolding if_so
if_so_no (yes a) x y p = absurd (p a)
if_so_no (no n) x y p = refl
