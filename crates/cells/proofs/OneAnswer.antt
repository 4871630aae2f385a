-- What is said of cells leaves one answer: which number is the first that is not that of a cell, and the kind of a cell. Assumes nothing.
use Rattle.std.proofs.Common.{◌≡◌, ℕ, zero, suc, ◌<◌, List, [], ◌∷◌, ◌++◌, length, Some, None, Option, sym, refl, ap, ◌∙◌, ⊎_elim, arith}
use Rattle.std.specs.List.{slice_get}
use Rattle.std.proofs.lemmas.Bool.{cases_order}
use Rattle.theory.specs.States.{Cell, unknown, term}
use Rattle.cells.specs.CellLists.{Missing, FirstMissing}
use Rattle.cells.specs.Kinds.{KindAt}
use Rattle.cells.specs.declared.kind.Kind.{Kind}
use Rattle.cells.specs.declared.kind.Kind.TheVariants.{Unknown, Term}

nth_within_front : (xs ys : List ℕ) (k : ℕ) → k < length xs → slice_get (xs ++ ys) k ≡ slice_get xs k
nth_within_front [] ys k h = absurd (omega arith)
nth_within_front (x ∷ xs) ys zero h = refl
nth_within_front (x ∷ xs) ys (suc k) h = nth_within_front xs ys k (omega arith)

nth_after_front : (xs : List ℕ) (y : ℕ) (ys : List ℕ) → slice_get (xs ++ (y ∷ ys)) (length xs) ≡ Some y
nth_after_front [] y ys = refl
nth_after_front (x ∷ xs) y ys = nth_after_front xs y ys

missing_place : (cells : List Cell) (xs : List ℕ) (c : ℕ) (m : Missing cells xs c) → slice_get xs (length m.before) ≡ Some c
missing_place cells xs c m = ap (λ (l : List ℕ). slice_get l (length m.before)) m.split ∙ nth_after_front m.before c m.after

stands_before : (cells : List Cell) (xs : List ℕ) (c : ℕ) (m : Missing cells xs c) (k p : ℕ) → k < length m.before → slice_get xs k ≡ Some p → p < length cells
stands_before cells xs c m k p h e =
    m.stand k p (sym (nth_within_front m.before (c ∷ m.after) k h) ∙ sym (ap (λ (l : List ℕ). slice_get l k) m.split) ∙ e)

-- there is one answer to which number is the first that is not that of a cell
pub first_missing_is_one : (cells : List Cell) (xs : List ℕ) (r s : Option ℕ) → FirstMissing cells xs r → FirstMissing cells xs s → r ≡ s
first_missing_is_one cells xs None None f g = refl
first_missing_is_one cells xs None (Some d) f g = let h = f (length g.before) d (missing_place cells xs d g) in let m = g.missing in absurd (omega arith)
first_missing_is_one cells xs (Some c) None f g = let h = g (length f.before) c (missing_place cells xs c f) in let m = f.missing in absurd (omega arith)
first_missing_is_one cells xs (Some c) (Some d) f g =
    let p = missing_place cells xs c f in
    let q = missing_place cells xs d g in
    ⊎_elim
    (λ e. sym p ∙ ap (slice_get xs) e ∙ q)
    (⊎_elim
    (λ l. let h = stands_before cells xs d g (length f.before) c l p in let m = f.missing in absurd (omega arith))
    (λ l. let h = stands_before cells xs c f (length g.before) d l q in let m = g.missing in absurd (omega arith)))
    (cases_order (length f.before) (length g.before))

-- the kind of a cell is fixed by the cell
pub kind_of_unknown : (cells : List Cell) (plain i set : ℕ) (k : Kind) → slice_get cells i ≡ Some (unknown set) → KindAt cells plain i k → k ≡ Unknown set
kind_of_unknown cells plain i set (Unknown other) e h = cc
kind_of_unknown cells plain i set (Term p) e h = let t = h.1 in let z : ◌≡◌ {A = ℕ} 0 1 = cc in absurd (omega arith)

pub kind_of_term : (cells : List Cell) (plain i code : ℕ) (ps : List ℕ) (k : Kind) → slice_get cells i ≡ Some (term code ps) → KindAt cells plain i k → k ≡ Term plain
kind_of_term cells plain i code ps (Unknown set) e h = let z : ◌≡◌ {A = ℕ} 0 1 = cc in absurd (omega arith)
kind_of_term cells plain i code ps (Term p) e h = ap Term h.0
