-- The first number that is not that of a cell. Assumes nothing.
use Rattle.std.proofs.Common.{◌≡◌, ℕ, ◌+◌, ◌<◌, ◌≤◌, List, ◌∷◌, ◌++◌, length, take, drop, Some, None, Option, MatchOption, sym, ap, ◌∙◌, subst, arith, length-take}
use Rattle.std.specs.List.{AllWithin, HoldsAt}
use Rattle.std.proofs.lemmas.List.{get_or-take, take_all, take-append-drop, drop_more}
use Rattle.std.proofs.lemmas.Option.{slice_get_within, get_or_from_slice_get}
use Rattle.theory.specs.States.{Cell}
use Rattle.cells.specs.CellLists.{AllStand, FirstMissing}

-- the numbers before one stand, if each is below the count
all_stand_before : (cells : List Cell) (xs : List ℕ) (i : ℕ) → AllWithin (λ x. x < length cells) xs 0 i → AllStand cells (take i xs)
all_stand_before cells xs i below k c e =
    let here = slice_get_within (take i xs) k c e in
    let few = length-take i xs in
    let is = sym (get_or-take i xs k 0 (omega arith)) ∙ get_or_from_slice_get (take i xs) k c 0 e in
    subst (λ x. x < length cells) is (below k 0 (omega arith) (omega arith))

-- what the library's `find` says where it seeks a number that is no longer below the count
pub first_missing_from_find : (cells : List Cell) (xs : List ℕ) (r : Option ℕ)
    → MatchOption r (AllWithin (λ x. x < length cells) xs 0 (length xs))
    (λ c. (length cells ≤ c) × (i : ℕ) × (i < length xs) × HoldsAt (λ y. y ≡ c) xs i × AllWithin (λ x. x < length cells) xs 0 i)
    → FirstMissing cells xs r
first_missing_from_find cells xs None found = subst (AllStand cells) (take_all (length xs) xs (omega arith)) (all_stand_before cells xs (length xs) found)
first_missing_from_find cells xs (Some c) found = record {
  before = take found.1 xs;
  after = drop (found.1 + 1) xs;
  split = sym (take-append-drop found.1 xs) ∙ ap (λ ys. take found.1 xs ++ ys) (drop_more xs found.1 0 found.2 ∙ ap (λ x. x ∷ drop (found.1 + 1) xs) (found.3 0));
  stand = all_stand_before cells xs found.1 found.4;
  missing = found.0;
}
