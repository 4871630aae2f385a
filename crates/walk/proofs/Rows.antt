-- A graph of two places a node is one that a walk has room for. Assumes nothing.
use Rattle.std.proofs.Common.{◌≡◌, ℕ, zero, suc, ◌<◌, ◌≤◌, ◌⊎◌, List, [], ◌∷◌, ◌++◌, length, Option, get_or, Some, None, inl, inr, arith}
use Rattle.std.specs.List.{slice_get}
use Rattle.std.proofs.lemmas.Bool.{cases_lt, lt-ltb, le-ltb}
use Rattle.theory.proofs.Impossible.{impossible}
use Rattle.walk.specs.Rows.{place_edge, row_edges}
use Rattle.walk.specs.Stands.{Small}

module _ (n : ℕ) where
  -- of a place that leads to a node, or to none
  by_cases : (place : Option ℕ) (P : List ℕ → Type 0) → ((y : ℕ) → y < n → P (y ∷ [])) → P [] → P (place_edge n place)
  by_cases None P one none = none
  by_cases (Some y) P one none = go (cases_lt y n)
    where
      go : (y < n) ⊎ (n ≤ y) → P (place_edge n (Some y))
      go (inl h) = let e = lt-ltb y n h in rw e (one y h)
      go (inr h) = let e = le-ltb y n h in rw e none

  row_few : (row : Option ℕ × Option ℕ) → length (row_edges n row) ≤ 9
  row_few row =
      by_cases row.0 (λ xs. length (xs ++ place_edge n row.1) ≤ 9)
      (λ a h. by_cases row.1 (λ ys. length (a ∷ ys) ≤ 9) (λ b l. omega arith) (omega arith))
      (by_cases row.1 (λ ys. length ys ≤ 9) (λ b l. omega arith) (omega arith))

  one_closed : (a k y : ℕ) → a < n → slice_get (a ∷ []) k ≡ Some y → y < n
  one_closed a zero y h e = let f : a ≡ y = cc in omega arith
  one_closed a (suc k) y h e = impossible (cc)

  two_closed : (a b k y : ℕ) → a < n → b < n → slice_get (a ∷ b ∷ []) k ≡ Some y → y < n
  two_closed a b zero y h l e = let f : a ≡ y = cc in omega arith
  two_closed a b (suc k) y h l e = one_closed b k y l e

  row_closed : (row : Option ℕ × Option ℕ) (k y : ℕ) → slice_get (row_edges n row) k ≡ Some y → y < n
  row_closed row k y =
      by_cases row.0 (λ xs. slice_get (xs ++ place_edge n row.1) k ≡ Some y → y < n)
      (λ a h. by_cases row.1 (λ ys. slice_get (a ∷ ys) k ≡ Some y → y < n) (λ b l. two_closed a b k y h l) (one_closed a k y h))
      (by_cases row.1 (λ ys. slice_get ys k ≡ Some y → y < n) (λ b l. one_closed b k y l) (λ e. impossible (cc)))

pub rows_are_small : (n : ℕ) (rows : List (Option ℕ × Option ℕ)) → n ≤ 2048 → Small (λ x. row_edges n (get_or rows x (None, None))) n
rows_are_small n rows few = record {
  few_nodes = few;
  few_edges = λ x h. row_few n (get_or rows x (None, None));
  closed = λ x k y h. row_closed n (get_or rows x (None, None)) k y;
}
