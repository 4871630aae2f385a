-- An assignment of a plan is one of its front. Assumes nothing.
use Rattle.std.proofs.Common.{ℕ, suc, List, [], ◌∷◌, arith, length-append}
use Rattle.theory.specs.Meaning.{Meaning}
use Rattle.theory.specs.Types.{Tree}
use Rattle.theory.specs.States.{State, Cell, unknown, term, with_cell, with_equation}
use Rattle.theory.specs.Assignments.{Assigns}
use Rattle.theory.proofs.Lookups.{nth_front}
use Rattle.plan.specs.Items as plan
use Rattle.feed.specs.Judging.{with_item, with_items}

module _ (m : Meaning) (type_of : ℕ → Tree) where
  without_cell : (s : State) (c : Cell) → Assigns m (with_cell s c) type_of → Assigns m s type_of
  without_cell s c a = record {
    unclassed = record {
      cells = λ i h. a.unclassed.cells i (let l = length-append s.cells (c ∷ []) in omega arith);
      terms = λ i code ps e. a.unclassed.terms i code ps (nth_front s.cells (c ∷ []) i (term code ps) e);
      equations = a.unclassed.equations;
    };
    classes = λ i set e. a.classes i set (nth_front s.cells (c ∷ []) i (unknown set) e);
  }

  without_equation : (s : State) (left right : ℕ) → Assigns m (with_equation s left right) type_of → Assigns m s type_of
  without_equation s left right a = record {
    unclassed = record {
      cells = a.unclassed.cells;
      terms = a.unclassed.terms;
      equations = λ x y e. a.unclassed.equations x y (suc e.0, e.1);
    };
    classes = a.classes;
  }

  without_item : (s : State) (i : plan.Item) → Assigns m (with_item s i) type_of → Assigns m s type_of
  without_item s (plan.unknown set) a = without_cell s (unknown set) a
  without_item s (plan.term code cells) a = without_cell s (term code cells) a
  without_item s (plan.link left right) a = without_equation s left right a

  pub without_items : (s : State) (is : List plan.Item) → Assigns m (with_items s is) type_of → Assigns m s type_of
  without_items s [] a = a
  without_items s (i ∷ is) a = without_item s i (without_items (with_item s i) is a)
