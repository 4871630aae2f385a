-- States that calls lead to keep the promise. Assumes nothing.
use Rattle.std.proofs.Common.{ℕ, List, [], ◌∷◌, length, Result, ap, arith}
use Rattle.theory.specs.Meaning.{Meaning, Agree}
use Rattle.theory.specs.States.{State, Standing, with_equation}
use Rattle.theory.specs.SameEquations.{SameEquations}
use Rattle.theory.proofs.HeldPairwise.{consistent_pairwise}
use Rattle.theory.proofs.RowsAreFillings.{rows_are_fillings}
use Rattle.theory.proofs.FillingsAreRows.{fillings_are_rows}
use Rattle.theory.proofs.SameEquationsListings.{same_listing}
use Rattle.workspace.specs.declared.fault.Fault.{Fault}
use Rattle.workspace.specs.Calls.{Stands, FirstMissing, NoneClassed, JoinCall, join_no_cell, join_no_types, join_no_classes, join_accepted, ShowCall, show_no_cell, show_no_room, show_written}
use Rattle.workspace.specs.Promise.{RefusedForTypes, with_seven, with_eight, ReachedStatesKeepThePromise}
use Rattle.workspace.proofs.Missing.{standing_none, standing_next, missing_stands_not}
use Rattle.workspace.proofs.Certified.{assigned, reached_certified}
use Rattle.workspace.proofs.Determined.{determined}

module _ (m : Meaning) (s : State) where
  refused_if_none : (left right : ℕ) → Stands s left → Stands s right → (r : Result (Unit {0}) Fault) (t : State) → JoinCall m s left right r t →
      NoneClassed m (with_equation s left right) → RefusedForTypes left right r
  refused_if_none left right a b r t (join_no_cell cell f) none =
      absurd (missing_stands_not s (left ∷ right ∷ []) cell f (standing_next s left (right ∷ []) a (standing_next s right [] b (standing_none s))))
  refused_if_none left right a b r t (join_no_types c d e) none = with_seven
  refused_if_none left right a b r t (join_no_classes c d type_of u e) none = with_eight
  refused_if_none left right a b r t (join_accepted c d type_of assigns) none = absurd (none type_of assigns)

  none_if_refused : (left right : ℕ) (r : Result (Unit {0}) Fault) (t : State) → JoinCall m s left right r t → RefusedForTypes left right r → NoneClassed m (with_equation s left right)
  none_if_refused left right r t (join_no_cell cell f) refused = elim refused [ ]
  none_if_refused left right r t (join_no_types c d none) refused = λ type_of assigns. none type_of assigns.unclassed
  none_if_refused left right r t (join_no_classes c d type_of u none) refused = none
  none_if_refused left right r t (join_accepted c d type_of assigns) refused = elim refused [ ]

-- what show answers in a state, it answers in each with the same cells and equations
module _ (m n : Meaning) (s u : State) (agree : Agree m n) (same : SameEquations s u) where
  standing_too : (cells : List ℕ) → Standing s cells → Standing u cells
  standing_too cells h k c e = let l = h k c e in let g = ap length same.cells in omega arith

  missing_too : (cells : List ℕ) (cell : ℕ) → FirstMissing s cells cell → FirstMissing u cells cell
  missing_too cells cell f = record {
    before = f.before;
    after = f.after;
    split = f.split;
    standing = standing_too f.before f.standing;
    missing = (let l = f.missing in let g = ap length same.cells in omega arith);
  }

  shows_too : (cells buffer : List ℕ) (r : Result ℕ Fault) (after : List ℕ) → ShowCall m s cells buffer r after → ShowCall n u cells buffer r after
  shows_too cells buffer r after (show_no_cell cell f) = show_no_cell cell (missing_too cells cell f)
  shows_too cells buffer r after (show_no_room h words l short) = show_no_room (standing_too cells h) words (same_listing agree same l) short
  shows_too cells buffer r after (show_written h words l fits) = show_written (standing_too cells h) words (same_listing agree same l) fits

pub reached_states_keep_the_promise : ReachedStatesKeepThePromise
reached_states_keep_the_promise m lawful s reached =
    let k = reached_certified m lawful s reached in
    record {
      assigned = assigned m lawful s k;
      refused_if_none = refused_if_none m s;
      none_if_refused = none_if_refused m s;
      rows_are_fillings = λ cells words standing listing type_of assigns. rows_are_fillings lawful k.formed standing listing type_of assigns;
      fillings_are_rows = λ cells words standing listing filling row fills.
          fillings_are_rows lawful k.formed (consistent_pairwise lawful k.certificate.consistent) k.certificate.label_joined k.admitted standing listing filling row fills;
      shows_alike = λ n u lawful' agree other same cells buffer r q after after' x y.
          (determined n lawful' u (reached_certified n lawful' u other)).show_one cells buffer r q after after' (shows_too m n s u agree same cells buffer r after x) y;
    }
