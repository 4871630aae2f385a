-- Classes that do not admit the code of a term, or that no code has together, leave no assignment. Assumes nothing.
use Rattle.std.proofs.Common.{◌≡◌, ℕ, true, ◌∙◌}
use Rattle.theory.specs.Meaning.{Meaning, Lawful}
use Rattle.theory.specs.Types.{Tree, node, top, types, IsType, build}
use Rattle.theory.specs.States.{State}
use Rattle.theory.specs.Assignments.{Assigns}
use Rattle.theory.specs.Refusals.{Barred, not_admitted, no_common_code}
use Rattle.theory.proofs.Builds.{admits_build}
use Rattle.theory.proofs.Soundness.{joined_cells_have_one_type}

top_known : (m : Meaning) (t : Tree) → IsType m t → m.known (top t) ≡ true
top_known m (node c ts) is_type = is_type.0

module _ {m : Meaning} (lawful : Lawful m) {s : State} {type_of : ℕ → Tree} (assigns : Assigns m s type_of) where
  pub barred_refuses : Barred m s → ⊥
  barred_refuses (not_admitted i j set c ps u joined t differ) =
      let e : type_of i ≡ build m (m.plain c) (types type_of ps) = joined_cells_have_one_type lawful assigns.unclassed joined ∙ assigns.unclassed.terms j c ps t in
      differ (λ k h. admits_build lawful k (m.plain c) (types type_of ps) (let x = assigns.classes i set u k h in rw e at x))
  barred_refuses (no_common_code i set i< union none_has) =
      none_has (top (type_of i)) (top_known m (type_of i) (assigns.unclassed.cells i i<))
      (λ k h.
      let c = union.only k h in
      let e = joined_cells_have_one_type lawful assigns.unclassed c.joined in
      rw e (assigns.classes c.cell c.set c.stands k c.has_it))
