-- The set of a class of cells, gathered from its unknowns. Assumes nothing.
use Rattle.std.proofs.Common.{◌≡◌, ℕ, zero, suc, T, ◌⊎◌, List, [], ◌∷◌, Some, sym, refl, inl, inr}
use Rattle.std.proofs.Math.Decide.{ℕ_discrete}
use Rattle.std.specs.Int.Bits.{bit_or}
use Rattle.std.specs.List.{slice_get}
use Rattle.theory.specs.Meaning.{has, Meaning}
use Rattle.theory.specs.IfSo.{if_so}
use Rattle.theory.specs.States.{Cell, unknown, term, State}
use Rattle.theory.specs.Joined.{Joined}
use Rattle.theory.specs.ClassUnions.{Union}
use Rattle.theory.specs.SetsByLabel.{SetOfClass}
use Rattle.theory.proofs.Impossible.{impossible}
use Rattle.theory.proofs.Pairwise.{Pairwise, joined_cells_have_one_label, same_label_joined}
use Rattle.theory.proofs.SetsAsNumbers.{has_or_left, has_or_right, has_or, has_none}

unfoldable pub gathered : List Cell → (ℕ → ℕ) → ℕ → ℕ
gathered [] label r = 0
gathered (unknown u ∷ cs) label r = if_so (ℕ_discrete (label 0) r) (bit_or u (gathered cs (λ i. label (suc i)) r)) (gathered cs (λ i. label (suc i)) r)
gathered (term c ps ∷ cs) label r = gathered cs (λ i. label (suc i)) r

-- an unknown of the class r has class k
record ClassFrom (cs : List Cell) (label : ℕ → ℕ) (r k : ℕ) : Type 0 where
  cell : ℕ
  set : ℕ
  stands : slice_get cs cell ≡ Some (unknown set)
  in_class : label cell ≡ r
  has_it : T (has set k)

gathered_left : {A : Type 0} (d : Dec A) (u g k : ℕ) → A → T (has u k) → T (has (if_so d (bit_or u g) g) k)
unfolding if_so
gathered_left (yes a) u g k x h = has_or_left u g k h
gathered_left (no n) u g k x h = absurd (n x)

gathered_right : {A : Type 0} (d : Dec A) (u g k : ℕ) → T (has g k) → T (has (if_so d (bit_or u g) g) k)
unfolding if_so
gathered_right (yes a) u g k h = has_or_right u g k h
gathered_right (no n) u g k h = h

gathered_either : {A : Type 0} (d : Dec A) (u g k : ℕ) → T (has (if_so d (bit_or u g) g) k) → (A × T (has u k)) ⊎ T (has g k)
unfolding if_so
gathered_either {A} (yes a) u g k h = go (has_or u g k h)
  where
    go : T (has u k) ⊎ T (has g k) → (A × T (has u k)) ⊎ T (has g k)
    go (inl x) = inl (a, x)
    go (inr x) = inr x
gathered_either (no n) u g k h = inr h

gathered_has : (cs : List Cell) (label : ℕ → ℕ) (r i u k : ℕ) → slice_get cs i ≡ Some (unknown u) → label i ≡ r → T (has u k) →
    T (has (gathered cs label r) k)
unfolding gathered
gathered_has [] label r i u k e p h = impossible (cc)
gathered_has (unknown v ∷ cs) label r zero u k e p h = let q : v ≡ u = cc in gathered_left (ℕ_discrete (label 0) r) v (gathered cs (λ i. label (suc i)) r) k p (rw q h)
gathered_has (unknown v ∷ cs) label r (suc i) u k e p h = gathered_right (ℕ_discrete (label 0) r) v (gathered cs (λ i. label (suc i)) r) k (gathered_has cs (λ i. label (suc i)) r i u k e p h)
gathered_has (term c ps ∷ cs) label r zero u k e p h = impossible (cc)
gathered_has (term c ps ∷ cs) label r (suc i) u k e p h = gathered_has cs (λ i. label (suc i)) r i u k e p h

later_unknown : {c : Cell} {cs : List Cell} {label : ℕ → ℕ} {r k : ℕ} → ClassFrom cs (λ i. label (suc i)) r k → ClassFrom (c ∷ cs) label r k
later_unknown f = record { cell = suc f.cell; set = f.set; stands = f.stands; in_class = f.in_class; has_it = f.has_it }

gathered_from : (cs : List Cell) (label : ℕ → ℕ) (r k : ℕ) → T (has (gathered cs label r) k) → ClassFrom cs label r k
unfolding gathered
gathered_from [] label r k h = absurd (has_none k h)
gathered_from (unknown u ∷ cs) label r k h = go (λ x. gathered_from cs (λ i. label (suc i)) r k x) (gathered_either (ℕ_discrete (label 0) r) u (gathered cs (λ i. label (suc i)) r) k h)
  where
    go : (T (has (gathered cs (λ i. label (suc i)) r) k) → ClassFrom cs (λ i. label (suc i)) r k) →
        ((label 0 ≡ r) × T (has u k)) ⊎ T (has (gathered cs (λ i. label (suc i)) r) k) → ClassFrom (unknown u ∷ cs) label r k
    go rec (inl x) = record { cell = 0; set = u; stands = refl; in_class = x.0; has_it = x.1 }
    go rec (inr x) = later_unknown (rec x)
gathered_from (term c ps ∷ cs) label r k h = later_unknown (gathered_from cs (λ i. label (suc i)) r k h)

-- it is the set of the class
pub gathered_set : (s : State) (label : ℕ → ℕ) (r : ℕ) → SetOfClass s label r (gathered s.cells label r)
gathered_set s label r = record {
  gathers = λ k u. gathered_has s.cells label r u.cell u.set k u.stands u.in_class u.has_it;
  only = λ k h.
      let u = gathered_from s.cells label r k h in
      record { cell = u.cell; set = u.set; stands = u.stands; in_class = u.in_class; has_it = u.has_it };
}

-- and the union of the classes that are joined to a cell of it
pub set_union : {m : Meaning} {s : State} {label rank : ℕ → ℕ} → Pairwise m s label rank → ((i : ℕ) → Joined m s i (label i)) → (i set : ℕ) →
    SetOfClass s label (label i) set → Union m s i set
set_union pairwise label_joined i set set_of = record {
  gathers = λ k h.
      set_of.gathers k (record { cell = h.cell; set = h.set; stands = h.stands; in_class = sym (joined_cells_have_one_label pairwise h.joined); has_it = h.has_it });
  only = λ k h.
      let u = set_of.only k h in
      record { cell = u.cell; set = u.set; joined = same_label_joined label_joined i u.cell (sym u.in_class); stands = u.stands; has_it = u.has_it };
}
