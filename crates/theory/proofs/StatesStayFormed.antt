-- States stay formed where cells and equations are added. Assumes nothing.
use Rattle.std.proofs.Common.{◌≡◌, ℕ, suc, ◌<◌, true, ◌⊎◌, List, [], ◌∷◌, ◌++◌, length, Some, sym, refl, inl, inr, arith, length-append}
use Rattle.std.specs.List.{slice_get}
use Rattle.theory.specs.Meaning.{Meaning, Lawful}
use Rattle.theory.specs.States.{Cell, unknown, term, State, Term, Standing, Formed, with_equation, with_cell, empty_state, CellFormed, FormedLaws}
use Rattle.theory.specs.Joined.{reflexive}
use Rattle.theory.specs.Certificates.{no_term, Certificate, ClassesAdmitted}
use Rattle.theory.proofs.Impossible.{impossible}
use Rattle.theory.proofs.Lookups.{nth_pushed_split, each_none, each_next}
use Rattle.theory.proofs.ShapesMerge.{BothStand}

empty_formed : (m : Meaning) → Formed m empty_state
empty_formed m = record {
  term_known = λ i c ps t. impossible (cc);
  term_places = λ i c ps t. impossible (cc);
  term_lower = λ i c ps t. impossible (cc);
  unknown_set = λ i set u. impossible (cc);
  equation_stands = λ a b e. each_none (BothStand empty_state) e.0 a b e.1;
  few_cells = omega arith;
}

pub with_equation_formed : {m : Meaning} {s : State} (a b : ℕ) → a < length s.cells → b < length s.cells → Formed m s →
    Formed m (with_equation s a b)
with_equation_formed {m} {s} a b a< b< formed = record {
  term_known = formed.term_known;
  term_places = formed.term_places;
  term_lower = formed.term_lower;
  unknown_set = formed.unknown_set;
  equation_stands = λ x y e. each_next (BothStand s) a b s.equations (a<, b<) (λ k x y e. formed.equation_stands x y (k, e)) e.0 x y e.1;
  few_cells = formed.few_cells;
}

module _ {m : Meaning} {s : State} (c : Cell) (formed : Formed m s) (room : length s.cells < 65536) (new : CellFormed m s c) where
  longer : length (s.cells ++ (c ∷ [])) ≡ suc (length s.cells)
  longer = let h = length-append s.cells (c ∷ []) in omega arith

  -- what holds of the old terms and of the new cell holds of all terms
  each_term : (P : ℕ → ℕ → List ℕ → Type 0) → ((i d : ℕ) (ps : List ℕ) → Term s i d ps → P i d ps) →
      ((d : ℕ) (ps : List ℕ) → c ≡ term d ps → P (length s.cells) d ps) →
      (i d : ℕ) (ps : List ℕ) → Term (with_cell s c) i d ps → P i d ps
  each_term P old here i d ps t = go (nth_pushed_split s.cells c i (term d ps) t)
    where
      go : (slice_get s.cells i ≡ Some (term d ps)) ⊎ ((i ≡ length s.cells) × (term d ps ≡ c)) → P i d ps
      go (inl u) = old i d ps u
      go (inr e) = rw e.0 (here d ps (sym e.1))

  new_term : (d : ℕ) (ps : List ℕ) → c ≡ term d ps → (m.known d ≡ true) × (length ps ≡ m.places d) × Standing s ps
  new_term d ps e = rw e at new

  new_set : (i set : ℕ) → (slice_get s.cells i ≡ Some (unknown set)) ⊎ ((i ≡ length s.cells) × (unknown set ≡ c)) → set < 256
  new_set i set (inl u) = formed.unknown_set i set u
  new_set i set (inr e) = let q = sym e.1 in rw q at new

  pub with_cell_formed : Formed m (with_cell s c)
  with_cell_formed = record {
    term_known = each_term (λ i d ps. m.known d ≡ true) formed.term_known (λ d ps e. (new_term d ps e).0);
    term_places = each_term (λ i d ps. length ps ≡ m.places d) formed.term_places (λ d ps e. (new_term d ps e).1);
    term_lower = each_term (λ i d ps. (k p : ℕ) → slice_get ps k ≡ Some p → p < i) formed.term_lower (λ d ps e. (new_term d ps e).2);
    unknown_set = λ i set u. new_set i set (nth_pushed_split s.cells c i (unknown set) u);
    equation_stands = λ a b e. let h = formed.equation_stands a b e in let l = longer in let x = h.0 in let y = h.1 in (omega arith, omega arith);
    few_cells = let l = longer in omega arith;
  }

pub formed_laws : (m : Meaning) → FormedLaws m
formed_laws m = record {
  empty = empty_formed m;
  cell = λ s c formed room new. with_cell_formed c formed room new;
  equation = λ s a b formed a< b<. with_equation_formed a b a< b< formed;
}

-- the empty state has a certificate
pub empty_certificate : (m : Meaning) → Certificate m empty_state (λ i. i) (λ i. 0) (λ i. no_term)
empty_certificate m = record {
  consistent = record {
    label_fixed = λ i. refl;
    equations = λ a b e. each_none (λ a b. a ≡ b) e.0 a b e.1;
    terms_held = λ i c ps t. impossible (cc);
    falling = λ r d qs e. impossible (cc);
  };
  label_joined = λ i. reflexive;
  shape_backed = λ r d qs e. impossible (cc);
  label_stands = λ i h. h;
}

pub empty_admitted : {m : Meaning} → Lawful m → ClassesAdmitted m empty_state (λ i. i)
empty_admitted lawful r = record {
  by_terms = λ i set u. impossible (cc);
  code = lawful.has_leaf.0;
  code_known = lawful.has_leaf.1.is_known;
  by_code = λ free i set u. impossible (cc);
}
