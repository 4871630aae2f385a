-- A certificate stays one where a cell is added. Assumes nothing.
use Rattle.std.proofs.Common.{◌≡◌, ℕ, suc, ◌<◌, ◌⊎◌, List, [], ◌∷◌, ◌++◌, length, Some, sym, refl, ap, ◌∙◌, inl, inr, arith, length-append}
use Rattle.std.proofs.Math.Decide.{ℕ_discrete}
use Rattle.std.specs.List.{slice_get}
use Rattle.theory.specs.Meaning.{Meaning, Lawful}
use Rattle.theory.specs.IfSo.{if_so}
use Rattle.theory.specs.States.{Cell, unknown, term, State, Formed, with_cell}
use Rattle.theory.specs.Joined.{Joined, reflexive}
use Rattle.theory.specs.Certificates.{Shape, over, same_code, TermHeld, Backed, by_term, Certificate, ClassAdmitted, ClassesAdmitted}
use Rattle.theory.specs.Updates.{replaced, cell_shape}
use Rattle.theory.specs.Theorems.{CellAdmitted}
use Rattle.theory.proofs.Impossible.{impossible}
use Rattle.theory.proofs.IfSo.{if_so_yes, if_so_no}
use Rattle.theory.proofs.Lookups.{nth_below, nth_front, nth_pushed, nth_pushed_split}
use Rattle.theory.proofs.SameEquationsJoin.{agree_same, joined_carried, backed_carried}
use Rattle.theory.proofs.Updates.{replaced_hit, replaced_miss}
use Rattle.theory.proofs.ShapesMerge.{shape_stands}
use Rattle.theory.proofs.AboveAll.{above_all, above_all_lt}
use Rattle.theory.proofs.CellsBeyond.{joined_beyond}

abbrev cell_rank : (ℕ → ℕ) → Cell → ℕ
cell_rank f (unknown u) = 0
cell_rank f (term c ps) = above_all f ps

-- the shape of a cell names its places
cell_shape_is : (m : Meaning) (x : Cell) (d : ℕ) (qs : List ℕ) → cell_shape m x ≡ over d qs → (e : ℕ) × (x ≡ term e qs) × (m.plain e ≡ d)
cell_shape_is m (unknown u) d qs e = impossible (cc)
cell_shape_is m (term f ps) d qs e = let q : ps ≡ qs = cc in (f, ap (term f) q, cc)

module _ {m : Meaning} (lawful : Lawful m) {s : State} (c : Cell) {label rank : ℕ → ℕ} {shape : ℕ → Shape} (formed : Formed m s) (formed' : Formed m (with_cell s c))
    (certificate : Certificate m s label rank shape) where
  abbrev size : ℕ
  size = length s.cells

  stands_still : (i : ℕ) (x : Cell) → slice_get s.cells i ≡ Some x → slice_get (s.cells ++ (c ∷ [])) i ≡ Some x
  stands_still i x e = nth_front s.cells (c ∷ []) i x e

  joined_still : {a b : ℕ} → Joined m s a b → Joined m (with_cell s c) a b
  joined_still = joined_carried (agree_same m) stands_still (λ a b e. inl e)

  pub new_label : label (length s.cells) ≡ length s.cells
  new_label = sym (joined_beyond formed (label (length s.cells)) (certificate.label_joined (length s.cells)))

  new_rank : ℕ → ℕ
  new_rank i = if_so (ℕ_discrete i size) (cell_rank (λ p. rank (label p)) c) (rank i)

  longer : length (s.cells ++ (c ∷ [])) ≡ suc (length s.cells)
  longer = let h = length-append s.cells (c ∷ []) in omega arith

  abbrev new_shape : ℕ → Shape
  new_shape = replaced shape size (cell_shape m c)

  new_label_stands : (i : ℕ) → Dec (i ≡ size) → i < suc size → label i < length (s.cells ++ (c ∷ []))
  new_label_stands i (yes e) h = let l = longer in let q : label i ≡ length s.cells = ap label e ∙ new_label in omega arith
  new_label_stands i (no d) h = let l = longer in let q = certificate.label_stands i (omega arith) in omega arith

  new_held : (i d : ℕ) (ps : List ℕ) → (slice_get s.cells i ≡ Some (term d ps)) ⊎ ((i ≡ size) × (term d ps ≡ c)) →
      TermHeld m label new_shape (label i) d ps
  new_held i d ps (inl t) =
      let o = certificate.consistent.terms_held i d ps t in
      let l = certificate.label_stands i (nth_below s.cells i t) in
      record { code = o.code; parts = o.parts; shape_is = replaced_miss shape size (cell_shape m c) (label i) (λ e. omega arith) ∙ o.shape_is; held = o.held }
  new_held i d ps (inr e) =
      record {
        code = m.plain d;
        parts = ps;
        shape_is = replaced_hit shape size (cell_shape m c) (label i) (ap label e.0 ∙ new_label) ∙ ap (cell_shape m) (sym e.1);
        held = same_code refl refl;
      }

  -- the class of a cell that the old shapes or the new one name has its old rank
  old_rank : (q : ℕ) → q < length s.cells → new_rank (label q) ≡ rank (label q)
  unfolding new_rank
  old_rank q q< = let l = certificate.label_stands q q< in if_so_no (ℕ_discrete (label q) size) (cell_rank (λ p. rank (label p)) c) (rank (label q)) (λ z. omega arith)

  new_falling : (r d : ℕ) (qs : List ℕ) → new_shape r ≡ over d qs → (k q : ℕ) → slice_get qs k ≡ Some q → Dec (r ≡ size) → new_rank (label q) < new_rank r
  unfolding new_rank
  new_falling r d qs e k q h (yes i) =
      let p = cell_shape_is m c d qs (sym (replaced_hit shape size (cell_shape m c) r i) ∙ e) in
      let q< : q < length s.cells = formed'.term_lower size p.0 qs (nth_pushed s.cells c ∙ ap Some p.1) k q h in
      let a = old_rank q q< in
      let b = if_so_yes (ℕ_discrete r size) (cell_rank (λ p. rank (label p)) c) (rank r) i in
      let f = above_all_lt (λ p. rank (label p)) qs k q h in
      let g = ap (cell_rank (λ p. rank (label p))) p.1 in
      omega arith
  new_falling r d qs e k q h (no i) =
      let was : shape r ≡ over d qs = sym (replaced_miss shape size (cell_shape m c) r i) ∙ e in
      let q< = shape_stands lawful formed (certificate.shape_backed r d qs was) k q h in
      let a = old_rank q q< in
      let b = if_so_no (ℕ_discrete r size) (cell_rank (λ p. rank (label p)) c) (rank r) i in
      let f = certificate.consistent.falling r d qs was k q h in
      omega arith

  new_backed : (r d : ℕ) (qs : List ℕ) → new_shape r ≡ over d qs → Dec (r ≡ size) → Backed m (with_cell s c) r d qs
  new_backed r d qs e (yes i) =
      let p = cell_shape_is m c d qs (sym (replaced_hit shape size (cell_shape m c) r i) ∙ e) in
      by_term r p.0 reflexive (ap (slice_get (s.cells ++ (c ∷ []))) i ∙ nth_pushed s.cells c ∙ ap Some p.1) p.2
  new_backed r d qs e (no i) = backed_carried (agree_same m) stands_still (λ a b e. inl e) (certificate.shape_backed r d qs (sym (replaced_miss shape size (cell_shape m c) r i) ∙ e))

  pub new_cell_keeps_certificate : (rank' : ℕ → ℕ) × Certificate m (with_cell s c) label rank' (replaced shape (length s.cells) (cell_shape m c))
  new_cell_keeps_certificate = (
    new_rank,
    record {
      consistent = record {
        label_fixed = certificate.consistent.label_fixed;
        equations = certificate.consistent.equations;
        terms_held = λ i d ps t. new_held i d ps (nth_pushed_split s.cells c i (term d ps) t);
        falling = λ r d qs e k q h. new_falling r d qs e k q h (ℕ_discrete r size);
      };
      label_joined = λ i. joined_still (certificate.label_joined i);
      shape_backed = λ r d qs e. new_backed r d qs e (ℕ_discrete r size);
      label_stands = λ i h. new_label_stands i (ℕ_discrete i size) (let l = longer in omega arith);
    },
  )

  -- the class r of an old cell is none of the new one
  old_class : (i : ℕ) → i < length s.cells → label i ≡ length s.cells → ⊥
  old_class i i< e = let l = certificate.label_stands i i< in omega arith

  pub new_cell_keeps_classes : ClassesAdmitted m s label → CellAdmitted m c → ClassesAdmitted m (with_cell s c) label
  new_cell_keeps_classes admitted new r = go c refl new (ℕ_discrete r size)
    where
      old_unknown : (i set : ℕ) → (slice_get s.cells i ≡ Some (unknown set)) ⊎ ((i ≡ size) × (unknown set ≡ c)) → (r ≡ size → ⊥) → label i ≡ r →
          slice_get s.cells i ≡ Some (unknown set)
      old_unknown i set (inl u) n e = u
      old_unknown i set (inr q) n e = absurd (n (sym e ∙ ap label q.0 ∙ new_label))

      old_term : (j d : ℕ) (ps : List ℕ) → (slice_get s.cells j ≡ Some (term d ps)) ⊎ ((j ≡ size) × (term d ps ≡ c)) → (r ≡ size → ⊥) → label j ≡ r →
          slice_get s.cells j ≡ Some (term d ps)
      old_term j d ps (inl t) n e = t
      old_term j d ps (inr q) n e = absurd (n (sym e ∙ ap label q.0 ∙ new_label))

      new_unknown : (i set : ℕ) → (slice_get s.cells i ≡ Some (unknown set)) ⊎ ((i ≡ size) × (unknown set ≡ c)) → r ≡ size → label i ≡ r →
          unknown set ≡ c
      new_unknown i set (inl u) q e = absurd (old_class i (nth_below s.cells i u) (e ∙ q))
      new_unknown i set (inr p) q e = p.1

      new_term : (j d : ℕ) (ps : List ℕ) → (slice_get s.cells j ≡ Some (term d ps)) ⊎ ((j ≡ size) × (term d ps ≡ c)) → r ≡ size → label j ≡ r →
          term d ps ≡ c
      new_term j d ps (inl u) q e = absurd (old_class j (nth_below s.cells j u) (e ∙ q))
      new_term j d ps (inr p) q e = p.1

      go : (x : Cell) → c ≡ x → CellAdmitted m x → Dec (r ≡ size) → ClassAdmitted m (with_cell s c) label r
      go x is new (no n) = record {
        by_terms = λ i set u e j d ps t q.
            (admitted r).by_terms i set (old_unknown i set (nth_pushed_split s.cells c i (unknown set) u) n e) e j d ps (old_term j d ps (nth_pushed_split s.cells c j (term d ps) t) n q) q;
        code = (admitted r).code;
        code_known = (admitted r).code_known;
        by_code = λ free i set u e.
            (admitted r).by_code (λ j d ps t q. free j d ps (stands_still j (term d ps) t) q) i set (old_unknown i set (nth_pushed_split s.cells c i (unknown set) u) n e) e;
      }
      go (term d ps) is new (yes q) = record {
        by_terms = λ i set u e. impossible (cc (new_unknown i set (nth_pushed_split s.cells c i (unknown set) u) q e));
        code = lawful.has_leaf.0;
        code_known = lawful.has_leaf.1.is_known;
        by_code = λ free i set u e. impossible (cc (new_unknown i set (nth_pushed_split s.cells c i (unknown set) u) q e));
      }
      go (unknown set) is new (yes q) = record {
        by_terms = λ i set' u e j d ps t p. impossible (cc (new_term j d ps (nth_pushed_split s.cells c j (term d ps) t) q p));
        code = new.0;
        code_known = new.1;
        by_code = λ free i set' u e.
            let same : set ≡ set' = cc (new_unknown i set' (nth_pushed_split s.cells c i (unknown set') u) q e) in
            rw (← same) new.2;
      }
