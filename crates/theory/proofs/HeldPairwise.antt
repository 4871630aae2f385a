-- Two terms that are held to the shape of one class agree. Assumes nothing.
use Rattle.std.proofs.Common.{◌≡◌, ℕ, zero, suc, ◌<◌, ◌⊎◌, List, [], ◌∷◌, map, Some, sym, refl, ap, ◌∙◌, inl, inr}
use Rattle.std.specs.List.{slice_get}
use Rattle.theory.specs.Meaning.{layered_by, Meaning, Lawful}
use Rattle.theory.specs.States.{term, State, Term}
use Rattle.theory.specs.Joined.{Joined}
use Rattle.theory.specs.Codes.{CodesAgree, one_code, pair_and_list, list_and_pair}
use Rattle.theory.specs.Certificates.{Shape, over, Held, same_code, looping_pair, TermHeld, Consistent}
use Rattle.theory.proofs.Impossible.{impossible}
use Rattle.theory.proofs.Lookups.{same_map_partner}
use Rattle.theory.proofs.Layers.{layers_of}
use Rattle.theory.proofs.Pairwise.{Loops, Pairwise, joined_cells_have_one_label}

module _ {m : Meaning} (lawful : Lawful m) {label : ℕ → ℕ} where
  held_codes : (r c c' d : ℕ) (ps ps' qs : List ℕ) → Held m label r c ps d qs → Held m label r c' ps' d qs →
      CodesAgree m (m.plain c) (m.plain c')
  held_codes r c c' d ps ps' qs (same_code a b) (same_code a' b') = one_code (cc)
  held_codes r c c' d ps ps' qs (same_code a b) (looping_pair h t e l p q u v) = list_and_pair (cc)
  held_codes r c c' d ps ps' qs (looping_pair h t e l p q u v) (same_code a b) = pair_and_list (cc)
  held_codes r c c' d ps ps' qs (looping_pair h t e l p q u v) (looping_pair h' t' e' l' p' q' u' v') = one_code (cc)

  held_places : (r c c' d : ℕ) (ps ps' qs : List ℕ) → m.plain c ≡ m.plain c' → Held m label r c ps d qs → Held m label r c' ps' d qs →
      map label ps ≡ map label ps'
  held_places r c c' d ps ps' qs x (same_code a b) (same_code a' b') = cc
  held_places r c c' d ps ps' qs x (same_code a b) (looping_pair h t e l p q u v) = absurd ((layers_of lawful (m.plain c') d l).apart (cc))
  held_places r c c' d ps ps' qs x (looping_pair h t e l p q u v) (same_code a b) = absurd ((layers_of lawful (m.plain c) d l).apart (cc))
  held_places r c c' d ps ps' qs x (looping_pair h t e l p q u v) (looping_pair h' t' e' l' p' q' u' v') =
      let same : label h ≡ label h' = cc in
      rw (p, p') (cc)

  held_layers : (r c c' d e h t : ℕ) (qs : List ℕ) → m.layering ≡ layered_by (m.plain c') (m.plain c) → Held m label r c (e ∷ []) d qs →
      Held m label r c' (h ∷ t ∷ []) d qs →
      (label e ≡ label h) × (label t ≡ r)
  held_layers r c c' d e h t qs named (same_code a b) (same_code a' b') = absurd ((layers_of lawful _ _ named).apart (cc))
  held_layers r c c' d e h t qs named (same_code a b) (looping_pair h' t' e' l p q u v) =
      let b' : map label (e ∷ []) ≡ map label (e' ∷ []) = b ∙ ap (map label) q in
      (cc, cc)
  held_layers r c c' d e h t qs named (looping_pair h' t' e' l p q u v) y = absurd ((layers_of lawful _ _ named).apart (cc))

module _ {m : Meaning} (lawful : Lawful m) {s : State} {label rank : ℕ → ℕ} {shape : ℕ → Shape} (consistent : Consistent m s label rank shape) where
  -- two terms of one class are held to one shape
  both_held : {A : Type 0} (i j c c' : ℕ) (ps ps' : List ℕ) → Term s i c ps → Term s j c' ps' → label i ≡ label j →
      ((d : ℕ) (qs : List ℕ) → Held m label (label j) c ps d qs → Held m label (label j) c' ps' d qs → A) → A
  both_held i j c c' ps ps' ti tj e f =
      let a : TermHeld m label shape (label j) c ps = rw e at (consistent.terms_held i c ps ti) in
      let b = consistent.terms_held j c' ps' tj in
      let tops : a.code ≡ b.code = cc in
      let parts : a.parts ≡ b.parts = cc in
      f b.code b.parts (rw (← tops, ← parts) a.held) b.held

  held_falls : (i c : ℕ) (ps : List ℕ) → Term s i c ps → (k p : ℕ) → slice_get ps k ≡ Some p → (d : ℕ) (qs : List ℕ) → shape (label i) ≡ over d qs →
      Held m label (label i) c ps d qs →
      (rank (label p) < rank (label i)) ⊎ Loops m s label i k p
  held_falls i c ps t k p at d qs shape_is (same_code a b) =
      let o = same_map_partner label ps qs k p b at in
      inl (rw o.2 (consistent.falling (label i) d qs shape_is k o.0 o.1))
  held_falls i c ps t k p at d qs shape_is (looping_pair h u e l x y v r) = go k (ap (λ xs. slice_get xs k) (sym x) ∙ at)
    where
      here : Term s i c (h ∷ u ∷ [])
      here = t ∙ ap (λ xs. Some (term c xs)) x

      go : (k : ℕ) → slice_get (h ∷ u ∷ []) k ≡ Some p → (rank (label p) < rank (label i)) ⊎ Loops m s label i k p
      go zero at' =
          let low = consistent.falling (label i) d qs shape_is 0 e (ap (λ xs. slice_get xs 0) y) in
          let same : label p ≡ label e = ap label (cc) ∙ v in
          inl (rw same low)
      go (suc zero) at' =
          let same : u ≡ p = cc in
          inr (record { first = h; pair = record { code = c; list = d; named = l; stands = rw (← same) here }; place = refl; round = rw (← same) r })
      go (suc (suc k)) at' = impossible (cc)

  pub consistent_pairwise : Pairwise m s label rank
  consistent_pairwise = record {
    label_fixed = consistent.label_fixed;
    equations = consistent.equations;
    codes = λ i j c c' ps ps' ti tj e. both_held i j c c' ps ps' ti tj e (λ d qs. held_codes lawful (label j) c c' d ps ps' qs);
    places = λ i j c c' ps ps' ti tj e x. both_held i j c c' ps ps' ti tj e (λ d qs. held_places lawful (label j) c c' d ps ps' qs x);
    list_meets_pair = λ i j e h t l p x.
        both_held i j l.code p.code (e ∷ []) (h ∷ t ∷ []) l.stands p.stands x
        (λ d qs. held_layers lawful (label j) l.code p.code d e h t qs (cc));
    falls = λ i c ps t k p at. let a = consistent.terms_held i c ps t in held_falls i c ps t k p at a.code a.parts a.shape_is a.held;
  }

pub one_label : {m : Meaning} → Lawful m → {s : State} {label rank : ℕ → ℕ} {shape : ℕ → Shape} → Consistent m s label rank shape → {a b : ℕ} →
    Joined m s a b → label a ≡ label b
one_label lawful consistent joined = joined_cells_have_one_label (consistent_pairwise lawful consistent) joined
