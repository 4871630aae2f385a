-- What the labels and shapes of a certificate say of cells. Assumes nothing.
use Rattle.std.proofs.Common.{◌≡◌, ℕ, List, [], ◌∷◌, sym, refl, ap, ◌∙◌, arith}
use Rattle.theory.specs.Meaning.{layered_by, Meaning, Lawful}
use Rattle.theory.specs.States.{State, Term, Formed}
use Rattle.theory.specs.Joined.{Joined, symmetric, transitive}
use Rattle.theory.specs.ListLike.{ListLike, joined_list, joined_loop}
use Rattle.theory.specs.Certificates.{Shape, over, Held, same_code, looping_pair, TermHeld, Backed, by_term, by_list_like, Certificate}
use Rattle.theory.specs.ShapesOfClasses.{BackingLaws, TermLike, WritingLaws}
use Rattle.theory.proofs.Impossible.{impossible}
use Rattle.theory.proofs.Lookups.{same_map_partner}
use Rattle.theory.proofs.Pairwise.{same_label_joined}
use Rattle.theory.proofs.HeldPairwise.{one_label}
use Rattle.theory.proofs.ListLikes.{list_like_along, list_like_named}
use Rattle.theory.proofs.ShapesMerge.{term_behind, codes_clash, shape_width, shape_stands}

pub backing_laws : {m : Meaning} → Lawful m → {s : State} → Formed m s → BackingLaws m s
backing_laws lawful formed = record {
  width = λ r d qs backed. shape_width lawful formed backed;
  stands = λ r d qs backed. shape_stands lawful formed backed;
  differ = λ r r' d d' qs qs' joined backed backed' differ. codes_clash joined (term_behind backed) (term_behind backed') differ;
}

module _ {m : Meaning} (lawful : Lawful m) {s : State} {label rank : ℕ → ℕ} {shape : ℕ → Shape} (certificate : Certificate m s label rank shape) where
  -- a term of the class of i is held to its shape
  held_here : {i j c d : ℕ} {ps qs : List ℕ} → shape (label i) ≡ over d qs → Joined m s i j → Term s j c ps → Held m label (label i) c ps d qs
  held_here {i} {j} {c} {d} {ps} {qs} is joined t =
      let o : TermHeld m label shape (label i) c ps = rw (← (one_label lawful certificate.consistent joined)) at (certificate.consistent.terms_held j c ps t) in
      let code : o.code ≡ d = cc in
      let parts : o.parts ≡ qs = cc in
      rw (code, parts) at o.held

  not_list_like : (i d : ℕ) (qs : List ℕ) → shape (label i) ≡ over d qs → ((pair : ℕ) → m.layering ≡ layered_by pair d → ⊥) → (list e : ℕ) →
      ListLike m s i list e → ⊥
  not_list_like i d qs is not_list list e (joined_list j pair c a t p l) = go (held_here is a t)
    where
      go : Held m label (label i) c (e ∷ []) d qs → ⊥
      go (same_code x y) = not_list pair (cc)
      go (looping_pair first tail element named x y u v) = not_list (m.plain c) named
  not_list_like i d qs is not_list list e (joined_loop j tail c a t l r) = go (held_here is a t)
    where
      go : Held m label (label i) c (e ∷ tail ∷ []) d qs → ⊥
      go (looping_pair first tail' element named x y u v) = not_list (m.plain c) named
      go (same_code x y) =
          let q = same_map_partner label (e ∷ tail ∷ []) qs 1 tail y refl in
          let low = certificate.consistent.falling (label i) d qs is 1 q.0 q.1 in
          let back : label q.0 ≡ label i = sym q.2 ∙ one_label lawful certificate.consistent r ∙ sym (one_label lawful certificate.consistent a) in
          let same = ap rank back in
          omega arith

  list_shape : (i pair list e : ℕ) → m.layering ≡ layered_by pair list → Backed m s (label i) list (e ∷ []) → ListLike m s i list e
  list_shape i pair list e named (by_term j c a t p) = joined_list j pair c (transitive (certificate.label_joined i) a) t p named
  list_shape i pair list e named (by_list_like e' h q) =
      let same : e' ≡ e = cc in
      rw same at (list_like_along (symmetric (certificate.label_joined i)) h)

  term_shape : (i d : ℕ) (qs : List ℕ) → shape (label i) ≡ over d qs → ((pair : ℕ) → m.layering ≡ layered_by pair d → ⊥) →
      Backed m s (label i) d qs → TermLike m s i d qs
  term_shape i d qs is not_list (by_term j c a t p) = record {
    cell = j;
    code = c;
    joined = transitive (certificate.label_joined i) a;
    stands = t;
    plain_is = p;
    not_list_like = not_list_like i d qs is not_list;
  }
  term_shape i d qs is not_list (by_list_like e h q) = let named = list_like_named h in absurd (not_list named.0 named.1)

  pub writing_laws : WritingLaws m s label shape
  writing_laws = record {
    same_label = same_label_joined certificate.label_joined;
    one_label = λ a b joined. one_label lawful certificate.consistent joined;
    list_shape = λ i pair list e is named. list_shape i pair list e named (certificate.shape_backed (label i) list (e ∷ []) is);
    term_shape = λ i d qs is not_list. term_shape i d qs is not_list (certificate.shape_backed (label i) d qs is);
    no_shape = λ i is j c ps joined t.
        let o : TermHeld m label shape (label i) c ps = rw (← (one_label lawful certificate.consistent joined)) at (certificate.consistent.terms_held j c ps t) in
        impossible (cc o.shape_is);
  }
