-- Lists of cells that are joined have one listing. Assumes nothing.
use Rattle.std.proofs.Common.{◌≡◌, ℕ, ◌<◌, List, [], ◌∷◌, ◌++◌, Some, sym, refl, ap, ◌∙◌, ap₂, arith}
use Rattle.theory.specs.Meaning.{Meaning, Lawful}
use Rattle.theory.specs.States.{term, State, Term, Formed}
use Rattle.theory.specs.Joined.{Joined, symmetric, transitive, places, JoinedLists, both_end, both_next}
use Rattle.theory.specs.Codes.{CodesAgree, one_code, pair_and_list, list_and_pair}
use Rattle.theory.specs.ListLike.{ListLike, joined_list}
use Rattle.theory.specs.Listings.{symbol_word, unknown_word, NumberedAs, Unnumbered, Written, list_word, term_word, numbered_word, new_word, WrittenAll, no_more, next_cell, Listing}
use Rattle.theory.proofs.LayerPlaces.{term_width, list_places}
use Rattle.theory.proofs.JoinedLists.{joined_length, joined_at, joined_lists_symmetric, joined_push, joined_by_places}
use Rattle.theory.proofs.ListLikes.{list_like_along, list_like_one, list_like_not_without}
use Rattle.theory.proofs.ClassUnionsAreOne.{union_one}

-- joined terms have codes that agree
abbrev pub TermsAgree : Meaning → State → Type 0
TermsAgree m s = (i j c d : ℕ) (ps qs : List ℕ) → Term s i c ps → Term s j d qs → Joined m s i j → CodesAgree m (m.plain c) (m.plain d)

module _ {m : Meaning} {s : State} where
  not_numbered_lower : {numbered numbered' : List ℕ} {i i' k k' : ℕ} → Joined m s i i' → JoinedLists m s numbered numbered' →
      NumberedAs m s numbered i k → NumberedAs m s numbered' i' k' → k' < k → ⊥
  not_numbered_lower {k' = k'} g h f f' lt =
      let q = joined_at (joined_lists_symmetric h) k' f'.cell f'.stands in
      f.lowest k' q.0 lt q.1 (transitive g (transitive f'.joined q.2))

  numbered_not_unnumbered : {numbered numbered' : List ℕ} {i i' k : ℕ} → Joined m s i i' → JoinedLists m s numbered numbered' →
      NumberedAs m s numbered i k → Unnumbered m s numbered' i' → ⊥
  numbered_not_unnumbered {k = k} g h f n =
      let q = joined_at h k f.cell f.stands in
      n k q.0 q.1 (transitive (symmetric g) (transitive f.joined q.2))

  module _ (lawful : Lawful m) (formed : Formed m s) (agree : TermsAgree m s) where
    -- joined terms that are no Lists have one code, and their places are joined
    terms_one : {i i' j j' c c' : ℕ} {ps ps' : List ℕ} → Joined m s i i' → ((list e : ℕ) → ListLike m s i list e → ⊥) →
        ((list e : ℕ) → ListLike m s i' list e → ⊥) →
        Joined m s i j → Joined m s i' j' → Term s j c ps → Term s j' c' ps' → (m.plain c ≡ m.plain c') × JoinedLists m s ps ps'
    terms_one {i} {i'} {j} {j'} {c} {c'} {ps} {ps'} g n n' a a' t t' = go (agree j j' c c' ps ps' t t' terms_joined)
      where
        terms_joined : Joined m s j j'
        terms_joined = transitive (symmetric a) (transitive g a')

        go : CodesAgree m (m.plain c) (m.plain c') → (m.plain c ≡ m.plain c') × JoinedLists m s ps ps'
        go (one_code e) = (e, joined_by_places ps ps' (term_width lawful formed j c ps t ∙ ap m.places e ∙ sym (term_width lawful formed j' c' ps' t')) (λ k p q hp hq. places k t t' e terms_joined hp hq))
        go (pair_and_list named) =
            let parts = list_places lawful formed j' c' (m.plain c) ps' t' named in
            absurd (n' (m.plain c') parts.0 (joined_list j' (m.plain c) c' a' (t' ∙ ap (λ xs. Some (term c' xs)) parts.1) refl named))
        go (list_and_pair named) =
            let parts = list_places lawful formed j c (m.plain c') ps t named in
            absurd (n (m.plain c) parts.0 (joined_list j (m.plain c') c a (t ∙ ap (λ xs. Some (term c xs)) parts.1) refl named))

    mutual
      pub written_one : {numbered numbered' after after' : List ℕ} {i i' : ℕ} {ws ws' : List ℕ} → Written m s numbered i ws after →
          Written m s numbered' i' ws' after' →
          Joined m s i i' → JoinedLists m s numbered numbered' → (ws ≡ ws') × JoinedLists m s after after'
      written_one (list_word h x) (list_word h' x') g ss =
          let one = list_like_one g h h' in
          let rec = written_one x x' one.1 ss in
          (ap₂ (λ list ws. symbol_word list ∷ ws) one.0 rec.0, rec.1)
      written_one (list_word h x) (term_word n a t xs) g ss = absurd (n _ _ (list_like_along g h))
      written_one (list_word h x) (numbered_word n f v) g ss = absurd (list_like_not_without g h n)
      written_one (list_word h x) (new_word n u v) g ss = absurd (list_like_not_without g h n)
      written_one (term_word n a t xs) (list_word h' x') g ss = absurd (n _ _ (list_like_along (symmetric g) h'))
      written_one (term_word n a t xs) (term_word n' a' t' xs') g ss =
          let one = terms_one g n n' a a' t t' in
          let rec = written_all_one xs xs' one.1 ss in
          (ap₂ (λ c ws. symbol_word c ∷ ws) one.0 rec.0, rec.1)
      written_one (term_word n a t xs) (numbered_word n' f v) g ss = absurd (n' _ _ _ (transitive (symmetric g) a) t)
      written_one (term_word n a t xs) (new_word n' u v) g ss = absurd (n' _ _ _ (transitive (symmetric g) a) t)
      written_one (numbered_word n f v) (list_word h x) g ss = absurd (list_like_not_without (symmetric g) h n)
      written_one (numbered_word n f v) (term_word n' a t xs) g ss = absurd (n _ _ _ (transitive g a) t)
      written_one (numbered_word {k = k} n f v) (numbered_word {k = k'} n' f' v') g ss =
          let a : k' < k → ⊥ = not_numbered_lower g ss f f' in
          let b : k < k' → ⊥ = not_numbered_lower (symmetric g) (joined_lists_symmetric ss) f' f in
          let e : k ≡ k' = omega arith in
          (ap₂ (λ k set. unknown_word k set ∷ []) e (union_one g v v'), ss)
      written_one (numbered_word n f v) (new_word n' u v') g ss = absurd (numbered_not_unnumbered g ss f u)
      written_one (new_word n u v) (list_word h x) g ss = absurd (list_like_not_without (symmetric g) h n)
      written_one (new_word n u v) (term_word n' a t xs) g ss = absurd (n _ _ _ (transitive g a) t)
      written_one (new_word n u v) (numbered_word n' f v') g ss = absurd (numbered_not_unnumbered (symmetric g) (joined_lists_symmetric ss) f u)
      written_one (new_word n u v) (new_word n' u' v') g ss = (ap₂ (λ k set. unknown_word k set ∷ []) (joined_length ss) (union_one g v v'), joined_push ss g)

      pub written_all_one : {numbered numbered' after after' ps ps' : List ℕ} {ws ws' : List ℕ} → WrittenAll m s numbered ps ws after →
          WrittenAll m s numbered' ps' ws' after' →
          JoinedLists m s ps ps' → JoinedLists m s numbered numbered' → (ws ≡ ws') × JoinedLists m s after after'
      written_all_one no_more no_more both_end ss = (refl, ss)
      written_all_one no_more (next_cell x xs) js ss = elim js [ ]
      written_all_one (next_cell x xs) no_more js ss = elim js [ ]
      written_all_one (next_cell x xs) (next_cell x' xs') (both_next j js) ss =
          let one = written_one x x' j ss in
          let rec = written_all_one xs xs' js one.1 in
          (ap₂ ◌++◌ one.0 rec.0, rec.1)

    pub listing_is_unique : {cells cells' words words' : List ℕ} → JoinedLists m s cells cells' → Listing m s cells words →
        Listing m s cells' words' → words ≡ words'
    listing_is_unique joined x y = (written_all_one x.written y.written joined both_end).0
