-- Every list of cells of a certified state has a listing. Assumes nothing.
use Rattle.std.proofs.Common.{◌≡◌, ℕ, zero, suc, ◌<◌, ◌≤◌, ◌⊎◌, List, [], ◌∷◌, ◌++◌, map, length, Some, sym, refl, ap, ◌∙◌, inl, inr, arith}
use Rattle.std.proofs.Math.Decide.{ℕ_discrete}
use Rattle.std.specs.List.{slice_get}
use Rattle.theory.specs.Meaning.{Layering, flat, layered_by, Meaning, Lawful}
use Rattle.theory.specs.States.{term, State, Term, Formed}
use Rattle.theory.specs.Joined.{Joined}
use Rattle.theory.specs.Codes.{CodesAgree, one_code, pair_and_list, list_and_pair}
use Rattle.theory.specs.ListLike.{ListLike, joined_list, joined_loop}
use Rattle.theory.specs.ClassUnions.{Union}
use Rattle.theory.specs.Listings.{symbol_word, unknown_word, WithoutTerm, NumberedAs, Unnumbered, Written, list_word, term_word, numbered_word, new_word, WrittenAll, no_more, next_cell, Listing}
use Rattle.theory.proofs.Impossible.{impossible}
use Rattle.theory.proofs.Layers.{layers_of}
use Rattle.theory.proofs.LayerPlaces.{pair_places, list_places}
use Rattle.theory.proofs.Pairwise.{Loops, Pairwise, joined_cells_have_one_label, same_label_joined}
use Rattle.theory.proofs.ClassTerms.{ClassTerm, decide_class_term}
use Rattle.theory.proofs.LoopingPairs.{Looping, decide_looping_in, below_term, below_first}
use Rattle.theory.proofs.GatheredClasses.{gathered, gathered_set, set_union}

-- what a cell is written as, and cells one after another
abbrev Writing : Meaning → State → List ℕ → ℕ → Type 0
Writing m s numbered i = (ws : List ℕ) × (after : List ℕ) × Written m s numbered i ws after

abbrev Writings : Meaning → State → List ℕ → List ℕ → Type 0
Writings m s numbered ps = (ws : List ℕ) × (after : List ℕ) × WrittenAll m s numbered ps ws after

write_all : (m : Meaning) (s : State) (ps : List ℕ) → ((k p : ℕ) → slice_get ps k ≡ Some p → (numbered : List ℕ) → Writing m s numbered p) →
    (numbered : List ℕ) → Writings m s numbered ps
write_all m s [] h numbered = ([], numbered, no_more)
write_all m s (p ∷ ps) h numbered =
    let a = h 0 p refl numbered in
    let b = write_all m s ps (λ k q e. h (suc k) q e) a.1 in
    (a.0 ++ b.0, b.1, next_cell a.2 b.2)

-- whether a code is the List of the layering
decide_list : (o : Layering) (c : ℕ) → Dec ((pair : ℕ) × (o ≡ layered_by pair c))
decide_list flat c = no (λ h. let e = h.1 in impossible (cc))
decide_list (layered_by pair list) c = go (ℕ_discrete list c)
  where
    go : Dec (list ≡ c) → Dec ((pair' : ℕ) × (layered_by pair list ≡ layered_by pair' c))
    go (yes e) = yes (pair, ap (layered_by pair) e)
    go (no n) = no (λ h. let e = h.1 in n (cc))

module _ {m : Meaning} (lawful : Lawful m) {s : State} (formed : Formed m s) {label rank : ℕ → ℕ} (pairwise : Pairwise m s label rank) (label_joined : (i : ℕ) → Joined m s i (label i)) where
  joined_by_label : (a b : ℕ) → label a ≡ label b → Joined m s a b
  joined_by_label = same_label_joined label_joined

  union_gathered : (u : ℕ) → Union m s u (gathered s.cells label (label u))
  union_gathered u = set_union pairwise label_joined u (gathered s.cells label (label u)) (gathered_set s label (label u))

  decide_numbered : (numbered : List ℕ) (i : ℕ) → ((k : ℕ) × NumberedAs m s numbered i k) ⊎ Unnumbered m s numbered i
  decide_numbered [] i = inr (λ l u e j. impossible (cc))
  decide_numbered (x ∷ xs) i = go (ℕ_discrete (label i) (label x)) (decide_numbered xs i)
    where
      go : Dec (label i ≡ label x) → ((k : ℕ) × NumberedAs m s xs i k) ⊎ Unnumbered m s xs i →
          ((k : ℕ) × NumberedAs m s (x ∷ xs) i k) ⊎ Unnumbered m s (x ∷ xs) i
      go (yes e) o = inl (0, record { cell = x; stands = refl; joined = joined_by_label i x e; lowest = λ l u lt. absurd (omega arith) })
      go (no n) (inl f) = inl (suc f.0, record { cell = f.1.cell; stands = f.1.stands; joined = f.1.joined; lowest = lowest })
        where
          lowest : (l u : ℕ) → l < suc f.0 → slice_get (x ∷ xs) l ≡ Some u → Joined m s i u → ⊥
          lowest zero u lt e j = n (joined_cells_have_one_label pairwise j ∙ ap label (cc))
          lowest (suc l) u lt e j = f.1.lowest l u (omega arith) e j
      go (no n) (inr f) = inr none_seen
        where
          none_seen : (l u : ℕ) → slice_get (x ∷ xs) l ≡ Some u → Joined m s i u → ⊥
          none_seen zero u e j = n (joined_cells_have_one_label pairwise j ∙ ap label (cc))
          none_seen (suc l) u e j = f l u e j

  -- where a term of the class is no List and no looping Pair, the class is not list-like
  not_list_like : (i j c : ℕ) (ps : List ℕ) → Term s j c ps → label j ≡ label i → (((pair : ℕ) × (m.layering ≡ layered_by pair (m.plain c))) → ⊥) →
      (Looping m label (label i) c ps → ⊥) →
      (list e : ℕ) → ListLike m s i list e → ⊥
  not_list_like i j c ps t r not_list not_loop list e (joined_list j' pair c' a t' p l) = go (pairwise.codes j j' c c' ps (e ∷ []) t t' same)
    where
      same : label j ≡ label j'
      same = r ∙ joined_cells_have_one_label pairwise a

      go : CodesAgree m (m.plain c) (m.plain c') → ⊥
      go (one_code x) = not_list (pair, cc)
      go (pair_and_list named) =
          let PairParts = pair_places lawful formed j c (m.plain c') ps t named in
          let both = pairwise.list_meets_pair j' j e PairParts.0 PairParts.1 (record { code = c'; pair = m.plain c; named = named; stands = t' })
          (record { code = c; list = m.plain c'; named = named; stands = t ∙ ap (λ xs. Some (term c xs)) PairParts.2 }) (sym same) in
          not_loop (record { list = m.plain c'; first = PairParts.0; rest = PairParts.1; named = named; places = PairParts.2; round = both.1 ∙ r })
      go (list_and_pair named) = not_list (m.plain c', named)
  not_list_like i j c ps t r not_list not_loop list e (joined_loop j' u c' a t' l g) = go (pairwise.codes j j' c c' ps (e ∷ u ∷ []) t t' same)
    where
      same : label j ≡ label j'
      same = r ∙ joined_cells_have_one_label pairwise a

      go : CodesAgree m (m.plain c) (m.plain c') → ⊥
      go (one_code x) =
          let named : m.layering ≡ layered_by (m.plain c) list = cc in
          let PairParts = pair_places lawful formed j c list ps t named in
          let labels : map label (PairParts.0 ∷ PairParts.1 ∷ []) ≡ map label (e ∷ u ∷ []) = ap (map label) (sym PairParts.2) ∙ pairwise.places j j' c c' ps (e ∷ u ∷ []) t t' same x in
          let back = joined_cells_have_one_label pairwise g in
          not_loop (record { list = list; first = PairParts.0; rest = PairParts.1; named = named; places = PairParts.2; round = cc same })
      go (pair_and_list named) = (layers_of lawful (m.plain c') list l).apart (cc)
      go (list_and_pair named) = not_list (m.plain c', named)

  below_head : (i c p : ℕ) (ps : List ℕ) → Term s i c ps → slice_get ps 0 ≡ Some p → rank (label p) < rank (label i)
  below_head i c p ps t at = go (pairwise.falls i c ps t 0 p at)
    where
      go : (rank (label p) < rank (label i)) ⊎ Loops m s label i 0 p → rank (label p) < rank (label i)
      go (inl h) = h
      go (inr l) = let q = l.place in absurd (omega arith)

  write_term : (n i : ℕ) → ((p : ℕ) (numbered : List ℕ) → rank (label p) < n → Writing m s numbered p) → rank (label i) ≤ n → (numbered : List ℕ) →
      (j c : ℕ) (ps : List ℕ) → Term s j c ps → label j ≡ label i → Dec ((pair : ℕ) × (m.layering ≡ layered_by pair (m.plain c))) →
      Dec (Looping m label (label i) c ps) → Writing m s numbered i
  write_term n i below h numbered j c ps t r (yes l) d =
      let parts = list_places lawful formed j c l.0 ps t l.1 in
      let here : Term s j c (parts.0 ∷ []) = t ∙ ap (λ xs. Some (term c xs)) parts.1 in
      let low = below_head j c parts.0 (parts.0 ∷ []) here refl in
      let a = below parts.0 numbered (let low' : rank (label parts.0) < rank (label i) = rw r at low in omega arith) in
      (symbol_word (m.plain c) ∷ a.0, a.1, list_word (joined_list j l.0 c (joined_by_label i j (sym r)) here refl l.1) a.2)
  write_term n i below h numbered j c ps t r (no l) (yes q) =
      let here : Term s j c (q.first ∷ q.rest ∷ []) = t ∙ ap (λ xs. Some (term c xs)) q.places in
      let low : rank (label q.first) < rank (label i) = below_first pairwise (label i) c j q.first q.rest here r in
      let a = below q.first numbered (omega arith) in
      (symbol_word q.list ∷ a.0, a.1, list_word (joined_loop j q.rest c (joined_by_label i j (sym r)) here q.named (joined_by_label q.rest j (q.round ∙ sym r))) a.2)
  write_term n i below h numbered j c ps t r (no l) (no q) =
      let a = write_all m s ps (λ k p at numbered. let low : rank (label p) < rank (label i) = below_term pairwise (label i) c j ps t r q k p at in below p numbered (omega arith)) numbered in
      (symbol_word (m.plain c) ∷ a.0, a.1, term_word (not_list_like i j c ps t r l q) (joined_by_label i j (sym r)) t a.2)

  write_class : (n i : ℕ) → ((p : ℕ) (numbered : List ℕ) → rank (label p) < n → Writing m s numbered p) → rank (label i) ≤ n → (numbered : List ℕ) →
      Dec (ClassTerm s.cells label (label i)) → Writing m s numbered i
  write_class n i below h numbered (yes t) =
      write_term n i below h numbered t.cell t.code t.places t.stands t.in_class (decide_list m.layering (m.plain t.code))
      (decide_looping_in m label (label i) t.code t.places m.layering refl)
  write_class n i below h numbered (no t) = go (decide_numbered numbered i)
    where
      without_term : WithoutTerm m s i
      without_term j c ps g e = t (record { cell = j; code = c; places = ps; stands = e; in_class = sym (joined_cells_have_one_label pairwise g) })

      go : ((k : ℕ) × NumberedAs m s numbered i k) ⊎ Unnumbered m s numbered i → Writing m s numbered i
      go (inl f) = (unknown_word f.0 (gathered s.cells label (label i)) ∷ [], numbered, numbered_word without_term f.1 (union_gathered i))
      go (inr f) = (unknown_word (length numbered) (gathered s.cells label (label i)) ∷ [], numbered ++ (i ∷ []), new_word without_term f (union_gathered i))

  write : (n i : ℕ) (numbered : List ℕ) → rank (label i) < n → Writing m s numbered i
  write zero i numbered h = absurd (omega arith)
  write (suc n) i numbered h = write_class n i (write n) (omega arith) numbered (decide_class_term s.cells label (label i))

  pub listing_exists : (cells : List ℕ) → (words : List ℕ) × Listing m s cells words
  listing_exists cells =
      let all = write_all m s cells (λ k p at numbered. write (suc (rank (label p))) p numbered (omega arith)) [] in
      (all.0, record { numbered = all.1; written = all.2 })
