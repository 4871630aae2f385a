-- A state with consistent labels has an assignment over any choice of types at the classes without a term. Assumes nothing.
use Rattle.std.proofs.Common.{◌≡◌, ℕ, zero, suc, ◌<◌, ◌≤◌, T, List, [], ◌∷◌, map, Some, sym, refl, ap, ◌∙◌, arith}
use Rattle.theory.specs.Meaning.{has, layered_by, Meaning, Admits, Lawful}
use Rattle.theory.specs.Types.{Tree, one, top, types, list_of, IsType, build}
use Rattle.theory.specs.States.{term, State, Unknown, Term, Formed}
use Rattle.theory.specs.Assignments.{Assigns}
use Rattle.theory.specs.Codes.{CodesAgree, one_code, pair_and_list, list_and_pair}
use Rattle.theory.specs.Certificates.{Termless, Extends}
use Rattle.theory.proofs.Layers.{layers_of}
use Rattle.theory.proofs.Builds.{build_list, build_folds, list_is_type, build_is_type, build_admits}
use Rattle.theory.proofs.TypesOfCells.{types_count, types_are_types, types_agree, types_map}
use Rattle.theory.proofs.LayerPlaces.{pair_places, list_places}
use Rattle.theory.proofs.Pairwise.{Pairwise}
use Rattle.theory.proofs.ClassTerms.{ClassTerm, decide_class_term}
use Rattle.theory.proofs.LoopingPairs.{Looping, decide_looping_in, below_term, below_first}

-- the type of a class, from the types of the classes below it
term_type : (m : Meaning) (label : ℕ → ℕ) (f : ℕ → Tree) (r c : ℕ) (ps : List ℕ) → Dec (Looping m label r c ps) → Tree
term_type m label f r c ps (yes l) = list_of l.list (f (label l.first))
term_type m label f r c ps (no n) = build m (m.plain c) (types (λ p. f (label p)) ps)

class_type : (m : Meaning) (s : State) (label : ℕ → ℕ) (choice f : ℕ → Tree) (r : ℕ) → Dec (ClassTerm s.cells label r) → Tree
class_type m s label choice f r (yes h) = term_type m label f r h.code h.places (decide_looping_in m label r h.code h.places m.layering refl)
class_type m s label choice f r (no n) = choice r

-- after so many turns
type_by : (m : Meaning) (s : State) (label : ℕ → ℕ) (choice : ℕ → Tree) → ℕ → ℕ → Tree
type_by m s label choice zero r = choice r
type_by m s label choice (suc n) r = class_type m s label choice (type_by m s label choice n) r (decide_class_term s.cells label r)

module _ {m : Meaning} (lawful : Lawful m) {s : State} (formed : Formed m s) {label rank : ℕ → ℕ} (pairwise : Pairwise m s label rank) (choice : ℕ → Tree) (choice_types : (r : ℕ) → IsType m (choice r)) where
  -- any two numbers of turns above the rank of a class give it one type
  steady_term : (n k r : ℕ) → ((q : ℕ) → rank q < n → rank q < k → type_by m s label choice n q ≡ type_by m s label choice k q) → rank r ≤ n →
      rank r ≤ k →
      (i c : ℕ) (ps : List ℕ) → Term s i c ps → label i ≡ r → (d : Dec (Looping m label r c ps)) →
      term_type m label (type_by m s label choice n) r c ps d ≡ term_type m label (type_by m s label choice k) r c ps d
  unfolding term_type
  steady_term n k r below r≤n r≤k i c ps stands e (yes l) =
      let low : rank (label l.first) < rank r = below_first pairwise r c i l.first l.rest (stands ∙ ap (λ xs. Some (term c xs)) l.places) e in
      ap (list_of l.list) (below (label l.first) (omega arith) (omega arith))
  steady_term n k r below r≤n r≤k i c ps stands e (no l) =
      ap (build m (m.plain c)) (types_agree (λ p. type_by m s label choice n (label p)) (λ p. type_by m s label choice k (label p)) ps
      (λ a p at. let low : rank (label p) < rank r = below_term pairwise r c i ps stands e l a p at in below (label p) (omega arith) (omega arith)))

  steady_class : (n k r : ℕ) → ((q : ℕ) → rank q < n → rank q < k → type_by m s label choice n q ≡ type_by m s label choice k q) → rank r ≤ n →
      rank r ≤ k →
      (d : Dec (ClassTerm s.cells label r)) →
      class_type m s label choice (type_by m s label choice n) r d ≡ class_type m s label choice (type_by m s label choice k) r d
  unfolding class_type
  steady_class n k r below r≤n r≤k (yes h) = steady_term n k r below r≤n r≤k h.cell h.code h.places h.stands h.in_class _
  steady_class n k r below r≤n r≤k (no h) = refl

  steady : (n k r : ℕ) → rank r < n → rank r < k → type_by m s label choice n r ≡ type_by m s label choice k r
  unfolding type_by
  steady zero k r r≤n r≤k = absurd (omega arith)
  steady (suc n) zero r r≤n r≤k = absurd (omega arith)
  steady (suc n) (suc k) r r≤n r≤k = steady_class n k r (steady n k) (omega arith) (omega arith) (decide_class_term s.cells label r)

  -- the type of a class
  type_of_class : ℕ → Tree
  type_of_class r = type_by m s label choice (suc (rank r)) r

  -- it is that of a looping Pair, of another term, or the chosen one
  data ClassTyped (r : ℕ) (t : Tree) : Type 0 where
    of_loop : (i c list h u : ℕ) → Term s i c (h ∷ u ∷ []) → label i ≡ r → m.layering ≡ layered_by (m.plain c) list → label u ≡ r →
        t ≡ list_of list (type_of_class (label h)) → ClassTyped r t
    of_term : (i c : ℕ) (ps : List ℕ) → Term s i c ps → label i ≡ r → (Looping m label r c ps → ⊥) →
        t ≡ build m (m.plain c) (types (λ p. type_of_class (label p)) ps) → ClassTyped r t
    of_choice : Termless s label r → t ≡ choice r → ClassTyped r t

  typed_by_term : (r i c : ℕ) (ps : List ℕ) → Term s i c ps → label i ≡ r → (d : Dec (Looping m label r c ps)) →
      ClassTyped r (term_type m label (type_by m s label choice (rank r)) r c ps d)
  unfolding term_type type_of_class
  typed_by_term r i c ps stands e (yes l) =
      let here : Term s i c (l.first ∷ l.rest ∷ []) = stands ∙ ap (λ xs. Some (term c xs)) l.places in
      let low : rank (label l.first) < rank r = below_first pairwise r c i l.first l.rest here e in
      of_loop i c l.list l.first l.rest here e l.named l.round
      (ap (list_of l.list) (steady (rank r) (suc (rank (label l.first))) (label l.first) (omega arith) (omega arith)))
  typed_by_term r i c ps stands e (no n) =
      of_term i c ps stands e n
      (ap (build m (m.plain c)) (types_agree (λ p. type_by m s label choice (rank r) (label p)) (λ p. type_of_class (label p)) ps
      (λ a p at. let low : rank (label p) < rank r = below_term pairwise r c i ps stands e n a p at in
      steady (rank r) (suc (rank (label p))) (label p) (omega arith) (omega arith))))

  typed_by_class : (r : ℕ) (d : Dec (ClassTerm s.cells label r)) →
      ClassTyped r (class_type m s label choice (type_by m s label choice (rank r)) r d)
  unfolding class_type
  typed_by_class r (yes h) = typed_by_term r h.cell h.code h.places h.stands h.in_class _
  typed_by_class r (no n) = of_choice (λ i c ps t e. n (record { cell = i; code = c; places = ps; stands = t; in_class = e })) refl

  typed : (r : ℕ) → ClassTyped r (type_of_class r)
  unfolding type_of_class type_by
  typed r = typed_by_class r (decide_class_term s.cells label r)

  -- a term has the type that its code makes of the types of its places
  terms_meet : (j d : ℕ) (qs : List ℕ) → Term s j d qs → type_of_class (label j) ≡ build m (m.plain d) (types (λ p. type_of_class (label p)) qs)
  terms_meet j d qs tj = go (typed (label j))
    where
      go : ClassTyped (label j) (type_of_class (label j)) → type_of_class (label j) ≡ build m (m.plain d) (types (λ p. type_of_class (label p)) qs)
      go (of_loop i c list h u ti e named round v) = by (pairwise.codes i j c d (h ∷ u ∷ []) qs ti tj e)
        where
          by : CodesAgree m (m.plain c) (m.plain d) →
              type_of_class (label j) ≡ build m (m.plain d) (types (λ p. type_of_class (label p)) qs)
          by (one_code same) =
              let named' : m.layering ≡ layered_by (m.plain d) list = cc in
              let parts = pair_places lawful formed j d list qs tj named' in
              let labels : map label (h ∷ u ∷ []) ≡ map label (parts.0 ∷ parts.1 ∷ []) = pairwise.places i j c d (h ∷ u ∷ []) qs ti tj e same ∙ ap (map label) parts.2 in
              let fold = build_folds lawful (m.plain d) list (type_of_class (label parts.0)) named' in
              rw parts.2 (cc)
          by (pair_and_list other) =
              let parts = list_places lawful formed j d (m.plain c) qs tj other in
              let both = pairwise.list_meets_pair j i parts.0 h u
              (record { code = d; pair = m.plain c; named = other; stands = tj ∙ ap (λ xs. Some (term d xs)) parts.1 })
              (record { code = c; list = list; named = named; stands = ti }) (sym e) in
              let as_node = build_list lawful (m.plain c) (m.plain d) (one (type_of_class (label parts.0))) other in
              rw parts.1 (cc)
          by (list_and_pair other) = absurd ((layers_of lawful (m.plain c) list named).apart (cc))
      go (of_term i c ps ti e n v) = by (pairwise.codes i j c d ps qs ti tj e)
        where
          by : CodesAgree m (m.plain c) (m.plain d) →
              type_of_class (label j) ≡ build m (m.plain d) (types (λ p. type_of_class (label p)) qs)
          by (one_code same) =
              let a = types_map type_of_class label ps in
              let b = types_map type_of_class label qs in
              let labels = pairwise.places i j c d ps qs ti tj e same in
              cc
          by (pair_and_list other) =
              let parts = list_places lawful formed j d (m.plain c) qs tj other in
              let PairParts = pair_places lawful formed i c (m.plain d) ps ti other in
              let both = pairwise.list_meets_pair j i parts.0 PairParts.0 PairParts.1
              (record { code = d; pair = m.plain c; named = other; stands = tj ∙ ap (λ xs. Some (term d xs)) parts.1 })
              (record { code = c; list = m.plain d; named = other; stands = ti ∙ ap (λ xs. Some (term c xs)) PairParts.2 }) (sym e) in
              absurd (n (record { list = m.plain d; first = PairParts.0; rest = PairParts.1; named = other; places = PairParts.2; round = both.1 ∙ e }))
          by (list_and_pair other) =
              let parts = list_places lawful formed i c (m.plain d) ps ti other in
              let PairParts = pair_places lawful formed j d (m.plain c) qs tj other in
              let both = pairwise.list_meets_pair i j parts.0 PairParts.0 PairParts.1
              (record { code = c; pair = m.plain d; named = other; stands = ti ∙ ap (λ xs. Some (term c xs)) parts.1 })
              (record { code = d; list = m.plain c; named = other; stands = tj ∙ ap (λ xs. Some (term d xs)) PairParts.2 }) e in
              let as_node = build_list lawful (m.plain d) (m.plain c) (one (type_of_class (label parts.0))) other in
              let fold = build_folds lawful (m.plain d) (m.plain c) (type_of_class (label PairParts.0)) other in
              let v' : type_of_class (label j) ≡ build m (m.plain c) (one (type_of_class (label parts.0))) = v ∙ ap (λ xs. build m (m.plain c) (types (λ p. type_of_class (label p)) xs)) parts.1 in
              rw PairParts.2 (cc)
      go (of_choice f v) = absurd (f j d qs tj refl)

  term_type_is_type : (f : ℕ → Tree) → ((r : ℕ) → IsType m (f r)) → (r i c : ℕ) (ps : List ℕ) → Term s i c ps → (d : Dec (Looping m label r c ps)) →
      IsType m (term_type m label f r c ps d)
  unfolding term_type
  term_type_is_type f g r i c ps t (yes l) = list_is_type lawful (m.plain c) l.list _ l.named (g (label l.first))
  term_type_is_type f g r i c ps t (no n) =
      let k = formed.term_known i c ps t in
      build_is_type lawful (m.plain c) (types (λ p. f (label p)) ps) (lawful.plain_known c k) (lawful.plain_plain c k)
      (types_count (λ p. f (label p)) ps ∙ formed.term_places i c ps t ∙ sym (lawful.plain_places c k)) (types_are_types m (λ p. f (label p)) ps (λ p. g (label p)))

  class_type_is_type : (f : ℕ → Tree) → ((r : ℕ) → IsType m (f r)) → (r : ℕ) (d : Dec (ClassTerm s.cells label r)) →
      IsType m (class_type m s label choice f r d)
  unfolding class_type
  class_type_is_type f g r (yes h) = term_type_is_type f g r h.cell h.code h.places h.stands _
  class_type_is_type f g r (no n) = choice_types r

  type_by_is_type : (n r : ℕ) → IsType m (type_by m s label choice n r)
  unfolding type_by
  type_by_is_type zero r = choice_types r
  type_by_is_type (suc n) r = class_type_is_type (type_by m s label choice n) (type_by_is_type n) r (decide_class_term s.cells label r)

  pub assigned : ℕ → Tree
  assigned i = type_of_class (label i)

  pub assigned_extends : Extends m s label choice assigned
  unfolding assigned
  assigned_extends = record {
    assigns = record {
      cells = λ i h. unfold type_of_class in type_by_is_type (suc (rank (label i))) (label i);
      terms = terms_meet;
      equations = λ a b e. ap type_of_class (pairwise.equations a b e);
    };
    by_label = λ i. ap type_of_class (sym (pairwise.label_fixed i));
    chosen = λ r e f. ap type_of_class e ∙ go r f (typed r);
  }
    where
      go : (r : ℕ) → Termless s label r → ClassTyped r (type_of_class r) → type_of_class r ≡ choice r
      go r f (of_loop i c list h u ti e named round v) = absurd (f i c _ ti e)
      go r f (of_term i c ps ti e n v) = absurd (f i c ps ti e)
      go r f (of_choice n v) = v

  -- the classes of the unknowns admit it, where they admit the codes of the terms and the choices
  pub assigned_classes : ((i set : ℕ) → Unknown s i set → (j c : ℕ) (ps : List ℕ) → Term s j c ps → label j ≡ label i → Admits m set (m.plain c)) →
      ((i set : ℕ) → Unknown s i set → Termless s label (label i) → Admits m set (top (choice (label i)))) → Assigns m s assigned
  unfolding assigned
  assigned_classes by_terms by_choice = record { unclassed = assigned_extends.assigns; classes = λ i set u k h. go i set u k h (typed (label i)) }
    where
      go : (i set : ℕ) → Unknown s i set → (k : ℕ) → T (has set k) → ClassTyped (label i) (type_of_class (label i)) →
          T (has (m.classes (top (type_of_class (label i)))) k)
      go i set u k h (of_loop j c list f t tj e named round v) =
          let x = by_terms i set u j c _ tj e k h in
          let y = (layers_of lawful (m.plain c) list named).alike k in
          rw v (rw (← y) x)
      go i set u k h (of_term j c ps tj e n v) = rw v (build_admits lawful k (m.plain c) (types (λ p. type_of_class (label p)) ps) (by_terms i set u j c ps tj e k h))
      go i set u k h (of_choice n v) = rw v (by_choice i set u n k h)
