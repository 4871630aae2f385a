-- The closure of a state under the rules of joining, pair by pair: its invariant, its moves and its measure. Assumes nothing.
use Rattle.std.specs.Prelude.{◌≡◌, ℕ, ◌+◌, ◌*◌, ◌<◌, ◌⊎◌, List, [], ◌∷◌, ◌++◌, length, Some, ◌≢◌}
use Rattle.std.proofs.Math.Decide.{ℕ_discrete}
use Rattle.std.specs.List.{slice_get}
use Rattle.theory.specs.Meaning.{Meaning, Lawful, layered_by}
use Rattle.theory.specs.States.{State, Term, Equation, Formed, with_equation}
use Rattle.theory.specs.Joined.{Joined}
use Rattle.theory.specs.Certificates.{Shape, no_term, over, Falling, Backed, Certificate, HasCertificate}
use Rattle.theory.specs.Refusals.{Clash}
use Rattle.theory.specs.Counts.{count_below}
use Rattle.theory.specs.Updates.{sent, replaced}

-- A closure in its course: the labels and shapes so far, and the pairs of cells that are still to be brought into one class.
pub record Closure : Type 0 where
  pub label : ℕ → ℕ
  pub shape : ℕ → Shape
  pub pending : List (ℕ × ℕ)

-- Two cells are linked: labels and pending pairs bring them together.
pub data Linked (label : ℕ → ℕ) (pending : List (ℕ × ℕ)) : ℕ → ℕ → Type 0 where
  by_label : {a b : ℕ} → label a ≡ label b → Linked label pending a b
  by_pending : {a b : ℕ} (k : ℕ) → slice_get pending k ≡ Some (a, b) → Linked label pending a b
  linked_back : {a b : ℕ} → Linked label pending a b → Linked label pending b a
  linked_on : {a b c : ℕ} → Linked label pending a b → Linked label pending b c → Linked label pending a c

-- Two lists of cells are linked cell by cell.
pub data LinkedLists (label : ℕ → ℕ) (pending : List (ℕ × ℕ)) : List ℕ → List ℕ → Type 0 where
  none_left : LinkedLists label pending [] []
  next_linked : {a b : ℕ} {us vs : List ℕ} → Linked label pending a b → LinkedLists label pending us vs →
      LinkedLists label pending (a ∷ us) (b ∷ vs)

-- A term is held to a shape as in a certificate, up to what is linked.
pub data HeldLinked (m : Meaning) (label : ℕ → ℕ) (pending : List (ℕ × ℕ)) (r c : ℕ) (ps : List ℕ) (d : ℕ) (qs : List ℕ) : Type 0 where
  same_code_linked : m.plain c ≡ d → LinkedLists label pending ps qs → HeldLinked m label pending r c ps d qs
  looping_pair_linked : (first tail element : ℕ) → m.layering ≡ layered_by (m.plain c) d → ps ≡ first ∷ tail ∷ [] → qs ≡ element ∷ [] →
      Linked label pending first element → Linked label pending tail r → HeldLinked m label pending r c ps d qs

-- The class r has a shape, and the term is held to it up to what is linked.
pub record TermLinked (m : Meaning) (v : Closure) (r c : ℕ) (ps : List ℕ) : Type 0 where
  pub code : ℕ
  pub parts : List ℕ
  pub shape_is : v.shape r ≡ over code parts
  pub held : HeldLinked m v.label v.pending r c ps code parts

-- Nothing of the state has been lost.
pub record Covers (m : Meaning) (s : State) (v : Closure) : Type 0 where
  pub label_fixed : (i : ℕ) → v.label (v.label i) ≡ v.label i
  pub equations : (a b : ℕ) → Equation s a b → Linked v.label v.pending a b
  pub terms_linked : (i c : ℕ) (ps : List ℕ) → Term s i c ps → TermLinked m v (v.label i) c ps

-- Nothing has been brought together, or is to be, that the rules do not join.
pub record Justified (m : Meaning) (s : State) (v : Closure) : Type 0 where
  pub label_joined : (i : ℕ) → Joined m s i (v.label i)
  pub pending_joined : (k a b : ℕ) → slice_get v.pending k ≡ Some (a, b) → Joined m s a b
  pub shape_backed : (r d : ℕ) (qs : List ℕ) → v.shape r ≡ over d qs → Backed m s r d qs

-- Labels and pending pairs are of cells that stand.
pub record InRange (s : State) (v : Closure) : Type 0 where
  pub label_stands : (i : ℕ) → i < length s.cells → v.label i < length s.cells
  pub pending_stands : (k a b : ℕ) → slice_get v.pending k ≡ Some (a, b) → (a < length s.cells) × (b < length s.cells)

-- The invariant of the closure.
pub record Closing (m : Meaning) (s : State) (v : Closure) : Type 0 where
  pub covers : Covers m s v
  pub justified : Justified m s v
  pub in_range : InRange s v

-- How many cells below n are their own label.
abbrev pub class_count : (ℕ → ℕ) → ℕ → ℕ
class_count label n = count_below (λ i. ℕ_discrete (label i) i) n

-- Its measure.
abbrev pub closure_measure : State → Closure → ℕ
closure_measure s v = 10 * class_count v.label (length s.cells) + length v.pending

-- the cells of two lists, pair by pair
abbrev pub pair_up : List ℕ → List ℕ → List (ℕ × ℕ)
pair_up [] ys = []
pair_up (x ∷ xs) [] = []
pair_up (x ∷ xs) (y ∷ ys) = (x, y) ∷ pair_up xs ys

-- What two shapes of one class r merge to, and the pairs that are then to be brought together.
pub data Merges (m : Meaning) (r : ℕ) : (one other merged : Shape) (new : List (ℕ × ℕ)) → Type 0 where
  -- neither class has a term, or one of them
  neither : Merges m r no_term no_term no_term []
  only_one : (d : ℕ) (qs : List ℕ) → Merges m r (over d qs) no_term (over d qs) []
  only_other : (d : ℕ) (qs : List ℕ) → Merges m r no_term (over d qs) (over d qs) []
  -- both have terms of one code: their places go together
  same_codes : (d : ℕ) (qs qs' : List ℕ) → length qs ≡ length qs' → Merges m r (over d qs) (over d qs') (over d qs) (pair_up qs qs')
  -- one is a Pair and the other a List: the class is a List, over the first place of the Pair, and the second place is in it
  pair_list : (pair list first tail element : ℕ) → m.layering ≡ layered_by pair list →
      Merges m r (over pair (first ∷ tail ∷ [])) (over list (element ∷ [])) (over list (element ∷ [])) ((first, element) ∷ (tail, r) ∷ [])
  list_pair : (pair list first tail element : ℕ) → m.layering ≡ layered_by pair list →
      Merges m r (over list (element ∷ [])) (over pair (first ∷ tail ∷ [])) (over list (element ∷ [])) ((first, element) ∷ (tail, r) ∷ [])

-- The first pending pair is turned round.
unfoldable pub after_turn : Closure → ℕ → ℕ → List (ℕ × ℕ) → Closure
after_turn v a b rest = record { label = v.label; shape = v.shape; pending = (b, a) ∷ rest }

-- The first pending pair is in one class already.
unfoldable pub after_drop : Closure → List (ℕ × ℕ) → Closure
after_drop v rest = record { label = v.label; shape = v.shape; pending = rest }

-- The classes of the first pending pair become one, that of a, with the merged shape.
unfoldable pub after_merge : Closure → ℕ → ℕ → List (ℕ × ℕ) → Shape → List (ℕ × ℕ) → Closure
after_merge v a b rest merged new = record {
  label = λ i. sent (v.label b) (v.label a) (v.label i);
  shape = replaced v.shape (v.label a) merged;
  pending = new ++ rest;
}

-- The class r has a new shape.
unfoldable pub after_reshape : Closure → ℕ → Shape → Closure
after_reshape v r new = record { label = v.label; shape = replaced v.shape r new; pending = v.pending }

-- One pair more is pending.
unfoldable pub after_push : Closure → ℕ → ℕ → Closure
after_push v a b = record { label = v.label; shape = v.shape; pending = (a, b) ∷ v.pending }

-- The moves keep the invariant, and the measure falls with each pending pair.
pub record ClosureLaws (m : Meaning) (s : State) : Type 0 where
  -- a pending pair of one class is dropped
  pub drops : (v : Closure) → Closing m s v → (a b : ℕ) (rest : List (ℕ × ℕ)) → v.pending ≡ (a, b) ∷ rest → v.label a ≡ v.label b →
      Closing m s (after_drop v rest) × (closure_measure s (after_drop v rest) < closure_measure s v)
  -- a pending pair may be turned round, so that either class is the one that is left of a merge
  pub turns : (v : Closure) → Closing m s v → (a b : ℕ) (rest : List (ℕ × ℕ)) → v.pending ≡ (a, b) ∷ rest →
      Closing m s (after_turn v a b rest) × (closure_measure s (after_turn v a b rest) ≡ closure_measure s v)
  -- of a pending pair of two classes the classes are merged
  pub merges : (v : Closure) → Closing m s v → (a b : ℕ) (rest : List (ℕ × ℕ)) → v.pending ≡ (a, b) ∷ rest → (v.label a ≢ v.label b) →
      (merged : Shape) (new : List (ℕ × ℕ)) → Merges m (v.label a) (v.shape (v.label a)) (v.shape (v.label b)) merged new →
      Closing m s (after_merge v a b rest merged new) × (closure_measure s (after_merge v a b rest merged new) < closure_measure s v)
  -- a Pair whose second place is in its own class becomes the List over its first place
  pub reshapes : (v : Closure) → Closing m s v → (r pair list first tail : ℕ) → v.shape r ≡ over pair (first ∷ tail ∷ []) →
      m.layering ≡ layered_by pair list → v.label tail ≡ r →
      Closing m s (after_reshape v r (over list (first ∷ [])))
  -- a joined pair is pending
  pub pushes : (v : Closure) → Closing m s v → (a b : ℕ) → Joined m s a b → a < length s.cells → b < length s.cells →
      Closing m s (after_push v a b)
  -- with nothing pending and a rank that falls there is a certificate
  pub ends : (v : Closure) (rank : ℕ → ℕ) → Closing m s v → v.pending ≡ [] → Falling v.label v.shape rank →
      Certificate m s v.label rank v.shape

abbrev pub ClosureMoves : Type 0
ClosureMoves = (m : Meaning) (s : State) → Lawful m → Formed m s → ClosureLaws m s

-- From a certificate the closure goes on with one equation more.
abbrev pub CertificateResumes : Type 0
CertificateResumes = (m : Meaning) (s : State) (label rank : ℕ → ℕ) (shape : ℕ → Shape) → Certificate m s label rank shape → (a b : ℕ) →
    a < length s.cells → b < length s.cells →
    Closing m (with_equation s a b) (record { label = label; shape = shape; pending = (a, b) ∷ [] })

-- From wherever its invariant holds the closure comes to a certificate, or to a clash.
abbrev pub ClosureEnds : Type 0
ClosureEnds = (m : Meaning) (s : State) → Lawful m → Formed m s → (v : Closure) → Closing m s v → Clash m s ⊎ HasCertificate m s
