-- Joined: the least relation between cells that the rules of joining give. Assumes nothing.
use Rattle.std.specs.Prelude.{◌≡◌, ℕ, List, [], ◌∷◌, Some}
use Rattle.std.specs.List.{slice_get}
use Rattle.theory.specs.Meaning.{Meaning, layered_by}
use Rattle.theory.specs.States.{State, Term, Equation}

-- Cell i is a term of Pair, with `first` and `tail` in its places.
pub record PairTerm (m : Meaning) (s : State) (i first tail : ℕ) : Type 0 where
  pub code : ℕ
  pub list : ℕ
  pub named : m.layering ≡ layered_by (m.plain code) list
  pub stands : Term s i code (first ∷ tail ∷ [])

-- Cell i is a term of List, with `element` in its place.
pub record ListTerm (m : Meaning) (s : State) (i element : ℕ) : Type 0 where
  pub code : ℕ
  pub pair : ℕ
  pub named : m.layering ≡ layered_by pair (m.plain code)
  pub stands : Term s i code (element ∷ [])

mutual
  -- Two cells are joined where a rule says so, and by nothing else.
  pub data Joined (m : Meaning) (s : State) : ℕ → ℕ → Type 0 where
    -- the two cells of an accepted equation are joined
    equation : {a b : ℕ} → Equation s a b → Joined m s a b
    -- a cell is joined to itself
    reflexive : {a : ℕ} → Joined m s a a
    -- a cell is joined to what is joined to it
    symmetric : {a b : ℕ} → Joined m s a b → Joined m s b a
    -- a cell is joined to what is joined to a cell joined to it
    transitive : {a b c : ℕ} → Joined m s a b → Joined m s b c → Joined m s a c
    -- where two joined terms have one plain code, place k of the one is joined to place k of the other
    places : {i j c d p q : ℕ} {ps qs : List ℕ} (k : ℕ) → Term s i c ps → Term s j d qs → m.plain c ≡ m.plain d → Joined m s i j →
        slice_get ps k ≡ Some p → slice_get qs k ≡ Some q → Joined m s p q
    -- where a List is joined to a Pair, its place is joined to the first place of the Pair
    list_meets_pair_first : {i j element first tail : ℕ} → ListTerm m s i element → PairTerm m s j first tail → Joined m s i j →
        Joined m s element first
    -- and the second place of the Pair is joined to the Pair
    list_meets_pair_tail : {i j element first tail : ℕ} → ListTerm m s i element → PairTerm m s j first tail → Joined m s i j → Joined m s tail j
    -- Pairs that reach each other through second places are joined
    ring : {i j : ℕ} → Reaches m s i j → Reaches m s j i → Joined m s i j

  -- The Pair i reaches the Pair j: its second place is joined to j, or to a Pair that reaches j.
  pub data Reaches (m : Meaning) (s : State) : ℕ → ℕ → Type 0 where
    next_pair : {i j first tail first' tail' : ℕ} → PairTerm m s i first tail → PairTerm m s j first' tail' → Joined m s tail j → Reaches m s i j
    onward : {i j k : ℕ} → Reaches m s i j → Reaches m s j k → Reaches m s i k

-- Two lists of cells are joined: they are equally long, and each cell of the one is joined to the cell of the other at its place.
pub data JoinedLists (m : Meaning) (s : State) : List ℕ → List ℕ → Type 0 where
  both_end : JoinedLists m s [] []
  both_next : {x y : ℕ} {xs ys : List ℕ} → Joined m s x y → JoinedLists m s xs ys → JoinedLists m s (x ∷ xs) (y ∷ ys)
