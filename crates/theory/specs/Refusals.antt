-- Refusals: what shows that a state has no assignment. Assumes nothing.
use Rattle.std.specs.Prelude.{◌≡◌, ℕ, ◌<◌, Bool, true, false, ◌||◌, List, length, Some, ◌≢◌}
use Rattle.std.specs.List.{slice_get}
use Rattle.theory.specs.Meaning.{Meaning, Admits, layered_by}
use Rattle.theory.specs.States.{State, Unknown, Term}
use Rattle.theory.specs.Joined.{Joined, PairTerm}
use Rattle.theory.specs.Codes.{CodesAgree}
use Rattle.theory.specs.ClassUnions.{Union}

-- The type of cell j is the type of cell i or stands inside it; at `true` it stands inside it.
pub data Inside (m : Meaning) (s : State) : (strictly : Bool) (i j : ℕ) → Type 0 where
  -- the type of a place stands inside that of the term, but for the second place of a Pair
  at_place : {i c p : ℕ} {ps : List ℕ} (k : ℕ) → Term s i c ps → slice_get ps k ≡ Some p →
      ((list : ℕ) → m.layering ≡ layered_by (m.plain c) list → k ≢ 1) → Inside m s true i p
  at_tail : {i first tail : ℕ} → PairTerm m s i first tail → Inside m s false i tail
  at_joined : {i j : ℕ} → Joined m s i j → Inside m s false i j
  inner : {a b : Bool} {i j k : ℕ} → Inside m s a i j → Inside m s b j k → Inside m s (a || b) i k

-- What leaves no assignment even with the classes read as empty.
pub data Clash (m : Meaning) (s : State) : Type 0 where
  -- two joined terms have codes that do not agree
  two_codes : (i j c d : ℕ) (ps qs : List ℕ) → Term s i c ps → Term s j d qs → Joined m s i j → (CodesAgree m (m.plain c) (m.plain d) → ⊥) →
      Clash m s
  -- the type of a cell would stand inside itself
  inside_itself : (i : ℕ) → Inside m s true i i → Clash m s

-- What leaves no assignment where the classes are read as they are.
pub data Barred (m : Meaning) (s : State) : Type 0 where
  -- the classes of an unknown do not admit the code of a term that it is joined to
  not_admitted : (i j set c : ℕ) (ps : List ℕ) → Unknown s i set → Joined m s i j → Term s j c ps → (Admits m set (m.plain c) → ⊥) → Barred m s
  -- no known code is admitted by all the classes of the unknowns that are joined to a cell
  no_common_code : (i set : ℕ) → i < length s.cells → Union m s i set → ((c : ℕ) → m.known c ≡ true → Admits m set c → ⊥) → Barred m s
