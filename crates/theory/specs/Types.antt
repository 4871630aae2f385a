-- Types: finite trees of codes, in which Pair over t and List over t is List over t. Assumes nothing.
use Rattle.std.specs.Prelude.{◌≡◌, ℕ, suc, ◌+◌, true, List, [], ◌∷◌}
use Rattle.std.proofs.Math.Decide.{ℕ_discrete}
use Rattle.theory.specs.Meaning.{Meaning, Layering, flat, layered_by}
use Rattle.theory.specs.IfSo.{if_so}

-- A tree is a code over trees. Which trees are types is said by `IsType`, below.
mutual
  pub data Tree : Type 0 where
    node : ℕ → Trees → Tree
    deriving Discrete as tree_discrete

  pub data Trees : Type 0 where
    end : Trees
    and : Tree → Trees → Trees
    deriving Discrete as trees_discrete

-- how many codes a tree has
abbrev mutual
  pub size : Tree → ℕ
  size (node c ts) = suc (sizes ts)

  pub sizes : Trees → ℕ
  sizes end = 0
  sizes (and t ts) = size t + sizes ts

-- how many trees there are
abbrev pub count : Trees → ℕ
count end = 0
count (and t ts) = suc (count ts)

-- one tree alone, and two
abbrev pub one : Tree → Trees
one t = and t end

abbrev pub two : Tree → Tree → Trees
two t u = and t (and u end)

-- the code at the top of a tree
abbrev pub top : Tree → ℕ
top (node c ts) = c

-- the trees `ts`, and after them the trees `us`
abbrev pub before : Trees → Trees → Trees
before end us = us
before (and t ts) us = and t (before ts us)

-- the trees that a function from cells to trees gives a list of cells
abbrev pub types : (ℕ → Tree) → List ℕ → Trees
types type_of [] = end
types type_of (p ∷ ps) = and (type_of p) (types type_of ps)

-- List over a tree
abbrev pub list_of : ℕ → Tree → Tree
list_of list t = node list (one t)

-- The code c over `ts` is Pair over a tree and List over that same tree.
pub record PairOverList (m : Meaning) (c : ℕ) (ts : Trees) : Type 0 where
  pub list : ℕ
  pub element : Tree
  pub named : m.layering ≡ layered_by c list
  pub parts : ts ≡ two element (list_of list element)

-- A type is a tree of known plain codes, each over as many types as it has places, in which no Pair stands over a type and List
-- over that same type.
abbrev mutual
  pub IsType : Meaning → Tree → Type 0
  IsType m (node c ts) = (m.known c ≡ true) × (m.plain c ≡ c) × (count ts ≡ m.places c) × (PairOverList m c ts → ⊥) × AreTypes m ts

  pub AreTypes : Meaning → Trees → Type 0
  AreTypes m end = Unit {0}
  AreTypes m (and t ts) = IsType m t × AreTypes m ts

-- Pair over t and u is u where u is List over t.
unfoldable pub build_by : Layering → ℕ → Trees → Tree
build_by flat c ts = node c ts
build_by (layered_by pair list) c end = node c end
build_by (layered_by pair list) c (and t end) = node c (and t end)
build_by (layered_by pair list) c (and t (and u end)) = if_so (ℕ_discrete pair c) (if_so (tree_discrete ℕ_discrete u (list_of list t)) u (node c (two t u))) (node c (two t u))
build_by (layered_by pair list) c (and t (and u (and v ts))) = node c (and t (and u (and v ts)))

-- The type that a plain code makes of types: Pair over t and List over t is List over t, and anything else is the code over them.
unfoldable pub build : Meaning → ℕ → Trees → Tree
build m c ts = build_by m.layering c ts
