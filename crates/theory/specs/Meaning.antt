-- What an alphabet means, and the laws that it keeps. Assumes nothing.
use Rattle.std.specs.Prelude.{◌≡◌, ℕ, ◌/◌, ◌%◌, ◌^◌, ◌<◌, ◌≤◌, Bool, true, false, T, is_some, Some, None, Option, ◌==◌}

-- A class is a number from 0 to 7 that stands for a group of symbols. A set of classes is a number of 8 bits, bit k for class k.
-- Class k is in the set.
abbrev pub has : ℕ → ℕ → Bool
has set k = (set / 2 ^ k) % 2 == 1

-- A layering names two codes, called Pair and List, by which Pair over a type t and List over t is List over t.
pub data Layering : Type 0 where
  -- no layering
  flat : Layering
  layered_by : (pair list : ℕ) → Layering

-- What an alphabet means. An alphabet says which symbols there are, each by its code. A symbol may have several codes, of which one
-- is plain; it has places, each of which takes a type; and some classes admit it.
pub record Meaning : Type 0 where
  -- the codes of symbols
  pub known : ℕ → Bool
  -- the plain code of the symbol
  pub plain : ℕ → ℕ
  -- how many places the symbol has
  pub places : ℕ → ℕ
  -- the set of the classes that admit the symbol
  pub classes : ℕ → ℕ
  -- Pair and List, where they are named
  pub layering : Layering

-- Every class of one set is in the other.
abbrev pub Included : ℕ → ℕ → Type 0
Included set other = (k : ℕ) → T (has set k) → T (has other k)

-- Every class of the set admits the code.
abbrev pub Admits : Meaning → ℕ → ℕ → Type 0
Admits m set c = Included set (m.classes c)

-- The plain code of a known code is known.
abbrev pub PlainKnown : Meaning → Type 0
PlainKnown m = (c : ℕ) → m.known c ≡ true → m.known (m.plain c) ≡ true

-- The plain code of a known code is its own plain code.
abbrev pub PlainPlain : Meaning → Type 0
PlainPlain m = (c : ℕ) → m.known c ≡ true → m.plain (m.plain c) ≡ m.plain c

-- A known code has the places of its plain code.
abbrev pub PlainPlaces : Meaning → Type 0
PlainPlaces m = (c : ℕ) → m.known c ≡ true → m.places (m.plain c) ≡ m.places c

-- A known code has the classes of its plain code.
abbrev pub PlainClasses : Meaning → Type 0
PlainClasses m = (c : ℕ) → m.known c ≡ true → m.classes (m.plain c) ≡ m.classes c

-- No symbol has more than 9 places.
abbrev pub FewPlaces : Meaning → Type 0
FewPlaces m = (c : ℕ) → m.places c ≤ 9

-- A code has 24 bits, and no greater number is known.
abbrev pub SmallCodes : Meaning → Type 0
SmallCodes m = (c : ℕ) → m.known c ≡ true → c < 2 ^ 24

-- There are eight classes.
abbrev pub EightClasses : Meaning → Type 0
EightClasses m = (c : ℕ) → m.classes c < 256

-- A code that is not known is its own plain code.
abbrev pub OtherPlain : Meaning → Type 0
OtherPlain m = (c : ℕ) → m.known c ≡ false → m.plain c ≡ c

-- A code that is not known has no places.
abbrev pub OtherPlaces : Meaning → Type 0
OtherPlaces m = (c : ℕ) → m.known c ≡ false → m.places c ≡ 0

-- A code that is not known has no class.
abbrev pub OtherClasses : Meaning → Type 0
OtherClasses m = (c : ℕ) → m.known c ≡ false → m.classes c ≡ 0

-- A leaf is a known plain code without places.
pub record Leaf (m : Meaning) (c : ℕ) : Type 0 where
  pub is_known : m.known c ≡ true
  pub is_plain : m.plain c ≡ c
  pub bare : m.places c ≡ 0

-- There is a leaf.
abbrev pub HasLeaf : Meaning → Type 0
HasLeaf m = (c : ℕ) × Leaf m c

-- What Pair and List are, where they are named: known, plain and different, with 2 places and 1; each class admits both or neither.
pub record Layers (m : Meaning) (pair list : ℕ) : Type 0 where
  pub pair_known : m.known pair ≡ true
  pub list_known : m.known list ≡ true
  pub pair_plain : m.plain pair ≡ pair
  pub list_plain : m.plain list ≡ list
  pub apart : pair ≡ list → ⊥
  pub pair_places : m.places pair ≡ 2
  pub list_places : m.places list ≡ 1
  pub alike : (k : ℕ) → has (m.classes pair) k ≡ has (m.classes list) k

-- Where the layering names two codes, they are Pair and List.
abbrev pub LayersBy : Meaning → Layering → Type 0
LayersBy m flat = Unit {0}
LayersBy m (layered_by pair list) = Layers m pair list

-- The law of Pair and List.
abbrev pub Layered : Meaning → Type 0
Layered m = LayersBy m m.layering

-- A meaning that keeps every law.
pub record Lawful (m : Meaning) : Type 0 where
  pub plain_known : PlainKnown m
  pub plain_plain : PlainPlain m
  pub plain_places : PlainPlaces m
  pub plain_classes : PlainClasses m
  pub few_places : FewPlaces m
  pub small_codes : SmallCodes m
  pub eight_classes : EightClasses m
  pub other_plain : OtherPlain m
  pub other_places : OtherPlaces m
  pub other_classes : OtherClasses m
  pub has_leaf : HasLeaf m
  pub layered : Layered m

-- What may be chosen for a set of classes: a known plain code that each of them admits, and for the empty set one without places.
pub record Choice (m : Meaning) (set c : ℕ) : Type 0 where
  pub is_known : m.known c ≡ true
  pub is_plain : m.plain c ≡ c
  pub admitted : Admits m set c
  pub bare : set ≡ 0 → m.places c ≡ 0

-- For the set nothing may be chosen: it is not empty, and no known code is admitted by all its classes.
pub record NoChoice (m : Meaning) (set : ℕ) : Type 0 where
  pub not_empty : set ≡ 0 → ⊥
  pub no_code : (c : ℕ) → m.known c ≡ true → Admits m set c → ⊥

-- What the question `some` may answer. Within this an alphabet is free.
abbrev pub Chosen : Meaning → ℕ → Option ℕ → Type 0
Chosen m set (Some c) = Choice m set c
Chosen m set None = NoChoice m set

-- No known plain code that the set admits is lower than the answer.
abbrev pub Lowest : Meaning → ℕ → Option ℕ → Type 0
Lowest m set (Some c) = (d : ℕ) → m.known d ≡ true → m.plain d ≡ d → Admits m set d → c ≤ d
Lowest m set None = Unit {0}

-- Two meanings agree: the same codes are known, with the same plain code, places and classes, and the layering is the same.
pub record Agree (m n : Meaning) : Type 0 where
  pub same_known : (c : ℕ) → m.known c ≡ n.known c
  pub same_plain : (c : ℕ) → m.plain c ≡ n.plain c
  pub same_places : (c : ℕ) → m.places c ≡ n.places c
  pub same_classes : (c : ℕ) → m.classes c ≡ n.classes c
  pub same_layering : m.layering ≡ n.layering

-- Whether there is a code for a set of classes depends on the meaning alone: two alphabets may choose different codes, but where
-- their meanings agree one finds a code exactly where the other does.
abbrev pub ChoiceByMeaning : Type 0
ChoiceByMeaning = (m n : Meaning) → Agree m n → (set : ℕ) (r q : Option ℕ) → Chosen m set r → Chosen n set q → is_some r ≡ is_some q
