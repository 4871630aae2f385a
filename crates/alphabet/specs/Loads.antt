-- The alphabet of loads: families 1 tote, 2 carton, 3 pallet, 4 cage and 5 kit, each with sixteen carriers' marks.
use Rattle.std.specs.Prelude.{◌≡◌, ℕ, ◌*◌, ◌/◌, Bool, false, cond, ◌&&◌, ◌||◌, ◌==◌, nat_le, Some, None, Option}
use Rattle.alphabet.specs.declared.loads.Family.{Family}
use Rattle.alphabet.specs.declared.loads.Family.TheVariants.{Tote, Carton, Pallet, Cage, Kit}
use Rattle.theory.specs.Meaning.{Meaning, flat}

-- the low 4 bits of a code are a carrier's mark, the rest is the family
abbrev pub family : ℕ → ℕ
family c = c / 16

-- the number of a family
abbrev pub number_of : Family → ℕ
number_of Tote = 1
number_of Carton = 2
number_of Pallet = 3
number_of Cage = 4
number_of Kit = 5

-- the five families
abbrev pub known : ℕ → Bool
known c = nat_le 1 (family c) && nat_le (family c) 5

-- the family of a code, or that it has none of the five
abbrev pub HasFamily : ℕ → Option Family → Type 0
HasFamily c (Some f) = family c ≡ number_of f
HasFamily c None = known c ≡ false

-- the plain code has mark 0
abbrev pub plain : ℕ → ℕ
plain c = cond (known c) (family c * 16) c

-- pallet and cage have one place, kit has three
abbrev pub places : ℕ → ℕ
places c = cond (family c == 3 || family c == 4) 1 (cond (family c == 5) 3 0)

-- class 0, belt, admits tote and carton; class 1, floor, admits pallet and cage
abbrev pub classes : ℕ → ℕ
classes c = cond (family c == 1 || family c == 2) 1 (cond (family c == 3 || family c == 4) 2 0)

-- what the alphabet of loads means
abbrev pub loads : Meaning
loads = record { known = known; plain = plain; places = places; classes = classes; layering = flat }
