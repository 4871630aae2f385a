-- What the laws of a meaning say of the two codes that its layering names. Assumes nothing.
use Rattle.std.proofs.Common.{◌≡◌, ℕ, subst}
use Rattle.theory.specs.Meaning.{layered_by, Meaning, Layers, LayersBy, Lawful}

pub layers_of : {m : Meaning} → Lawful m → (pair list : ℕ) → m.layering ≡ layered_by pair list → Layers m pair list
layers_of {m} lawful pair list named = subst (LayersBy m) named lawful.layered
