-- Every known code has a type with it at the top. Assumes nothing.
use Rattle.std.proofs.Common.{◌≡◌, ℕ, zero, suc, true, sym, refl, ap}
use Rattle.theory.specs.Meaning.{Meaning, Admits, Lawful}
use Rattle.theory.specs.Types.{Tree, Trees, end, and, count, top, IsType, AreTypes, build}
use Rattle.theory.proofs.Builds.{build_is_type, build_admits}

abbrev copies : ℕ → Tree → Trees
copies zero t = end
copies (suc n) t = and t (copies n t)

copies_count : (n : ℕ) (t : Tree) → count (copies n t) ≡ n
copies_count zero t = refl
copies_count (suc n) t = ap suc (copies_count n t)

copies_are_types : (m : Meaning) (n : ℕ) (t : Tree) → IsType m t → AreTypes m (copies n t)
copies_are_types m zero t is_type = tt
copies_are_types m (suc n) t is_type = (is_type, copies_are_types m n t is_type)

module _ {m : Meaning} (lawful : Lawful m) where
  pub leaf_type : Tree
  leaf_type = build m lawful.has_leaf.0 end

  pub leaf_is_type : IsType m leaf_type
  unfolding leaf_type
  leaf_is_type = build_is_type lawful lawful.has_leaf.0 end lawful.has_leaf.1.is_known lawful.has_leaf.1.is_plain (sym lawful.has_leaf.1.bare) tt

  -- a type of a code: the leaf in each of its places
  pub some_type : ℕ → Tree
  some_type c = build m (m.plain c) (copies (m.places (m.plain c)) leaf_type)

  pub some_is_type : (c : ℕ) → m.known c ≡ true → IsType m (some_type c)
  unfolding some_type
  some_is_type c known =
      build_is_type lawful (m.plain c) (copies (m.places (m.plain c)) leaf_type) (lawful.plain_known c known) (lawful.plain_plain c known)
      (copies_count (m.places (m.plain c)) leaf_type) (copies_are_types m (m.places (m.plain c)) leaf_type leaf_is_type)

  pub some_admitted : (c set : ℕ) → m.known c ≡ true → Admits m set c → Admits m set (top (some_type c))
  unfolding some_type
  some_admitted c set known admits k h = build_admits lawful k (m.plain c) (copies (m.places (m.plain c)) leaf_type) (rw (lawful.plain_classes c known) (admits k h))
