-- What `build` makes of a code and types. Assumes nothing.
use Rattle.std.proofs.Common.{◌≡◌, ℕ, ◌<◌, true, T, ◌⊎◌, sym, refl, ap, ◌∙◌, inl, inr, arith}
use Rattle.std.proofs.Math.Decide.{ℕ_discrete}
use Rattle.theory.specs.Meaning.{has, Layering, flat, layered_by, Meaning, Lawful}
use Rattle.theory.specs.IfSo.{if_so}
use Rattle.theory.specs.Types.{Tree, node, tree_discrete, Trees, end, and, size, count, one, two, top, list_of, PairOverList, IsType, AreTypes, build_by, build}
use Rattle.theory.specs.Codes.{CodesAgree, one_code, pair_and_list, list_and_pair}
use Rattle.theory.proofs.Impossible.{impossible}
use Rattle.theory.proofs.Layers.{layers_of}

-- it folds a Pair over t and List over t into that List, or it stays as it is
pub data Built (m : Meaning) (c : ℕ) (ts : Trees) (t : Tree) : Type 0 where
  folds : (list : ℕ) (e : Tree) → m.layering ≡ layered_by c list → ts ≡ two e (list_of list e) → t ≡ list_of list e → Built m c ts t
  stays : (PairOverList m c ts → ⊥) → t ≡ node c ts → Built m c ts t

built_pair : {m : Meaning} (c pair list : ℕ) (t u : Tree) → m.layering ≡ layered_by pair list → (d : Dec (pair ≡ c)) (e : Dec (u ≡ list_of list t)) →
    Built m c (two t u) (if_so d (if_so e u (node c (two t u))) (node c (two t u)))
unfolding if_so
built_pair c pair list t u named (yes p) (yes q) = folds list t (cc) (cc) q
built_pair c pair list t u named (yes p) (no q) = stays (λ l. q (cc)) refl
built_pair c pair list t u named (no p) q = stays (λ l. p (cc)) refl

built_by : {m : Meaning} (o : Layering) (c : ℕ) (ts : Trees) → m.layering ≡ o → Built m c ts (build_by o c ts)
unfolding build_by
built_by flat c ts named = stays (λ l. impossible (cc)) refl
built_by (layered_by pair list) c end named = stays (λ l. impossible (cc)) refl
built_by (layered_by pair list) c (and t end) named = stays (λ l. impossible (cc)) refl
built_by (layered_by pair list) c (and t (and u end)) named = built_pair c pair list t u named (ℕ_discrete pair c) (tree_discrete ℕ_discrete u (list_of list t))
built_by (layered_by pair list) c (and t (and u (and v ts))) named = stays (λ l. impossible (cc)) refl

pub built : (m : Meaning) (c : ℕ) (ts : Trees) → Built m c ts (build m c ts)
unfolding build
built m c ts = built_by m.layering c ts refl

module _ {m : Meaning} (lawful : Lawful m) where
  -- what is built over List stays
  pub build_list : (pair list : ℕ) (ts : Trees) → m.layering ≡ layered_by pair list → build m list ts ≡ node list ts
  build_list pair list ts named = go (built m list ts)
    where
      go : Built m list ts (build m list ts) → build m list ts ≡ node list ts
      go (folds list' e n p q) = absurd ((layers_of lawful pair list named).apart (cc))
      go (stays n q) = q

  -- what is built over one code and is one was built over one list of types
  pub build_injective : (c : ℕ) (ts us : Trees) → build m c ts ≡ build m c us → ts ≡ us
  build_injective c ts us e = go (built m c ts) (built m c us)
    where
      go : Built m c ts (build m c ts) → Built m c us (build m c us) → ts ≡ us
      go (folds list t n p q) (folds list' t' n' p' q') = cc
      go (folds list t n p q) (stays n' q') = absurd ((layers_of lawful c list n).apart (cc))
      go (stays n q) (folds list t n' p' q') = absurd ((layers_of lawful c list n').apart (cc))
      go (stays n q) (stays n' q') = cc

  -- a List that is also a Pair: the Pair folds
  pub build_list_is_pair : (pair list : ℕ) (e t u : Tree) → m.layering ≡ layered_by pair list → build m list (one e) ≡ build m pair (two t u) →
      (e ≡ t) × (u ≡ build m pair (two t u))
  build_list_is_pair pair list e t u named eq = go (built m pair (two t u))
    where
      left : build m list (one e) ≡ node list (one e)
      left = build_list pair list (one e) named

      go : Built m pair (two t u) (build m pair (two t u)) → (e ≡ t) × (u ≡ build m pair (two t u))
      go (folds list' e' n p q) = (cc left, cc)
      go (stays n q) = absurd ((layers_of lawful pair list named).apart (cc left))

  -- the second type of a Pair is what is built, or smaller
  pub build_tail : (pair : ℕ) (t u : Tree) → (u ≡ build m pair (two t u)) ⊎ (size u < size (build m pair (two t u)))
  build_tail pair t u = go (built m pair (two t u))
    where
      go : Built m pair (two t u) (build m pair (two t u)) → (u ≡ build m pair (two t u)) ⊎ (size u < size (build m pair (two t u)))
      go (folds list e n p q) = inl (cc)
      go (stays n q) = inr (rw q (omega arith))

  pub build_folds : (pair list : ℕ) (t : Tree) → m.layering ≡ layered_by pair list → build m pair (two t (list_of list t)) ≡ list_of list t
  build_folds pair list t named = go (built m pair (two t (list_of list t)))
    where
      go : Built m pair (two t (list_of list t)) (build m pair (two t (list_of list t))) → build m pair (two t (list_of list t)) ≡ list_of list t
      go (folds list' e n p q) = cc
      go (stays n q) = absurd (n (record { list = list; element = t; named = named; parts = refl }))

  -- a Pair that is its own second type is the List over its first
  pub build_own_tail : (pair list : ℕ) (t u : Tree) → m.layering ≡ layered_by pair list → u ≡ build m pair (two t u) → u ≡ list_of list t
  build_own_tail pair list t u named own = go (built m pair (two t u))
    where
      go : Built m pair (two t u) (build m pair (two t u)) → u ≡ list_of list t
      go (folds list' e n p q) = cc
      go (stays n q) =
          let d : size u ≡ size (node pair (two t u)) = ap size (own ∙ q) in
          absurd (omega arith)

  -- the codes of two equal types are one, or Pair and List
  pub build_codes : (c d : ℕ) (ts us : Trees) → build m c ts ≡ build m d us → CodesAgree m c d
  build_codes c d ts us e = go (built m c ts) (built m d us)
    where
      go : Built m c ts (build m c ts) → Built m d us (build m d us) → CodesAgree m c d
      go (folds list t n p q) (folds list' t' n' p' q') = one_code (cc)
      go (folds list t n p q) (stays n' q') = pair_and_list (cc)
      go (stays n q) (folds list t n' p' q') = list_and_pair (cc)
      go (stays n q) (stays n' q') = one_code (cc)

  pub list_is_type : (pair list : ℕ) (t : Tree) → m.layering ≡ layered_by pair list → IsType m t → IsType m (list_of list t)
  list_is_type pair list t named is_type =
      let layers = layers_of lawful pair list named in
      (layers.list_known, layers.list_plain, sym layers.list_places, λ l. layers.apart (cc l.named), (is_type, tt))

  pub build_is_type : (c : ℕ) (ts : Trees) → m.known c ≡ true → m.plain c ≡ c → count ts ≡ m.places c → AreTypes m ts → IsType m (build m c ts)
  build_is_type c ts known plain count_is are_types = go (built m c ts)
    where
      go : Built m c ts (build m c ts) → IsType m (build m c ts)
      go (folds list t named q r) = rw r (list_is_type c list t named (let both : AreTypes m (two t (list_of list t)) = rw q at are_types in both.0))
      go (stays q r) = rw r (known, plain, count_is, q, are_types)

  -- a class admits what is built over a code exactly where it admits the code
  pub build_admits : (k c : ℕ) (ts : Trees) → T (has (m.classes c) k) → T (has (m.classes (top (build m c ts))) k)
  build_admits k c ts h = go (built m c ts)
    where
      go : Built m c ts (build m c ts) → T (has (m.classes (top (build m c ts))) k)
      go (folds list t named q r) = let y = (layers_of lawful c list named).alike k in rw r (rw (← y) h)
      go (stays n r) = rw r h

  pub admits_build : (k c : ℕ) (ts : Trees) → T (has (m.classes (top (build m c ts))) k) → T (has (m.classes c) k)
  admits_build k c ts h = go (built m c ts)
    where
      go : Built m c ts (build m c ts) → T (has (m.classes c) k)
      go (folds list t named q r) = let y = (layers_of lawful c list named).alike k in rw y (rw r at h)
      go (stays n r) = rw r at h
