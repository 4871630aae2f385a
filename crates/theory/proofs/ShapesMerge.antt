-- The shapes of two joined classes merge, or there is a clash. Assumes nothing.
use Rattle.std.proofs.Common.{◌≡◌, ℕ, zero, suc, ◌<◌, ◌≤◌, ◌⊎◌, List, [], ◌∷◌, length, Some, sym, refl, ap, ◌∙◌, inl, inr, arith}
use Rattle.std.proofs.Math.Decide.{ℕ_discrete}
use Rattle.std.specs.List.{slice_get}
use Rattle.theory.specs.Meaning.{Layering, flat, layered_by, Meaning, Lawful}
use Rattle.theory.specs.States.{State, Term, Formed}
use Rattle.theory.specs.Joined.{Joined, symmetric, transitive}
use Rattle.theory.specs.Codes.{CodesAgree, one_code, pair_and_list, list_and_pair}
use Rattle.theory.specs.ListLike.{joined_list, joined_loop}
use Rattle.theory.specs.Certificates.{Shape, no_term, over, Backed, by_term, by_list_like}
use Rattle.theory.specs.Refusals.{Clash, two_codes}
use Rattle.theory.specs.Closures.{pair_up, Merges, neither, only_one, only_other, same_codes, pair_list, list_pair}
use Rattle.theory.proofs.Impossible.{impossible}
use Rattle.theory.proofs.Lookups.{EachPair, each_none, each_two, pair_up_nth, pair_up_few}
use Rattle.theory.proofs.Layers.{layers_of}
use Rattle.theory.proofs.LayerPlaces.{two_places, one_place, term_width}
use Rattle.theory.proofs.ListLikes.{list_like_named}
use Rattle.theory.proofs.NumberedUnknowns.{place_stands, element_stands}

decide_layered_by : (o : Layering) (a b : ℕ) → Dec (o ≡ layered_by a b)
decide_layered_by flat a b = no (λ e. impossible (cc))
decide_layered_by (layered_by pair list) a b = go (ℕ_discrete pair a) (ℕ_discrete list b)
  where
    go : Dec (pair ≡ a) → Dec (list ≡ b) → Dec (layered_by pair list ≡ layered_by a b)
    go (yes p) (yes q) = yes (cc)
    go (yes p) (no q) = no (λ e. q (cc))
    go (no p) q = no (λ e. p (cc))

-- a term behind a shape
pub record TermBehind (m : Meaning) (s : State) (r d : ℕ) : Type 0 where
  pub cell : ℕ
  pub code : ℕ
  pub parts : List ℕ
  pub joined : Joined m s r cell
  pub stands : Term s cell code parts
  pub code_is : (m.plain code ≡ d) ⊎ (m.layering ≡ layered_by (m.plain code) d)

pub term_behind : {m : Meaning} {s : State} {r d : ℕ} {qs : List ℕ} → Backed m s r d qs → TermBehind m s r d
term_behind (by_term j c a t p) = record { cell = j; code = c; parts = _; joined = a; stands = t; code_is = inl p }
term_behind (by_list_like e (joined_list j pair c a t p l) q) = record { cell = j; code = c; parts = _; joined = a; stands = t; code_is = inl p }
term_behind (by_list_like e (joined_loop j u c a t l x) q) = record { cell = j; code = c; parts = _; joined = a; stands = t; code_is = inr l }

pub codes_clash : {m : Meaning} {s : State} {r r' d d' : ℕ} → Joined m s r r' → TermBehind m s r d → TermBehind m s r' d' →
    (CodesAgree m d d' → ⊥) → Clash m s
codes_clash {m} {s} {r} {r'} {d} {d'} g x y differ =
    two_codes x.cell y.cell x.code y.code x.parts y.parts x.stands y.stands (transitive (symmetric x.joined) (transitive g y.joined))
    (λ agree. differ (go agree x.code_is y.code_is))
  where
    go : CodesAgree m (m.plain x.code) (m.plain y.code) → (m.plain x.code ≡ d) ⊎ (m.layering ≡ layered_by (m.plain x.code) d) →
        (m.plain y.code ≡ d') ⊎ (m.layering ≡ layered_by (m.plain y.code) d') → CodesAgree m d d'
    go (one_code e) (inl p) (inl q) = one_code (cc)
    go (one_code e) (inl p) (inr q) = pair_and_list (cc)
    go (one_code e) (inr p) (inl q) = list_and_pair (cc)
    go (one_code e) (inr p) (inr q) = one_code (cc)
    go (pair_and_list e) (inl p) (inl q) = pair_and_list (cc)
    go (pair_and_list e) (inl p) (inr q) = pair_and_list (cc)
    go (pair_and_list e) (inr p) (inl q) = one_code (cc)
    go (pair_and_list e) (inr p) (inr q) = one_code (cc)
    go (list_and_pair e) (inl p) (inl q) = list_and_pair (cc)
    go (list_and_pair e) (inl p) (inr q) = one_code (cc)
    go (list_and_pair e) (inr p) (inl q) = list_and_pair (cc)
    go (list_and_pair e) (inr p) (inr q) = one_code (cc)

decide_codes_agree : (m : Meaning) (c d : ℕ) → Dec (CodesAgree m c d)
decide_codes_agree m c d = go (ℕ_discrete c d) (decide_layered_by m.layering c d) (decide_layered_by m.layering d c)
  where
    go : Dec (c ≡ d) → Dec (m.layering ≡ layered_by c d) → Dec (m.layering ≡ layered_by d c) → Dec (CodesAgree m c d)
    go (yes e) x y = yes (one_code e)
    go (no n) (yes e) y = yes (pair_and_list e)
    go (no n) (no o) (yes e) = yes (list_and_pair e)
    go (no n) (no o) (no p) = no (λ a. none_of a)
      where
        none_of : CodesAgree m c d → ⊥
        none_of (one_code e) = n e
        none_of (pair_and_list e) = o e
        none_of (list_and_pair e) = p e

-- both cells of a pair stand
abbrev pub BothStand : State → ℕ → ℕ → Type 0
BothStand s x y = (x < length s.cells) × (y < length s.cells)

pub record Merged (m : Meaning) (s : State) (r : ℕ) (one other : Shape) : Type 0 where
  pub shape : Shape
  pub new : List (ℕ × ℕ)
  pub merge : Merges m r one other shape new
  pub few : length new ≤ 9
  pub stand : EachPair (BothStand s) new

-- (with their terms in the goal `rw` builds no well-typed family, so the cells are variables here)
pair_list_at : {m : Meaning} {r : ℕ} (pair list h t e : ℕ) {qs qs' : List ℕ} → m.layering ≡ layered_by pair list → qs ≡ h ∷ t ∷ [] → qs' ≡ e ∷ [] →
    Merges m r (over pair qs) (over list qs') (over list (e ∷ [])) ((h, e) ∷ (t, r) ∷ [])
pair_list_at pair list h t e named p q = rw (p, q) (pair_list pair list h t e named)

list_pair_at : {m : Meaning} {r : ℕ} (pair list h t e : ℕ) {qs qs' : List ℕ} → m.layering ≡ layered_by pair list → qs ≡ h ∷ t ∷ [] → qs' ≡ e ∷ [] →
    Merges m r (over list qs') (over pair qs) (over list (e ∷ [])) ((h, e) ∷ (t, r) ∷ [])
list_pair_at pair list h t e named p q = rw (p, q) (list_pair pair list h t e named)

module _ {m : Meaning} (lawful : Lawful m) {s : State} (formed : Formed m s) where
  -- a shape has as many places as its code
  pub shape_width : {r d : ℕ} {qs : List ℕ} → Backed m s r d qs → length qs ≡ m.places d
  shape_width (by_term j c a t p) = term_width lawful formed j c _ t ∙ ap m.places p
  shape_width (by_list_like e h q) = let l = list_like_named h in ap length q ∙ sym (layers_of lawful l.0 _ l.1).list_places

  -- the cells that a shape names stand
  pub shape_stands : {r d : ℕ} {qs : List ℕ} → Backed m s r d qs → (k q : ℕ) → slice_get qs k ≡ Some q → q < length s.cells
  shape_stands {qs = qs} (by_term j c a t p) k q at = place_stands formed j c qs t k q at
  shape_stands (by_list_like e h p) k q at = go k (ap (λ xs. slice_get xs k) (sym p) ∙ at)
    where
      go : (k : ℕ) → slice_get (e ∷ []) k ≡ Some q → q < length s.cells
      go zero z = let is : e ≡ q = cc in rw (← is) (element_stands formed h)
      go (suc k) z = impossible (cc)

  -- a merge leaves at most nine pairs pending, of cells that stand
  pub merge_few : {r r' : ℕ} {one other h : Shape} {new : List (ℕ × ℕ)} → Merges m r one other h new →
      ((d : ℕ) (qs : List ℕ) → one ≡ over d qs → Backed m s r' d qs) → length new ≤ 9
  merge_few neither f = omega arith
  merge_few (only_one d qs) f = omega arith
  merge_few (only_other d qs) f = omega arith
  merge_few (same_codes d qs qs' e) f = let z = pair_up_few qs qs' in let l = shape_width (f d qs refl) in let n = lawful.few_places d in omega arith
  merge_few (pair_list pair list h t e l) f = omega arith
  merge_few (list_pair pair list h t e l) f = omega arith

  pub merge_stands : {r r' r'' : ℕ} {one other h : Shape} {new : List (ℕ × ℕ)} → r < length s.cells → Merges m r one other h new →
      ((d : ℕ) (qs : List ℕ) → one ≡ over d qs → Backed m s r' d qs) →
      ((d : ℕ) (qs : List ℕ) → other ≡ over d qs → Backed m s r'' d qs) → EachPair (BothStand s) new
  merge_stands r< neither f f' = each_none (BothStand s)
  merge_stands r< (only_one d qs) f f' = each_none (BothStand s)
  merge_stands r< (only_other d qs) f f' = each_none (BothStand s)
  merge_stands r< (same_codes d qs qs' e) f f' = λ k x y h. let z = pair_up_nth qs qs' k x y h in (shape_stands (f d qs refl) k x z.0, shape_stands (f' d qs' refl) k y z.1)
  merge_stands {r} r< (pair_list pair list h t e l) f f' = each_two (BothStand s) h e t r ((shape_stands (f pair _ refl) 0 h refl), (shape_stands (f' list _ refl) 0 e refl)) ((shape_stands (f pair _ refl) 1 t refl), r<)
  merge_stands {r} r< (list_pair pair list h t e l) f f' = each_two (BothStand s) h e t r ((shape_stands (f' pair _ refl) 0 h refl), (shape_stands (f list _ refl) 0 e refl)) ((shape_stands (f' pair _ refl) 1 t refl), r<)

  pub merge_or_clash : {r r' : ℕ} → r < length s.cells → Joined m s r r' → (one other : Shape) →
      ((d : ℕ) (qs : List ℕ) → one ≡ over d qs → Backed m s r d qs) →
      ((d : ℕ) (qs : List ℕ) → other ≡ over d qs → Backed m s r' d qs) → Clash m s ⊎ Merged m s r one other
  merge_or_clash r< g no_term no_term f f' = inr (record { shape = no_term; new = []; merge = neither; few = omega arith; stand = each_none (BothStand s) })
  merge_or_clash r< g (over d qs) no_term f f' = inr (record { shape = over d qs; new = []; merge = only_one d qs; few = omega arith; stand = each_none (BothStand s) })
  merge_or_clash r< g no_term (over d qs) f f' = inr (record { shape = over d qs; new = []; merge = only_other d qs; few = omega arith; stand = each_none (BothStand s) })
  merge_or_clash {r} {r'} r< g (over d qs) (over d' qs') f f' = go (decide_codes_agree m d d')
    where
      b : Backed m s r d qs
      b = f d qs refl

      b' : Backed m s r' d' qs'
      b' = f' d' qs' refl

      go : Dec (CodesAgree m d d') → Clash m s ⊎ Merged m s r (over d qs) (over d' qs')
      go (yes (one_code e)) = inr (record {
        shape = over d qs;
        new = pair_up qs qs';
        merge = rw (← e) (same_codes d qs qs' (shape_width b ∙ ap m.places e ∙ sym (shape_width b')));
        few = let z = pair_up_few qs qs' in let l = shape_width b in let n = lawful.few_places d in omega arith;
        stand = λ k x y h. let z = pair_up_nth qs qs' k x y h in (shape_stands b k x z.0, shape_stands b' k y z.1);
      })
      go (yes (pair_and_list named)) =
          let ls = layers_of lawful d d' named in
          let p = two_places qs (shape_width b ∙ ls.pair_places) in
          let l = one_place qs' (shape_width b' ∙ ls.list_places) in
          inr (record {
            shape = over d' (l.0 ∷ []);
            new = (p.0, l.0) ∷ (p.1, r) ∷ [];
            merge = pair_list_at d d' p.0 p.1 l.0 named p.2 l.1;
            few = omega arith;
            stand = each_two (BothStand s) p.0 l.0 p.1 r (shape_stands b 0 p.0 (ap (λ xs. slice_get xs 0) p.2), shape_stands b' 0 l.0 (ap (λ xs. slice_get xs 0) l.1))
                (shape_stands b 1 p.1 (ap (λ xs. slice_get xs 1) p.2), r<);
          })
      go (yes (list_and_pair named)) =
          let ls = layers_of lawful d' d named in
          let p = two_places qs' (shape_width b' ∙ ls.pair_places) in
          let l = one_place qs (shape_width b ∙ ls.list_places) in
          inr (record {
            shape = over d (l.0 ∷ []);
            new = (p.0, l.0) ∷ (p.1, r) ∷ [];
            merge = list_pair_at d' d p.0 p.1 l.0 named p.2 l.1;
            few = omega arith;
            stand = each_two (BothStand s) p.0 l.0 p.1 r (shape_stands b' 0 p.0 (ap (λ xs. slice_get xs 0) p.2), shape_stands b 0 l.0 (ap (λ xs. slice_get xs 0) l.1))
                (shape_stands b' 1 p.1 (ap (λ xs. slice_get xs 1) p.2), r<);
          })
      go (no differ) = inl (codes_clash g (term_behind b) (term_behind b') differ)
