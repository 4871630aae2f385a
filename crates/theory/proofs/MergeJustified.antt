-- A merge brings together only what the rules join. Assumes nothing.
use Rattle.std.proofs.Common.{◌≡◌, ℕ, zero, suc, List, [], ◌∷◌, ◌++◌, length, Some, sym, refl, ap, ◌∙◌}
use Rattle.std.proofs.Math.Decide.{ℕ_discrete}
use Rattle.std.specs.List.{slice_get}
use Rattle.theory.specs.Meaning.{layered_by, Meaning, Lawful}
use Rattle.theory.specs.States.{term, State}
use Rattle.theory.specs.Joined.{PairTerm, ListTerm, Joined, symmetric, transitive, places, list_meets_pair_first, list_meets_pair_tail}
use Rattle.theory.specs.ListLike.{ListLike, joined_list, joined_loop}
use Rattle.theory.specs.Certificates.{Shape, over, Backed, by_term, by_list_like}
use Rattle.theory.specs.Updates.{sent, replaced}
use Rattle.theory.specs.Closures.{Closure, Justified, Merges, neither, only_one, only_other, same_codes, pair_list, list_pair, after_merge}
use Rattle.theory.proofs.Impossible.{impossible}
use Rattle.theory.proofs.Lookups.{EachPair, each_two, each_append, each_rest, each_first, pair_up_nth}
use Rattle.theory.proofs.LayerPlaces.{one_place}
use Rattle.theory.proofs.ListLikes.{list_like_along, list_like_one, list_like_named}
use Rattle.theory.proofs.Updates.{sent_hit, sent_miss, replaced_hit, replaced_miss}

backed_along : {m : Meaning} {s : State} {r r' d : ℕ} {qs : List ℕ} → Joined m s r r' → Backed m s r d qs → Backed m s r' d qs
backed_along g (by_term j c a t p) = by_term j c (transitive (symmetric g) a) t p
backed_along g (by_list_like e h q) = by_list_like e (list_like_along g h) q

element_joined : {m : Meaning} {s : State} {e e' x y : ℕ} {qs qs' : List ℕ} → qs ≡ e ∷ [] → qs' ≡ e' ∷ [] → Joined m s e e' → (k : ℕ) →
    slice_get qs k ≡ Some x → slice_get qs' k ≡ Some y → Joined m s x y
element_joined {m} {s} {e} {e'} {x} {y} q q' g k hx hy = go k (ap (λ xs. slice_get xs k) (sym q) ∙ hx) (ap (λ xs. slice_get xs k) (sym q') ∙ hy)
  where
    go : (k : ℕ) → slice_get (e ∷ []) k ≡ Some x → slice_get (e' ∷ []) k ≡ Some y → Joined m s x y
    go zero a b = let p : e ≡ x = cc in let p' : e' ≡ y = cc in rw (← p, ← p') g
    go (suc k) a b = impossible (cc)

both_joined : {m : Meaning} {s : State} {h e t r : ℕ} → Joined m s h e × Joined m s t r → EachPair (Joined m s) ((h, e) ∷ (t, r) ∷ [])
both_joined {m} {s} {h} {e} {t} {r} both = each_two (Joined m s) h e t r both.0 both.1

module _ {m : Meaning} (lawful : Lawful m) {s : State} where
  -- a class with the shape of a List is list-like
  backed_list_like : {r pair list e : ℕ} → m.layering ≡ layered_by pair list → Backed m s r list (e ∷ []) → ListLike m s r list e
  backed_list_like {pair = pair} named (by_term j c a t p) = joined_list j pair c a t p named
  backed_list_like {e = e} named (by_list_like e' h q) = let x : e ≡ e' = cc in rw x h

  same_codes_joined : {r r' d : ℕ} {qs qs' : List ℕ} → length qs ≡ length qs' → Joined m s r r' → Backed m s r d qs → Backed m s r' d qs' →
      (k x y : ℕ) → slice_get qs k ≡ Some x → slice_get qs' k ≡ Some y → Joined m s x y
  same_codes_joined n g (by_term j c a t p) (by_term j' c' a' t' p') k x y hx hy = places k t t' (cc) (transitive (symmetric a) (transitive g a')) hx hy
  same_codes_joined n g (by_list_like e h q) (by_list_like e' h' q') k x y hx hy = element_joined q q' (list_like_one g h h').1 k hx hy
  same_codes_joined {qs = qs} n g (by_term j c a t p) (by_list_like e' h' q') k x y hx hy =
      let parts = one_place qs (n ∙ ap length q') in
      let l = list_like_named h' in
      let h : ListLike m s _ _ parts.0 = joined_list j l.0 c a (t ∙ ap (λ xs. Some (term c xs)) parts.1) p l.1 in
      element_joined parts.1 q' (list_like_one g h h').1 k hx hy
  same_codes_joined {qs' = qs'} n g (by_list_like e h q) (by_term j' c' a' t' p') k x y hx hy =
      let parts = one_place qs' (sym n ∙ ap length q) in
      let l = list_like_named h in
      let h' : ListLike m s _ _ parts.0 = joined_list j' l.0 c' a' (t' ∙ ap (λ xs. Some (term c' xs)) parts.1) p' l.1 in
      element_joined q parts.1 (list_like_one g h h').1 k hx hy

  -- a Pair and a List in one class
  pair_list_joined : {r r' pair list h t e : ℕ} → m.layering ≡ layered_by pair list → Joined m s r r' → Backed m s r pair (h ∷ t ∷ []) →
      Backed m s r' list (e ∷ []) → Joined m s h e × Joined m s t r
  pair_list_joined {r} {r'} {pair} {list} {h} {t} {e} named g (by_term j c a u p) y = go (backed_list_like named y)
    where
      of_pair : PairTerm m s j h t
      of_pair = record { code = c; list = list; named = cc; stands = u }

      go : ListLike m s r' list e → Joined m s h e × Joined m s t r
      go (joined_list j' pair' c' a' t' p' l') =
          let l : ListTerm m s j' e = record { code = c'; pair = pair; named = cc; stands = t' } in
          let terms_joined : Joined m s j' j = transitive (symmetric a') (transitive (symmetric g) a) in
          (symmetric (list_meets_pair_first l of_pair terms_joined), transitive (list_meets_pair_tail l of_pair terms_joined) (symmetric a))
      go (joined_loop j' t₂ c' a' t' l' x) =
          let terms_joined : Joined m s j j' = transitive (symmetric a) (transitive g a') in
          (places 0 u t' (cc) terms_joined refl refl, transitive (places 1 u t' (cc) terms_joined refl refl) (transitive x (transitive (symmetric a') (symmetric g))))
  pair_list_joined named g (by_list_like e h q) y = impossible (cc)

  -- what is pending for a merge is joined, and what it comes to is backed
  merge_joined : {r r' : ℕ} {one other h : Shape} {new : List (ℕ × ℕ)} → Joined m s r r' → Merges m r one other h new →
      ((d : ℕ) (qs : List ℕ) → one ≡ over d qs → Backed m s r d qs) → ((d : ℕ) (qs : List ℕ) → other ≡ over d qs → Backed m s r' d qs) →
      EachPair (Joined m s) new
  merge_joined g neither f f' k x y e = impossible (cc)
  merge_joined g (only_one d qs) f f' k x y e = impossible (cc)
  merge_joined g (only_other d qs) f f' k x y e = impossible (cc)
  merge_joined g (same_codes d qs qs' n) f f' k x y e = let z = pair_up_nth qs qs' k x y e in same_codes_joined n g (f d qs refl) (f' d qs' refl) k x y z.0 z.1
  merge_joined g (pair_list pair list h t u named) f f' k x y e = both_joined (pair_list_joined named g (f pair _ refl) (f' list _ refl)) k x y e
  merge_joined g (list_pair pair list h t u named) f f' k x y e =
      let b = pair_list_joined named (symmetric g) (f' pair _ refl) (f list _ refl) in
      both_joined (b.0, transitive b.1 (symmetric g)) k x y e

  merge_backed : {r r' : ℕ} {one other h : Shape} {new : List (ℕ × ℕ)} → Joined m s r r' → Merges m r one other h new →
      ((d : ℕ) (qs : List ℕ) → one ≡ over d qs → Backed m s r d qs) → ((d : ℕ) (qs : List ℕ) → other ≡ over d qs → Backed m s r' d qs) →
      (d : ℕ) (qs : List ℕ) → h ≡ over d qs → Backed m s r d qs
  merge_backed g neither f f' d qs e = f d qs e
  merge_backed g (only_one d' qs') f f' d qs e = f d qs e
  merge_backed g (only_other d' qs') f f' d qs e = backed_along (symmetric g) (f' d qs e)
  merge_backed g (same_codes d' qs₁ qs₂ n) f f' d qs e = f d qs e
  merge_backed g (pair_list pair list h t u named) f f' d qs e = backed_along (symmetric g) (f' d qs e)
  merge_backed g (list_pair pair list h t u named) f f' d qs e = f d qs e

module _ {m : Meaning} (lawful : Lawful m) {s : State} (v : Closure) (justified : Justified m s v) (a b : ℕ) (rest : List (ℕ × ℕ)) (pending_is : v.pending ≡ (a, b) ∷ rest)
    (h : Shape) (new : List (ℕ × ℕ)) (merge : Merges m (v.label a) (v.shape (v.label a)) (v.shape (v.label b)) h new) where
  labels_joined : Joined m s (v.label a) (v.label b)
  labels_joined = transitive (symmetric (justified.label_joined a)) (transitive (each_first (Joined m s) a b rest v.pending pending_is justified.pending_joined) (justified.label_joined b))

  pub merge_justified : Justified m s (after_merge v a b rest h new)
  unfolding after_merge
  merge_justified = record { label_joined = λ i. at i (ℕ_discrete (v.label i) (v.label b)); pending_joined = pending_joined; shape_backed = λ r. shapes r (ℕ_discrete r (v.label a)) }
    where
      at : (i : ℕ) → Dec (v.label i ≡ v.label b) → Joined m s i (sent (v.label b) (v.label a) (v.label i))
      at i (yes e) = rw (sent_hit (v.label b) (v.label a) (v.label i) e) (transitive (rw e at (justified.label_joined i)) (symmetric labels_joined))
      at i (no n) = rw (sent_miss (v.label b) (v.label a) (v.label i) n) (justified.label_joined i)

      pending_joined : EachPair (Joined m s) (new ++ rest)
      pending_joined = each_append (Joined m s) new rest
          (merge_joined lawful labels_joined merge (justified.shape_backed (v.label a)) (justified.shape_backed (v.label b)))
          (each_rest (Joined m s) a b rest v.pending pending_is justified.pending_joined)

      shapes : (r : ℕ) → Dec (r ≡ v.label a) → (d : ℕ) (qs : List ℕ) → replaced v.shape (v.label a) h r ≡ over d qs → Backed m s r d qs
      shapes r (yes e) d qs x =
          let y = sym (replaced_hit v.shape (v.label a) h r e) ∙ x in
          rw e (merge_backed lawful labels_joined merge (justified.shape_backed (v.label a)) (justified.shape_backed (v.label b)) d qs y)
      shapes r (no n) d qs x = justified.shape_backed r d qs (sym (replaced_miss v.shape (v.label a) h r n) ∙ x)
