-- Every text has one outcome and no other. Assumes nothing.
use Rattle.std.proofs.Common.{◌≡◌, ℕ, zero, suc, ◌+◌, ◌<◌, ◌≤◌, List, [], ◌∷◌, ◌++◌, length, sym, refl, ap, subst, inl, inr, arith, length-append}
use Rattle.std.proofs.lemmas.List.Elements.{All-head}
use Rattle.std.proofs.Math.Decide.{dec_le, ℕ_discrete}
use Rattle.words.specs.Reading.{White, Solid, Inline, Stops, Longest, Token, Passes, blank, next_line, comment, Outcome, words, unreadable, before, Reads, ended, pass, word, fault, OneReading, EveryTextHasOneReading}
use Rattle.words.proofs.SpelledNumber.{one_spelling, decide_spells}
use Rattle.words.proofs.LongestFront.{one_longest, cut}

-- no token begins where something is passed over
pass_stops : {n m : ℕ} {t u : List ℕ} → Passes n t m u → Stops Solid t
pass_stops (blank w i) = λ s. s.0 w
pass_stops next_line = λ s. s.0 (inl (omega arith))
pass_stops (comment l) = λ s. s.1 refl

-- what is left is shorter, by at least as much as its line is later
pub pass_shortens : {n m : ℕ} {t u : List ℕ} → Passes n t m u → (length u < length t) × (m + length u ≤ n + length t)
pass_shortens (blank w i) = omega arith
pass_shortens next_line = omega arith
pass_shortens (comment l) = simp length-append (omega arith)

no_token : {w t u : List ℕ} → Token w t → u ≡ w ++ t → Stops Solid u → ⊥
no_token {w} {t} k e s = go w k (subst (Stops Solid) e s)
  where
    go : (w : List ℕ) → Token w t → Stops Solid (w ++ t) → ⊥
    go [] k s = omega (arith, k.some)
    go (b ∷ w) k s = s (All-head Solid b w k.longest.all)

one_token : {v w t u : List ℕ} → Token v t → Token w u → v ++ t ≡ w ++ u → (v ≡ w) × (t ≡ u)
one_token {v} {w} {t} {u} k l e = one_longest Solid v w t u e k.longest l.longest

one_pass : {n n' m m' : ℕ} {t t' u u' : List ℕ} → n ≡ n' → t ≡ t' → Passes n t m u → Passes n' t' m' u' → (m ≡ m') × (u ≡ u')
one_pass e f (blank w i) (blank v j) = (e, (cc))
one_pass e f (blank w i) next_line = absurd (i (cc))
one_pass e f (blank {b = b} w i) (comment k) = let g : b ≡ 35 = cc in absurd (omega arith)
one_pass e f next_line (blank w i) = absurd (i (cc))
one_pass e f next_line next_line = ((cc), (cc))
one_pass e f next_line (comment k) = let g : ◌≡◌ {A = ℕ} 10 35 = cc in absurd (omega arith)
one_pass e f (comment l) (blank {b = b} w i) = let g : b ≡ 35 = cc in absurd (omega arith)
one_pass e f (comment l) next_line = let g : ◌≡◌ {A = ℕ} 10 35 = cc in absurd (omega arith)
one_pass e f (comment {c = c} {t = t} l) (comment {c = d} {t = u} k) = (e, (one_longest Inline c d t u (cc) l k).1)

pub one_outcome : {n m : ℕ} {t u : List ℕ} {o p : Outcome} → n ≡ m → t ≡ u → Reads n t o → Reads m u p → o ≡ p
one_outcome e f ended ended = refl
one_outcome e f ended (pass q s) = absurd (omega (arith, ap length f, pass_shortens q))
one_outcome e f ended (word l x s) = absurd (no_token l f tt)
one_outcome e f ended (fault l x) = absurd (no_token l f tt)
one_outcome e f (pass p r) ended = absurd (omega (arith, ap length f, pass_shortens p))
one_outcome e f (pass p r) (pass q s) = let (g, h) = one_pass e f p q in one_outcome g h r s
one_outcome e f (pass p r) (word l x s) = absurd (no_token l f (pass_stops p))
one_outcome e f (pass p r) (fault l x) = absurd (no_token l f (pass_stops p))
one_outcome e f (word k v r) ended = absurd (no_token k (sym f) tt)
one_outcome e f (word k v r) (pass q s) = absurd (no_token k (sym f) (pass_stops q))
one_outcome e f (word k v r) (word l x s) =
    let (g, h) = one_token k l f in
    let value = one_spelling (rw g at v) x in
    let rest = one_outcome e h r s in
    cc
one_outcome e f (word k v r) (fault l x) = absurd (x _ (rw (one_token k l f).0 at v))
one_outcome e f (fault k v) ended = absurd (no_token k (sym f) tt)
one_outcome e f (fault k v) (pass q s) = absurd (no_token k (sym f) (pass_stops q))
one_outcome e f (fault k v) (word l x s) = absurd (v _ (rw (← (one_token k l f).0) at x))
one_outcome e f (fault k v) (fault l x) = let g = (one_token k l f).0 in cc

pub one_reading : {n : ℕ} {t : List ℕ} {o : Outcome} → Reads n t o → OneReading n t o
one_reading r = record { so = r; only = λ p s. one_outcome refl refl s r }

decide_inline : (b : ℕ) → Dec (Inline b)
decide_inline b = elim (ℕ_discrete b 10) [ yes e ↦ no (λ i. i e) | no e ↦ yes e ]

decide_white : (b : ℕ) → Dec (White b)
decide_white b =
    elim (dec_le b 13) [
      | yes h ↦ elim (dec_le 9 b) [ yes l ↦ yes (inl (l, h)) | no l ↦ no (λ w. omega arith) ]
      | no h ↦ elim (ℕ_discrete b 32) [ yes e ↦ yes (inr e) | no e ↦ no (λ w. omega arith) ]
    ]

decide_solid : (b : ℕ) → Dec (Solid b)
decide_solid b =
    elim (decide_white b) [
      | yes w ↦ no (λ s. s.0 w)
      | no w ↦ elim (ℕ_discrete b 35) [ yes e ↦ no (λ s. s.1 e) | no e ↦ yes (w, e) ]
    ]

-- the outcome of the text follows from that of a shorter one
record Onward (n : ℕ) (t : List ℕ) : Type 0 where
  line : ℕ
  rest : List ℕ
  whole : Outcome → Outcome
  less : length rest < length t
  leads : (o : Outcome) → Reads line rest o → Reads n t (whole o)

past : {n m : ℕ} {t u : List ℕ} → Passes n t m u → Onward n t
past {m = m} {u = u} p = record { line = m; rest = u; whole = λ o. o; less = (pass_shortens p).0; leads = λ o. pass p }

past_comment : {n : ℕ} {t : List ℕ} → (c u : List ℕ) × (t ≡ c ++ u) × Longest Inline c u → Onward n (35 ∷ t)
past_comment (c, u, e, l) = rw e (past (comment l))

pub solid_token : {b : ℕ} {t w u : List ℕ} → Solid b → b ∷ t ≡ w ++ u → Longest Solid w u → Token w u
solid_token {b} {t} {w} {u} s e l = record { some = go w e l; longest = l }
  where
    go : (w : List ℕ) → b ∷ t ≡ w ++ u → Longest Solid w u → 0 < length w
    go [] e l = absurd (subst (Stops Solid) (sym e) l.stops s)
    go (a ∷ w) e l = omega arith

past_token : {n b : ℕ} {t : List ℕ} → Solid b → (w u : List ℕ) × (b ∷ t ≡ w ++ u) × Longest Solid w u → Onward n (b ∷ t)
past_token {n} s (w, u, e, l) =
    let token = solid_token s e l in
    let short : length u < length (w ++ u) = simp length-append (omega (arith, token.some)) in
    rw e (elim (decide_spells w) [
      | yes v ↦ record { line = n; rest = u; whole = before (v.0 ∷ []); less = short; leads = λ o. word token v.1 }
      | no v ↦ record { line = n; rest = []; whole = λ _. unreadable n w; less = omega arith; leads = λ o r. fault token (λ x y. v (x, y)) }
    ])

onward : (n b : ℕ) (t : List ℕ) → Onward n (b ∷ t)
onward n b t =
    elim (ℕ_discrete b 10) [
      | yes e ↦ rw e (past next_line)
      | no i ↦ elim (decide_white b) [
        | yes w ↦ past (blank w i)
        | no w ↦ elim (ℕ_discrete b 35) [
          | yes e ↦ rw e (past_comment (cut Inline decide_inline t))
          | no h ↦ past_token (w, h) (cut Solid decide_solid (b ∷ t))
        ]
      ]
    ]

some_outcome : (k n : ℕ) (t : List ℕ) → length t ≤ k → (o : Outcome) × Reads n t o
some_outcome k n [] l = (words [], ended)
some_outcome zero n (b ∷ t) l = absurd (omega arith)
some_outcome (suc k) n (b ∷ t) l =
    let on = onward n b t in
    let (o, r) = some_outcome k on.line on.rest (omega arith) in
    (on.whole o, on.leads o r)

pub every_text_has_one_reading : EveryTextHasOneReading
every_text_has_one_reading n t =
    let (o, r) = some_outcome (length t) n t (omega arith) in
    (o, one_reading r)
