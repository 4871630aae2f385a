-- How a text is read: what is passed over, what is a token, and what the text comes to. Assumes nothing.
use Rattle.std.specs.Prelude.{◌≡◌, ℕ, ◌+◌, ◌<◌, ◌≤◌, ◌⊎◌, List, [], ◌∷◌, ◌++◌, length, ◌≢◌}
use Rattle.std.specs.List.{All}
use Rattle.words.specs.Spelling.{Spells}

-- tab to carriage return, and space
abbrev pub White : (byte : ℕ) → Type 0
White b = ((9 ≤ b) × (b ≤ 13)) ⊎ (b ≡ 32)

-- a byte of a token: neither white space nor #
abbrev pub Solid : (byte : ℕ) → Type 0
Solid b = (White b → ⊥) × (b ≢ 35)

-- a byte that does not end its line
abbrev pub Inline : (byte : ℕ) → Type 0
Inline b = b ≡ 10 → ⊥

-- the text is empty, or its first byte lacks the property
abbrev pub Stops : (P : ℕ → Type 0) (text : List ℕ) → Type 0
Stops P [] = Unit {0}
Stops P (b ∷ bs) = P b → ⊥

-- of the text front ++ rest, front is the longest front whose bytes have the property
pub record Longest (P : ℕ → Type 0) (front rest : List ℕ) : Type 0 where
  pub all : All P front
  pub stops : Stops P rest

-- the text token ++ rest begins with that token
pub record Token (token rest : List ℕ) : Type 0 where
  pub some : 0 < length token
  pub longest : Longest Solid token rest

-- what is passed over at the front of a text, and in which line the rest begins
pub data Passes : (line : ℕ) (text : List ℕ) (line' : ℕ) (rest : List ℕ) → Type 0 where
  blank : {n b : ℕ} {t : List ℕ} → White b → Inline b → Passes n (b ∷ t) n t
  next_line : {n : ℕ} {t : List ℕ} → Passes n (10 ∷ t) (n + 1) t
  comment : {n : ℕ} {c t : List ℕ} → Longest Inline c t → Passes n (35 ∷ (c ++ t)) n t

-- all the words of a text, or its first token that cannot be read
pub data Outcome : Type 0 where
  words : List ℕ → Outcome
  unreadable : (line : ℕ) → (token : List ℕ) → Outcome

-- the outcome of a text in which these words stand before a text of that outcome
abbrev pub before : List ℕ → Outcome → Outcome
before vs (words ws) = words (vs ++ ws)
before vs (unreadable n w) = unreadable n w

-- the outcome of a text that begins in that line
pub data Reads : (line : ℕ) (text : List ℕ) → Outcome → Type 0 where
  ended : {n : ℕ} → Reads n [] (words [])
  pass : {n m : ℕ} {t u : List ℕ} {o : Outcome} → Passes n t m u → Reads m u o → Reads n t o
  word : {n v : ℕ} {w t : List ℕ} {o : Outcome} → Token w t → Spells w v → Reads n t o → Reads n (w ++ t) (before (v ∷ []) o)
  fault : {n : ℕ} {w t : List ℕ} → Token w t → ((v : ℕ) → Spells w v → ⊥) → Reads n (w ++ t) (unreadable n w)

-- the first token of the text can be read
pub data BeginsWithWord : (text : List ℕ) → Type 0 where
  later : {n m : ℕ} {t u : List ℕ} → Passes n t m u → BeginsWithWord u → BeginsWithWord t
  here : {v : ℕ} {w t : List ℕ} → Token w t → Spells w v → BeginsWithWord (w ++ t)

-- the text has this outcome and no other
pub record OneReading (line : ℕ) (text : List ℕ) (o : Outcome) : Type 0 where
  pub so : Reads line text o
  pub only : (p : Outcome) → Reads line text p → p ≡ o

abbrev pub EveryTextHasOneReading : Type 0
EveryTextHasOneReading = (line : ℕ) (text : List ℕ) → (o : Outcome) × OneReading line text o
