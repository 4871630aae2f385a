-- Every position of a plan has exactly one reading. Assumes nothing.
use Rattle.std.proofs.Common.{◌≡◌, ℕ, ◌+◌, ◌-◌, ◌^◌, ◌<◌, Bool, true, false, List, [], ◌∷◌, ◌++◌, length, take, drop, replicate, sym, refl, ap, ◌∙◌, arith, length-append, take-append-drop}
use Rattle.std.proofs.Math.Decide.{dec_lt}
use Rattle.std.proofs.lemmas.List.{length-replicate}
use Rattle.std.proofs.lemmas.List.{take_at, length-take-le}
use Rattle.theory.specs.Meaning.{Meaning, SmallCodes}
use Rattle.plan.specs.declared.refusal.Refusal.TheVariants.{NotAnItem, NoSuchCode, CutShort}
use Rattle.plan.specs.Items.{Item, unknown, term, link, first_word, written, Proper}
use Rattle.plan.specs.Reading.{First, of_unknown, of_term, of_link, Reading, item, refused, ended, Begins, at_end, at_item, at_other, at_code, at_part, span, Stands, OneReading}
use Rattle.plan.proofs.Heads.{Head, unknown_head, term_head, link_head, other_head, head_of}

-- the reading of a link: the two words that follow its first
abbrev pub link_reading : List ℕ → Reading
link_reading [] = refused CutShort
link_reading (a ∷ []) = refused CutShort
link_reading (a ∷ b ∷ rest) = item (link a b)

abbrev pub term_reading : (code places : ℕ) (rest : List ℕ) → Bool → Dec (length rest < places) → Reading
term_reading code places rest false d = refused (NoSuchCode code)
term_reading code places rest true (yes h) = refused CutShort
term_reading code places rest true (no h) = item (term code (take places rest))

-- the reading of words that begin with a word of a head
abbrev reading : Meaning → {word : ℕ} (rest : List ℕ) → Head word → Reading
reading m rest (unknown_head set h e) = item (unknown set)
reading m rest (term_head code h e) = term_reading code (m.places code) rest (m.known code) (dec_lt (length rest) (m.places code))
reading m rest (link_head e) = link_reading rest
reading m rest (other_head n) = refused NotAnItem

term_whole : (code places : ℕ) (cells after rest : List ℕ) (known : Bool) (short : Dec (length rest < places)) → known ≡ true → length cells ≡ places → rest ≡ cells ++ after →
    item (term code cells) ≡ term_reading code places rest known short
term_whole code places cells after rest false short k l e = let z : ◌≡◌ {A = ℕ} 0 1 = cc in absurd (omega arith)
term_whole code places cells after rest true (yes h) k l e = absurd (omega (arith, ap length e, length-append cells after))
term_whole code places cells after rest true (no h) k l e = let t = take_at cells after places l in cc

term_part : (code places : ℕ) (rest : List ℕ) (known : Bool) (short : Dec (length rest < places)) → known ≡ true → length rest < places →
    refused CutShort ≡ term_reading code places rest known short
term_part code places rest false short k l = let z : ◌≡◌ {A = ℕ} 0 1 = cc in absurd (omega arith)
term_part code places rest true (yes h) k l = refl
term_part code places rest true (no h) k l = absurd (h l)

term_unknown : (code places : ℕ) (rest : List ℕ) (known : Bool) (short : Dec (length rest < places)) → known ≡ false →
    refused (NoSuchCode code) ≡ term_reading code places rest known short
term_unknown code places rest false short k = refl
term_unknown code places rest true short k = let z : ◌≡◌ {A = ℕ} 0 1 = cc in absurd (omega arith)

link_part : (words : List ℕ) → length words < 2 → refused CutShort ≡ link_reading words
link_part [] h = refl
link_part (a ∷ []) h = refl
link_part (a ∷ b ∷ rest) h = absurd (omega arith)

-- what stands there is the reading, by each rule
module _ (m : Meaning) (small : SmallCodes m) (word : ℕ) (rest : List ℕ) where
  item_read : (i : Item) (after : List ℕ) → Proper m i → word ∷ rest ≡ written i ++ after → (h : Head word) → item i ≡ reading m rest h
  item_read (unknown set) after p e (unknown_head other h f) =
      let w : word ≡ first_word 0x11 set = cc in
      let s : set ≡ other = omega arith in cc
  item_read (unknown set) after p e (term_head code h f) = let w : word ≡ first_word 0x11 set = cc in absurd (omega arith)
  item_read (unknown set) after p e (link_head f) = let w : word ≡ first_word 0x11 set = cc in absurd (omega arith)
  item_read (unknown set) after p e (other_head n) = absurd (n (of_unknown set p (cc)))
  item_read (term code cells) after p e (unknown_head set h f) = let w : word ≡ first_word 0x12 code = cc in absurd (omega arith)
  item_read (term code cells) after p e (term_head other h f) =
      let w : word ≡ first_word 0x12 code = cc in
      let s : code ≡ other = omega arith in
      ap (λ (c : ℕ). item (term c cells)) s
      ∙ term_whole other (m.places other) cells after rest (m.known other) (dec_lt (length rest) (m.places other)) (let k = p.0 in cc) (let l = p.1 in cc) (cc)
  item_read (term code cells) after p e (link_head f) = let w : word ≡ first_word 0x12 code = cc in let b = small code p.0 in absurd (omega arith)
  item_read (term code cells) after p e (other_head n) = absurd (n (of_term code (small code p.0) (cc)))
  item_read (link a b) after p e (unknown_head set h f) = let w : word ≡ first_word 0x13 0 = cc in absurd (omega arith)
  item_read (link a b) after p e (term_head code h f) = let w : word ≡ first_word 0x13 0 = cc in absurd (omega arith)
  item_read (link a b) after p e (link_head f) = let r : rest ≡ a ∷ b ∷ after = cc in rw r refl
  item_read (link a b) after p e (other_head n) = absurd (n (of_link (cc)))

  part_read : (i : Item) (missing : ℕ) (others : List ℕ) → Proper m i → written i ≡ (word ∷ rest) ++ (missing ∷ others) → (h : Head word) → refused CutShort ≡ reading m rest h
  part_read (unknown set) missing others p e h =
      let f : [] ≡ rest ++ (missing ∷ others) = cc in absurd (omega (arith, ap length f, length-append rest (missing ∷ others)))
  part_read (term code cells) missing others p e (unknown_head set h f) = let w : word ≡ first_word 0x12 code = cc in absurd (omega arith)
  part_read (term code cells) missing others p e (term_head other h f) =
      let w : word ≡ first_word 0x12 code = cc in
      let s : code ≡ other = omega arith in
      let c : cells ≡ rest ++ (missing ∷ others) = cc in
      let n : m.places other ≡ length cells = (let l = p.1 in cc) in
      term_part other (m.places other) rest (m.known other) (dec_lt (length rest) (m.places other)) (let k = p.0 in cc) (omega (arith, ap length c, length-append rest (missing ∷ others)))
  part_read (term code cells) missing others p e (link_head f) = let w : word ≡ first_word 0x12 code = cc in let b = small code p.0 in absurd (omega arith)
  part_read (term code cells) missing others p e (other_head n) = absurd (n (of_term code (small code p.0) (cc)))
  part_read (link a b) missing others p e (unknown_head set h f) = let w : word ≡ first_word 0x13 0 = cc in absurd (omega arith)
  part_read (link a b) missing others p e (term_head code h f) = let w : word ≡ first_word 0x13 0 = cc in absurd (omega arith)
  part_read (link a b) missing others p e (link_head f) =
      let g : a ∷ b ∷ [] ≡ rest ++ (missing ∷ others) = cc in link_part rest (omega (arith, ap length g, length-append rest (missing ∷ others)))
  part_read (link a b) missing others p e (other_head n) = absurd (n (of_link (cc)))

  other_read : (First word → ⊥) → (h : Head word) → refused NotAnItem ≡ reading m rest h
  other_read n (unknown_head set h f) = absurd (n (of_unknown set h f))
  other_read n (term_head code h f) = absurd (n (of_term code h f))
  other_read n (link_head f) = absurd (n (of_link f))
  other_read n (other_head o) = refl

  code_read : (code : ℕ) → code < 2 ^ 24 → m.known code ≡ false → word ≡ first_word 0x12 code → (h : Head word) → refused (NoSuchCode code) ≡ reading m rest h
  code_read code b k e (unknown_head set h f) = absurd (omega arith)
  code_read code b k e (term_head other h f) =
      let s : code ≡ other = omega arith in
      ap (λ (c : ℕ). refused (NoSuchCode c)) s ∙ term_unknown other (m.places other) rest (m.known other) (dec_lt (length rest) (m.places other)) (cc)
  code_read code b k e (link_head f) = absurd (omega arith)
  code_read code b k e (other_head n) = absurd (n (of_term code b e))

  pub begins_read : {r : Reading} → Begins m (word ∷ rest) r → (h : Head word) → r ≡ reading m rest h
  begins_read (at_item {i = i} after p e) h = item_read i after p e h
  begins_read (at_other n) h = other_read n h
  begins_read (at_code {code = code} b k e) h = code_read code b k e h
  begins_read (at_part i missing others p e) h = part_read i missing others p e h

-- words begin with one reading only
pub begins_once : (m : Meaning) → SmallCodes m → (words : List ℕ) {r q : Reading} → Begins m words r → Begins m words q → r ≡ q
begins_once m small [] r q = ended_read r ∙ sym (ended_read q)
  where
    ended_read : {r : Reading} → Begins m [] r → r ≡ ended
    ended_read at_end = refl
    ended_read (at_item {i = i} after p e) = let z = ap length e in absurd (omega arith)
begins_once m small (word ∷ rest) r q = begins_read m small word rest r (head_of word) ∙ sym (begins_read m small word rest q (head_of word))

padded : (rest : List ℕ) (places : ℕ) → length rest < places → (missing : ℕ) × (others : List ℕ) × (length (rest ++ (missing ∷ others)) ≡ places)
padded rest places h =
    (0, replicate (places - (length rest + 1)) 0, length-append rest (0 ∷ replicate (places - (length rest + 1)) 0) ∙ (let n : length (replicate {A = ℕ} (places - (length rest + 1)) 0) ≡ places - (length rest + 1) = length-replicate (places - (length rest + 1)) 0 in omega arith))

-- words that begin with a head begin with its reading
module _ (m : Meaning) (word : ℕ) (rest : List ℕ) where
  pub term_begins : (code : ℕ) → code < 2 ^ 24 → word ≡ first_word 0x12 code → (known : Bool) → m.known code ≡ known → (short : Dec (length rest < m.places code)) →
      Begins m (word ∷ rest) (term_reading code (m.places code) rest known short)
  term_begins code b e false k short = at_code b k e
  term_begins code b e true k (yes h) = let p = padded rest (m.places code) h in at_part (term code (rest ++ (p.0 ∷ p.1))) p.0 p.1 (k, p.2) (cc)
  term_begins code b e true k (no h) =
      let t = take-append-drop (m.places code) rest in
      at_item (drop (m.places code) rest) (k, length-take-le (m.places code) rest (omega arith)) (cc)

  pub link_begins : word ≡ first_word 0x13 0 → (words : List ℕ) → rest ≡ words → Begins m (word ∷ rest) (link_reading words)
  link_begins e [] f = at_part (link 0 0) 0 (0 ∷ []) tt (cc)
  link_begins e (a ∷ []) f = at_part (link a 0) 0 [] tt (cc)
  link_begins e (a ∷ b ∷ more) f = at_item more tt (cc)

  pub reading_begins : (h : Head word) → Begins m (word ∷ rest) (reading m rest h)
  reading_begins (unknown_head set h e) = at_item rest h (cc)
  reading_begins (term_head code h e) = term_begins code h e (m.known code) refl (dec_lt (length rest) (m.places code))
  reading_begins (link_head e) = link_begins e rest refl
  reading_begins (other_head n) = at_other n

-- all words begin with a reading
pub begins_some : (m : Meaning) (words : List ℕ) → (r : Reading) × Begins m words r
begins_some m [] = (ended, at_end)
begins_some m (word ∷ rest) = (reading m rest (head_of word), reading_begins m word rest (head_of word))

pub stands_once : (m : Meaning) → SmallCodes m → (words : List ℕ) (position : ℕ) (r q : Reading) (next after : ℕ) → Stands m words position r next → Stands m words position q after →
    (q ≡ r) × (after ≡ next)
stands_once m small words position r q next after a b =
    let e : q ≡ r = begins_once m small (drop position words) b.begins a.begins in
    let f = b.onward in let g = a.onward in (e, cc)

pub one_reading : OneReading
one_reading m small words position =
    let b = begins_some m (drop position words) in
    let s : Stands m words position b.0 (position + span b.0) = record { begins = b.1; onward = refl } in
    (b.0, position + span b.0, s, λ other after o. stands_once m small words position b.0 other (position + span b.0) after s o)
