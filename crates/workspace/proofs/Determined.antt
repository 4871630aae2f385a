-- Each call has one answer. Assumes nothing.
use Rattle.std.proofs.Common.{◌≡◌, ℕ, ◌+◌, ◌<◌, ◌≤◌, Bool, true, false, ◌⊎◌, List, [], ◌∷◌, ◌++◌, length, drop, Ok, Err, Result, refl, ap, inl, inr, arith}
use Rattle.std.proofs.Math.Decide.{ℕ_discrete, dec_lt, dec_le}
use Rattle.theory.specs.Meaning.{Meaning, Lawful, Admits}
use Rattle.theory.specs.States.{State, Standing, Formed, with_equation}
use Rattle.theory.specs.Verdicts.{Verdict, certified, clashes, barred}
use Rattle.theory.specs.Listings.{Listing}
use Rattle.theory.proofs.Impossible.{impossible}
use Rattle.theory.proofs.BoundedSearch.{common_code_or_none}
use Rattle.theory.proofs.StatesStayFormed.{formed_laws}
use Rattle.theory.proofs.Verdicts.{every_state_has_a_verdict}
use Rattle.theory.proofs.HeldPairwise.{consistent_pairwise}
use Rattle.theory.proofs.ListingExists.{listing_exists}
use Rattle.theory.proofs.ListingIsUnique.{listing_is_unique}
use Rattle.theory.proofs.Soundness.{joined_terms_agree}
use Rattle.theory.proofs.JoinedLists.{joined_lists_reflexive}
use Rattle.workspace.specs.declared.fault.Fault.{Fault}
use Rattle.workspace.specs.declared.fault.Fault.TheVariants.{Full, NoSuchCell}
use Rattle.workspace.specs.Calls.{most_cells, most_places, places_in, Stands, FirstMissing, HasCode, Room, UnknownCall, unknown_full, unknown_no_code, unknown_made, TermCall, term_no_code, term_wrong_count, term_no_cell, term_full, term_made, JoinCall, join_no_cell, join_no_types, join_no_classes, join_accepted, ShowCall, show_no_cell, show_no_room, show_written}
use Rattle.workspace.specs.Promise.{Same, Determined, CallsHaveOneAnswer}
use Rattle.workspace.proofs.Missing.{standing_none, standing_next, standing_first, standing_rest, standing_or_missing, missing_stands_not, missing_once}
use Rattle.workspace.proofs.Certified.{Certified, assigned, reached_certified}

pub same : {A B : Type 0} {r : A} {t : B} → Same r r t t
same = record { answer = refl; left = refl }

-- two refusals that name one cell are one
pub same_cell : {A B : Type 0} (c d : ℕ) (t : B) → c ≡ d → Same {A = Result A Fault} (Err (NoSuchCell c)) (Err (NoSuchCell d)) t t
same_cell c d t e = record { answer = ap (λ (x : ℕ). Err (NoSuchCell x)) e; left = refl }

module _ (m : Meaning) (lawful : Lawful m) (s : State) where
  unknown_some : (set : ℕ) → Dec (length s.cells < most_cells) → HasCode m set ⊎ ((c : ℕ) → m.known c ≡ true → Admits m set c → ⊥) →
      (r : Result ℕ Fault) × (t : State) × UnknownCall m s set r t
  unknown_some set (no n) code = (Err Full, s, unknown_full (omega arith))
  unknown_some set (yes h) (inl code) = (_, _, unknown_made h code)
  unknown_some set (yes h) (inr none) = (_, _, unknown_no_code h (λ c. none c.0 c.1 c.2))

  unknown_one : (set : ℕ) (r q : Result ℕ Fault) (t u : State) → UnknownCall m s set r t → UnknownCall m s set q u → Same r q t u
  unknown_one set r q t u (unknown_full a) (unknown_full b) = same
  unknown_one set r q t u (unknown_full a) (unknown_no_code b n) = absurd (omega arith)
  unknown_one set r q t u (unknown_full a) (unknown_made b c) = absurd (omega arith)
  unknown_one set r q t u (unknown_no_code a n) (unknown_full b) = absurd (omega arith)
  unknown_one set r q t u (unknown_no_code a n) (unknown_no_code b k) = same
  unknown_one set r q t u (unknown_no_code a n) (unknown_made b c) = absurd (n c)
  unknown_one set r q t u (unknown_made a c) (unknown_full b) = absurd (omega arith)
  unknown_one set r q t u (unknown_made a c) (unknown_no_code b n) = absurd (n c)
  unknown_one set r q t u (unknown_made a c) (unknown_made b d) = same

  decide_room : (cells : List ℕ) → Dec (length s.cells < most_cells) → Dec (places_in s.cells + length cells ≤ most_places) → Dec (Room s cells)
  decide_room cells (yes a) (yes b) = yes (record { for_cell = a; for_places = b })
  decide_room cells (no n) b = no (λ r. n r.for_cell)
  decide_room cells (yes a) (no n) = no (λ r. n r.for_places)

  term_some : (code : ℕ) (cells : List ℕ) (known : Bool) → m.known code ≡ known → Dec (length cells ≡ m.places code) → Standing s cells ⊎ ((cell : ℕ) × FirstMissing s cells cell) → Dec (Room s cells) →
      (r : Result ℕ Fault) × (t : State) × TermCall m s code cells r t
  term_some code cells false k e f room = (_, _, term_no_code k)
  term_some code cells true k (no n) f room = (_, _, term_wrong_count k n)
  term_some code cells true k (yes e) (inr f) room = (_, _, term_no_cell k e f.0 f.1)
  term_some code cells true k (yes e) (inl h) (no n) = (_, _, term_full k e h n)
  term_some code cells true k (yes e) (inl h) (yes r) = (_, _, term_made k e h r)

  term_one : (code : ℕ) (cells : List ℕ) (r q : Result ℕ Fault) (t u : State) → TermCall m s code cells r t → TermCall m s code cells q u → Same r q t u
  term_one code cells r q t u (term_no_code ak) (term_no_code bk) = same
  term_one code cells r q t u (term_no_code ak) (term_wrong_count bk bn) = impossible (cc)
  term_one code cells r q t u (term_no_code ak) (term_no_cell bk be bc bf) = impossible (cc)
  term_one code cells r q t u (term_no_code ak) (term_full bk be bh bn) = impossible (cc)
  term_one code cells r q t u (term_no_code ak) (term_made bk be bh br) = impossible (cc)
  term_one code cells r q t u (term_wrong_count ak an) (term_no_code bk) = impossible (cc)
  term_one code cells r q t u (term_wrong_count ak an) (term_wrong_count bk bn) = same
  term_one code cells r q t u (term_wrong_count ak an) (term_no_cell bk be bc bf) = absurd (an be)
  term_one code cells r q t u (term_wrong_count ak an) (term_full bk be bh bn) = absurd (an be)
  term_one code cells r q t u (term_wrong_count ak an) (term_made bk be bh br) = absurd (an be)
  term_one code cells r q t u (term_no_cell ak ae ac af) (term_no_code bk) = impossible (cc)
  term_one code cells r q t u (term_no_cell ak ae ac af) (term_wrong_count bk bn) = absurd (bn ae)
  term_one code cells r q t u (term_no_cell ak ae ac af) (term_no_cell bk be bc bf) = same_cell ac bc s (missing_once s cells ac bc af bf)
  term_one code cells r q t u (term_no_cell ak ae ac af) (term_full bk be bh bn) = absurd (missing_stands_not s cells ac af bh)
  term_one code cells r q t u (term_no_cell ak ae ac af) (term_made bk be bh br) = absurd (missing_stands_not s cells ac af bh)
  term_one code cells r q t u (term_full ak ae ah an) (term_no_code bk) = impossible (cc)
  term_one code cells r q t u (term_full ak ae ah an) (term_wrong_count bk bn) = absurd (bn ae)
  term_one code cells r q t u (term_full ak ae ah an) (term_no_cell bk be bc bf) = absurd (missing_stands_not s cells bc bf ah)
  term_one code cells r q t u (term_full ak ae ah an) (term_full bk be bh bn) = same
  term_one code cells r q t u (term_full ak ae ah an) (term_made bk be bh br) = absurd (an br)
  term_one code cells r q t u (term_made ak ae ah ar) (term_no_code bk) = impossible (cc)
  term_one code cells r q t u (term_made ak ae ah ar) (term_wrong_count bk bn) = absurd (bn ae)
  term_one code cells r q t u (term_made ak ae ah ar) (term_no_cell bk be bc bf) = absurd (missing_stands_not s cells bc bf ah)
  term_one code cells r q t u (term_made ak ae ah ar) (term_full bk be bh bn) = absurd (bn ar)
  term_one code cells r q t u (term_made ak ae ah ar) (term_made bk be bh br) = same

  both_stand : (left right : ℕ) → Stands s left → Stands s right → Standing s (left ∷ right ∷ [])
  both_stand left right a b = standing_next s left (right ∷ []) a (standing_next s right [] b (standing_none s))

  join_by : (left right : ℕ) → Stands s left → Stands s right → Formed m (with_equation s left right) → Verdict m (with_equation s left right) →
      (r : Result (Unit {0}) Fault) × (t : State) × JoinCall m s left right r t
  join_by left right a b formed (certified label rank shape c k) =
      let p = assigned m lawful (with_equation s left right) (record { formed = formed; label = label; rank = rank; shape = shape; certificate = c; admitted = k }) in
      (_, _, join_accepted a b p.0 p.1)
  join_by left right a b formed (clashes none) = (_, _, join_no_types a b none)
  join_by left right a b formed (barred type_of u none) = (_, _, join_no_classes a b type_of u none)

  join_some : (left right : ℕ) → Formed m s → Standing s (left ∷ right ∷ []) ⊎ ((cell : ℕ) × FirstMissing s (left ∷ right ∷ []) cell) →
      (r : Result (Unit {0}) Fault) × (t : State) × JoinCall m s left right r t
  join_some left right formed (inr f) = (_, _, join_no_cell f.0 f.1)
  join_some left right formed (inl h) =
      let a = standing_first s left (right ∷ []) h in
      let b = standing_first s right [] (standing_rest s left (right ∷ []) h) in
      let formed' = (formed_laws m).equation s left right formed a b in
      join_by left right a b formed' (every_state_has_a_verdict lawful formed')

  join_one : (left right : ℕ) (r q : Result (Unit {0}) Fault) (t u : State) → JoinCall m s left right r t → JoinCall m s left right q u → Same r q t u
  join_one left right r q t u (join_no_cell ac af) (join_no_cell bc bf) = same_cell ac bc s (missing_once s (left ∷ right ∷ []) ac bc af bf)
  join_one left right r q t u (join_no_cell ac af) (join_no_types bl br bnone) = absurd (missing_stands_not s (left ∷ right ∷ []) ac af (both_stand left right bl br))
  join_one left right r q t u (join_no_cell ac af) (join_no_classes bl br bty bu bnone) = absurd (missing_stands_not s (left ∷ right ∷ []) ac af (both_stand left right bl br))
  join_one left right r q t u (join_no_cell ac af) (join_accepted bl br bty bas) = absurd (missing_stands_not s (left ∷ right ∷ []) ac af (both_stand left right bl br))
  join_one left right r q t u (join_no_types al ar anone) (join_no_cell bc bf) = absurd (missing_stands_not s (left ∷ right ∷ []) bc bf (both_stand left right al ar))
  join_one left right r q t u (join_no_types al ar anone) (join_no_types bl br bnone) = same
  join_one left right r q t u (join_no_types al ar anone) (join_no_classes bl br bty bu bnone) = absurd (anone bty bu)
  join_one left right r q t u (join_no_types al ar anone) (join_accepted bl br bty bas) = absurd (anone bty bas.unclassed)
  join_one left right r q t u (join_no_classes al ar aty au anone) (join_no_cell bc bf) = absurd (missing_stands_not s (left ∷ right ∷ []) bc bf (both_stand left right al ar))
  join_one left right r q t u (join_no_classes al ar aty au anone) (join_no_types bl br bnone) = absurd (bnone aty au)
  join_one left right r q t u (join_no_classes al ar aty au anone) (join_no_classes bl br bty bu bnone) = same
  join_one left right r q t u (join_no_classes al ar aty au anone) (join_accepted bl br bty bas) = absurd (anone bty bas)
  join_one left right r q t u (join_accepted al ar aty aas) (join_no_cell bc bf) = absurd (missing_stands_not s (left ∷ right ∷ []) bc bf (both_stand left right al ar))
  join_one left right r q t u (join_accepted al ar aty aas) (join_no_types bl br bnone) = absurd (bnone aty aas.unclassed)
  join_one left right r q t u (join_accepted al ar aty aas) (join_no_classes bl br bty bu bnone) = absurd (bnone aty aas)
  join_one left right r q t u (join_accepted al ar aty aas) (join_accepted bl br bty bas) = same

  one_listing : Certified m s → (cells words words' : List ℕ) → Listing m s cells words → Listing m s cells words' → words ≡ words'
  one_listing k cells words words' x y =
      let p = assigned m lawful s k in
      listing_is_unique lawful k.formed (joined_terms_agree lawful p.1.unclassed) (joined_lists_reflexive cells) x y

  show_by : (cells buffer words : List ℕ) → Standing s cells → Listing m s cells words → Dec (length words ≤ length buffer) → (r : Result ℕ Fault) × (after : List ℕ) × ShowCall m s cells buffer r after
  show_by cells buffer words h l (yes fits) = (_, _, show_written h words l fits)
  show_by cells buffer words h l (no n) = (_, _, show_no_room h words l (omega arith))

  show_some : (cells buffer : List ℕ) → Certified m s → Standing s cells ⊎ ((cell : ℕ) × FirstMissing s cells cell) → (r : Result ℕ Fault) × (after : List ℕ) × ShowCall m s cells buffer r after
  show_some cells buffer k (inr f) = (_, _, show_no_cell f.0 f.1)
  show_some cells buffer k (inl h) =
      let l = listing_exists lawful k.formed (consistent_pairwise lawful k.certificate.consistent) k.certificate.label_joined cells in
      show_by cells buffer l.0 h l.1 (dec_le (length l.0) (length buffer))

  written_same : (buffer words words' : List ℕ) → words ≡ words' → Same {A = Result ℕ Fault} (Ok (length words)) (Ok (length words')) (words ++ drop (length words) buffer) (words' ++ drop (length words') buffer)
  written_same buffer words words' e = record { answer = ap (λ (w : List ℕ). Ok (length w)) e; left = ap (λ (w : List ℕ). w ++ drop (length w) buffer) e }

  show_one : Certified m s → (cells buffer : List ℕ) (r q : Result ℕ Fault) (after after' : List ℕ) → ShowCall m s cells buffer r after → ShowCall m s cells buffer q after' → Same r q after after'
  show_one k cells buffer r q after after' (show_no_cell ac af) (show_no_cell bc bf) = same_cell ac bc buffer (missing_once s cells ac bc af bf)
  show_one k cells buffer r q after after' (show_no_cell ac af) (show_no_room bh bw bl bn) = absurd (missing_stands_not s cells ac af bh)
  show_one k cells buffer r q after after' (show_no_cell ac af) (show_written bh bw bl bn) = absurd (missing_stands_not s cells ac af bh)
  show_one k cells buffer r q after after' (show_no_room ah aw al an) (show_no_cell bc bf) = absurd (missing_stands_not s cells bc bf ah)
  show_one k cells buffer r q after after' (show_no_room ah aw al an) (show_no_room bh bw bl bn) = same
  show_one k cells buffer r q after after' (show_no_room ah aw al an) (show_written bh bw bl bn) = let e : length aw ≡ length bw = ap length (one_listing k cells aw bw al bl) in absurd (omega arith)
  show_one k cells buffer r q after after' (show_written ah aw al an) (show_no_cell bc bf) = absurd (missing_stands_not s cells bc bf ah)
  show_one k cells buffer r q after after' (show_written ah aw al an) (show_no_room bh bw bl bn) = let e : length aw ≡ length bw = ap length (one_listing k cells aw bw al bl) in absurd (omega arith)
  show_one k cells buffer r q after after' (show_written ah aw al an) (show_written bh bw bl bn) = written_same buffer aw bw (one_listing k cells aw bw al bl)

  pub determined : Certified m s → Determined m s
  determined k = record {
    unknown_some = λ set. unknown_some set (dec_lt (length s.cells) most_cells) (common_code_or_none lawful set);
    unknown_one = unknown_one;
    term_some = λ code cells. term_some code cells (m.known code) refl (ℕ_discrete (length cells) (m.places code)) (standing_or_missing s cells)
        (decide_room cells (dec_lt (length s.cells) most_cells) (dec_le (places_in s.cells + length cells) most_places));
    term_one = term_one;
    join_some = λ left right. join_some left right k.formed (standing_or_missing s (left ∷ right ∷ []));
    join_one = join_one;
    show_some = λ cells buffer. show_some cells buffer k (standing_or_missing s cells);
    show_one = show_one k;
  }

pub calls_have_one_answer : CallsHaveOneAnswer
calls_have_one_answer m lawful s h = determined m lawful s (reached_certified m lawful s h)
