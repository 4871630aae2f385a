-- What the moves of a walk come to together. Assumes nothing.
use Rattle.std.proofs.Common.{◌≡◌, ℕ, ◌<◌, ◌⊎◌, List, [], ◌∷◌, length, get_or, replicate, refl, inl, inr, arith}
use Rattle.std.proofs.lemmas.List.{nil_from_length}
use Rattle.theory.specs.Walks.{In, further, none_done, bottom, nowhere, at_start}
use Rattle.theory.proofs.Impossible.{impossible}
use Rattle.theory.proofs.Members.{in_first, in_none}
use Rattle.walk.specs.declared.state.Color.TheVariants.{Untouched, Done}
use Rattle.walk.specs.declared.state.Frame.{Frame}
use Rattle.walk.specs.Progress.{Progress, stack_from, stack_of, on_stack, pushed}
use Rattle.walk.specs.Stands.{Stands, Touched, Reached, Onward, OnlyFrom}
use Rattle.walk.proofs.Members.{each_in, once_none}
use Rattle.walk.proofs.Colors.{blank_everywhere, on_stack_not_done, else_untouched}
use Rattle.walk.proofs.Moves.{push_stands}

pub no_frames : (frames : List Frame) → stack_from frames ≡ bottom → frames ≡ []
no_frames [] e = refl
no_frames (f ∷ below) e = impossible (cc)

module _ {edges : ℕ → List ℕ} {n : ℕ} where
  -- where nothing is touched
  pub nothing_stands : Stands edges n (record { colors = replicate 2048 Untouched; frames = []; done = [] })
  nothing_stands = record {
    in_order = none_done;
    walking = nowhere;
    painted = λ x. let e = blank_everywhere 2048 x in rw e (λ q. in_none x q, λ q. in_none x q);
    done_once = once_none;
    stack_once = once_none;
    done_below = λ x q. in_none x q;
    stack_below = λ x q. in_none x q;
  }

  pub onward_here : (p : Progress) → Stands edges n p → Onward edges n p p
  onward_here p s = record { stands = s; keeps_done = λ x q. q; keeps_stack = λ x q. inl q; no_more = λ x t. inl t }

  pub onward_then : {p p' p'' : Progress} → Onward edges n p p' → Onward edges n p' p'' → Onward edges n p p''
  onward_then {p} {p'} {p''} a b = record {
    stands = b.stands;
    keeps_done = λ x q. b.keeps_done x (a.keeps_done x q);
    keeps_stack = λ x q. elim (a.keeps_stack x q) [ inl r ↦ b.keeps_stack x r | inr r ↦ inr (b.keeps_done x r) ];
    no_more = λ x t. elim (b.no_more x t) [ inl r ↦ a.no_more x r | inr r ↦ inr (further_on x r (a.no_more r.from_node (inl r.stacked))) ];
  }
    where
      further_on : (x : ℕ) (r : Reached edges p' x) → Touched p r.from_node ⊎ Reached edges p r.from_node → Reached edges p x
      further_on x r (inl (inl q)) = record { from_node = r.from_node; stacked = q; route = r.route }
      further_on x r (inl (inr q)) = absurd (on_stack_not_done p' r.from_node _ (a.stands.painted r.from_node) r.stacked (a.keeps_done r.from_node q))
      further_on x r (inr q) = record { from_node = q.from_node; stacked = q.stacked; route = further q.route r.route }

  -- from an empty stack
  module _ (p : Progress) (start : ℕ) (empty : stack_of p ≡ bottom) where
    pub start_stands : Stands edges n p → start < n → start < length p.colors → (get_or p.colors start Untouched ≡ Done → ⊥) → Stands edges n (pushed start p)
    start_stands s low fits not_done =
        let blank = else_untouched p start _ (s.painted start) (λ q. in_none start (rw empty at q)) not_done in
        push_stands p s start low fits blank (rw empty (at_start {x = start} {k = 0} (λ j z l h. absurd (omega arith))))

    -- whatever the walk has touched since is the start, or edges lead to it from there
    pub start_only : {p' : Progress} → Onward edges n (pushed start p) p' → OnlyFrom edges start p p'
    start_only onward x t = elim (onward.no_more x t) [
      | inl (inl q) ↦ inr (inl (is_start x q))
      | inl (inr q) ↦ inl q
      | inr r ↦ inr (inr (let e = is_start r.from_node r.stacked in rw e at r.route))
    ]
      where
        is_start : (x : ℕ) → In x (start ∷ on_stack p) → x ≡ start
        is_start = each_in (λ x. x ≡ start) start (on_stack p) refl (λ x q. in_none x (rw empty at q))

    -- the start is done where nothing is left on the stack
    pub start_done : {p' : Progress} → Onward edges n (pushed start p) p' → length p'.frames ≡ 0 → In start p'.done
    start_done onward ended =
        let none = nil_from_length _ ended in
        elim (onward.keeps_stack start (in_first start (on_stack p) refl)) [ inl q ↦ in_none start (rw none at q) | inr q ↦ q ]
