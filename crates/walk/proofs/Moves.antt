-- Each move of a walk keeps what stands of it, loses no node, and leaves less to do. Assumes nothing.
use Rattle.std.proofs.Common.{◌≡◌, ℕ, suc, ◌+◌, ◌<◌, ◌≤◌, ◌⊎◌, List, [], ◌∷◌, length, drop, get_or, Some, None, sym, refl, ap, inl, inr, arith, add-one}
use Rattle.std.specs.List.{slice_get}
use Rattle.std.proofs.lemmas.Bool.{cases_lt}
use Rattle.std.proofs.lemmas.Grind.{common_steps}
use Rattle.std.proofs.lemmas.List.{get_or_past}
use Rattle.std.proofs.lemmas.Option.{gets}
use Rattle.theory.specs.Walks.{In, edge, frame, nodes, Walking, WalkLaws}
use Rattle.theory.proofs.Lookups.{nth_below}
use Rattle.theory.proofs.Members.{in_first, in_rest}
use Rattle.theory.proofs.WalkMoves.{walk_laws}
use Rattle.walk.specs.declared.state.Color.TheVariants.{Untouched, OnStack, Done}
use Rattle.walk.specs.declared.state.Frame.{Frame}
use Rattle.walk.specs.Progress.{Progress, stack_from, stack_of, on_stack, pushed, advanced, popped}
use Rattle.walk.specs.Stands.{Small, Colored, Stands, Touched, Reached, Onward, left}
use Rattle.walk.proofs.Members.{each_in, in_others, once_more, once_rest, once_first, both_few}
use Rattle.walk.proofs.Colors.{on_stack_not_done, same_color, painted_anew, fewer_untouched, no_more_untouched}

length-nodes : (frames : List Frame) → length (nodes (stack_from frames)) ≡ length frames
length-nodes [] = refl
length-nodes (f ∷ below) = ap suc (length-nodes below)

pub no_edge_left : (xs : List ℕ) (k : ℕ) → slice_get xs k ≡ None → length xs ≤ k
no_edge_left xs k e = grind (arith, common_steps, gets)

module _ {edges : ℕ → List ℕ} {n : ℕ} where
  -- the frames and the nodes that are done are together no more than the nodes
  room : (p : Progress) → Stands edges n p → length p.frames + length p.done ≤ n
  room p s =
      let few = both_few n (on_stack p) p.done s.stack_once s.done_once (λ x q r. on_stack_not_done p x _ (s.painted x) q r) s.stack_below s.done_below in
      let l = length-nodes p.frames in
      omega arith

  module _ (p : Progress) (s : Stands edges n p) where
    pub push_stands : (y : ℕ) → y < n → y < length p.colors → get_or p.colors y Untouched ≡ Untouched → Walking edges p.done (frame y 0 (stack_of p)) → Stands edges n (pushed y p)
    push_stands y y< fits blank walking =
        let fresh = rw blank at (s.painted y) in
        record {
          in_order = s.in_order;
          walking = walking;
          painted = painted_anew p.colors y fits OnStack (Colored (pushed y p)) (in_first y (on_stack p) refl, fresh.0)
              (λ x ne. same_color p (pushed y p) x _ (λ q. q, λ q. q) (λ q. in_rest x y (on_stack p) q, λ q. in_others x y (on_stack p) ne q) (s.painted x));
          done_once = s.done_once;
          stack_once = once_more y (on_stack p) fresh.1 s.stack_once;
          done_below = s.done_below;
          stack_below = each_in (λ x. x < n) y (on_stack p) y< s.stack_below;
        }

    module _ {top : Frame} (is_top : p.frames ≡ top ∷ drop 1 p.frames) where
      abbrev below : List Frame
      below = drop 1 p.frames

      abbrev lower : List ℕ
      lower = nodes (stack_from below)

      abbrev Step : Progress → Type 0
      Step p' = Onward edges n p p' × (left p' < left p)

      laws : WalkLaws edges p.done top.node top.edge (stack_from below)
      laws = walk_laws edges p.done top.node top.edge (stack_from below) (rw is_top at s.walking)

      top_in : In top.node (on_stack p)
      top_in = rw is_top (in_first top.node lower refl)

      pub top_below : top.node < n
      top_below = s.stack_below top.node top_in

      pub done_room : length p.done < n
      done_room = let h = room p s in let l = ap length is_top in omega arith

      top_colored : top.node < length p.colors
      top_colored = elim (cases_lt top.node (length p.colors)) [ inl l ↦ l | inr past ↦ absurd (let blank = get_or_past p.colors top.node Untouched past in (rw blank at (s.painted top.node)).1 top_in) ]

      pub pop_steps : None ≡ slice_get (edges top.node) top.edge → Step (popped top p)
      pop_steps none =
          let stacked_once = rw is_top at s.stack_once in
          let both = laws.pops (no_edge_left (edges top.node) top.edge (sym none)) s.in_order in
          let fewer = no_more_untouched p.colors top.node top_colored in (
            record {
              stands = record {
                in_order = both.0;
                walking = both.1;
                painted = painted_anew p.colors top.node top_colored Done (Colored (popped top p)) (in_first top.node p.done refl, once_first top.node lower stacked_once)
                    (λ x ne. same_color p (popped top p) x _ (λ q. in_rest x top.node p.done q, λ q. in_others x top.node p.done ne q)
                    (λ q. in_others x top.node lower ne (rw is_top at q), λ q. rw is_top (in_rest x top.node lower q)) (s.painted x));
                done_once = once_more top.node p.done (on_stack_not_done p top.node _ (s.painted top.node) top_in) s.done_once;
                stack_once = once_rest top.node lower stacked_once;
                done_below = each_in (λ x. x < n) top.node p.done top_below s.done_below;
                stack_below = λ x q. s.stack_below x (rw is_top (in_rest x top.node lower q));
              };
              keeps_done = λ x q. in_rest x top.node p.done q;
              keeps_stack = λ x q. each_in (Touched (popped top p)) top.node lower (inr (in_first top.node p.done refl)) (λ z r. inl r) x (rw is_top at q);
              no_more = λ x t. inl (elim t [
                | inl q ↦ inl (rw is_top (in_rest x top.node lower q))
                | inr q ↦ each_in (Touched p) top.node p.done (inl top_in) (λ z r. inr r) x q
              ]);
            },
            rw is_top (omega arith),
          )

      module _ (small : Small edges n) {y : ℕ} (leads' : Some y ≡ slice_get (edges top.node) top.edge) where
        leads : slice_get (edges top.node) top.edge ≡ Some y
        leads = sym leads'

        pub edge_low : top.edge < 9
        edge_low = let few = small.few_edges top.node top_below in let k< = nth_below (edges top.node) top.edge leads in omega arith

        pub next_below : y < n
        next_below = small.closed top.node top.edge y top_below leads

        pub advance_steps : In y p.done → Step (advanced top p)
        advance_steps y_done =
            let low = edge_low in (
              record {
                stands = record {
                  in_order = s.in_order;
                  walking = rw add-one (laws.advances y leads y_done);
                  painted = λ x. same_color p (advanced top p) x _ (λ q. q, λ q. q) (λ q. rw is_top at q, λ q. rw is_top q) (s.painted x);
                  done_once = s.done_once;
                  stack_once = rw is_top at s.stack_once;
                  done_below = s.done_below;
                  stack_below = rw is_top at s.stack_below;
                };
                keeps_done = λ x q. q;
                keeps_stack = λ x q. inl (rw is_top at q);
                no_more = λ x t. inl (elim t [ inl q ↦ inl (rw is_top q) | inr q ↦ inr q ]);
              },
              rw is_top (omega arith),
            )

        module _ (fits : y < length p.colors) (blank : get_or p.colors y Untouched ≡ Untouched) where
          next_stands : Stands edges n (pushed y p)
          next_stands = push_stands y next_below fits blank (rw is_top (laws.pushes y leads))

          pub frames_room : length p.frames < n
          frames_room = let h = room (pushed y p) next_stands in omega arith

          pub push_steps : Step (pushed y p)
          push_steps =
              let fewer = fewer_untouched p.colors y fits blank in
              let reached : Reached edges p y = record { from_node = top.node; stacked = top_in; route = edge top.edge leads } in (
                record {
                  stands = next_stands;
                  keeps_done = λ x q. q;
                  keeps_stack = λ x q. inl (in_rest x y (on_stack p) q);
                  no_more = λ x t. elim t [ inl q ↦ each_in (λ z. Touched p z ⊎ Reached edges p z) y (on_stack p) (inr reached) (λ z r. inl (inl r)) x q | inr q ↦ inl (inr q) ];
                },
                omega arith,
              )
