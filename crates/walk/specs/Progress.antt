-- What contracts see of a walk, the same in the words of the theory of walks, and what its moves make of it. Assumes nothing.
use Rattle.std.specs.Prelude.{◌≡◌, ℕ, ◌+◌, ◌≤◌, List, [], ◌∷◌, length, take, drop, reverse, Option, slice_get, slice_index, slice_set}
use Rattle.theory.specs.Walks.{Stack, bottom, frame, nodes}
use Rattle.walk.specs.declared.state.Color.{Color}
use Rattle.walk.specs.declared.state.Color.TheVariants.{OnStack, Done}
use Rattle.walk.specs.declared.state.Frame.{Frame}

-- what a walk is done with and where it is
pub record Progress : Type 0 where
  -- the color of each node
  pub colors : List Color
  -- the frames of the stack, the top first
  pub frames : List Frame
  -- the nodes that are done, the last first
  pub done : List ℕ

-- The arrays of a walk have their cells, and it uses no more of them.
pub record IsWithin (colors : List Color) (stack : List Frame) (depth done : ℕ) : Type 0 where
  pub colors_fit : length colors ≡ 2048
  pub stack_fits : length stack ≡ 2048
  pub depth_fits : depth ≤ 2048
  pub done_fits : done ≤ 2048

-- the first so many of a list, the last of them first
abbrev pub newest_first : {X : Type 0} → List X → ℕ → List X
newest_first xs count = reverse (take count xs)

-- frames as a stack, the first on the top
abbrev pub stack_from : List Frame → Stack
stack_from [] = bottom
stack_from (f ∷ below) = frame f.node f.edge (stack_from below)

-- the nodes that the walk is at, each with the number of the edge that it is at
abbrev pub stack_of : Progress → Stack
stack_of p = stack_from p.frames

-- the nodes that the walk is at, the last first
abbrev pub on_stack : Progress → List ℕ
on_stack p = nodes (stack_of p)

-- the stack of the lowest so many frames
abbrev pub stack_upto : Progress → ℕ → Stack
stack_upto p count = stack_from (newest_first (reverse p.frames) count)

-- the node that was done as number i
abbrev pub order_of : Progress → ℕ → ℕ
order_of p i = slice_index (reverse p.done) i

-- the frame on the top of the stack
abbrev pub top_of : Progress → Option Frame
top_of p = slice_get p.frames 0

-- a new frame is on the stack
abbrev pub pushed : ℕ → Progress → Progress
pushed y p = record { colors = slice_set p.colors y OnStack; frames = record { node = y; edge = 0 } ∷ p.frames; done = p.done }

-- the top node is at its next edge
abbrev pub advanced : Frame → Progress → Progress
advanced top p = record { colors = p.colors; frames = record { node = top.node; edge = top.edge + 1 } ∷ drop 1 p.frames; done = p.done }

-- the top node is done
abbrev pub popped : Frame → Progress → Progress
popped top p = record { colors = slice_set p.colors top.node Done; frames = drop 1 p.frames; done = top.node ∷ p.done }
