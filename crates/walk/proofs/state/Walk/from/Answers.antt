-- A walk from a node that is not done is a push, and moves one after the other.
use Rattle.std.proofs.Common.{◌≡◌, length, sym, ap, ◌∙◌, arith}
use Rattle.std.proofs.lemmas.Bool.{false≢true}
use Rattle.walk.specs.declared.state.Color.TheVariants.{Done}
use Rattle.walk.proofs.Ends.{no_frames, onward_here, onward_then, start_stands, start_only, start_done}
use Rattle.walk.proofs.state.Walk.from.Goals as goal

pub push-requires-clause-room : goal.push-requires-clause-room
push-requires-clause-room g c = let e = ap length (no_frames _ c.requires.nowhere) in omega arith

pub loop-self-init : goal.loop-self-init
loop-self-init g c =
    let p = c.args.self.now in
    let stands = start_stands p c.args.start c.requires.nowhere c.requires.stands c.requires.start c.color.ensures.within
    (λ e. let done : c.color.result ≡ Done = sym c.color.ensures.value ∙ e in false≢true (rw done at c.if-eq.ensures)) in
    rw c.push.ensures (onward_here _ stands)

pub loop-self-preserved : goal.loop-self-preserved
loop-self-preserved g c = onward_then c.loop-self.invariant c.step.ensures.onward

pub returns-in_err-step-clause-only : goal.returns-in_err-step-clause-only
returns-in_err-step-clause-only g c = start_only _ c.args.start c.requires.nowhere (onward_then c.loop-self.invariant c.step.ensures.onward)

pub returns-clause-only : goal.returns-clause-only
returns-clause-only g c = start_only _ c.args.start c.requires.nowhere c.loop-self.invariant

pub returns-clause-reached : goal.returns-clause-reached
returns-clause-reached g c = start_done c.args.self.now c.args.start c.requires.nowhere c.loop-self.invariant (omega arith)
