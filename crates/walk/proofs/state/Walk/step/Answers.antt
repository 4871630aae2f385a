-- Each way through a move keeps what stands, and leaves less to do or comes round.
use Rattle.std.proofs.Common.{arith}
use Rattle.walk.proofs.Moves.{top_below, done_room, pop_steps, edge_low, next_below, advance_steps, frames_room, push_steps}
use Rattle.walk.proofs.state.Walk.step.Goals as goal

pub edge-requires : goal.edge-requires
edge-requires g c = top_below c.args.self.now c.requires.stands c.top-top.ensures

pub pop-requires : goal.pop-requires
pop-requires g c =
    let few = c.requires.small.few_nodes in
    let low = top_below c.args.self.now c.requires.stands c.top-top.ensures in
    let room = done_room c.args.self.now c.requires.stands c.top-top.ensures in
    record { frame = rw c.top-top.ensures (omega arith); room = omega arith }

pub returns-in_default : goal.returns-in_default
returns-in_default g c =
    let step = pop_steps c.args.self.now c.requires.stands c.top-top.ensures c.in_default.ensures in
    rw (rw c.top-top.ensures at c.pop.ensures) (record { onward = step.0; moved = step.1 })

pub color-requires : goal.color-requires
color-requires g c =
    let few = c.requires.small.few_nodes in
    let low = next_below c.args.self.now c.requires.stands c.top-top.ensures c.requires.small c.in-Some.ensures in
    omega arith

pub push-requires : goal.push-requires
push-requires g c =
    let few = c.requires.small.few_nodes in
    let leads = c.in-Some.ensures in
    let low = next_below c.args.self.now c.requires.stands c.top-top.ensures c.requires.small leads in
    let room = frames_room c.args.self.now c.requires.stands c.top-top.ensures c.requires.small leads c.in-Untouched.ensures.within c.in-Untouched.ensures.value in
    record { node = omega arith; room = omega arith }

pub advance-requires : goal.advance-requires
advance-requires g c =
    let low = edge_low c.args.self.now c.requires.stands c.top-top.ensures c.requires.small c.in-Some.ensures in
    rw c.top-top.ensures (omega arith)

pub returns-in-Untouched : goal.returns-in-Untouched
returns-in-Untouched g c =
    let step = push_steps c.args.self.now c.requires.stands c.top-top.ensures c.requires.small c.in-Some.ensures c.in-Untouched.ensures.within c.in-Untouched.ensures.value in
    rw c.push.ensures (record { onward = step.0; moved = step.1 })

pub returns-in-Done : goal.returns-in-Done
returns-in-Done g c =
    let next_done = (rw c.in-Done.ensures.value at (c.requires.stands.painted c.in-Some.next)).0 in
    let step = advance_steps c.args.self.now c.requires.stands c.top-top.ensures c.requires.small c.in-Some.ensures next_done in
    rw (rw c.top-top.ensures at c.advance.ensures) (record { onward = step.0; moved = step.1 })
