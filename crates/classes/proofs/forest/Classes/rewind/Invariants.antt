use Rattle.std.proofs.Common.{◌≡◌, ◌+◌}
use Rattle.classes.proofs.Changes.{Undoing}
use Rattle.classes.proofs.forest.Classes.rewind.Given as goal

abbrev pub invariant-loop : goal.invariant-loop
invariant-loop l = record { left : l.self.links + l.counter ≡ l.mark + l.end; undoing : Undoing l.initial.self l.self }
