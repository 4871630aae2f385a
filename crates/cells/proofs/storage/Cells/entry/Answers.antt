-- The entry of a cell that stands keeps a sound cell.
use Rattle.cells.proofs.Holdings.{entry_is_sound}
use Rattle.cells.proofs.storage.Cells.entry.Goals as goal

pub returns-clause-sound : goal.returns-clause-sound
returns-clause-sound c = entry_is_sound c.args.self.now c.args.cell c.requires
