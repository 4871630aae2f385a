use Rattle.theory.proofs.NewCell.{new_label, new_cell_keeps_certificate}
use Rattle.theory.proofs.new_cell_keeps_certificate.Goals as goal

pub returns : goal.returns
returns c = λ m s x label rank shape lawful formed formed' certificate. (new_label lawful x formed formed' certificate, new_cell_keeps_certificate lawful x formed formed' certificate)
