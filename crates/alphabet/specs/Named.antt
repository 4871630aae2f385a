-- The layering that an alphabet's answer names. Assumes nothing.
use Rattle.std.specs.Prelude.{Some, None, Option}
use Rattle.theory.specs.Meaning as theory
use Rattle.alphabet.specs.declared.layering.Layering.{Layering}

abbrev pub named : Option Layering → theory.Layering
named None = theory.flat
named (Some l) = theory.layered_by l.pair l.list
