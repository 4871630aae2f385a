-- What a whole run of an iterator gave, where it is known which values come. Assumes nothing.
use Rattle.std.proofs.Common.{◌≡◌, true, List, map, Option, subst}
use Rattle.std.specs.Iterator.{DrainsIf}
use Rattle.std.specs.Iterator.Runs.{Run, YieldsRun}
use Rattle.std.proofs.lemmas.Iterator.{YieldsList, items_from_drains}

module _ {S A B : Type 0} {steps : S → Option A → S → Type 0} {v : A → B} {start : S} {all : List B} (run : Run steps) where
  pub values_of_run : run.from ≡ start → run.whole ≡ true → YieldsList steps v start all → map v run.items ≡ all
  unfolding YieldsRun
  values_of_run from whole gives =
      let took = run.gave.0 in
      items_from_drains run.items (subst (λ s. DrainsIf steps (Unit {0}) s run.items) from (took.0, took.1, λ _. took.2 whole)) gives
