use Rattle.std.proofs.Common.{[], refl}
use Rattle.kept.proofs.AfterBegins.{new_is_kept}
use Rattle.kept.proofs.Standing.{alike_stands}
use Rattle.kept.specs.StandsFor.{nothing_kept}
use Rattle.engine.specs.Layers.{kept_of}
use Rattle.engine.proofs.Engine.new.Goals as goal

pub invariant_of-result : goal.invariant_of-result
invariant_of-result c = record { stands = ∣ ([], record { kept = alike_stands nothing_kept (kept_of c.new.result) [] (record { legal = tt; fits = new_is_kept }) c.new.ensures; counted = refl }) ∣₁ }

pub returns-clause-empty : goal.returns-clause-empty
returns-clause-empty c = record { kept = alike_stands nothing_kept (kept_of c.new.result) [] (record { legal = tt; fits = new_is_kept }) c.new.ensures; counted = refl }
