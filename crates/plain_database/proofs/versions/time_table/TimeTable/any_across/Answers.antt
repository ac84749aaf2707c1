use Rattle.std.proofs.Common.{rules, tests, ap, ℕ, ◌∙◌}
use Rattle.std.specs.List.{list_any}
use Rattle.std.proofs.lemmas.Iterator.Consumers.{YieldsList-from_rest}
use Rattle.std.proofs.lemmas.Iterator.Search.{any_from_yields_List}
use Rattle.plain_database.specs.declared.versions.begun.Begun.{Begun}
use Rattle.plain_database.specs.Table.{is_across, is_crossed}
use Rattle.plain_database.proofs.TableSteps.{asked_above}
use Rattle.plain_database.proofs.versions.time_table.TimeTable.any_across.Goals as goal

pub returns : goal.returns
returns c =
    any_from_yields_List (λ (e : ℕ × Begun). list_any (is_across c.args.key.now c.args.ts) e.1.reads) _ _ c.any.result c.any.ensures.ran (YieldsList-from_rest _ (c.range-readers.ensures.between (search rules))) (λ x b q k. search (rules, tests))
    ∙ asked_above c.self.inside.map.entries c.args.key.now c.args.ts ∙ ap (λ es. is_crossed es c.args.key.now c.args.ts) c.self.view_is
