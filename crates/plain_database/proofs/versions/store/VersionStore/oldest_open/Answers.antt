use Rattle.std.proofs.Common.{ℕ, rules, tests, ap, ◌∙◌, ◌≡◌}
use Rattle.std.specs.Prelude.{option_map}
use Rattle.std.specs.Map.Iter.{deref_pair}
use Rattle.std.proofs.lemmas.Iterator.Consumers.{YieldsList-from_rest}
use Rattle.std.proofs.lemmas.Iterator.Search.{find_from_yields_List}
use Rattle.plain_database.proofs.Opening.{stopped_is}
use Rattle.plain_database.specs.VersionsTied.{is_open}
use Rattle.plain_database.specs.declared.versions.begun.Begun.{Begun}
use Rattle.plain_database.proofs.versions.store.VersionStore.oldest_open.Goals as goal

pub returns : goal.returns
returns c = λ p all tied to.
    let first = find_from_yields_List (λ (e : ℕ × Begun). is_open e.1) _ _ c.find-oldest.result c.find-oldest.ensures.ran (YieldsList-from_rest _ c.above_closed.ensures.those) (λ x b q k. search (rules, tests)) in
    let timestamp : c.map.result ≡ option_map (λ (e : ℕ × Begun). e.0) (option_map deref_pair c.find-oldest.result) = search rules in
    stopped_is c.args.self.now c.above_closed.ensures.rising p all tied to c.map.result (timestamp ∙ ap (option_map (λ (e : ℕ × Begun). e.0)) first)
