use Rattle.std.proofs.Common.{rules, ap, sym, ◌≡◌, ◌∙◌, ◌||◌, Some, refl}
use Rattle.std.specs.Prelude.{bytes_eq}
use Rattle.version_chain.proofs.Common.{is_at, lookup, nat_cmp}
use Rattle.std.specs.BTreeMap.Entry.{entry_value, map_with_value}
use Rattle.version_chain.specs.Indexes.{is_among}
use Rattle.version_chain.proofs.Indexes.{added_some, filled_after, listed_put, one_more}
use Rattle.version_chain.proofs.index.Index.add.Goals as goal

pub returns-in_ok-add-in-Occupied-clause-ok : goal.returns-in_ok-add-in-Occupied-clause-ok
returns-in_ok-add-in-Occupied-clause-ok c =
    let found : lookup (is_at (nat_cmp c.args.ts)) c.args.self.now.keys.entries ≡ Some c.into_mut.result.now = sym c.in_ok-entry.ensures.value ∙ ap entry_value c.in-Occupied.is ∙ c.into_mut.ensures.value in
    listed_put c.args.self.now.keys c.self-in-Occupied-2-1.given.0 (map_with_value c.in_ok-entry.field-0 c.add.new.self) c.args.key.now c.args.key.now c.args.ts (Some c.add.new.self) (search rules) refl (c.in_ok-entry.ensures.update.0 c.add.new.self).0
    (λ y. ap (λ keys. is_among (Some keys) y) c.in_ok-add-in-Occupied.ensures.ok ∙ one_more c.args.key.now y c.into_mut.result.now ∙ ap (λ o. bytes_eq c.args.key.now y || is_among o y) (sym found))

pub returns-in_ok-add-in-Occupied-clause-filled : goal.returns-in_ok-add-in-Occupied-clause-filled
returns-in_ok-add-in-Occupied-clause-filled c =
    filled_after c.args.self.now.keys c.self-in-Occupied-2-1.given.0 (map_with_value c.in_ok-entry.field-0 c.add.new.self) c.args.ts c.add.new.self (search rules) (c.in_ok-entry.ensures.update.0 c.add.new.self).0
    (λ none. added_some c.args.key.now c.into_mut.result.now (sym c.in_ok-add-in-Occupied.ensures.ok ∙ none))
