use Rattle.std.proofs.Common.{sym, ◌∙◌, ap}
use Rattle.replica.proofs.Common.{is_at, key_cmp, lookup}
use Rattle.replica.proofs.Keys.{keys_in_set}
use Rattle.replica.proofs.index.Index.keys_of.Goals as goal

pub returns-clause-exact : goal.returns-clause-exact
returns-clause-exact c = rw (← c.self.view_is) (keys_in_set (λ keys. keys.items) c.copies.result c.in-Some.keys.now (lookup (is_at (key_cmp c.args.value.now)) c.self.inside.keys.entries)
    (ap (λ v. lookup (is_at (key_cmp v)) c.self.inside.keys.entries) (sym c.in_ok-copy.ensures.bytes) ∙ sym c.in-Some.ensures.value) c.copies.ensures.all)
