use Rattle.std.proofs.Common.{◌≡◌, ℕ, List, None, rules, ap, sym, ◌∙◌, map}
use Rattle.std.proofs.lemmas.Iterator.Consumers.{YieldsList-end}
use Rattle.std.proofs.lemmas.Iterator.Adapters.{YieldsList-from_vec}
use Rattle.replica.specs.Rows.{value_at}
use Rattle.replica.proofs.Seeding.{puts, puts_all, put_more}
use Rattle.std.proofs.lemmas.List.{map-id}
use Rattle.replica.proofs.seed.table_of.Goals as goal

pub loop-key-preserved : goal.loop-key-preserved
loop-key-preserved c = put_more (value_at c.loop-key.table) (value_at c.change.new.self) c.loop-key.yielded c.in-Some.key c.in-Some.value c.loop-key.invariant c.in_ok-change.ensures.ok

pub returns : goal.returns
returns c =
    let all : map (λ (y : List ℕ × List ℕ). y) c.loop-key.yielded ≡ c.args.rows.items =
    (YieldsList-end (YieldsList-from_vec c.args.rows.items (search rules) (search rules)) c.loop-key.yielded c.loop-key.key-iterator c.loop-key.yielded_by c.next.result c.next.new.self c.in-None.is c.next.ensures.steps).0 in
    λ x. c.loop-key.invariant x ∙ ap (λ es. puts (λ y. None) es x) (sym (map-id c.loop-key.yielded) ∙ all) ∙ puts_all c.args.rows.items x c.requires
