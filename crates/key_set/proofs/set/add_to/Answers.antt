use Rattle.std.proofs.Common.{◌∙◌, ap, sym}
use Rattle.std.specs.Prelude.{not}
use Rattle.key_set.proofs.Common.{any_err, insert_key, put_is}
use Rattle.key_set.proofs.Sets.{found_is, put_again}
use Rattle.key_set.proofs.set.add_to.Goals as goal

pub returns-then-contains-clause-new : goal.returns-then-contains-clause-new
returns-then-contains-clause-new c = ap not (sym c.if-contains.true ∙ c.contains.ensures ∙ found_is c.args.key.now c.args.keys.now.keys)

pub returns-then-contains-clause-ok : goal.returns-then-contains-clause-ok
returns-then-contains-clause-ok c = sym (put_again c.args.key.now c.args.keys.now.keys c.requires.rising (sym (found_is c.args.key.now c.args.keys.now.keys) ∙ sym c.contains.ensures ∙ c.if-contains.true))

pub returns-in_err-key-clause-absent : goal.returns-in_err-key-clause-absent
returns-in_err-key-clause-absent c = any_err _ (sym (found_is c.args.key.now c.args.keys.now.keys) ∙ sym c.contains.ensures ∙ c.if-contains.false)

pub returns-in_err-insert-clause-absent : goal.returns-in_err-insert-clause-absent
returns-in_err-insert-clause-absent c = any_err _ (sym (found_is c.args.key.now c.args.keys.now.keys) ∙ sym c.contains.ensures ∙ c.if-contains.false)

pub returns-clause-new : goal.returns-clause-new
returns-clause-new c = ap not (sym c.if-contains.false ∙ c.contains.ensures ∙ found_is c.args.key.now c.args.keys.now.keys)

pub returns-clause-ok : goal.returns-clause-ok
returns-clause-ok c = c.in_ok-insert.ensures.keys ∙ put_is c.in_ok-key.key c.args.keys.now.keys ∙ ap (λ x. insert_key x c.args.keys.now.keys) c.in_ok-key.ensures.bytes
