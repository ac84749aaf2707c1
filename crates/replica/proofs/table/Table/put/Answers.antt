use Rattle.std.proofs.Common.{sym, ◌≡◌, ◌∙◌, Some, false, arith}
use Rattle.replica.specs.Rows.{is_listed, value_at, has_value}
use Rattle.replica.proofs.Common.{common_steps}
use Rattle.replica.proofs.Listed.{at_bytes}
use Rattle.replica.proofs.Putting.{ties_new, ties_other}
use Rattle.replica.proofs.table.Table.put.Goals as goal

pub invariant_of-self-in-Ok-None : goal.invariant_of-self-in-Ok-None
invariant_of-self-in-Ok-None c =
    ties_new c.self.inside.rows.entries c.insert.new.self.entries (is_listed c.self.inside.index) (is_listed c.add.new.self) c.in_ok-own.own c.args.key.now c.args.value
    c.in_ok-own.ensures.bytes c.self.invariant (sym c.in-Ok-None.ensures.old ∙ c.in-Ok-None.field-0-is) c.in-Ok-None.ensures.updates.0 c.in_ok-add.ensures.ok

pub invariant_of-self-in-Ok-Some : goal.invariant_of-self-in-Ok-Some
invariant_of-self-in-Ok-Some c =
    let some : value_at c.self.inside.rows.entries c.in_ok-own.own ≡ Some c.in-Ok-Some.before = sym c.in-Ok-Some.ensures.old ∙ c.in-Ok-Some.field-0-is in
    let apart : has_value (value_at c.self.inside.rows.entries c.args.key.now) c.args.value ≡ false = grind (arith, common_steps, c.get.ensures.value, c.is_some_and.ensures, c.if-is_some_and.false) in
    ties_other c.self.inside.rows.entries c.insert.new.self.entries (is_listed c.self.inside.index) (is_listed c.add.new.self) (is_listed c.remove-in-Ok-Some.new.self) c.in_ok-own.own c.args.key.now c.args.value c.in-Ok-Some.before
    c.in_ok-own.ensures.bytes c.self.invariant some apart c.in-Ok-Some.ensures.updates.0 c.in_ok-add.ensures.ok c.remove-in-Ok-Some.ensures

pub returns-in-Ok-None-clause-ok : goal.returns-in-Ok-None-clause-ok
returns-in-Ok-None-clause-ok c = grind (arith, common_steps, at_bytes)

pub returns-in-Ok-Some-clause-ok : goal.returns-in-Ok-Some-clause-ok
returns-in-Ok-Some-clause-ok c = grind (arith, common_steps, at_bytes)
