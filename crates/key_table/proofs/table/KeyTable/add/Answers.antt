use Rattle.std.proofs.Common.{ap, refl, sym, ◌∙◌, subst, ◌≡◌, ℕ, List, Some, None}
use Rattle.key_table.proofs.Common.{Slab, get, key_cmp}
use Rattle.slab.specs.Slab as slab
use Rattle.key_table.specs.Numbers.{number_in, IsNumberedAt, AreTied}
use Rattle.key_table.proofs.Numbering.{ArePut, tied_more, numbered_at, own_at}
use Rattle.key_table.proofs.table.KeyTable.add.Goals as goal

put : (c : goal.After-note) → ArePut c.self.inside.numbers c.insert.new.self c.args.key.now (Some c.vacant_key-number.result)
put c = subst (λ k. ArePut c.self.inside.numbers c.insert.new.self k (Some c.vacant_key-number.result)) c.in_ok-placed.ensures.bytes c.in_ok-insert.ensures.updates.0

up : (c : goal.After-note) → slab.Updates c.reserve.new.self c.insert_reserved.new.self c.vacant_key-number.result (Some c.args.key.now)
up c =
    let number : c.insert_reserved.result ≡ c.vacant_key-number.result = c.insert_reserved.ensures.key ∙ ap (λ (s : Slab (List ℕ)). s.vacant_key) c.in_ok-reserve.ensures.rest_kept ∙ sym c.vacant_key-number.ensures.value in
    subst (λ k. slab.Updates c.reserve.new.self c.insert_reserved.new.self c.vacant_key-number.result (Some k)) c.in_ok-own.ensures.bytes
    (subst (λ n. slab.Updates c.reserve.new.self c.insert_reserved.new.self n (Some c.in_ok-own.own)) number c.insert_reserved.ensures.updates)

tied : (c : goal.After-note) → AreTied c.insert.new.self c.insert_reserved.new.self
tied c =
    let kept = sym c.in_ok-reserve.ensures.rest_kept in
    let absent : get key_cmp c.self.inside.numbers c.args.key.now ≡ None = subst (λ ns. number_in ns c.args.key.now ≡ None) (sym c.self.view_is) c.requires.new in
    tied_more c.self.inside.numbers c.insert.new.self c.reserve.new.self c.insert_reserved.new.self c.args.key.now c.vacant_key-number.result (subst (AreTied c.self.inside.numbers) kept c.self.invariant)
    (put c) absent (subst (λ s. slab.get s c.vacant_key-number.result ≡ None) kept c.vacant_key-number.ensures.vacant) (up c)

pub invariant_of-self-2 : goal.invariant_of-self-2
invariant_of-self-2 c = tied c

pub returns-clause-number : goal.returns-clause-number
returns-clause-number c = subst (λ ns. IsNumberedAt ns c.insert.new.self.entries c.args.key.now (Some c.vacant_key-number.result)) c.self.view_is
    (numbered_at c.self.inside.numbers c.insert.new.self c.args.key.now (Some c.vacant_key-number.result) (put c))

pub returns-clause-own : goal.returns-clause-own
returns-clause-own c = own_at c.insert.new.self c.insert_reserved.new.self c.insert.new.self.entries c.args.key.now c.vacant_key-number.result (tied c) refl (up c).changed
