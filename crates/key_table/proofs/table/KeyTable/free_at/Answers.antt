use Rattle.std.proofs.Common.{◌≡◌, ◌∙◌, refl, subst, sym, None}
use Rattle.key_table.specs.Numbers.{IsNumberedAt}
use Rattle.key_table.proofs.Numbering.{numbered_at, one_of, stands, tied_less}
use Rattle.key_table.proofs.table.KeyTable.free_at.Goals as goal

pub remove-key-requires : goal.remove-key-requires
remove-key-requires c = rw (stands c.self.inside.numbers c.self.inside.keys c.args.self.now c.requires.0 c.args.number c.self.invariant c.self.view_is c.requires.1) refl

pub invariant_of-self : goal.invariant_of-self
invariant_of-self c = tied_less c.self.inside.numbers c.remove.new.self c.self.inside.keys c.remove-key.new.self c.remove-key.result c.args.number c.self.invariant c.remove.ensures.updates.0 c.remove-key.ensures.value c.remove-key.ensures.updates

pub returns : goal.returns
returns c = λ x found.
    let key : c.remove-key.result ≡ x = one_of _ _ (sym c.remove-key.ensures.value ∙ stands c.self.inside.numbers c.self.inside.keys c.args.self.now x c.args.number c.self.invariant c.self.view_is found) in
    subst (λ k. IsNumberedAt c.args.self.now c.remove.new.self.entries k None) key
    (subst (λ ns. IsNumberedAt ns c.remove.new.self.entries c.remove-key.result None) c.self.view_is (numbered_at c.self.inside.numbers c.remove.new.self c.remove-key.result None c.remove.ensures.updates.0))
