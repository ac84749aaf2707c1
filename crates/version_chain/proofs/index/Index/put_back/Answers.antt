use Rattle.std.proofs.Common.{ap, eq-eqb, refl, sym, rules, ◌≡◌, ◌∙◌, ◌==◌, [], None, Some, cond}
use Rattle.std.proofs.lemmas.Bool.{both_ways}
use Rattle.std.specs.Prelude.{is_some}
use Rattle.version_chain.specs.Indexes.{is_among, is_listed}
use Rattle.version_chain.proofs.Indexes.{filled_put, listed_where}
use Rattle.version_chain.proofs.index.Index.put_back.Goals as goal

pub returns-then-is_empty-clause-listed : goal.returns-then-is_empty-clause-listed
returns-then-is_empty-clause-listed c = λ y i. listed_where c.args.self.now.keys.entries c.remove.new.self.entries c.args.ts None c.remove.ensures.updates.0 y i
    ∙ ap (λ b. cond (c.args.ts == i) b (is_listed c.args.self.now y i)) (sym (ap (λ keys. is_among (Some keys) y) (c.is_empty.ensures.0 (search rules))))

pub returns-in-Some-clause-listed : goal.returns-in-Some-clause-listed
returns-in-Some-clause-listed c = λ y i. listed_where c.args.self.now.keys.entries (c.get_mut.follows.lender c.args.keys).entries c.args.ts (Some c.args.keys) ((c.get_mut.follows.holds c.args.keys).3 (ap is_some (sym c.in-Some.ensures.value))).0 y i

pub returns-in_default-clause-listed : goal.returns-in_default-clause-listed
returns-in_default-clause-listed c = λ y i. absurd (let no : None ≡ Some [] = c.in_default.ensures.value ∙ (c.requires c.args.ts).1 refl in cc)

pub returns-in_default-clause-filled : goal.returns-in_default-clause-filled
returns-in_default-clause-filled c = λ i is. (let no : None ≡ Some [] = c.in_default.ensures.value ∙ (c.requires c.args.ts).1 refl in cc)

pub returns-then-is_empty-clause-filled : goal.returns-then-is_empty-clause-filled
returns-then-is_empty-clause-filled c = filled_put c.args.self.now.keys.entries c.remove.new.self.entries c.args.ts None c.remove.ensures.updates.0 (λ no. cc)
    (λ i there is. both_ways _ there (eq-eqb c.args.ts i ((c.requires i).0 is)))

pub returns-in-Some-clause-filled : goal.returns-in-Some-clause-filled
returns-in-Some-clause-filled c = filled_put c.args.self.now.keys.entries (c.get_mut.follows.lender c.args.keys).entries c.args.ts (Some c.args.keys) ((c.get_mut.follows.holds c.args.keys).3 (ap is_some (sym c.in-Some.ensures.value))).0
    (λ some. let none : c.args.keys ≡ [] = cc in both_ways _ c.if-is_empty.false (c.is_empty.ensures.1 none))
    (λ i there is. both_ways _ there (eq-eqb c.args.ts i ((c.requires i).0 is)))
