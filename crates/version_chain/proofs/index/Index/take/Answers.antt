use Rattle.std.proofs.Common.{ap, sym, ◌≡◌, ◌∙◌, ◌==◌, [], Some, cond}
use Rattle.std.specs.Prelude.{is_some}
use Rattle.version_chain.proofs.Common.{is_at, lookup, nat_cmp}
use Rattle.version_chain.specs.Indexes.{is_among, is_listed}
use Rattle.version_chain.proofs.Indexes.{ArePutAt, listed_where, taken_alone}
use Rattle.version_chain.proofs.index.Index.take.Goals as goal

placed : (c : goal.After-self-2-1) → ArePutAt c.args.self.now.keys.entries (c.get_mut.follows.lender c.replace.new.dest).entries c.args.ts (Some c.replace.new.dest)
placed c =
    let found : lookup (is_at (nat_cmp c.args.ts)) c.args.self.now.keys.entries ≡ Some c.in_ok-keys.keys.now = sym c.in_ok-keys.ensures.value in
    ((c.get_mut.follows.holds c.replace.new.dest).3 (ap is_some found)).0

none : (c : goal.After-self-2-1) → c.replace.new.dest ≡ []
none c = c.replace.ensures.after ∙ c.new.ensures

pub returns-clause-keys : goal.returns-clause-keys
returns-clause-keys c = λ y. ap (λ o. is_among o y) (ap Some c.replace.ensures.value ∙ c.in_ok-keys.ensures.value)

pub returns-clause-others : goal.returns-clause-others
returns-clause-others c = λ y i. listed_where c.args.self.now.keys.entries (c.get_mut.follows.lender c.replace.new.dest).entries c.args.ts (Some c.replace.new.dest) (placed c) y i
    ∙ ap (λ b. cond (c.args.ts == i) b (is_listed c.args.self.now y i)) (ap (λ keys. is_among (Some keys) y) (none c))

pub returns-clause-taken : goal.returns-clause-taken
returns-clause-taken c = taken_alone c.args.self.now.keys.entries (c.get_mut.follows.lender c.replace.new.dest).entries c.args.ts c.replace.new.dest (placed c) (none c) c.requires
