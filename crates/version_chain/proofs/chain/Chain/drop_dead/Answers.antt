use Rattle.std.proofs.Common.{◌≡◌, ◌&&◌, ◌+◌, ◌∙◌, ap, arith, cond, false, length, not, refl, subst, sym, take}
use Rattle.std.specs.Prelude.{bytes_eq}
use Rattle.version_chain.proofs.Common.{filter, length-filter_both}
use Rattle.version_chain.specs.declared.chain.Version.{Version}
use Rattle.version_chain.specs.Versions.{DoRise, versions_in}
use Rattle.version_chain.specs.Dead.{is_dead_at, is_dead_version, newest_of}
use Rattle.version_chain.specs.Indexes.{is_listed}
use Rattle.version_chain.proofs.Chained.{dead_before, live_above, rises_kept}
use Rattle.version_chain.proofs.chain.Chain.drop_dead.Goals as goal

pub drop_dead-requires-clause-live : goal.drop_dead-requires-clause-live
drop_dead-requires-clause-live c = rw c.self.view_is (live_above c.args.horizon c.newest_committed-top.result c.place_above-place.result c.args.self.now c.place_above-place.ensures.place)

pub invariant_of-self : goal.invariant_of-self
invariant_of-self c = subst DoRise (sym c.drop_dead.ensures) (rises_kept _ (versions_in c.self.inside.versions) c.self.invariant)

-- the timestamp of the newest committed version is the one that was found
top : (c : goal.After-len) → c.newest_committed-top.result ≡ newest_of c.args.self.now c.args.horizon
top c = c.newest_committed-top.ensures c.args.horizon c.place_above-place.ensures.place

pub returns-clause-left : goal.returns-clause-left
returns-clause-left c = c.drop_dead.ensures ∙ ap (filter (λ (v : Version). not (is_dead_version c.args.horizon c.newest_committed-top.result v))) c.self.view_is ∙ ap (λ t. filter (λ (v : Version). not (is_dead_version c.args.horizon t v)) c.args.self.now) (top c)

-- what is left and what is dead are all
parts : (c : goal.After-len) → c.len-before.result ≡ length (filter (is_dead_version c.args.horizon (newest_of c.args.self.now c.args.horizon)) c.args.self.now) + c.len.result
parts c =
    let both = length-filter_both (is_dead_version c.args.horizon (newest_of c.args.self.now c.args.horizon)) (λ (v : Version). not (is_dead_version c.args.horizon (newest_of c.args.self.now c.args.horizon) v)) (λ v. refl) c.args.self.now in
    let left = ap length (returns-clause-left c) in
    omega arith

pub overflow_sub-result : goal.overflow_sub-result
overflow_sub-result c = let all = parts c in omega arith

pub returns-clause-count : goal.returns-clause-count
returns-clause-count c = let all = parts c in omega arith

pub returns-clause-listed : goal.returns-clause-listed
returns-clause-listed c = λ y i. c.remove_dead.ensures.listed y i ∙ ap (λ b. cond (bytes_eq c.args.key.now y && b) false (is_listed c.args.index.now y i)) (ap (λ vs. is_dead_at c.args.horizon c.newest_committed-top.result (take c.place_above-place.result vs) i) c.self.view_is
    ∙ dead_before c.args.horizon c.newest_committed-top.result c.place_above-place.result c.args.self.now i c.place_above-place.ensures.place ∙ ap (λ t. is_dead_at c.args.horizon t c.args.self.now i) (top c))
