use Rattle.std.proofs.Common.{◌≡◌, All, ap, arith, drop, false, filter, length, not, subst, sym, ◌∙◌}
use Rattle.version_chain.specs.declared.chain.Version.{Version}
use Rattle.version_chain.specs.Dead.{is_dead_version}
use Rattle.version_chain.proofs.InBlocks.{IsCollectedTo, collected}
use Rattle.version_chain.proofs.blocks.Blocks.drop_dead.Goals as goal

pub number_from-requires-clause-few : goal.number_from-requires-clause-few
number_from-requires-clause-few c =
    let left : IsCollectedTo c.args.horizon c.args.top c.self.inside.blocks.items c.drop-drain.new.self.0.items = collected c.args.horizon c.args.top c.args.place c.block_of-last.result c.empty_ahead-empty.result c.self.inside.blocks.items c.drop-drain.new.self.0.items c.deref.result.now c.thin.new.blocks.items c.deref-2.result.now c.self.invariant c.deref.ensures.value c.block_of-last.ensures
    (subst (λ vs. All (λ (v : Version). is_dead_version c.args.horizon c.args.top v ≡ false) (drop c.args.place vs)) (sym c.self.view_is) c.requires.live)
    c.thin.ensures.versions c.thin.ensures.len c.deref-2.ensures.value c.empty_ahead-empty.ensures.within c.empty_ahead-empty.ensures.empty (c.drop-drain.ensures.items ∙ c.drain.ensures.kept) in
    left.few

pub invariant_of-self : goal.invariant_of-self
invariant_of-self c =
    let left : IsCollectedTo c.args.horizon c.args.top c.self.inside.blocks.items c.drop-drain.new.self.0.items = collected c.args.horizon c.args.top c.args.place c.block_of-last.result c.empty_ahead-empty.result c.self.inside.blocks.items c.drop-drain.new.self.0.items c.deref.result.now c.thin.new.blocks.items c.deref-2.result.now c.self.invariant c.deref.ensures.value c.block_of-last.ensures
    (subst (λ vs. All (λ (v : Version). is_dead_version c.args.horizon c.args.top v ≡ false) (drop c.args.place vs)) (sym c.self.view_is) c.requires.live)
    c.thin.ensures.versions c.thin.ensures.len c.deref-2.ensures.value c.empty_ahead-empty.ensures.within c.empty_ahead-empty.ensures.empty (c.drop-drain.ensures.items ∙ c.drain.ensures.kept) in
    record {
      some = omega (arith, left.some, c.number_from.ensures.len);
      numbered = c.number_from.ensures.numbered;
      few = (let same = ap length c.number_from.ensures.versions in omega (arith, left.few));
    }

pub returns : goal.returns
returns c =
    let left : IsCollectedTo c.args.horizon c.args.top c.self.inside.blocks.items c.drop-drain.new.self.0.items = collected c.args.horizon c.args.top c.args.place c.block_of-last.result c.empty_ahead-empty.result c.self.inside.blocks.items c.drop-drain.new.self.0.items c.deref.result.now c.thin.new.blocks.items c.deref-2.result.now c.self.invariant c.deref.ensures.value c.block_of-last.ensures
    (subst (λ vs. All (λ (v : Version). is_dead_version c.args.horizon c.args.top v ≡ false) (drop c.args.place vs)) (sym c.self.view_is) c.requires.live)
    c.thin.ensures.versions c.thin.ensures.len c.deref-2.ensures.value c.empty_ahead-empty.ensures.within c.empty_ahead-empty.ensures.empty (c.drop-drain.ensures.items ∙ c.drain.ensures.kept) in
    c.number_from.ensures.versions ∙ left.left ∙ ap (filter (λ (v : Version). not (is_dead_version c.args.horizon c.args.top v))) c.self.view_is
