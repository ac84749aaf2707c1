use Rattle.std.proofs.Common.{Some, [], subst, sym}
use Rattle.spans.proofs.Keyed.{RisingKeys}
use Rattle.version_chain.specs.Walking.{Walk, IsAhead, keys_ahead}
use Rattle.version_chain.proofs.Walking.{finds, goes_on, goes_to}
use Rattle.version_chain.proofs.versions_after.VersionsAfter.next.Goals as goal

pub invariant_of-self : goal.invariant_of-self
invariant_of-self c =
    let at = c.loop-key.self-inside.at in
    let later = c.loop-key.self-inside.later in
    subst (λ (w : Walk). IsAhead (record w { ts = at; key = Some c.in-Some.key.now }) at (keys_ahead c.first_of.new.keys) later) c.loop-key.invariant.0
    (goes_to c.args.self.now at c.in-Some.key.now (keys_ahead c.first_of.new.keys) later (subst (λ ks. IsAhead c.args.self.now at ks later) c.in-Some.ensures c.loop-key.invariant.1))

pub returns-in-Some-clause-found : goal.returns-in-Some-clause-found
returns-in-Some-clause-found c =
    let later = c.loop-key.self-inside.later in
    finds c.args.self.now c.loop-key.self-inside.at c.in-Some.key.now (keys_ahead c.first_of.new.keys) later
    (subst (λ ks. IsAhead c.args.self.now c.loop-key.self-inside.at ks later) c.in-Some.ensures c.loop-key.invariant.1)

pub loop-key-preserved : goal.loop-key-preserved
loop-key-preserved c =
    let walk = c.args.self.now in
    let at = c.loop-key.self-inside.at in (
      c.loop-key.invariant.0,
      subst (λ t. IsAhead walk t c.iter.result c.next.new.self) (sym c.at.view_is)
          (subst (λ ks. IsAhead walk c.in_ok-at.at.now ks c.next.new.self) (sym c.iter.ensures.keys)
          (goes_on walk at c.in_ok-at.at.now c.in_ok-at.keys.now c.next.new.self
          (subst (IsAhead walk at []) c.in_ok-at.ensures.steps (subst (λ ks. IsAhead walk at ks c.loop-key.self-inside.later) c.in_default.ensures.0 c.loop-key.invariant.1)) (subst RisingKeys c.iter.ensures.keys c.iter.ensures.rising))),
    )
