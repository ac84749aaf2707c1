use Rattle.std.proofs.Common.{subst, false, refl, None, ◌≡◌, ◌==◌, ◌&&◌, ◌||◌, ℕ, List}
use Rattle.std.specs.Prelude.{bytes_eq}
use Rattle.std.specs.Option.{option_copied}
use Rattle.version_chain.specs.declared.chain.Version.{Version}
use Rattle.version_chain.specs.Indexes.{is_listed}
use Rattle.version_chain.specs.Stores.{IsChangedAt}
use Rattle.version_chain.specs.Records.{IsPlacedIn, stored_of}
use Rattle.version_chain.proofs.Changes.{found_alike}
use Rattle.version_chain.proofs.Counts.{counted_more, counted_replaced}
use Rattle.version_chain.proofs.Soundness.{indexed_more, indexed_replaced, settled_write, sound_alike, sound_index, went_again}
use Rattle.version_chain.proofs.store.Store.write.Goals as goal

pub invariant_of-self : goal.invariant_of-self
invariant_of-self c = let s = stored_of c.self.inside.chains in let s' = stored_of c.write.new.self in
    sound_alike s s' c.self.inside.index c.self.inside.count c.self.inside.dropped_through (found_alike s s' c.in_err-write.ensures.err) c.self.invariant

pub invariant_of-self-in-New : goal.invariant_of-self-in-New
invariant_of-self-in-New c = let s = stored_of c.self.inside.chains in let s' = stored_of c.write.new.self in
    let one : Version = record { ts = c.args.ts; after = option_copied c.args.after; committed = false } in
    let put = subst (IsPlacedIn s s' c.args.key.now one) c.in-New.is c.in_ok-write.ensures.ok in
    record {
      counted = counted_more s s' c.args.key.now c.args.ts c.self.inside.count one put.2 put.1 c.self.invariant.counted;
      indexed = indexed_more s s' c.self.inside.index c.list.new.index c.args.key.now c.args.ts one put.2
          (subst (λ t. (y : List ℕ) (i : ℕ) → is_listed c.list.new.index y i ≡ (((t == i) && bytes_eq c.args.key.now y) || is_listed c.self.inside.index y i)) c.get.ensures.number c.in_default.ensures.ok)
          c.self.invariant.indexed;
      filled = c.in_default.ensures.filled c.self.invariant.filled;
      settled = settled_write s s' c.args.key.now c.args.ts c.self.inside.dropped_through one refl put.2 c.self.invariant.settled;
    }

pub invariant_of-self-in-Over : goal.invariant_of-self-in-Over
invariant_of-self-in-Over c = let s = stored_of c.self.inside.chains in let s' = stored_of c.write.new.self in
    let one : Version = record { ts = c.args.ts; after = option_copied c.args.after; committed = false } in
    let put = subst (IsPlacedIn s s' c.args.key.now one) c.in-Over.is c.in_ok-write.ensures.ok in
    record {
      counted = counted_replaced s s' c.args.key.now c.args.ts c.self.inside.count one put.2 put.1 c.self.invariant.counted;
      indexed = indexed_replaced s s' c.self.inside.index c.args.key.now c.args.ts one put.2 put.1 c.self.invariant.indexed;
      filled = c.self.invariant.filled;
      settled = settled_write s s' c.args.key.now c.args.ts c.self.inside.dropped_through one refl put.2 c.self.invariant.settled;
    }

pub invariant_of-self-in-Err : goal.invariant_of-self-in-Err
invariant_of-self-in-Err c = let s = stored_of c.self.inside.chains in let s' = stored_of c.write.new.self in let s'' = stored_of c.remove.new.self in
    let one : Version = record { ts = c.args.ts; after = option_copied c.args.after; committed = false } in
    let put = subst (IsPlacedIn s s' c.args.key.now one) c.in-New.is c.in_ok-write.ensures.ok in
    sound_index s'' c.self.inside.index c.list.new.index c.self.inside.count c.self.inside.dropped_through c.in-Err.ensures.err c.in-Err.ensures.filled
    (sound_alike s s'' c.self.inside.index c.self.inside.count c.self.inside.dropped_through
    (went_again s s' s'' c.args.key.now c.args.ts one put.1 put.2
    (subst (λ t. IsChangedAt s' s'' c.args.key.now t (λ _. None)) c.get-in-Err.ensures.number c.remove.ensures.changed))
    c.self.invariant)
