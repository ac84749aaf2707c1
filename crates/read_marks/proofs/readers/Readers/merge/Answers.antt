use Rattle.std.proofs.Common.{ap, ℕ}
use Rattle.std.proofs.lemmas.Result.{on_err_weaker}
use Rattle.smallvec.specs.SmallVec.{SmallVec}
use Rattle.read_marks.proofs.Merging.{merged_none, merged_some, rising_either}
use Rattle.read_marks.proofs.readers.Readers.merge.Goals as goal

pub invariant_of-self : goal.invariant_of-self
invariant_of-self c = record { rising = (merged_some c.args.self.now.list.items c.as_mut_slice-list.result.now _ c.args.above c.args.until c.args.ts _ _ c.max.result c.args.self.now.rising c.count_through-from.ensures.splits c.count_through-to.ensures.splits c.count_through-to.ensures.bound c.requires.low c.requires.high c.if-from-to.true c.as_mut_slice-list.ensures.value c.max.ensures c.cut.ensures.items).0 }

pub invariant_of-self-else-from-to : goal.invariant_of-self-else-from-to
invariant_of-self-else-from-to c = record { rising = rising_either c.insert.result c.args.self.now.list.items _ _ c.args.self.now.rising (λ is. (merged_none c.args.self.now.list.items _ c.args.above c.args.until c.args.ts _ _ c.args.self.now.rising c.count_through-from.ensures.splits c.count_through-to.ensures.splits c.count_through-from.ensures.bound c.requires.low c.requires.high c.if-from-to.false is).0) c.insert.ensures.ok (on_err_weaker c.insert.result (ap (λ (v : SmallVec ℕ). v.items)) c.insert.ensures.err) }

pub returns-then-from-to-clause-ok : goal.returns-then-from-to-clause-ok
returns-then-from-to-clause-ok c = (merged_some c.args.self.now.list.items c.as_mut_slice-list.result.now _ c.args.above c.args.until c.args.ts _ _ c.max.result c.args.self.now.rising c.count_through-from.ensures.splits c.count_through-to.ensures.splits c.count_through-to.ensures.bound c.requires.low c.requires.high c.if-from-to.true c.as_mut_slice-list.ensures.value c.max.ensures c.cut.ensures.items).1

pub returns-in_ok-insert-clause-ok : goal.returns-in_ok-insert-clause-ok
returns-in_ok-insert-clause-ok c = (merged_none c.args.self.now.list.items _ c.args.above c.args.until c.args.ts _ _ c.args.self.now.rising c.count_through-from.ensures.splits c.count_through-to.ensures.splits c.count_through-from.ensures.bound c.requires.low c.requires.high c.if-from-to.false c.in_ok-insert.ensures.ok).1
