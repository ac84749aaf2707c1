use Rattle.std.proofs.Common.{ap, arith, rules, sym, true, ◌≡◌, ◌∙◌, ◌≤◌, [], take}
use Rattle.std.specs.Option.{option_copied}
use Rattle.plain_database.proofs.Common.{MAX, common_steps, nat_tests, take_all}
use Rattle.spans.specs.Answer.{is_timestamp}
use Rattle.spans.specs.declared.state.State.TheVariants.{Committed}
use Rattle.plain_database.proofs.Streaming.{nothing_behind, walk_is, walks_on, writes_behind}
use Rattle.plain_database.proofs.versions.store.VersionStore.rows_after.Goals as goal

pub returns-then-get-ts-clause-rows : goal.returns-then-get-ts-clause-rows
returns-then-get-ts-clause-rows c = λ p all tied.
    c.new-rows.ensures.items ∙ sym (ap (take c.args.max) (nothing_behind p c.args.span.now c.args.ts (option_copied c.args.key) c.args.through (omega (arith, c.get.ensures.number))) ∙ take_all c.args.max [] (omega arith))

pub loop-writer-init : goal.loop-writer-init
loop-writer-init c =
    let in_range : c.args.through ≤ MAX = omega (arith, c.get.ensures.number, c.get.ensures.in_range) in
    record {
      all = _;
      says = λ p all tied. walk_is c.args.self.now p all tied c.args.span.now c.args.ts (option_copied c.args.key) (rw (← c.self.view_is, ← c.self-inside.view_is) c.range-writer-items.ensures.ordered) c.args.through in_range;
      left = grind (arith, common_steps);
    }

pub loop-writer-preserved-in-Committed-1 : goal.loop-writer-preserved-in-Committed-1
loop-writer-preserved-in-Committed-1 c =
    let at : c.in-Some-Committed.at ≡ c.in-Some.writer.now = search rules in
    let fits : is_timestamp c.in-Some.writer.now ≡ true = grind (arith, nat_tests) in
    let state : c.in-Some.begun.now.state ≡ Committed = search rules in
    let those : c.range-writes.result ≡ writes_behind c.args.ts (option_copied c.args.key) c.in-Some.writer.now c.in-Some.begun.now.writes = grind (arith, nat_tests) in
    record {
      all = c.loop-writer.invariant.all;
      says = c.loop-writer.invariant.says;
      left = walks_on c.args.max c.args.span.now c.args.ts (option_copied c.args.key) _ _ _ _ _ _ _ c.in-Some.ensures.steps fits state those (rw (← at) c.in_ok-add_writes.ensures) ∙ c.loop-writer.invariant.left;
    }
