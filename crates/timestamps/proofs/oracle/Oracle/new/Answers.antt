use Rattle.std.proofs.Common.{rules, sym, ap, ◌∙◌, subst, arith, All}
use Rattle.std.proofs.lemmas.Grind.{common_steps}
use Rattle.timestamps.proofs.oracle.Oracle.new.Invariants.{IsNewOf}
use Rattle.timestamps.proofs.Drawing.{enters}
use Rattle.std.proofs.lemmas.List.Elements.{All-push}
use Rattle.timestamps.proofs.oracle.Oracle.new.Goals as goal

pub split_seat-seat-requires : goal.split_seat-seat-requires
split_seat-seat-requires c = (search rules, search rules, enters _ _ _)

pub loop-preserved : goal.loop-preserved
loop-preserved c = let inv = c.loop.invariant in let cut = c.split_seat-seat.ensures in let new = IsNewOf c.in_ok-board.board.shared.table_id c.args.first_block in (
  search rules,
  cut.2 ∙ inv.1,
  (first_of (search rules, grind (arith, common_steps))),
  subst (All new) (sym c.in_ok-push.ensures.items)
      (All-push new c.loop.made.items _ inv.3 (cut.3 ∙ inv.0, ap (λ m. m.0.drawn) cut.4, ap (λ m. m.0.loaded) cut.4 ∙ ap (λ m. m.0.loaded) inv.1)),
)
