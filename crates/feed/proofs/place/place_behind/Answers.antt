use Rattle.std.proofs.Common.{None, [], ap, max, sym, take, ◌∷◌, ◌∙◌}
use Rattle.std.specs.Prelude.{option_map}
use Rattle.feed.proofs.Common.{last_name, last_resolved, name_of, option_copied}
use Rattle.feed.proofs.Telling.{next_resolved, next_row}
use Rattle.feed.proofs.place.place_behind.Goals as goal
use Rattle.feed.proofs.place.place_behind.Goals.{in-Row, in-Resolved}

pub loop-message-preserved : goal.loop-message-preserved
loop-message-preserved c =
    let ms = c.args.messages.now in
    let i = c.loop-message.message-index in
    let m = c.message-item.result in
    let resolved = next_resolved c.args.after i ms m c.loop-message-test.true c.message-item.is in
    let row = next_row i ms m c.loop-message-test.true c.message-item.is in
    elim c.match-message.branch [
      | in-Row w ↦ (
        w.reached-is ∙ c.loop-message.invariant.0 ∙ sym (resolved ∙ ap (λ d. last_resolved (last_resolved c.args.after (take i ms)) (d ∷ [])) w.in-Row.is),
        ap (λ o. option_map name_of (option_copied o)) w.last-is ∙ sym (row ∙ ap (λ d. last_name (last_name None (take i ms)) (d ∷ [])) w.in-Row.is),
      )
      | in-Resolved w ↦ (
        w.reached-is ∙ w.max-reached.ensures ∙ ap (λ n. max n w.get.result) c.loop-message.invariant.0 ∙ ap (max (last_resolved c.args.after (take i ms))) w.get.ensures.number ∙ sym (resolved ∙ ap (λ d. last_resolved (last_resolved c.args.after (take i ms)) (d ∷ [])) w.in-Resolved.is),
        ap (λ o. option_map name_of (option_copied o)) w.last-is ∙ c.loop-message.invariant.1 ∙ sym (row ∙ ap (λ d. last_name (last_name None (take i ms)) (d ∷ [])) w.in-Resolved.is),
      )
    ]
