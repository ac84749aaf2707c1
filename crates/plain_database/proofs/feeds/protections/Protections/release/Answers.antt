use Rattle.std.proofs.Common.{◌≡◌, not, ◌==◌, rules, arith}
use Rattle.std.specs.Prelude.{filter}
use Rattle.std.proofs.lemmas.Fn.{filter_same}
use Rattle.plain_database.proofs.Common.{Protection, common_steps}
use Rattle.plain_database.proofs.feeds.protections.Protections.release.Goals as goal

pub returns : goal.returns
returns c =
    let left : c.retain.new.self.items ≡ filter (λ (x : Protection). not (x.id == c.args.id)) c.self.inside.standing.items = filter_same _ _ _ (λ x b f' k. search rules) _ _ c.retain.ensures.filtered in
    grind (arith, common_steps)
