use Rattle.std.proofs.Common.{ap, filter, not, rules, sym, ◌∙◌}
use Rattle.std.proofs.lemmas.Fn.{filter_same}
use Rattle.version_chain.specs.declared.chain.Version.{Version}
use Rattle.version_chain.specs.Dead.{is_dead_version}
use Rattle.version_chain.specs.Versions.{versions_in}
use Rattle.version_chain.proofs.versions.Versions.drop_dead.Goals as goal

pub returns-in-Short : goal.returns-in-Short
returns-in-Short c = filter_same _ _ _ (λ x b f' k. search rules) _ _ c.retain.ensures.filtered ∙ ap (λ vs. filter (λ (v : Version). not (is_dead_version c.args.horizon c.args.top v)) (versions_in vs)) (sym c.in-Short.is)
