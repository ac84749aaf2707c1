use Rattle.std.proofs.Common.{◌≡◌, ◌≢◌, ◌↔◌, rules, vec_len}
use Rattle.std.specs.Prelude.{IfErr}
use Rattle.std.proofs.lemmas.Result.{IfErr-weaker}
use Rattle.races.specs.declared.racing.RaceError.TheVariants.{Counts}
use Rattle.races.proofs.racing.race.Goals as goal

pub returns-clause-counts : goal.returns-clause-counts
returns-clause-counts g c =
    let never : IfErr c.scoped.result (λ e. e ≢ Counts) = search rules in
    let same : vec_len c.args.seats ≡ vec_len c.args.lists = search rules in
    IfErr-weaker c.scoped.result (λ e. e ≢ Counts) (λ e. (e ≡ Counts) ↔ (vec_len c.args.seats ≢ vec_len c.args.lists)) (λ e ne. (λ is. absurd (ne is), λ differ. absurd (differ same))) never
