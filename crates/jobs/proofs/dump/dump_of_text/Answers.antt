use Rattle.std.proofs.Common.{rules, ◌≡◌, subst, arith}
use Rattle.std.proofs.lemmas.Grind.{common_steps}
use Rattle.std.specs.Prelude.{unwrap_or}
use Rattle.jobs.proofs.Common.{Dumps}
use Rattle.jobs.specs.Verdicts.{dump_text}
use Rattle.jobs.proofs.Dumps.{written_dump}
use Rattle.jobs.proofs.dump.dump_of_text.Goals as goal

pub returns : goal.returns
returns c =
    let dump = c.in_ok-rows.field-0 in
    let written : c.write_close.new.out.items ≡ dump_text dump = grind (arith, common_steps) in
    written_dump (unwrap_or c.args.at 0) c.args.text.now c.verdict_by.new.checker dump _ (search rules)
    (subst (λ at. Dumps c.verdict_by.new.checker at dump) c.number_of.ensures.number c.in_ok-rows.ensures.dump) written
