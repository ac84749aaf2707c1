use Rattle.std.proofs.Common.{List, ℕ, subst}
use Rattle.json_lines.specs.Messages.{Copied}
use Rattle.ripsawbean.proofs.text.Goals as goal

pub returns-in-Ok-clause-text : goal.returns-in-Ok-clause-text
returns-in-Ok-clause-text c h held =
    let written = c.in-Ok.ensures.ok h held in
    subst (λ (text : List ℕ). Copied text c.args.out.now c.copy_text.new.out c.copy_text.result) written c.copy_text.ensures
