use Rattle.std.proofs.Common.{List, ℕ, subst}
use Rattle.json_lines.specs.Messages.{Copied}
use Rattle.ripsawbean.proofs.looks.state.Goals as goal

pub returns-in-Ok-clause-text : goal.returns-in-Ok-clause-text
returns-in-Ok-clause-text c h held = (c.in-Ok.text.items, c.in-Ok.ensures h held, subst (λ (text : List ℕ). Copied text c.args.out.now c.copy_front.new.out c.copy_front.result) c.as_slice.ensures.value c.copy_front.ensures)
