use Rattle.std.proofs.Common.{List, drop, length, subst, take, ◌++◌, ◌≡◌, ap, ◌∙◌}
use Rattle.embedded.specs.declared.held.HeldRecord.{HeldRecord}
use Rattle.ripsawbean.proofs.looks.held_by.Goals as goal

pub returns-in-Ok : goal.returns-in-Ok
returns-in-Ok c h stands = (
  c.in-Ok.held.items,
  c.in-Ok.ensures h stands,
  c.copy_held.ensures.count ∙ ap length c.as_slice.ensures.value,
  subst (λ (held : List HeldRecord). c.copy_held.new.out ≡ take (length c.args.out.now) held ++ drop (length held) c.args.out.now) c.as_slice.ensures.value c.copy_held.ensures.copied,
)
