use Rattle.std.proofs.Common.{sym, ap, ◌∙◌}
use Rattle.closing.proofs.Common.{contains, get, nat_cmp}
use Rattle.closing.specs.Standing.{pair_cmp}
use Rattle.std.specs.Prelude.{is_some}
use Rattle.closing.proofs.Numbers.{number_stands, numbered_removed}
use Rattle.closing.proofs.Tying.{alike_taken}
use Rattle.closing.proofs.closing.Closing.release.Goals as goal

pub invariant_of-self-in-Some : goal.invariant_of-self-in-Some
invariant_of-self-in-Some c = record {
  rising = c.remove.ensures.ordered;
  numbered = rw c.remove.ensures.entries (numbered_removed _ _ _ c.self.invariant.numbered);
  each = alike_taken (contains pair_cmp c.self.inside.by_timestamp) (contains pair_cmp c.remove-in-Some.new.self) (get nat_cmp c.self.inside.by_number) (get nat_cmp c.remove.new.self) c.in-Some.at c.args.id
      (sym c.in-Some.ensures.value) c.self.invariant.each c.remove-in-Some.ensures.updates.0 c.remove.ensures.updates.0;
}

pub returns-in-None-clause-stood : goal.returns-in-None-clause-stood
returns-in-None-clause-stood c = rw (← c.self.view_is) (ap is_some c.in-None.ensures.value ∙ sym (number_stands c.args.id c.self.inside.by_number.entries))

pub returns-in-Some-clause-stood : goal.returns-in-Some-clause-stood
returns-in-Some-clause-stood c = rw (← c.self.view_is) (ap is_some c.in-Some.ensures.value ∙ sym (number_stands c.args.id c.self.inside.by_number.entries))
