use Rattle.std.proofs.Common.{arith, ◌+◌}
use Rattle.closing.proofs.Common.{contains, get, nat_cmp}
use Rattle.closing.specs.Standing.{pair_cmp}
use Rattle.closing.proofs.Numbers.{insert_last, none_beyond, numbered_push}
use Rattle.closing.proofs.Tying.{alike_again, alike_put}
use Rattle.closing.proofs.closing.Closing.protect.Goals as goal

pub invariant_of-self-2 : goal.invariant_of-self-2
invariant_of-self-2 c = let made = c.self.inside.made in let entries = c.self.inside.by_number.entries in let tied = c.self.invariant in record {
  rising = c.in-Ok.ensures.ordered;
  numbered = rw (c.in-Ok.ensures.entries, insert_last made c.args.t entries tied.numbered) (numbered_push made c.args.t entries tied.numbered);
  each = alike_put (contains pair_cmp c.self.inside.by_timestamp) (contains pair_cmp c.insert.new.self) (get nat_cmp c.self.inside.by_number) (get nat_cmp c.insert-2.new.self) c.args.t (made + 1)
      (none_beyond made (made + 1) entries tied.numbered (omega arith)) tied.each c.in_ok-insert.ensures.updates.0 c.in-Ok.ensures.updates.0;
}

pub invariant_of-self-in_default : goal.invariant_of-self-in_default
invariant_of-self-in_default c = let made = c.self.inside.made in let tied = c.self.invariant in record {
  rising = c.insert-2.ensures.ordered;
  numbered = rw c.in_default.ensures.err tied.numbered;
  each = rw c.in_default.ensures.err (alike_again (contains pair_cmp c.self.inside.by_timestamp) (contains pair_cmp c.insert.new.self) (contains pair_cmp c.remove.new.self) (get nat_cmp c.self.inside.by_number) c.args.t (made + 1)
      (none_beyond made (made + 1) c.self.inside.by_number.entries tied.numbered (omega arith)) tied.each c.in_ok-insert.ensures.updates.0 c.remove.ensures.updates.0);
}
