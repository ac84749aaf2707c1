use Rattle.std.proofs.Common.{rules, ◌≡◌, Some}
use Rattle.plain_database.proofs.Common.{contains, is_at, key_cmp, lookup, nat_cmp}
use Rattle.plain_database.proofs.Newer.{last_is}
use Rattle.plain_database.proofs.versions.writers.Writers.last.Goals as goal

pub returns : goal.returns
returns c =
    let found : lookup (is_at (key_cmp c.args.key.now)) c.args.self.now ≡ Some c.in_ok-get.field-0.now = search rules in
    let range = c.range.ensures.in_range tt in
    let here = range.3 c.in_ok-writer.writer.now c.next_back.new.self c.in_ok-writer.ensures.steps in
    let top = range.4 c.in_ok-writer.writer.now c.next_back.new.self c.in_ok-writer.ensures.steps in
    rw (found, c.writer.view_is) (last_is (contains nat_cmp c.in_ok-get.field-0.now) c.args.ts c.in_ok-writer.writer.now here.0.1 here.1 (λ i low. top i (tt, low)))
