use Rattle.std.proofs.Common.{sym, ◌∙◌}
use Rattle.plain_database.proofs.Common.{is_at, nat_cmp, on_err_weaker, on_ok_weaker, set_value_same}
use Rattle.plain_database.specs.Table.{writing}
use Rattle.plain_database.proofs.TableSteps.{set_is_changed}
use Rattle.plain_database.proofs.versions.time_table.TimeTable.write.Goals as goal

pub returns-clause-ok : goal.returns-clause-ok
returns-clause-ok c = on_ok_weaker c.write.result (λ is. rw ((c.get_mut.follows.holds (record c.in-Some.begun.now { writes = c.write.new.self })).0, ← c.self.view_is) (rw is
    (set_is_changed (writing c.args.key.now c.args.after) c.self.inside.map.entries c.args.ts c.in-Some.begun.now (sym c.in-Some.ensures.value)))) c.write.ensures.ok

pub returns-clause-err : goal.returns-clause-err
returns-clause-err c = on_err_weaker c.write.result (λ same. rw ((c.get_mut.follows.holds (record c.in-Some.begun.now { writes = c.write.new.self })).0) (rw same
    (set_value_same (is_at (nat_cmp c.args.ts)) c.self.inside.map.entries c.in-Some.begun.now (sym c.in-Some.ensures.value) ∙ c.self.view_is))) c.write.ensures.err
