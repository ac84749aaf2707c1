use Rattle.follow.proofs.Common.{on_ok_weaker, view_in}
use Rattle.follow.proofs.Tellings.{shows_listed}
use Rattle.follow.proofs.telling.Telling.show.Goals as goal

pub returns-in-Rows : goal.returns-in-Rows
returns-in-Rows c =
    on_ok_weaker c.put_rows.result (λ added. shows_listed c.args.self.now (view_in c.args.replica.now) c.rows.result c.args.report.now.items c.put_rows.new.out.items c.in-Rows.is c.rows.ensures added) c.put_rows.ensures
