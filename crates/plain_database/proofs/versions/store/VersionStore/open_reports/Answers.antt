use Rattle.std.proofs.Common.{rules, tests, ◌∙◌}
use Rattle.std.proofs.lemmas.Iterator.{YieldsList-from_map, items_from_collect}
use Rattle.std.proofs.lemmas.Iterator.Consumers.{YieldsList-at, YieldsList-from_filter, YieldsList-from_rest}
use Rattle.std.proofs.lemmas.Result.{IfOk-weaker}
use Rattle.plain_database.proofs.Opening.{report_of, reports_are}
use Rattle.plain_database.proofs.versions.store.VersionStore.open_reports.Goals as goal

pub returns : goal.returns
returns c = IfOk-weaker c.collect.result _ _
    (λ ns is p all tied. rw is (reports_are c.args.self.now c.above_closed.ensures.rising p all tied))
    (items_from_collect c.collect.result c.collect.ensures.ran
    (YieldsList-from_map _ report_of
    (YieldsList-at c.map.ensures.source (YieldsList-from_filter _ _ (YieldsList-from_rest _ (c.filter-open.ensures.source ∙ c.above_closed.ensures.those)) c.filter-open.ensures.closure (λ x r q k. search (rules, tests))))
    c.map.ensures.closure (λ x r q k. search (rules, tests))))
