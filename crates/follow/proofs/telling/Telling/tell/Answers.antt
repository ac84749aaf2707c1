use Rattle.std.proofs.Common.{◌≡◌, [], Option, ℕ, refl, rules, subst, sym}
use Rattle.replica.specs.Replicas.{view_in}
use Rattle.follow.specs.Reports.{TellsAt}
use Rattle.follow.proofs.Tellings.{tells_rows}
use Rattle.follow.proofs.telling.Telling.tell.Goals as goal

pub returns : goal.returns
returns c = let t = c.args.self.now in let t' = record t { changed = c.new.result } in
    let none : t'.changed.keys ≡ [] = search rules in
    subst (λ (at : Option ℕ). TellsAt t t' c.args.word.now at (view_in c.args.replica.now) c.args.report.now.items c.show.new.report.items) (sym c.in-Some.is)
    (tells_rows t t' c.args.word.now c.in-Some.at c.len.result (view_in c.args.replica.now) c.args.report.now.items c.put_count.new.out.items c.show.new.report.items c.len.ensures c.in_ok-put_count.ensures c.in_ok-show.ensures none refl)
