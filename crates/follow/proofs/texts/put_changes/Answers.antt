use Rattle.std.proofs.Common.{◌≡◌, ◌∙◌, ◌++◌, List, ℕ, Option, ap, rules}
use Rattle.follow.proofs.Common.{flat_map, view_in}
use Rattle.follow.specs.Reports.{change_line}
use Rattle.follow.proofs.Tellings.{added_more, added_all}
use Rattle.follow.proofs.texts.put_changes.Goals as goal

pub loop-key-init : goal.loop-key-init
loop-key-init c = let line = λ (x : List ℕ). change_line x (view_in c.args.replica.now x) in
    let all : c.into_iter-key-iterator.result ≡ c.args.changed.now.keys = search rules in
    ap (λ (keys : List (List ℕ)). c.args.out.now.items ++ flat_map line keys) all

pub loop-key-preserved : goal.loop-key-preserved
loop-key-preserved c = let l = c.loop-key in let line = λ (x : List ℕ). change_line x (view_in c.args.replica.now x) in
    added_more line l.out.items (c.args.out.now.items ++ flat_map line c.args.changed.now.keys) l.key-iterator l.invariant c.put_change.new.out.items c.next.new.self c.in-Some.key.now c.in-Some.ensures.steps
    (c.in_ok-put_change.ensures ∙ ap (λ (o : Option (List ℕ)). l.out.items ++ change_line c.in-Some.key.now o) c.get.ensures)

pub returns : goal.returns
returns c = let l = c.loop-key in let line = λ (x : List ℕ). change_line x (view_in c.args.replica.now x) in
    added_all line l.out.items (c.args.out.now.items ++ flat_map line c.args.changed.now.keys) l.key-iterator l.invariant c.in-None.ensures.steps.0
