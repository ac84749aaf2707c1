use Rattle.std.proofs.Common.{◌≡◌, List, ℕ, [], Option, Some, subst}
use Rattle.embedded.proofs.Common.{IfOk-weaker, effects_of}
use Rattle.embedded.specs.declared.dumping.DumpPlace.{DumpPlace}
use Rattle.embedded.specs.Dumping.{AreTexts, IsNextText, filled}
use Rattle.embedded.proofs.DumpTexts.{first_then}
use Rattle.embedded.proofs.database.Database.put_texts.Goals as goal

pub returns : goal.returns
returns c = λ h held at.
    let p = effects_of h in
    let a = c.args in
    let text = c.put_next.new.text.items in
    let step : IsNextText p a.end a.place a.text.now.items text (Some c.in-Some.behind) =
    subst (λ (n : Option DumpPlace). IsNextText p a.end a.place a.text.now.items text n) c.in-Some.is (c.in_ok-put_next.ensures.next h held at) in
    let first : IsNextText p a.end a.place [] text (Some c.in-Some.behind) =
    subst (λ (l : List ℕ). IsNextText p a.end a.place l text (Some c.in-Some.behind)) c.requires step in
    IfOk-weaker c.put_more.result (λ next. (c.put_more.new.text.items, next) ≡ filled p a.end a.room text c.in-Some.behind) (AreTexts p a.end a.room a.place c.put_more.new.text.items)
    (λ next is. first_then p a.end a.room text c.put_more.new.text.items a.place c.in-Some.behind next first is) (c.put_more.ensures h held at)
