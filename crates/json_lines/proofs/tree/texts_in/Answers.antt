use Rattle.std.proofs.Common.{◌≡◌, ◌≢◌, Result, sym, subst, ◌∙◌, arith}
use Rattle.serde_json.specs.View.{view, members_view}
use Rattle.serde_json.specs.Events.{members_len}
use Rattle.serde_json.proofs.Views.{members_len-members_view}
use Rattle.json_lines.specs.declared.fault.MessageFault.{MessageFault}
use Rattle.json_lines.specs.Meaning.{Texts, texts_view, Reads}
use Rattle.json_lines.proofs.Trees.{texts_by_count, texts_other}
use Rattle.json_lines.proofs.tree.texts_in.Goals as goal

pub returns-in-1 : goal.returns-in-1
returns-in-1 c =
    let count : members_len (members_view c.in-Some.members.now.entries) ≡ 1 = members_len-members_view c.in-Some.members.now.entries ∙ sym c.len.ensures.len ∙ c.in-1.is in
    subst (λ (steps : Result Texts MessageFault). Reads texts_view c.resolved_in.result steps) (sym (texts_by_count (view c.args.tree.now) _ 1 (sym c.in-Some.ensures) count)) c.resolved_in.ensures

pub returns-in-3 : goal.returns-in-3
returns-in-3 c =
    let count : members_len (members_view c.in-Some.members.now.entries) ≡ 3 = members_len-members_view c.in-Some.members.now.entries ∙ sym c.len.ensures.len ∙ c.in-3.is in
    subst (λ (steps : Result Texts MessageFault). Reads texts_view c.row_in.result steps) (sym (texts_by_count (view c.args.tree.now) _ 3 (sym c.in-Some.ensures) count)) c.row_in.ensures

pub returns-in_default-len : goal.returns-in_default-len
returns-in_default-len c =
    let one : c.len.result ≢ 1 = omega arith in
    let three : c.len.result ≢ 3 = omega arith in
    texts_other (view c.args.tree.now) _ c.len.result (sym c.in-Some.ensures) (members_len-members_view c.in-Some.members.now.entries ∙ sym c.len.ensures.len) one three
