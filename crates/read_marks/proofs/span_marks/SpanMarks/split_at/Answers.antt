use Rattle.read_marks.proofs.Steps.{step-insert}
use Rattle.std.proofs.Common.{◌≡◌, ℕ, List, ap, sym, ◌∙◌, None}
use Rattle.read_marks.proofs.Common.{insert_entry, is_at, key_cmp, lookup, nat_list_cmp_total, none_of, on_err_weaker, on_ok_weaker}
use Rattle.std.proofs.lemmas.Map.{none_passes_from_lookup}
use Rattle.read_marks.specs.Spans.{reaches, step_at}
use Rattle.read_marks.proofs.Low.{either_way, low_alike}
use Rattle.read_marks.proofs.span_marks.SpanMarks.split_at.Goals as goal

pub returns-clause-latest : goal.returns-clause-latest
returns-clause-latest c = λ x.
    let place = c.args.place.now in
    let old = c.args.self.now.starts.entries in
    let absent : lookup (is_at (key_cmp place)) old ≡ None = none_of _ (sym c.contains_key.ensures ∙ c.if-contains_key.false) in
    rw (c.in_ok-insert.ensures.entries, c.in_ok-start.ensures.bytes) (step-insert nat_list_cmp_total place c.latest_at-latest.result 0 x old (none_passes_from_lookup _ old absent) c.latest_at-latest.ensures)

pub invariant_of-self : goal.invariant_of-self
invariant_of-self c =
    let place = c.args.place.now in
    let old = c.args.self.now.starts.entries in
    let absent : lookup (is_at (key_cmp place)) old ≡ None = none_of _ (sym c.contains_key.ensures ∙ c.if-contains_key.false) in
    let latest : (x : List ℕ) → step_at (reaches x) 0 (insert_entry key_cmp old c.in_ok-start.start c.latest_at-latest.result) ≡ step_at (reaches x) 0 old
    = λ x. rw c.in_ok-start.ensures.bytes (step-insert nat_list_cmp_total place c.latest_at-latest.result 0 x old (none_passes_from_lookup _ old absent) c.latest_at-latest.ensures) in
    record {
      low = either_way c.insert.result
          (on_ok_weaker c.insert.result (λ is. low_alike old c.insert.new.self.entries (λ x. ap (step_at (reaches x) 0) is ∙ latest x) c.args.self.now.low) c.insert.ensures.entries)
          (on_err_weaker c.insert.result (λ is. low_alike old c.insert.new.self.entries (λ x. ap (step_at (reaches x) 0) is) c.args.self.now.low) c.insert.ensures.err);
    }
