use Rattle.std.proofs.Common.{ℕ, ◌≡◌, ◌∙◌, cond, map, nat_le, rules}
use Rattle.std.proofs.lemmas.Map.Made.{map_same_pairs}
use Rattle.read_marks.specs.Spans.{reaches}
use Rattle.read_marks.proofs.Low.{low_forgotten}
use Rattle.read_marks.proofs.Raising.{forgotten_gone}
use Rattle.read_marks.proofs.span_marks.SpanMarks.forget_through.Goals as goal

pub invariant_of-self : goal.invariant_of-self
invariant_of-self c =
    let kept = λ (v : ℕ). cond (nat_le v c.args.through) 0 v in
    let left : c.retain.new.self.entries ≡ map (λ e. (e.0, kept e.1)) c.args.self.now.starts.entries = map_same_pairs _ kept _ (λ k v b w f' t. search rules) _ _ c.retain.ensures.filtered in
    record { low = low_forgotten c.args.through c.args.self.now.starts.entries c.retain.new.self.entries left c.args.self.now.low }

pub returns : goal.returns
returns c = λ x.
    let kept = λ (v : ℕ). cond (nat_le v c.args.through) 0 v in
    let left : c.retain.new.self.entries ≡ map (λ e. (e.0, kept e.1)) c.args.self.now.starts.entries = map_same_pairs _ kept _ (λ k v b w f' t. search rules) _ _ c.retain.ensures.filtered in
    c.join.ensures x ∙ rw left (forgotten_gone (reaches x) c.args.through c.args.self.now.starts.entries)
