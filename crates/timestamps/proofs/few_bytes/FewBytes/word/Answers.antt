use Rattle.std.proofs.Common.{◌≡◌, ◌*◌, ◌-◌, length, take, drop, ap, sym, subst, ◌∙◌, Option, Some}
use Rattle.std.specs.Option.{MatchOption}
use Rattle.timestamps.proofs.Common.{length-drop, take-length}
use Rattle.timestamps.specs.Bytes.{AreBytes, front_of}
use Rattle.timestamps.proofs.Words.{chunk_word, take_bytes, word_padded}
use Rattle.timestamps.proofs.few_bytes.FewBytes.word.Goals as goal

there : {A : Type 0} (N : Type 0) (P : A → Type 0) (o : Option A) (a : A) → o ≡ Some a → MatchOption o N P → P a
there N P o a is found = subst (λ o. MatchOption o N P) is found

pub returns-clause-word : goal.returns-clause-word
returns-clause-word c =
    let self = c.self.inside in
    let at = 8 * c.args.i in
    let behind = drop at self.bytes in
    let size : length behind ≡ 24 - at = length-drop at self.bytes ∙ ap (λ n. n - at) c.self.told in
    let whole : take (24 - at) behind ≡ behind = ap (λ n. take n behind) (sym size) ∙ take-length behind in
    let first = there _ _ c.first_chunk.result c.unwrap-bytes.result c.unwrap-bytes.ensures c.first_chunk.ensures.cases in
    let chunk = chunk_word (take (24 - at) behind) c.unwrap-bytes.result.now first.same in
    c.from_be_bytes.ensures ∙ sym chunk ∙ ap front_of whole ∙ word_padded at self.len self.bytes c.self.invariant.zeros ∙ ap (λ text. front_of (drop at text)) c.self.view_is

pub returns-clause-bytes : goal.returns-clause-bytes
returns-clause-bytes c =
    let self = c.self.inside in
    subst AreBytes c.self.view_is (take_bytes self.len self.bytes c.self.invariant.are_bytes)
