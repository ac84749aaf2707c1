use Rattle.std.proofs.Common.{◌≡◌, ◌*◌, length, sym, ap, ◌∙◌, subst, arith}
use Rattle.std.proofs.lemmas.List.{length-take-le}
use Rattle.timestamps.specs.Bytes.{AreBytes, front_from}
use Rattle.timestamps.proofs.Fronts.{fronts_same}
use Rattle.timestamps.proofs.Words.{take_bytes, word_decides, word_goes_on}
use Rattle.timestamps.proofs.few_bytes.FewBytes.order.Goals as goal

pub returns-then-word-others : goal.returns-then-word-others
returns-then-word-others c =
    c.cmp.ensures ∙ word_decides c.args.self.now c.args.other.now c.word-word.ensures.bytes c.word-others.ensures.bytes c.loop-i.i c.loop-i.invariant c.word-word.result c.word-others.result c.word-word.ensures.word c.word-others.ensures.word c.if-word-others.true

pub loop-i-preserved : goal.loop-i-preserved
loop-i-preserved c =
    word_goes_on c.args.self.now c.args.other.now c.word-word.ensures.bytes c.word-others.ensures.bytes c.loop-i.i c.loop-i.invariant c.word-word.result c.word-others.result c.word-word.ensures.word c.word-others.ensures.word c.if-word-others.false

pub returns : goal.returns
returns c =
    let self = c.self.inside in
    let other = c.other.inside in
    let h : AreBytes c.args.self.now = subst AreBytes c.self.view_is (take_bytes self.len self.bytes c.self.invariant.are_bytes) in
    let g : AreBytes c.args.other.now = subst AreBytes c.other.view_is (take_bytes other.len other.bytes c.other.invariant.are_bytes) in
    let size : length c.args.self.now ≡ self.len = ap length (sym c.self.view_is) ∙ length-take-le self.len self.bytes (omega (arith, c.self.told, c.self.invariant.within)) in
    let size' : length c.args.other.now ≡ other.len = ap length (sym c.other.view_is) ∙ length-take-le other.len other.bytes (omega (arith, c.other.told, c.other.invariant.within)) in
    let all : 8 * c.loop-i.i ≡ 24 = omega arith in
    let fronts : front_from 24 0 c.args.self.now ≡ front_from 24 0 c.args.other.now = subst (λ k. front_from k 0 c.args.self.now ≡ front_from k 0 c.args.other.now) all c.loop-i.invariant in
    let same = fronts_same 24 0 c.args.self.now c.args.other.now h g fronts (omega (arith, size, size', c.self.invariant.within)) in
    c.cmp-2.ensures ∙ rw (← size, ← size') (sym same)
