use Rattle.std.proofs.Common.{sym, ◌∙◌, arith}
use Rattle.std.specs.Str.{bytes_eq}
use Rattle.sk_sign.specs.Texts.{sign_text}
use Rattle.sk_sign.proofs.Finding.{find_hit, find_miss}
use Rattle.sk_sign.proofs.sign.first_named.Goals as goal

pub returns-then-has_word : goal.returns-then-has_word
returns-then-has_word c = find_hit (λ set. bytes_eq (sign_text set) c.args.word.now) c.args.sets.now c.loop-set.set-index _ (omega arith) c.loop-set.invariant (sym c.has_word.ensures ∙ c.if-has_word.true)

pub loop-set-preserved : goal.loop-set-preserved
loop-set-preserved c = find_miss (λ set. bytes_eq (sign_text set) c.args.word.now) c.args.sets.now c.loop-set.set-index _ (omega arith) c.loop-set.invariant (sym c.has_word.ensures ∙ c.if-has_word.false)
