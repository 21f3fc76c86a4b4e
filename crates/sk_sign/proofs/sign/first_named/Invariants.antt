use Rattle.std.proofs.Common.{◌≡◌, drop}
use Rattle.std.specs.Prelude.{find}
use Rattle.std.specs.Str.{bytes_eq}
use Rattle.sk_sign.specs.Texts.{sign_text}
use Rattle.sk_sign.proofs.sign.first_named.Given as goal

abbrev pub invariant-loop-set : goal.invariant-loop-set
invariant-loop-set l = find (λ set. bytes_eq (sign_text set) l.word) l.sets ≡ find (λ set. bytes_eq (sign_text set) l.word) (drop l.set-index l.sets)
