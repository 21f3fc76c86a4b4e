-- The eight sets of signs, by their printed names.
use Rattle.std.specs.Prelude.{Bool, true, false}
use Rattle.sk_sign.specs.declared.sign.Sign.{Sign}

abbrev pub signs : Bool → Bool → Bool → Sign
signs n z p = record { negative = n; zero = z; positive = p }

abbrev pub none : Sign
none = signs false false false

abbrev pub neg : Sign
neg = signs true false false

abbrev pub zero : Sign
zero = signs false true false

abbrev pub pos : Sign
pos = signs false false true

abbrev pub nonpos : Sign
nonpos = signs true true false

abbrev pub nonneg : Sign
nonneg = signs false true true

abbrev pub nonzero : Sign
nonzero = signs true false true

abbrev pub any : Sign
any = signs true true true
