-- What a numeric domain is.
use Rattle.std.specs.Prelude.{ℕ, ℤ, Bool, List}
use Rattle.sk_value.specs.declared.arith.Arith.{Arith}
use Rattle.sk_value.specs.declared.arith.Compare.{Compare}
use Rattle.sk_value.specs.declared.arith.Refine.{Refine}
use Rattle.sk_lattice.specs.declared.truth.AbsBool.{AbsBool}

-- the operations of a domain with elements E
pub record Domain (E : Type 0) : Type 0 where
  pub empty : E
  pub any : E
  pub of : ℤ → E
  pub holds : E → ℤ → Bool
  pub is_empty : E → Bool
  pub leq : E → E → Bool
  pub join : E → E → E
  pub meet : E → E → E
  pub widen : E → E → List ℤ → E
  pub rank : E → List ℤ → ℕ
  pub arith : Arith → E → E → E
  pub neg : E → E
  pub compare : Compare → E → E → AbsBool
  pub refine : Refine → E → E → E × E
