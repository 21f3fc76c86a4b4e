-- All arithmetic passes a test that passes everywhere.
use Rattle.std.proofs.Common.{◌≡◌, true, List, Option, Some, None, refl}
use Rattle.std.specs.Option.{option_map_or}
use Rattle.sk_def.specs.declared.filter.Filter.{Filter}
use Rattle.sk_value.specs.declared.arith.Arith.{Arith}
use Rattle.sk_absfilter.specs.declared.arg.AbsArg.{AbsArg}
use Rattle.sk_absfilter.specs.Arguments.{the_ints}
use Rattle.sk_least.specs.Domains.{everywhere}
use Rattle.sk_least.specs.Least.{arith_of, arithmetic_passes}

pub all_pass : {D : Type 0} (filter : Filter) (args : List (AbsArg D)) → arithmetic_passes everywhere filter args ≡ true
all_pass {D} filter args = of_filter (arith_of filter)
  where
    of_args : (given : Option (D × D)) → option_map_or (λ p. true) given true ≡ true
    of_args (Some p) = refl
    of_args None = refl

    of_filter : (op : Option Arith) → option_map_or (λ op. option_map_or (λ p. everywhere op p.0 p.1) (the_ints args) true) op true ≡ true
    of_filter (Some op) = of_args (the_ints args)
    of_filter None = refl
