-- What an operation gives on sets of truth values.
use Rattle.std.specs.Prelude.{Bool, true, false, not, ◌&&◌, ◌||◌}
use Rattle.sk_lattice.specs.declared.truth.AbsBool.{AbsBool}

-- no truth value, both, and one alone
abbrev pub no_truth : AbsBool
no_truth = record { has_true = false; has_false = false }

abbrev pub both_truths : AbsBool
both_truths = record { has_true = true; has_false = true }

abbrev pub only_truth : Bool → AbsBool
only_truth t = record { has_true = t; has_false = not t }

-- whether some truth value of the set passes the test
abbrev pub some_passes : AbsBool → (Bool → Bool) → Bool
some_passes a test = (a.has_true && test true) || (a.has_false && test false)

-- the truth values that an operation gives on those of a set, and on the pairs of two sets
abbrev pub truths_given : (Bool → Bool) → AbsBool → AbsBool
truths_given f a = record { has_true = some_passes a f; has_false = some_passes a (λ x. not (f x)) }

abbrev pub truths_of_pairs : (Bool → Bool → Bool) → AbsBool → AbsBool → AbsBool
truths_of_pairs f a b = record {
  has_true = some_passes a (λ x. some_passes b (f x));
  has_false = some_passes a (λ x. some_passes b (λ y. not (f x y)));
}
