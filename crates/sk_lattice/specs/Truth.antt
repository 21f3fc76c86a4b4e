-- Sets of truth values.
use Rattle.std.specs.Prelude.{Bool, ◌&&◌, ◌||◌, not, if◌then◌else◌}
use Rattle.sk_lattice.specs.declared.truth.AbsBool.{AbsBool}

-- whether a truth value is in the set
abbrev pub bool_holds : AbsBool → Bool → Bool
bool_holds a b = if b then a.has_true else a.has_false

-- whether each truth value of the first set is in the second
abbrev pub bool_leq : AbsBool → AbsBool → Bool
bool_leq a b = (not a.has_true || b.has_true) && (not a.has_false || b.has_false)

-- whether no truth value is in the set
abbrev pub bool_is_empty : AbsBool → Bool
bool_is_empty a = not a.has_true && not a.has_false
