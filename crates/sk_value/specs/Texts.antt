-- The texts of values: numbers and truth values, states with the names that are set, and tuples.
use Rattle.std.specs.Prelude.{ℕ, Bool, true, false, List, [], ◌++◌, codes, Option}
use Rattle.std.specs.List.{zip, filter_map, join_by}
use Rattle.std.specs.Option.{option_map}
use Rattle.std.specs.Fmt.{signed_decimal}
use Rattle.sk_value.specs.declared.value.Value.{Value}
use Rattle.sk_value.specs.declared.flow.Flow.{Flow}

-- what stands before an entry of a list
abbrev pub between : Bool → List ℕ
between true = []
between false = codes ", "

abbrev pub truth_text : Bool → List ℕ
truth_text true = codes "true"
truth_text false = codes "false"

abbrev pub value_text : Value → List ℕ
value_text (Value.Int z) = signed_decimal z
value_text (Value.Bool b) = truth_text b

-- a name with the value that it is set to
abbrev pub setting_text : List ℕ × Value → List ℕ
setting_text setting = setting.0 ++ codes "=" ++ value_text setting.1

-- the names that are set, each with its value, in the order of the names
abbrev pub settings : List (List ℕ) → List (Option Value) → List (List ℕ × Value)
settings names store = filter_map (λ place. option_map (λ value. (place.0, value)) place.1) (zip names store)

abbrev pub store_text : List (List ℕ) → List (Option Value) → List ℕ
store_text names store = codes "{" ++ join_by setting_text (codes ", ") (settings names store) ++ codes "}"

abbrev pub flow_text : List (List ℕ) → Flow → List ℕ
flow_text names (Flow.Int z) = signed_decimal z
flow_text names (Flow.Bool b) = truth_text b
flow_text names (Flow.Val value) = value_text value
flow_text names (Flow.Store store) = store_text names store

abbrev pub tuple_text : List (List ℕ) → List Flow → List ℕ
tuple_text names tuple = codes "(" ++ join_by (flow_text names) (codes ", ") tuple ++ codes ")"
