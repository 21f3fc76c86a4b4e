-- The filters and their words.
use Rattle.std.specs.Prelude.{ℕ, List, [], ◌∷◌, Option, find, codes}
use Rattle.std.specs.Str.{bytes_eq}
use Rattle.sk_def.specs.declared.filter.Filter.{Filter}
use Rattle.sk_def.specs.declared.filter.Filter.TheVariants as filter

-- all filters, in the order of their table
abbrev pub all_filters : List Filter
all_filters =
    filter.Lit ∷ filter.Zero ∷ filter.One ∷ filter.Yes ∷ filter.No ∷ filter.Add ∷ filter.Sub ∷ filter.Mul ∷
    filter.Neg ∷ filter.Div ∷ filter.Rem ∷ filter.Lt ∷ filter.Le ∷ filter.Eq ∷ filter.Not ∷ filter.And ∷
    filter.Or ∷ filter.IsTrue ∷ filter.IsFalse ∷ filter.IsZero ∷ filter.NonZero ∷ filter.IsPos ∷
    filter.IsNeg ∷ filter.Below ∷ filter.AtLeast ∷ filter.Same ∷ filter.Differ ∷ filter.OfInt ∷
    filter.OfBool ∷ filter.AsInt ∷ filter.AsBool ∷ filter.Empty ∷ filter.Read ∷ filter.Write ∷
    filter.Forget ∷ filter.Bound ∷ filter.KeepInt ∷ filter.KeepBool ∷ filter.KeepVal ∷ filter.KeepStore ∷
    filter.AnyBool ∷ filter.Pick ∷ []

-- the word of a filter in a definition text
abbrev pub filter_word : Filter → List ℕ
filter_word filter.Lit = codes "lit"
filter_word filter.Zero = codes "zero"
filter_word filter.One = codes "one"
filter_word filter.Yes = codes "yes"
filter_word filter.No = codes "no"
filter_word filter.Add = codes "add"
filter_word filter.Sub = codes "sub"
filter_word filter.Mul = codes "mul"
filter_word filter.Neg = codes "neg"
filter_word filter.Div = codes "div"
filter_word filter.Rem = codes "rem"
filter_word filter.Lt = codes "lt"
filter_word filter.Le = codes "le"
filter_word filter.Eq = codes "eq"
filter_word filter.Not = codes "not"
filter_word filter.And = codes "and"
filter_word filter.Or = codes "or"
filter_word filter.IsTrue = codes "is_true"
filter_word filter.IsFalse = codes "is_false"
filter_word filter.IsZero = codes "is_zero"
filter_word filter.NonZero = codes "non_zero"
filter_word filter.IsPos = codes "is_pos"
filter_word filter.IsNeg = codes "is_neg"
filter_word filter.Below = codes "below"
filter_word filter.AtLeast = codes "at_least"
filter_word filter.Same = codes "same"
filter_word filter.Differ = codes "differ"
filter_word filter.OfInt = codes "of_int"
filter_word filter.OfBool = codes "of_bool"
filter_word filter.AsInt = codes "as_int"
filter_word filter.AsBool = codes "as_bool"
filter_word filter.Empty = codes "empty"
filter_word filter.Read = codes "read"
filter_word filter.Write = codes "write"
filter_word filter.Forget = codes "forget"
filter_word filter.Bound = codes "bound"
filter_word filter.KeepInt = codes "keep_int"
filter_word filter.KeepBool = codes "keep_bool"
filter_word filter.KeepVal = codes "keep_val"
filter_word filter.KeepStore = codes "keep_store"
filter_word filter.AnyBool = codes "any_bool"
filter_word filter.Pick = codes "pick"

-- the filter that has this word
abbrev pub filter_named : List ℕ → Option Filter
filter_named word = find (λ f. bytes_eq (filter_word f) word) all_filters
