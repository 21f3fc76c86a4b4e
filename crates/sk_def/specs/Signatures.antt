-- What each filter takes and gives.
use Rattle.std.specs.Prelude.{ℕ, zero, suc, List, [], ◌∷◌, Option, Some, None}
use Rattle.sk_base.specs.declared.flow.FlowSort.TheVariants.{Int, Bool as Truth, Val, Store}
use Rattle.sk_def.specs.declared.filter.Filter.{Filter}
use Rattle.sk_def.specs.declared.filter.Filter.TheVariants as filter
use Rattle.sk_def.specs.declared.sorts.VarSort.{VarSort}
use Rattle.sk_def.specs.declared.sorts.VarSort.TheVariants.{Number, Name, Flow}
use Rattle.sk_def.specs.declared.sorts.ParamSort.{ParamSort}
use Rattle.sk_def.specs.declared.sorts.ParamSort.TheVariants as param

-- the sorts of a filter's arguments
abbrev pub parameters : Filter → List VarSort
parameters filter.Lit = Number ∷ []
parameters filter.Zero = []
parameters filter.One = []
parameters filter.Yes = []
parameters filter.No = []
parameters filter.Add = Flow Int ∷ Flow Int ∷ []
parameters filter.Sub = Flow Int ∷ Flow Int ∷ []
parameters filter.Mul = Flow Int ∷ Flow Int ∷ []
parameters filter.Neg = Flow Int ∷ []
parameters filter.Div = Flow Int ∷ Flow Int ∷ []
parameters filter.Rem = Flow Int ∷ Flow Int ∷ []
parameters filter.Lt = Flow Int ∷ Flow Int ∷ []
parameters filter.Le = Flow Int ∷ Flow Int ∷ []
parameters filter.Eq = Flow Int ∷ Flow Int ∷ []
parameters filter.Not = Flow Truth ∷ []
parameters filter.And = Flow Truth ∷ Flow Truth ∷ []
parameters filter.Or = Flow Truth ∷ Flow Truth ∷ []
parameters filter.IsTrue = Flow Truth ∷ []
parameters filter.IsFalse = Flow Truth ∷ []
parameters filter.IsZero = Flow Int ∷ []
parameters filter.NonZero = Flow Int ∷ []
parameters filter.IsPos = Flow Int ∷ []
parameters filter.IsNeg = Flow Int ∷ []
parameters filter.Below = Flow Int ∷ Flow Int ∷ []
parameters filter.AtLeast = Flow Int ∷ Flow Int ∷ []
parameters filter.Same = Flow Int ∷ Flow Int ∷ []
parameters filter.Differ = Flow Int ∷ Flow Int ∷ []
parameters filter.OfInt = Flow Int ∷ []
parameters filter.OfBool = Flow Truth ∷ []
parameters filter.AsInt = Flow Val ∷ []
parameters filter.AsBool = Flow Val ∷ []
parameters filter.Empty = []
parameters filter.Read = Flow Store ∷ Name ∷ []
parameters filter.Write = Flow Store ∷ Name ∷ Flow Val ∷ []
parameters filter.Forget = Flow Store ∷ Name ∷ []
parameters filter.Bound = Flow Store ∷ Name ∷ []
parameters filter.KeepInt = Flow Int ∷ []
parameters filter.KeepBool = Flow Truth ∷ []
parameters filter.KeepVal = Flow Val ∷ []
parameters filter.KeepStore = Flow Store ∷ []
parameters filter.AnyBool = []
parameters filter.Pick = Flow Int ∷ Flow Int ∷ []

-- the sorts of a filter's results
abbrev pub results : Filter → List VarSort
results filter.Lit = Flow Int ∷ []
results filter.Zero = Flow Int ∷ []
results filter.One = Flow Int ∷ []
results filter.Yes = Flow Truth ∷ []
results filter.No = Flow Truth ∷ []
results filter.Add = Flow Int ∷ []
results filter.Sub = Flow Int ∷ []
results filter.Mul = Flow Int ∷ []
results filter.Neg = Flow Int ∷ []
results filter.Div = Flow Int ∷ []
results filter.Rem = Flow Int ∷ []
results filter.Lt = Flow Truth ∷ []
results filter.Le = Flow Truth ∷ []
results filter.Eq = Flow Truth ∷ []
results filter.Not = Flow Truth ∷ []
results filter.And = Flow Truth ∷ []
results filter.Or = Flow Truth ∷ []
results filter.IsTrue = []
results filter.IsFalse = []
results filter.IsZero = []
results filter.NonZero = []
results filter.IsPos = []
results filter.IsNeg = []
results filter.Below = Flow Int ∷ Flow Int ∷ []
results filter.AtLeast = Flow Int ∷ Flow Int ∷ []
results filter.Same = Flow Int ∷ Flow Int ∷ []
results filter.Differ = Flow Int ∷ Flow Int ∷ []
results filter.OfInt = Flow Val ∷ []
results filter.OfBool = Flow Val ∷ []
results filter.AsInt = Flow Int ∷ []
results filter.AsBool = Flow Truth ∷ []
results filter.Empty = Flow Store ∷ []
results filter.Read = Flow Val ∷ []
results filter.Write = Flow Store ∷ []
results filter.Forget = Flow Store ∷ []
results filter.Bound = Flow Truth ∷ []
results filter.KeepInt = Flow Int ∷ []
results filter.KeepBool = Flow Truth ∷ []
results filter.KeepVal = Flow Val ∷ []
results filter.KeepStore = Flow Store ∷ []
results filter.AnyBool = Flow Truth ∷ []
results filter.Pick = Flow Int ∷ []

-- a parameter's sort as that of a variable
abbrev pub sort_of_param : ParamSort → VarSort
sort_of_param param.Number = Number
sort_of_param param.Name = Name
sort_of_param (param.Flow sort) = Flow sort

-- the entries in order, and then nothing up to so many places
abbrev pub padded : {A : Type 0} → ℕ → List A → List (Option A)
padded zero xs = []
padded (suc places) [] = None ∷ padded places []
padded (suc places) (x ∷ xs) = Some x ∷ padded places xs
