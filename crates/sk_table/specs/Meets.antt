-- What the code of a reader means.
use Rattle.std.specs.Prelude.{◌≡◌, ◌<◌, ℕ, Bool, true, false, ◌||◌, List, length, map, Option, Some, None, Result, Ok, Err, ⊤}
use Rattle.std.specs.List.{list_all}
use Rattle.sk_base.specs.declared.flow.FlowSort.{FlowSort}
use Rattle.sk_base.specs.declared.place.Place.{Place}
use Rattle.sk_lex.specs.Symbols.{place_in}
use Rattle.sk_lex.specs.declared.token.Token.{Token}
use Rattle.sk_term.specs.Meets.{HasGrown}
use Rattle.sk_lattice.specs.Domain.{Domain}
use Rattle.sk_lattice.specs.Empty.{flow_is_empty, flow_is_proper}
use Rattle.sk_lattice.specs.Padding.{padded_flow}
use Rattle.sk_lattice.specs.Shapes.{has_sorts}
use Rattle.sk_lattice.specs.declared.flow.AbsFlow.{AbsFlow}
use Rattle.sk_table.specs.Tuples.{Reading}
use Rattle.sk_table.specs.declared.fault.TableError.{TableError}
use Rattle.sk_table.specs.declared.fault.TableFault.{TableFault}
use Rattle.sk_table.specs.declared.fault.TableFault.TheVariants as fault
use Rattle.sk_table.specs.declared.fault.Refusal.{Refusal}
use Rattle.sk_table.specs.declared.fault.Refusal.TheVariants.{Bad, NoMemory}
use Rattle.sk_table.specs.declared.naming.Naming.{Naming}
use Rattle.sk_table.specs.declared.naming.Naming.TheVariants.{Adding, Known}

abbrev pub error_of : Refusal → Option TableError
error_of (Bad error) = Some error
error_of NoMemory = None

-- the error and the place of a fault, none for want of memory
abbrev pub bad_of : TableFault → Option (TableError × Place)
bad_of (fault.Bad error place) = Some (error, place)
bad_of fault.NoMemory = None

-- it holds after a refusal with an error
abbrev pub OnFault : {A : Type 0} → Result A TableFault → Type 0 → Type 0
OnFault (Err (fault.Bad error place)) P = P
OnFault (Err fault.NoMemory) P = ⊤
OnFault (Ok value) P = ⊤

abbrev pub placed : List ℕ → List Token → Option (TableError × ℕ) → Option (TableError × Place)
placed text tokens None = None
placed text tokens (Some (error, at)) = Some (error, place_in text tokens at)

-- a refusal with the line and the column of its token
abbrev pub with_place : {X : Type 0} → List ℕ → List Token → Result X (TableError × ℕ) → Result X (TableError × Place)
with_place text tokens (Ok x) = Ok x
with_place text tokens (Err (error, at)) = Err (error, place_in text tokens at)

-- the names that stand, and whether no others may come
abbrev pub names_in : Naming → List (List ℕ)
names_in (Adding names) = names
names_in (Known names) = names.now

abbrev pub are_known : Naming → Bool
are_known (Adding names) = false
are_known (Known names) = true

-- the sorts stay, and names were added, none to known ones
pub record Keeps {D : Type 0} (before now : Reading D) : Type 0 where
  pub sorts : now.sorts ≡ before.sorts
  pub known : now.known ≡ before.known
  pub names : HasGrown before.names now.names
  pub same : before.known ≡ true → now.names ≡ before.names

-- whether a flow is empty, or no part of it is
abbrev pub is_clean : {D : Type 0} → Domain D → AbsFlow D → Bool
is_clean d x = flow_is_empty d x || flow_is_proper d x

-- what was read up to a place past the first: flows that are empty or have no empty part, as many as sorts, and with
-- these sorts once the stores have a cell for each name
pub record IsRead {D : Type 0} (d : Domain D) (sorts : List FlowSort) (from end : ℕ) (state : Reading D) : Type 0 where
  pub sorted : has_sorts (length state.names) sorts (map (padded_flow d (length state.names)) state.flows) ≡ true
  pub clean : list_all (is_clean d) state.flows ≡ true
  pub many : length state.flows ≡ length sorts
  pub past : from < end
