-- What fits over some names fits over more of them once its stores have one place per name.
use Rattle.std.proofs.Common.{◌≡◌, ℕ, ◌-◌, ◌≤◌, ◌==◌, ◌&&◌, All, Bool, true, false, IfSome, List, [], ◌∷◌, ◌++◌, length, map, replicate, nat_eq, None, Option, Some, refl, arith, length-append}
use Rattle.std.specs.Prelude.{slice_get}
use Rattle.std.specs.List.{list_all}
use Rattle.std.specs.Option.{option_map, option_map_or}
use Rattle.std.proofs.lemmas.Bool.{eq-eqb, eqb-true}
use Rattle.std.proofs.lemmas.List.{length-replicate}
use Rattle.std.proofs.lemmas.List.Elements.{All-map}
use Rattle.sk_base.specs.declared.flow.FlowSort.{FlowSort}
use Rattle.sk_base.specs.declared.flow.FlowSort.TheVariants as sort
use Rattle.sk_def.specs.declared.def.Def.{Def}
use Rattle.sk_def.specs.declared.def.Hook.{Hook}
use Rattle.sk_value.specs.declared.flow.Flow.{Flow}
use Rattle.sk_value.specs.declared.value.Value.{Value}
use Rattle.sk_value.specs.Padding.{padded_flow, padded_store}
use Rattle.sk_deriv.specs.Moves.{has_sort, have_sorts, place_holds_number}
use Rattle.sk_lattice.specs.Domain.{Domain}
use Rattle.sk_lattice.specs.Padding as abstracts
use Rattle.sk_lattice.specs.Shapes.{flow_has_sort, has_sorts}
use Rattle.sk_lattice.specs.declared.cell.AbsCell.{AbsCell}
use Rattle.sk_lattice.specs.declared.flow.AbsFlow.{AbsFlow}
use Rattle.sk_lattice.specs.declared.flow.AbsFlow.TheVariants as flow
use Rattle.sk_lattice.specs.declared.store.AbsStore.TheVariants.{Empty, Cells}
use Rattle.sk_table.specs.declared.triple.Cover.{Cover}
use Rattle.sk_term.specs.declared.node.TermNode.{TermNode}
use Rattle.sk_bench.specs.declared.job.Start.{Start}
use Rattle.sk_bench.specs.Jobs.{CallsFit, CoverFits, Lines, StartFits, inputs_of, job_of, padded_cover, padded_start}
use Rattle.sk_bench.specs.JobMeets.{LinesFit}
use Rattle.sk_interval.specs.Intervals.{interval_domain}
use Rattle.sk_sign.specs.Signs.{sign_domain}

parts : (a b : Bool) → a && b ≡ true → (a ≡ true) × (b ≡ true)
parts true b h = (refl, h)
parts false b h = absurd (cc)

both : (a b : Bool) → a ≡ true → b ≡ true → a && b ≡ true
both a b h k = rw (h, k) refl

same : (n m : ℕ) → n ≡ m → n == m ≡ true
same n m h = eq-eqb n m h

are_same : (n m : ℕ) → n == m ≡ true → n ≡ m
are_same n m h = eqb-true n m h

-- Values.

unset_holds : (n : ℕ) → list_all place_holds_number (replicate n None) ≡ true
unset_holds ℕ.zero = refl
unset_holds (ℕ.suc n) = unset_holds n

still_hold : (store : List (Option Value)) (n : ℕ) → list_all place_holds_number store ≡ true → list_all place_holds_number (store ++ replicate n None) ≡ true
still_hold [] n h = unset_holds n
still_hold (value ∷ store) n h =
    let p = parts (place_holds_number value) (list_all place_holds_number store) h in
    both _ _ p.0 (still_hold store n p.1)

store_long : (few more : ℕ) (store : List (Option Value)) → few ≤ more → length store == few ≡ true → length (padded_store more store) == more ≡ true
store_long few more store le h =
    same _ _ (let long = are_same _ _ h in omega (arith, le, long, length-append store (replicate (more - length store) None), length-replicate {A = Option Value} (more - length store) None))

value_has_sort : (few more : ℕ) (s : FlowSort) (x : Flow) → few ≤ more → has_sort few s x ≡ true → has_sort more s (padded_flow more x) ≡ true
value_has_sort few more sort.Store (Flow.Store store) le h =
    let p = parts (length store == few) (list_all place_holds_number store) h in
    both _ _ (store_long few more store le p.0) (still_hold store (more - length store) p.1)
value_has_sort few more sort.Int (Flow.Int z) le h = h
value_has_sort few more sort.Bool (Flow.Bool b) le h = h
value_has_sort few more sort.Val (Flow.Val v) le h = h
value_has_sort few more sort.Int (Flow.Bool b) le h = absurd (cc)
value_has_sort few more sort.Int (Flow.Val v) le h = absurd (cc)
value_has_sort few more sort.Int (Flow.Store s) le h = absurd (cc)
value_has_sort few more sort.Bool (Flow.Int z) le h = absurd (cc)
value_has_sort few more sort.Bool (Flow.Val v) le h = absurd (cc)
value_has_sort few more sort.Bool (Flow.Store s) le h = absurd (cc)
value_has_sort few more sort.Val (Flow.Int z) le h = absurd (cc)
value_has_sort few more sort.Val (Flow.Bool b) le h = absurd (cc)
value_has_sort few more sort.Val (Flow.Store s) le h = absurd (cc)
value_has_sort few more sort.Store (Flow.Int z) le h = absurd (cc)
value_has_sort few more sort.Store (Flow.Bool b) le h = absurd (cc)
value_has_sort few more sort.Store (Flow.Val v) le h = absurd (cc)

values_have_sorts : (few more : ℕ) (sorts : List FlowSort) (xs : List Flow) → few ≤ more → have_sorts few sorts xs ≡ true → have_sorts more sorts (map (padded_flow more) xs) ≡ true
values_have_sorts few more [] [] le h = refl
values_have_sorts few more (s ∷ sorts) (x ∷ xs) le h =
    let p = parts (has_sort few s x) (have_sorts few sorts xs) h in
    both _ _ (value_has_sort few more s x le p.0) (values_have_sorts few more sorts xs le p.1)
values_have_sorts few more [] (x ∷ xs) le h = absurd (cc)
values_have_sorts few more (s ∷ sorts) [] le h = absurd (cc)

-- Abstract values.

cells_long : {D : Type 0} (d : Domain D) (few more : ℕ) (cells : List (AbsCell D)) → few ≤ more → nat_eq (length cells) few ≡ true → nat_eq (length (abstracts.padded_cells d more cells)) more ≡ true
cells_long {D} d few more cells le h =
    same _ _ (let long = are_same _ _ h in omega (arith, le, long, length-append cells (replicate (more - length cells) (abstracts.unset_cell d)), length-replicate {A = AbsCell D} (more - length cells) (abstracts.unset_cell d)))

flow_keeps_sort : {D : Type 0} (d : Domain D) (few more : ℕ) (s : FlowSort) (x : AbsFlow D) → few ≤ more → flow_has_sort few s x ≡ true → flow_has_sort more s (abstracts.padded_flow d more x) ≡ true
flow_keeps_sort d few more sort.Store (flow.Store (Cells cells)) le h = cells_long d few more cells le h
flow_keeps_sort d few more sort.Store (flow.Store Empty) le h = refl
flow_keeps_sort d few more sort.Int (flow.Int z) le h = h
flow_keeps_sort d few more sort.Bool (flow.Bool b) le h = h
flow_keeps_sort d few more sort.Val (flow.Val v) le h = h
flow_keeps_sort d few more sort.Int (flow.Bool b) le h = absurd (cc)
flow_keeps_sort d few more sort.Int (flow.Val v) le h = absurd (cc)
flow_keeps_sort d few more sort.Int (flow.Store s) le h = absurd (cc)
flow_keeps_sort d few more sort.Bool (flow.Int z) le h = absurd (cc)
flow_keeps_sort d few more sort.Bool (flow.Val v) le h = absurd (cc)
flow_keeps_sort d few more sort.Bool (flow.Store s) le h = absurd (cc)
flow_keeps_sort d few more sort.Val (flow.Int z) le h = absurd (cc)
flow_keeps_sort d few more sort.Val (flow.Bool b) le h = absurd (cc)
flow_keeps_sort d few more sort.Val (flow.Store s) le h = absurd (cc)
flow_keeps_sort d few more sort.Store (flow.Int z) le h = absurd (cc)
flow_keeps_sort d few more sort.Store (flow.Bool b) le h = absurd (cc)
flow_keeps_sort d few more sort.Store (flow.Val v) le h = absurd (cc)

flows_keep_sorts : {D : Type 0} (d : Domain D) (few more : ℕ) (sorts : List FlowSort) (xs : List (AbsFlow D)) → few ≤ more → has_sorts few sorts xs ≡ true
    → has_sorts more sorts (map (abstracts.padded_flow d more) xs) ≡ true
flows_keep_sorts d few more [] [] le h = refl
flows_keep_sorts d few more (s ∷ sorts) (x ∷ xs) le h =
    let p = parts (flow_has_sort few s x) (has_sorts few sorts xs) h in
    both _ _ (flow_keeps_sort d few more s x le p.0) (flows_keep_sorts d few more sorts xs le p.1)
flows_keep_sorts d few more [] (x ∷ xs) le h = absurd (cc)
flows_keep_sorts d few more (s ∷ sorts) [] le h = absurd (cc)

-- Calls.

by_hook : (few more : ℕ) (hook : Option Hook) (ins : List Flow) → few ≤ more → option_map_or (λ (h : Hook). have_sorts few h.inputs ins) hook false ≡ true
    → option_map_or (λ (h : Hook). have_sorts more h.inputs (map (padded_flow more) ins)) hook false ≡ true
by_hook few more None ins le h = h
by_hook few more (Some hook) ins le h = values_have_sorts few more hook.inputs ins le h

module _ (d : Def) (nodes : List TermNode) (more : ℕ) where
  start_padded : (start : Option Start) → IfSome start (λ s. (few : ℕ) × (few ≤ more) × StartFits d nodes few s) → IfSome (option_map (padded_start more) start) (StartFits d nodes more)
  start_padded None h = tt
  start_padded (Some start) h = record {
    point_is = h.2.point_is;
    ins_fit = by_hook h.0 more (slice_get d.hooks start.hook.0) start.ins h.1 h.2.ins_fit;
  }

  cover_padded : {D : Type 0} (domain : Domain D) (few : ℕ) (cover : Cover D) → few ≤ more → CoverFits d nodes few cover → CoverFits d nodes more (padded_cover domain more cover)
  cover_padded domain few cover le fits = record {
    point_is = fits.point_is;
    ins_fit = flows_keep_sorts domain few more (inputs_of d cover.hook) cover.ins le fits.ins_fit;
  }

  covers_padded : {D : Type 0} (domain : Domain D) (covers : List (Cover D)) → All (λ c. (few : ℕ) × (few ≤ more) × CoverFits d nodes few c) covers
      → All (CoverFits d nodes more) (map (padded_cover domain more) covers)
  covers_padded domain covers h =
      All-map (CoverFits d nodes more) (padded_cover domain more) covers (λ k cover at. let f = h k cover at in cover_padded domain f.0 _ f.1 f.2)

-- all calls of the whole job
pub calls_fit : (state : Lines) → LinesFit state → CallsFit state.def (job_of state)
calls_fit state fit = record {
  start = start_padded state.def state.nodes (length state.names) state.start fit.start;
  sign = covers_padded state.def state.nodes (length state.names) sign_domain state.sign fit.sign;
  interval = covers_padded state.def state.nodes (length state.names) interval_domain state.interval fit.interval;
}
