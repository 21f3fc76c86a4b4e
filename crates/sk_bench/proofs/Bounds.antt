-- A program has few keys and few number leaves, so the rounds of its analysis are counted in 64 bits.
use Rattle.std.proofs.Common.{◌≡◌, ◌+◌, ◌*◌, ◌^◌, ◌<◌, ◌≤◌, max, ℕ, ℤ, Bool, true, false, List, [], ◌∷◌, ◌++◌, length, map, Option, Some, None, refl, sym, ap, subst, arith}
use Rattle.std.specs.Prelude.{slice_get, All}
use Rattle.std.specs.List.{filter, flat_map, enumerate_from, sum_by}
use Rattle.std.proofs.lemmas.List.{length-append, length-map}
use Rattle.std.proofs.lemmas.List.FromFn.{length-enumerate_from}
use Rattle.std.proofs.lemmas.Nat.{mul-le}
use Rattle.sk_def.specs.declared.def.Def.{Def}
use Rattle.sk_def.specs.declared.ids.HookId.{HookId}
use Rattle.sk_def.specs.declared.def.Hook.{Hook}
use Rattle.sk_term.specs.declared.node.TermNode.{TermNode}
use Rattle.sk_term.specs.Terms.{keys, keys_at, takes_node}
use Rattle.sk_deriv.specs.Moves.{Setting}
use Rattle.sk_lattice.specs.Domain.{Domain}
use Rattle.sk_lattice.specs.Thresholds.{IsThresholds}
use Rattle.sk_sign.specs.Signs.{sign_domain}
use Rattle.sk_interval.specs.Intervals.{interval_domain}
use Rattle.sk_table.specs.declared.triple.Cover.{Cover}
use Rattle.sk_rounds.specs.Rounds.{round_bound}
use Rattle.sk_rounds.specs.Tuples.{rank_cap}
use Rattle.sk_abswalk.specs.Reading.{walks_of}
use Rattle.sk_bench.specs.Ranks.{RanksAreSmall}

filter_one : {X : Type 0} (p : X → Bool) (x : X) (xs : List X) (b : Bool) → p x ≡ b → length (filter p (x ∷ xs)) ≤ length (filter p xs) + 1
filter_one p x xs true e = rw e (omega arith)
filter_one p x xs false e = rw e (omega arith)

filter_few : {X : Type 0} (p : X → Bool) (xs : List X) → length (filter p xs) ≤ length xs
filter_few p [] = omega arith
filter_few p (x ∷ xs) = omega (arith, filter_few p xs, filter_one p x xs (p x) refl)

flat_few : {X A : Type 0} (f : X → List A) → ((x : X) → length (f x) ≤ 8) → (xs : List X) → length (flat_map f xs) ≤ 8 * length xs
flat_few f h [] = omega arith
flat_few f h (x ∷ xs) = omega (arith, h x, flat_few f h xs, length-append (f x) (flat_map f xs))

-- those of a point are no more than the hooks
hooks_few : (d : Def) (node : TermNode) (point : ℕ) → length d.hooks ≤ 8 → length (keys_at d node point 0 d.hooks) ≤ 8
hooks_few d node point few =
    let some = filter (λ (h : ℕ × Hook). takes_node d node h.1) (enumerate_from 0 d.hooks) in
    let name : ℕ × Hook → HookId × ℕ = λ h. (record { 0 = h.0 }, point) in
    omega (arith, few, length-map some name, filter_few (λ (h : ℕ × Hook). takes_node d node h.1) (enumerate_from 0 d.hooks), length-enumerate_from 0 d.hooks)

-- at most eight for each point
keys_few : (d : Def) (nodes : List TermNode) → length d.hooks ≤ 8 → length (keys d nodes) ≤ 8 * length nodes
keys_few d nodes few =
    let each : (at : ℕ × TermNode) → length (keys_at d at.1 at.0 0 d.hooks) ≤ 8 = λ at. hooks_few d at.1 at.0 few in
    omega (arith, flat_few (λ (at : ℕ × TermNode). keys_at d at.1 at.0 0 d.hooks) each (enumerate_from 0 nodes), length-enumerate_from 0 nodes)

-- the rounds of a program within the limits
pub few_rounds : {D : Type 0} (domain : Domain D) (finite : Bool) (marks : List ℤ) (s : Setting) (covers : List (Cover D)) → RanksAreSmall domain → IsThresholds marks
    → length s.def.hooks ≤ 8 → length s.nodes ≤ 4096 → s.names ≤ 64 → round_bound (walks_of domain finite marks s covers) < 2 ^ 64
few_rounds domain finite marks s covers small are hooks points names =
    let rank : domain.rank domain.empty marks ≤ 2 ^ 34 = small marks are in
    let widest : max s.names 1 ≤ 64 = omega (arith, names) in
    let part : max s.names 1 * (domain.rank domain.empty marks + 3) ≤ 64 * (2 ^ 34 + 3) = mul-le _ _ 64 (2 ^ 34 + 3) widest (omega (arith, rank)) in
    let cap : rank_cap domain marks s.names ≤ 1 + 256 * (2 ^ 34 + 3) = omega (arith, part) in
    let list : length (keys s.def s.nodes) ≤ 32768 = omega (arith, keys_few s.def s.nodes hooks, points) in
    let whole : length (keys s.def s.nodes) * rank_cap domain marks s.names ≤ 32768 * (1 + 256 * (2 ^ 34 + 3)) = mul-le _ _ 32768 (1 + 256 * (2 ^ 34 + 3)) list cap in
    omega (arith, whole)

pub sign_ranks : RanksAreSmall sign_domain
sign_ranks marks are = let three : sign_domain.rank sign_domain.empty marks ≡ 3 = refl in omega (arith, three)

pub interval_ranks : RanksAreSmall interval_domain
interval_ranks marks are = let all : interval_domain.rank interval_domain.empty marks ≡ 2 * length marks + 1 = refl in omega (arith, all, are.at_most)
