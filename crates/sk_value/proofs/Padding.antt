-- Tuples of which some stores were padded.
use Rattle.std.proofs.Common.{◌≡◌, ℕ, zero, suc, ◌-◌, List, [], ◌∷◌, ◌++◌, length, get_or, map, take, drop, replicate, None, refl, sym, ap, ◌∙◌, subst, arith, append-nil, length-set}
use Rattle.std.specs.Prelude.{slice_set}
use Rattle.std.specs.List.{AllZip, refill}
use Rattle.std.proofs.Math.Seq.{take-append_seam}
use Rattle.sk_value.specs.declared.flow.Flow.{Flow}
use Rattle.sk_value.specs.Padding.{padded_flow, FlowIsPartlyPadded}

not_yet : (names : ℕ) (flow : Flow) → FlowIsPartlyPadded names flow flow
not_yet names (Flow.Int z) = refl
not_yet names (Flow.Bool b) = refl
not_yet names (Flow.Val v) = refl
not_yet names (Flow.Store s) = (s, refl, record { gained = 0; at_most = omega arith; places = sym (append-nil s) })

all_of_it : (names : ℕ) (flow : Flow) → FlowIsPartlyPadded names flow (padded_flow names flow)
all_of_it names (Flow.Int z) = refl
all_of_it names (Flow.Bool b) = refl
all_of_it names (Flow.Val v) = refl
all_of_it names (Flow.Store s) = (s ++ replicate (names - length s) None, refl, record { gained = names - length s; at_most = omega arith; places = refl })

not_yet_all : (names : ℕ) (flows : List Flow) → AllZip (FlowIsPartlyPadded names) flows flows
not_yet_all names [] = tt
not_yet_all names (flow ∷ flows) = (not_yet names flow, not_yet_all names flows)

-- the flows before this place are padded, that in it partly so
padded_until : (names at : ℕ) (old : List Flow) (item flow : Flow) → FlowIsPartlyPadded names (get_or (map (padded_flow names) (take at old) ++ drop at old) at item) flow
    → AllZip (FlowIsPartlyPadded names) old (slice_set (map (padded_flow names) (take at old) ++ drop at old) at flow)
padded_until names zero [] item flow p = tt
padded_until names (suc at) [] item flow p = tt
padded_until names zero (first ∷ old) item flow p = (p, not_yet_all names old)
padded_until names (suc at) (first ∷ old) item flow p = (all_of_it names first, padded_until names at old item flow p)

refill_all : (flows inside : List Flow) → length flows ≡ length inside → refill (length inside) inside flows ≡ flows
refill_all flows inside e = subst (λ n. take n (flows ++ drop (length flows) inside) ≡ flows) e (take-append_seam flows (drop (length flows) inside))

length_until : (names at : ℕ) (old : List Flow) → length (map (padded_flow names) (take at old) ++ drop at old) ≡ length old
length_until names zero old = refl
length_until names (suc at) [] = refl
length_until names (suc at) (first ∷ old) = ap suc (length_until names at old)

-- the tuple that is left where the padding of a place was refused
pub partly_padded : (names at : ℕ) (old inside now : List Flow) (item flow : Flow) → inside ≡ old → now ≡ map (padded_flow names) (take at old) ++ drop at old
    → FlowIsPartlyPadded names (get_or now at item) flow → AllZip (FlowIsPartlyPadded names) old (refill (length inside) inside (slice_set now at flow))
partly_padded names at old inside now item flow same is p =
    let long : length (slice_set now at flow) ≡ length inside = length-set now at flow ∙ ap length is ∙ length_until names at old ∙ ap length (sym same) in
    subst (AllZip (FlowIsPartlyPadded names) old) (sym (refill_all (slice_set now at flow) inside long))
    (subst (λ l. AllZip (FlowIsPartlyPadded names) old (slice_set l at flow)) (sym is)
    (padded_until names at old item flow (subst (λ l. FlowIsPartlyPadded names (get_or l at item) flow) is p)))
