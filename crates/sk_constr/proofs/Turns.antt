-- Turns of loops.
use Rattle.std.proofs.Common.{◌≡◌, ℕ, suc, ◌+◌, ◌<◌, List, ◌∷◌, length, drop, get_or, Some, ap, ap₂, sym, ◌∙◌, arith, add-one, drop-cons}
use Rattle.std.specs.List.{slice_get, slice_set}
use Rattle.std.proofs.lemmas.Option.{get_or_from_slice_get}
use Rattle.sk_def.specs.declared.ids.Var.{Var}
use Rattle.sk_term.specs.declared.node.Child.{Child}
use Rattle.sk_deriv.specs.Env.{bind_children, entry_of_child}
use Rattle.sk_constr.specs.Operands.{PlaceEnv}

pub bind_turn : (env env' : PlaceEnv) (vs : List Var) (cs : List Child) (k : ℕ) (v : Var) (c : Child) → k < length vs → length vs ≡ length cs → slice_get cs k ≡ Some c →
    env' ≡ slice_set env (get_or vs k v).0 (Some (entry_of_child c)) → bind_children env' (drop (k + 1) vs) (drop (k + 1) cs) ≡ bind_children env (drop k vs) (drop k cs)
bind_turn env env' vs cs k v c l counted eq e =
    ap₂ (λ a j. bind_children a (drop j vs) (drop j cs)) e (add-one k)
    ∙ ap (λ d. bind_children env (get_or vs k v ∷ drop (suc k) vs) (d ∷ drop (suc k) cs)) (sym (get_or_from_slice_get cs k c c eq))
    ∙ sym (ap₂ (λ us ds. bind_children env us ds) (drop-cons vs k v l) (drop-cons cs k c (omega (arith, l, counted))))
