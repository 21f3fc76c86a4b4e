-- Giving the variables of a rule's term the entries of a node.
use Rattle.std.proofs.Common.{◌≡◌, ℕ, suc, ◌+◌, ◌<◌, List, ◌∷◌, length, drop, get_or, drop-cons, Some, ap, ap₂, sym, ◌∙◌, arith, add-one}
use Rattle.std.specs.Prelude.{slice_get, slice_set}
use Rattle.std.proofs.lemmas.Option.{get_or_from_slice_get}
use Rattle.sk_def.specs.declared.ids.Var.{Var}
use Rattle.sk_term.specs.declared.node.Child.{Child}
use Rattle.sk_deriv.specs.Env.{Env, bind_children, entry_of_child}

-- a turn of the loop that binds them
pub bind_turn : {F : Type 0} (env after : Env F) (vs : List Var) (cs : List Child) (k : ℕ) (v : Var) (c : Child) → k < length vs → length vs ≡ length cs → slice_get cs k ≡ Some c →
    after ≡ slice_set env (get_or vs k v).0 (Some (entry_of_child c)) → bind_children after (drop (k + 1) vs) (drop (k + 1) cs) ≡ bind_children env (drop k vs) (drop k cs)
bind_turn env after vs cs k v c l counted eq e =
    ap₂ (λ a j. bind_children a (drop j vs) (drop j cs)) e (add-one k)
    ∙ ap (λ d. bind_children env (get_or vs k v ∷ drop (suc k) vs) (d ∷ drop (suc k) cs)) (sym (get_or_from_slice_get cs k c c eq))
    ∙ sym (ap₂ (λ us ds. bind_children env us ds) (drop-cons vs k v l) (drop-cons cs k c (omega (arith, l, counted))))
