-- What each turn keeps of the draft, and of what is expected then, holds of what is read.
use Rattle.std.proofs.Common.{◌≡◌, ℕ, zero, suc, ◌+◌, ◌==◌, Bool, true, false, if◌then◌else◌, List, [], ◌∷◌, ◌++◌, length, refl, ap, subst, Result, Ok, Err}
use Rattle.std.specs.List.{list_all, AllByRecursion}
use Rattle.sk_base.specs.Answer.{◌>>=◌}
use Rattle.sk_lex.specs.Run.{Turn, run, ended}
use Rattle.sk_lex.specs.Symbols.{Symbol}
use Rattle.sk_deftext.specs.Met.{Met}
use Rattle.sk_deftext.specs.Reading.{definition_rules, at_symbol, may_end, step, nothing, read_symbols}
use Rattle.sk_deftext.specs.declared.draft.Draft.{Draft}
use Rattle.sk_deftext.specs.declared.expected.Expected.{Expected}
use Rattle.sk_deftext.specs.declared.expected.Expected.TheVariants.{Skel, Version, Item}
use Rattle.sk_deftext.specs.declared.fault.DefError.{DefError}
use Rattle.sk_deftext.specs.declared.fault.DefError.TheVariants.{Unexpected}

abbrev Answer : Type 0
Answer = Result (Draft × ℕ) (DefError × ℕ)

abbrev state_in : Draft → Answer → Draft
state_in other (Ok (draft, at)) = draft
state_in other (Err error) = other

abbrev read_to : Draft → ℕ → Answer
read_to draft at = Ok (draft, at)

abbrev ended_at : Bool → Draft → ℕ → Answer
ended_at b draft at = if b then read_to draft at else Err (Unexpected, at)

abbrev whole_at : Bool → Draft → ℕ → Result Draft (DefError × ℕ)
whole_at b draft at = if b then Ok draft else Err (Unexpected, at)

module _ (W : Symbol → Type 0) (P : List Expected → Draft → Type 0) (Q : Draft → Type 0) (reads : (awaited : List Expected) (draft : Draft) → P awaited draft → Q draft)
    (keeps : (one : Expected) (awaited : List Expected) (draft : Draft) (at : ℕ) (symbol : Symbol) (turn : Turn Expected Draft) → W symbol → P (one ∷ awaited) draft →
    step draft one at symbol ≡ Ok turn → P (turn.expected ++ awaited) turn.state) where
  same_state : (draft end : Draft) (at place : ℕ) → Q draft → read_to draft at ≡ read_to end place → Q end
  same_state draft end at place q e = subst Q (ap (state_in draft) e) q

  ends_keep : (b : Bool) (draft end : Draft) (at place : ℕ) → Q draft → ended_at b draft at ≡ Ok (end, place) → Q end
  ends_keep true draft end at place q e = same_state draft end at place q e
  ends_keep false draft end at place q e = absurd (cc e)

  turn_keeps : (met : Met) (at : ℕ) (below : List Expected) (left : List Symbol) (end : Draft) (place : ℕ) → ((turn : Turn Expected Draft) → met ≡ Ok turn → P (turn.expected ++ below) turn.state) →
      ((turn : Turn Expected Draft) → P (turn.expected ++ below) turn.state → run definition_rules turn.more (at + 1) (turn.expected ++ below) turn.state left ≡ Ok (end, place) → Q end) →
      (at_symbol at met >>= λ turn. run definition_rules turn.more (at + 1) (turn.expected ++ below) turn.state left) ≡ Ok (end, place) → Q end
  turn_keeps (Ok turn) at below left end place now on e = on turn (now turn refl) e
  turn_keeps (Err error) at below left end place now on e = absurd (cc e)

  run_keeps : (skip at : ℕ) (awaited : List Expected) (draft : Draft) (left : List Symbol) (end : Draft) (place : ℕ) → AllByRecursion W left → P awaited draft →
      run definition_rules skip at awaited draft left ≡ Ok (end, place) → Q end
  run_keeps (suc skip) at awaited draft [] end place w p e = same_state draft end at place (reads awaited draft p) e
  run_keeps (suc skip) at awaited draft (symbol ∷ left) end place w p e = run_keeps skip (at + 1) awaited draft left end place w.1 p e
  run_keeps zero at [] draft left end place w p e = same_state draft end at place (reads [] draft p) e
  run_keeps zero at (one ∷ awaited) draft [] end place w p e = ends_keep (list_all may_end (one ∷ awaited)) draft end at place (reads (one ∷ awaited) draft p) e
  run_keeps zero at (one ∷ awaited) draft (symbol ∷ left) end place w p e =
      turn_keeps (step draft one at symbol) at awaited left end place (λ (turn : Turn Expected Draft) (met : step draft one at symbol ≡ Ok turn). keeps one awaited draft at symbol turn w.0 p met)
      (λ (turn : Turn Expected Draft) (next : P (turn.expected ++ awaited) turn.state) (f : run definition_rules turn.more (at + 1) (turn.expected ++ awaited) turn.state left ≡ Ok (end, place)).
      run_keeps turn.more (at + 1) (turn.expected ++ awaited) turn.state left end place w.1 next f) e

  whole_keeps : (count : ℕ) (r : Answer) (end : Draft) → ((last : Draft) (place : ℕ) → r ≡ Ok (last, place) → Q last) → ended definition_rules count r ≡ Ok end → Q end
  whole_keeps count (Ok (last, place)) end k e = by (place == count) e where
    by : (b : Bool) → whole_at b last place ≡ Ok end → Q end
    by true f = let same : last ≡ end = cc f in subst Q same (k last place refl)
    by false f = absurd (cc f)
  whole_keeps count (Err error) end k e = absurd (cc e)

  pub symbols_keep : (symbols : List Symbol) (draft : Draft) → AllByRecursion W symbols → P (Skel ∷ Version ∷ Item ∷ []) nothing → read_symbols symbols ≡ Ok draft → Q draft
  unfolding read_symbols
  symbols_keep symbols draft w p e =
      whole_keeps (length symbols) (run definition_rules 0 0 (Skel ∷ Version ∷ Item ∷ []) nothing symbols) draft
      (λ (last : Draft) (place : ℕ) (f : run definition_rules 0 0 (Skel ∷ Version ∷ Item ∷ []) nothing symbols ≡ Ok (last, place)).
      run_keeps 0 0 (Skel ∷ Version ∷ Item ∷ []) nothing symbols last place w p f) e
