-- The words of a command, one by one.
use Rattle.std.proofs.Common.{◌≡◌, ℕ, ◌<◌, ◌≤◌, true, List, [], ◌∷◌, length, map, get_or, Some, option_map, codes, bytes_eq, refl, arith, subst, sym}
use Rattle.sk_bench.specs.declared.kinds.Command.TheVariants.{Check, Verify}
use Rattle.sk_bench.specs.Words.{command_of, domain_of, job_command_of}

-- five words, of which the first is `verify`
pub verify_words : {S : Type 0} (bytes : S → List ℕ) (words : List S) (first domain : S) → 5 ≤ length words → length words < 6 → first ≡ get_or words 0 first
    → domain ≡ get_or words 3 domain → bytes_eq (bytes first) (codes "verify") ≡ true → command_of (map bytes words) ≡ option_map Verify (domain_of (bytes domain))
verify_words {S} bytes (a ∷ b ∷ c ∷ d ∷ e ∷ []) first domain more less is fourth spelled =
    let verifies : bytes_eq (bytes a) (codes "verify") ≡ true = subst (λ (s : S). bytes_eq (bytes s) (codes "verify") ≡ true) is spelled in
    subst (λ (s : S). command_of (map bytes (a ∷ b ∷ c ∷ d ∷ e ∷ [])) ≡ option_map Verify (domain_of (bytes s))) (sym fourth) (rw verifies refl)
verify_words bytes (a ∷ b ∷ c ∷ d ∷ e ∷ f ∷ others) first domain more less is fourth spelled = absurd (omega (arith, less))
verify_words bytes (a ∷ b ∷ c ∷ d ∷ []) first domain more less is fourth spelled = absurd (omega (arith, more))
verify_words bytes (a ∷ b ∷ c ∷ []) first domain more less is fourth spelled = absurd (omega (arith, more))
verify_words bytes (a ∷ b ∷ []) first domain more less is fourth spelled = absurd (omega (arith, more))
verify_words bytes (a ∷ []) first domain more less is fourth spelled = absurd (omega (arith, more))
verify_words bytes [] first domain more less is fourth spelled = absurd (omega (arith, more))

-- four words
pub job_words : {S : Type 0} (bytes : S → List ℕ) (words : List S) (first last : S) → 4 ≤ length words → length words < 5 → first ≡ get_or words 0 first
    → last ≡ get_or words 3 last → command_of (map bytes words) ≡ job_command_of (bytes first) (bytes last)
job_words {S} bytes (a ∷ b ∷ c ∷ d ∷ []) first last more less is fourth =
    subst (λ (s : S). command_of (map bytes (a ∷ b ∷ c ∷ d ∷ [])) ≡ job_command_of (bytes first) (bytes s)) (sym fourth)
    (subst (λ (s : S). command_of (map bytes (a ∷ b ∷ c ∷ d ∷ [])) ≡ job_command_of (bytes s) (bytes d)) (sym is) refl)
job_words bytes (a ∷ b ∷ c ∷ d ∷ e ∷ others) first last more less is fourth = absurd (omega (arith, less))
job_words bytes (a ∷ b ∷ c ∷ []) first last more less is fourth = absurd (omega (arith, more))
job_words bytes (a ∷ b ∷ []) first last more less is fourth = absurd (omega (arith, more))
job_words bytes (a ∷ []) first last more less is fourth = absurd (omega (arith, more))
job_words bytes [] first last more less is fourth = absurd (omega (arith, more))

-- two words, of which the first is `check`
pub check_words : {S : Type 0} (bytes : S → List ℕ) (words : List S) (first : S) → 2 ≤ length words → length words < 3 → first ≡ get_or words 0 first
    → bytes_eq (bytes first) (codes "check") ≡ true → command_of (map bytes words) ≡ Some Check
check_words {S} bytes (a ∷ b ∷ []) first more less is spelled =
    let checks : bytes_eq (bytes a) (codes "check") ≡ true = subst (λ (s : S). bytes_eq (bytes s) (codes "check") ≡ true) is spelled in rw checks refl
check_words bytes (a ∷ b ∷ c ∷ others) first more less is spelled = absurd (omega (arith, less))
check_words bytes (a ∷ []) first more less is spelled = absurd (omega (arith, more))
check_words bytes [] first more less is spelled = absurd (omega (arith, more))
