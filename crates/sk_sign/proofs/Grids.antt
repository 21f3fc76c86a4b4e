-- A grid that passes the test at each pair of sets is the union of the entries for single signs.
use Rattle.std.proofs.Common.{◌≡◌, ℕ, Bool, true, false, ◌&&◌, List, refl, sym}
use Rattle.std.proofs.lemmas.Bool.{and_parts}
use Rattle.std.proofs.Math.Bool.{beq}
use Rattle.sk_sign.specs.Laws.Sets.{same_bits}
use Rattle.sk_lattice.specs.declared.truth.AbsBool.{AbsBool}
use Rattle.sk_sign.specs.declared.sign.Sign.{Sign}
use Rattle.sk_sign.specs.declared.tables.TheConstants.{ADD, SUB, MUL, DIV, REM, PICK, LT, LE, EQ, BELOW_LEFT, BELOW_RIGHT, AT_LEAST_LEFT, AT_LEAST_RIGHT, SAME_LEFT, SAME_RIGHT, DIFFER_LEFT, DIFFER_RIGHT}
use Rattle.sk_value.specs.declared.arith.Arith.TheVariants.{Add, Sub, Mul, Div, Rem, Pick}
use Rattle.sk_value.specs.declared.arith.Compare.TheVariants.{Lt, Le, Eq}
use Rattle.sk_value.specs.declared.arith.Refine.TheVariants.{Below, AtLeast, Same, Differ}
use Rattle.sk_sign.specs.Tables.{sign_entry, truth_entry}
use Rattle.sk_sign.specs.Sets.{signs}
use Rattle.sk_sign.specs.Signs.{union, truth_union, truths, single, single_truth, single_left, single_right}

abbrev at_both : (Bool → Bool) → Bool
at_both f = f true && f false

at_each : (f : Bool → Bool) → at_both f ≡ true → (x : Bool) → f x ≡ true
at_each f h true = (and_parts _ _ h).0
at_each f h false = (and_parts _ _ h).1

-- whether a test holds of every set
abbrev every : (Sign → Bool) → Bool
every f = at_both (λ n. at_both (λ z. at_both (λ p. f (signs n z p))))

every_at : (f : Sign → Bool) → every f ≡ true → (a : Sign) → f a ≡ true
every_at f h a =
    at_each (λ p. f (signs a.negative a.zero p)) (at_each (λ z. at_both (λ p. f (signs a.negative z p))) (at_each (λ n. at_both (λ z. at_both (λ p. f (signs n z p)))) h a.negative) a.zero) a.positive

beq_same : (x y : Bool) → beq x y ≡ true → x ≡ y
beq_same true true h = refl
beq_same true false h = sym h
beq_same false true h = h
beq_same false false h = refl

abbrev same_set : Sign → Sign → Bool
same_set a b = beq a.negative b.negative && (beq a.zero b.zero && beq a.positive b.positive)

same_set_is : (a b : Sign) → same_set a b ≡ true → a ≡ b
same_set_is a b h =
    let rest = and_parts _ _ (and_parts _ _ h).1 in
    same_bits _ _ _ _ _ _ (beq_same _ _ (and_parts _ _ h).0) (beq_same _ _ rest.0) (beq_same _ _ rest.1)

abbrev same_truths : AbsBool → AbsBool → Bool
same_truths a b = beq a.has_true b.has_true && beq a.has_false b.has_false

same_bits_truths : (t t2 f f2 : Bool) → t ≡ t2 → f ≡ f2 → truths t f ≡ truths t2 f2
same_bits_truths t t2 f f2 e h = cc

same_truths_is : (a b : AbsBool) → same_truths a b ≡ true → a ≡ b
same_truths_is a b h = same_bits_truths _ _ _ _ (beq_same _ _ (and_parts _ _ h).0) (beq_same _ _ (and_parts _ _ h).1)

-- whether a grid holds at each place what the function of the two sets gives
abbrev holds_all : List (List ℕ) → (Sign → Sign → Sign) → Bool
holds_all grid f = every (λ a. every (λ b. same_set (sign_entry grid a b) (f a b)))

pub grid_is : (grid : List (List ℕ)) (f : Sign → Sign → Sign) → holds_all grid f ≡ true → (a b : Sign) → sign_entry grid a b ≡ f a b
grid_is grid f h a b = same_set_is _ _ (every_at (λ b. same_set (sign_entry grid a b) (f a b)) (every_at (λ a. every (λ b. same_set (sign_entry grid a b) (f a b))) h a) b)

abbrev holds_all_truths : List (List ℕ) → (Sign → Sign → AbsBool) → Bool
holds_all_truths grid f = every (λ a. every (λ b. same_truths (truth_entry grid a b) (f a b)))

pub truth_grid_is : (grid : List (List ℕ)) (f : Sign → Sign → AbsBool) → holds_all_truths grid f ≡ true → (a b : Sign) → truth_entry grid a b ≡ f a b
truth_grid_is grid f h a b = same_truths_is _ _ (every_at (λ b. same_truths (truth_entry grid a b) (f a b)) (every_at (λ a. every (λ b. same_truths (truth_entry grid a b) (f a b))) h a) b)

pub add_is : (a b : Sign) → sign_entry ADD a b ≡ union (single Add) a b
add_is = grid_is ADD (union (single Add)) refl

pub sub_is : (a b : Sign) → sign_entry SUB a b ≡ union (single Sub) a b
sub_is = grid_is SUB (union (single Sub)) refl

pub mul_is : (a b : Sign) → sign_entry MUL a b ≡ union (single Mul) a b
mul_is = grid_is MUL (union (single Mul)) refl

pub div_is : (a b : Sign) → sign_entry DIV a b ≡ union (single Div) a b
div_is = grid_is DIV (union (single Div)) refl

pub rem_is : (a b : Sign) → sign_entry REM a b ≡ union (single Rem) a b
rem_is = grid_is REM (union (single Rem)) refl

pub pick_is : (a b : Sign) → sign_entry PICK a b ≡ union (single Pick) a b
pick_is = grid_is PICK (union (single Pick)) refl

pub lt_is : (a b : Sign) → truth_entry LT a b ≡ truth_union (single_truth Lt) a b
lt_is = truth_grid_is LT (truth_union (single_truth Lt)) refl

pub le_is : (a b : Sign) → truth_entry LE a b ≡ truth_union (single_truth Le) a b
le_is = truth_grid_is LE (truth_union (single_truth Le)) refl

pub eq_is : (a b : Sign) → truth_entry EQ a b ≡ truth_union (single_truth Eq) a b
eq_is = truth_grid_is EQ (truth_union (single_truth Eq)) refl

pub below_left_is : (a b : Sign) → sign_entry BELOW_LEFT a b ≡ union (single_left Below) a b
below_left_is = grid_is BELOW_LEFT (union (single_left Below)) refl

pub below_right_is : (a b : Sign) → sign_entry BELOW_RIGHT a b ≡ union (single_right Below) a b
below_right_is = grid_is BELOW_RIGHT (union (single_right Below)) refl

pub at_least_left_is : (a b : Sign) → sign_entry AT_LEAST_LEFT a b ≡ union (single_left AtLeast) a b
at_least_left_is = grid_is AT_LEAST_LEFT (union (single_left AtLeast)) refl

pub at_least_right_is : (a b : Sign) → sign_entry AT_LEAST_RIGHT a b ≡ union (single_right AtLeast) a b
at_least_right_is = grid_is AT_LEAST_RIGHT (union (single_right AtLeast)) refl

pub same_left_is : (a b : Sign) → sign_entry SAME_LEFT a b ≡ union (single_left Same) a b
same_left_is = grid_is SAME_LEFT (union (single_left Same)) refl

pub same_right_is : (a b : Sign) → sign_entry SAME_RIGHT a b ≡ union (single_right Same) a b
same_right_is = grid_is SAME_RIGHT (union (single_right Same)) refl

pub differ_left_is : (a b : Sign) → sign_entry DIFFER_LEFT a b ≡ union (single_left Differ) a b
differ_left_is = grid_is DIFFER_LEFT (union (single_left Differ)) refl

pub differ_right_is : (a b : Sign) → sign_entry DIFFER_RIGHT a b ≡ union (single_right Differ) a b
differ_right_is = grid_is DIFFER_RIGHT (union (single_right Differ)) refl
